-- Options of HELLO, one after the other.
use Rattle.std.specs.Prelude.{◌≡◌, ℕ, ◌≤◌, Bool, true, false, length, List, [], ◌∷◌, Option, Result, Ok, Err, codes, refl, if◌then◌else◌}
use Rattle.std.proofs.Common.{ap, sym, arith, ◌∙◌}
use Rattle.raft_connection.specs.declared.hello.HelloOptions.{HelloOptions}
use Rattle.raft_connection.specs.declared.refusal.Refusal.{Refusal}
use Rattle.raft_connection.specs.declared.refusal.Refusal.TheVariants.{HelloOption}
use Rattle.raft_connection.specs.declared.refusal.Stop.{Stop}
use Rattle.raft_connection.specs.declared.refusal.Stop.TheVariants as stop
use Rattle.raft_connection.specs.Hello.{options, option_at, named, with_login, with_name}
use Rattle.raft_connection.specs.Stops.{◌>>=◌, Refuses}
use Rattle.raft_connection.specs.Words.{Word, is, told}

-- what was found, or else
abbrev unwrap_ok : {X : Type 0} → Result X Refusal → X → X
unwrap_ok (Ok x) d = x
unwrap_ok (Err e) d = d

module _ (secret : Option (List ℕ)) where
  -- what an option leaves
  abbrev then_options : Result (HelloOptions × List Word) Refusal → Result HelloOptions Refusal
  then_options r = r >>= λ x. options secret x.0 x.1

  -- a name, and what is left behind it
  abbrev beside : Result HelloOptions Refusal → List Word → Result (HelloOptions × List Word) Refusal
  beside r rest = r >>= λ q. Ok (q, rest)

  named_shorter : (r : Result HelloOptions Refusal) (rest : List Word) (p : HelloOptions) (behind : List Word) (n : ℕ) → length rest ≤ n → beside r rest ≡ Ok (p, behind) → length behind ≤ n
  named_shorter (Ok q) rest p behind n l h =
      let same : rest ≡ behind = ap (λ (x : HelloOptions × List Word). x.1) (ap (λ (x : Result (HelloOptions × List Word) Refusal). unwrap_ok x (q, rest)) h) in
      omega (arith, l, ap (λ (ws : List Word). length ws) same)
  named_shorter (Err e) rest p behind n l h = absurd cc

  -- a name
  named_more : (r : Result HelloOptions Refusal) (rest : List Word) → (r >>= λ p. options secret p rest) ≡ then_options (r >>= λ p. Ok (p, rest))
  named_more (Ok p) rest = refl
  named_more (Err e) rest = refl

  named_last : (r : Result HelloOptions Refusal) → r ≡ then_options (r >>= λ p. Ok (p, []))
  named_last (Ok p) = refl
  named_last (Err e) = refl

  pub options_step : (o : HelloOptions) (name : Word) (after : List Word) → options secret o (name ∷ after) ≡ then_options (option_at secret o name after)
  options_step o name [] = refl
  options_step o name (w ∷ []) = go (is (codes "setname") name)
    where
      go : (b : Bool) → (if b then with_name o w else Err (HelloOption (told name))) ≡ then_options (if b then named o w [] else Err (HelloOption (told name)))
      go true = named_last (with_name o w)
      go false = refl
  options_step o name (v ∷ w ∷ rest) = go (is (codes "auth") name) (is (codes "setname") name)
    where
      go : (a b : Bool)
          → (if a then options secret (with_login secret o v w) rest else if b then (with_name o v >>= λ p. options secret p (w ∷ rest)) else Err (HelloOption (told name)))
          ≡ then_options (if a then Ok (with_login secret o v w, rest) else if b then named o v (w ∷ rest) else Err (HelloOption (told name)))
      go true b = refl
      go false true = named_more (with_name o v) (w ∷ rest)
      go false false = refl

  -- an option takes none or more of the words behind its name
  pub option_shorter : (o p : HelloOptions) (name : Word) (after behind : List Word) → option_at secret o name after ≡ Ok (p, behind) → length behind ≤ length after
  option_shorter o p name [] behind h = absurd cc
  option_shorter o p name (w ∷ []) behind h = go (is (codes "setname") name) h
    where
      go : (b : Bool) → (if b then named o w [] else Err (HelloOption (told name))) ≡ Ok (p, behind) → length behind ≤ 1
      go true e = named_shorter (with_name o w) [] p behind 1 (omega arith) e
      go false e = absurd cc
  option_shorter o p name (v ∷ w ∷ rest) behind h = go (is (codes "auth") name) (is (codes "setname") name) h
    where
      go : (a b : Bool) → (if a then Ok (with_login secret o v w, rest) else if b then named o v (w ∷ rest) else Err (HelloOption (told name))) ≡ Ok (p, behind) → length behind ≤ length (v ∷ w ∷ rest)
      go true b e = named_shorter (Ok (with_login secret o v w)) rest p behind (length (v ∷ w ∷ rest)) (omega arith) e
      go false true e = named_shorter (with_name o v) (w ∷ rest) p behind (length (v ∷ w ∷ rest)) (omega arith) e
      go false false e = absurd cc

  -- after an option the others are left
  pub options_more : (o p : HelloOptions) (rest : List Word) (name : Word) (after behind : List Word) (target : Result HelloOptions Refusal) → rest ≡ name ∷ after → option_at secret o name after ≡ Ok (p, behind)
      → options secret o rest ≡ target → options secret p behind ≡ target
  options_more o p rest name after behind target front step h =
      sym (ap then_options step) ∙ (sym (options_step o name after) ∙ (sym (ap (options secret o) front) ∙ h))

  pub options_stop : (e : Stop) (o : HelloOptions) (rest : List Word) (name : Word) (after : List Word) (target : Result HelloOptions Refusal) → rest ≡ name ∷ after → Refuses e (option_at secret o name after)
      → options secret o rest ≡ target → Refuses e target
  options_stop stop.OutOfMemory o rest name after target front step h = tt
  options_stop (stop.Refused r) o rest name after target front step h =
      sym h ∙ (ap (options secret o) front ∙ (options_step o name after ∙ ap then_options step))
