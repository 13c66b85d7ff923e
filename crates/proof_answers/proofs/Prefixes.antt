-- The first actions of some, and which of their steps wait for a disk.
use Rattle.std.specs.Prelude.{◌≡◌, ◌≢◌, ◌<◌, ◌≤◌, ◌+◌, ◌-◌, ◌⊎◌, ℕ, Bool, true, false, List, [], ◌∷◌, ◌++◌, length, take, nat_eq, slice_get, Contains, Some, refl, if◌then◌else◌}
use Rattle.std.proofs.Common.{◌∙◌, inl, inr, sym, ap, subst, arith, zero, suc}
use Rattle.std.proofs.lemmas.Bool.{eq-eqb, eqb-true}
use Rattle.std.proofs.lemmas.List.Elements.{Contains-append_left, Contains-append_right}
use Rattle.proof_deeds.specs.raft_node.declared.given.Given.{Given}
use Rattle.proof_servers.specs.Servers.{Action, AllMayAct, Cluster, Crashes, Flushes, MayAct, Step, Takes, after_action, after_actions}
use Rattle.proof_answers.specs.Waiting.{but_oldest, waiting, waiting_from, waiting_on}
use Rattle.proof_clients.proofs.Sequences.{first_or}
use Rattle.proof_clients.proofs.Slots.{here, slot_at}

module _ {A : Type 0} where
  pub take_none : (xs : List A) → take 0 xs ≡ []
  take_none [] = refl
  take_none (x ∷ xs) = refl

  -- one more at the end
  pub slot_cases : (xs : List A) (y : A) (k : ℕ) (x : A) → slice_get (xs ++ y ∷ []) k ≡ Some x → (slice_get xs k ≡ Some x) ⊎ ((k ≡ length xs) × (y ≡ x))
  slot_cases [] y zero x e = inr (refl, (let q : y ≡ x = cc in q))
  slot_cases [] y (suc k) x e = cc
  slot_cases (z ∷ xs) y zero x e = inl e
  slot_cases (z ∷ xs) y (suc k) x e = go (slot_cases xs y k x e)
    where
      go : ((slice_get xs k ≡ Some x) ⊎ ((k ≡ length xs) × (y ≡ x))) → (slice_get xs k ≡ Some x) ⊎ ((suc k ≡ suc (length xs)) × (y ≡ x))
      go (inl q) = inl q
      go (inr q) = inr (ap suc q.0, q.1)

  pub slot_more : (xs ys : List A) (k : ℕ) (x : A) → slice_get xs k ≡ Some x → slice_get (xs ++ ys) k ≡ Some x
  slot_more [] ys k x e = cc
  slot_more (z ∷ xs) ys zero x e = e
  slot_more (z ∷ xs) ys (suc k) x e = slot_more xs ys k x e

  pub slot_last : (xs : List A) (y : A) → slice_get (xs ++ y ∷ []) (length xs) ≡ Some y
  slot_last [] y = refl
  slot_last (z ∷ xs) y = slot_last xs y

  pub take_more : (xs ys : List A) (k : ℕ) → k ≤ length xs → take k (xs ++ ys) ≡ take k xs
  take_more [] ys zero l = take_none ys
  take_more [] ys (suc k) l = absurd (omega (arith, l))
  take_more (z ∷ xs) ys zero l = refl
  take_more (z ∷ xs) ys (suc k) l = ap (λ zs. z ∷ zs) (take_more xs ys k (omega (arith, l)))

  pub take_all : (xs : List A) → take (length xs) xs ≡ xs
  take_all [] = refl
  take_all (z ∷ xs) = ap (λ zs. z ∷ zs) (take_all xs)

-- the servers after one action more
module _ (given : Given) where
  pub after_next : (actions : List Action) (i : ℕ) (a : Action) (c : Cluster) → slice_get actions i ≡ Some a → after_actions given (take (suc i) actions) c ≡ after_action given a (after_actions given (take i actions) c)
  after_next [] i a c e = cc
  after_next (b ∷ rest) zero a c e =
      let z : b ≡ a = cc in
      ap (λ xs. after_actions given xs (after_action given b c)) (take_none rest) ∙ ap (λ x. after_action given x c) z
  after_next (b ∷ rest) (suc i) a c e = after_next rest i a (after_action given b c) e

  pub may_next : (actions : List Action) (i : ℕ) (a : Action) (c : Cluster) → slice_get actions i ≡ Some a → AllMayAct given actions c → MayAct given a (after_actions given (take i actions) c)
  may_next [] i a c e h = cc
  may_next (b ∷ rest) zero a c e h = let z : b ≡ a = cc in subst (λ x. MayAct given x c) z h.0
  may_next (b ∷ rest) (suc i) a c e h = may_next rest i a (after_action given b c) e h.1

-- and the steps that wait
module _ (id : ℕ) where
  from_next : (actions : List Action) (i number : ℕ) (a : Action) (steps : List ℕ) → slice_get actions i ≡ Some a
      → waiting_from id number (take (suc i) actions) steps ≡ waiting_on id (number + i) a (waiting_from id number (take i actions) steps)
  from_next [] i number a steps e = cc
  from_next (b ∷ rest) zero number a steps e =
      let z : b ≡ a = cc in
      let q : number ≡ number + 0 = omega arith in
      ap (λ xs. waiting_from id (suc number) xs (waiting_on id number b steps)) (take_none rest)
      ∙ (ap (λ x. waiting_on id number x steps) z ∙ ap (λ j. waiting_on id j a steps) q)
  from_next (b ∷ rest) (suc i) number a steps e =
      let q : suc number + i ≡ number + suc i = omega arith in
      from_next rest i (suc number) a (waiting_on id number b steps) e
      ∙ ap (λ j. waiting_on id j a (waiting_from id (suc number) (take i rest) (waiting_on id number b steps))) q

  pub waiting_next : (actions : List Action) (i : ℕ) (a : Action) → slice_get actions i ≡ Some a → waiting id (take (suc i) actions) ≡ waiting_on id i a (waiting id (take i actions))
  waiting_next actions i a e = let q : 0 + i ≡ i = omega arith in from_next actions i 0 a [] e ∙ ap (λ j. waiting_on id j a (waiting id (take i actions))) q

-- numbers that rise, from the lower one on and below the upper one
abbrev Rises : ℕ → ℕ → List ℕ → Type 0
Rises lower upper [] = Unit {0}
Rises lower upper (t ∷ ts) = (lower ≤ t) × (t < upper) × Rises (suc t) upper ts

rises_below : (lower less upper : ℕ) (ts : List ℕ) → less ≤ lower → Rises lower upper ts → Rises less upper ts
rises_below lower less upper [] l h = tt
rises_below lower less upper (t ∷ ts) l h = (let k = h.0 in omega (arith, l, k), h.1, h.2)

rises_on : (lower upper : ℕ) (ts : List ℕ) → Rises lower upper ts → Rises lower (suc upper) ts
rises_on lower upper [] h = tt
rises_on lower upper (t ∷ ts) h = (h.0, (let k = h.1 in omega (arith, k)), rises_on (suc t) upper ts h.2)

rises_last : (lower upper : ℕ) (ts : List ℕ) → lower ≤ upper → Rises lower upper ts → Rises lower (suc upper) (ts ++ upper ∷ [])
rises_last lower upper [] l h = (l, omega arith, tt)
rises_last lower upper (t ∷ ts) l h = (h.0, (let k = h.1 in omega (arith, k)), rises_last (suc t) upper ts (let k = h.1 in omega (arith, k)) h.2)

rises_behind : (upper : ℕ) (ts : List ℕ) → Rises 0 upper ts → Rises 0 (suc upper) (but_oldest ts)
rises_behind upper [] h = tt
rises_behind upper (t ∷ ts) h = rises_on 0 upper ts (rises_below (suc t) 0 upper ts (omega arith) h.2)

rises_in : (lower upper : ℕ) (ts : List ℕ) (p : ℕ) → Rises lower upper ts → Contains ts p → lower ≤ p
rises_in lower upper [] p h c = absurd (let l : c.0 < 0 = c.1 in omega (arith, l))
rises_in lower upper (t ∷ ts) p h c = go (first_or t ts p c) (rises_in (suc t) upper ts p h.2)
  where
    go : (t ≡ p) ⊎ Contains ts p → (Contains ts p → suc t ≤ p) → lower ≤ p
    go (inl e) rest = let k = h.0 in omega (arith, e, k)
    go (inr d) rest = let k = rest d in let l = h.0 in omega (arith, k, l)

module _ (id : ℕ) where
  on_rises : (number : ℕ) (a : Action) (ts : List ℕ) → Rises 0 number ts → Rises 0 (suc number) (waiting_on id number a ts)
  on_rises number (Takes other step) ts h = go (nat_eq other id)
    where
      go : (b : Bool) → Rises 0 (suc number) (if b then ts ++ number ∷ [] else ts)
      go true = rises_last 0 number ts (omega arith) h
      go false = rises_on 0 number ts h
  on_rises number (Flushes other) ts h = go (nat_eq other id)
    where
      go : (b : Bool) → Rises 0 (suc number) (if b then but_oldest ts else ts)
      go true = rises_behind number ts h
      go false = rises_on 0 number ts h
  on_rises number (Crashes other k at) ts h = go (nat_eq other id)
    where
      go : (b : Bool) → Rises 0 (suc number) (if b then number ∷ [] else ts)
      go true = (omega arith, omega arith, tt)
      go false = rises_on 0 number ts h

  from_rises : (number : ℕ) (actions : List Action) (ts : List ℕ) → Rises 0 number ts → Rises 0 (number + length actions) (waiting_from id number actions ts)
  from_rises number [] ts h = let q : number ≡ number + 0 = omega arith in subst (λ j. Rises 0 j ts) q h
  from_rises number (a ∷ rest) ts h =
      let q : suc number + length rest ≡ number + suc (length rest) = omega arith in
      subst (λ j. Rises 0 j (waiting_from id (suc number) rest (waiting_on id number a ts))) q (from_rises (suc number) rest (waiting_on id number a ts) (on_rises number a ts h))

  -- what waits behind the oldest was taken after it
  pub behind_later : (actions : List Action) (t p : ℕ) (behind : List ℕ) → waiting id actions ≡ t ∷ behind → Contains behind p → t < p
  behind_later actions t p behind e c =
      let h : Rises 0 (0 + length actions) (t ∷ behind) = subst (Rises 0 (0 + length actions)) e (from_rises 0 actions [] tt) in
      let l : suc t ≤ p = rises_in (suc t) (0 + length actions) behind p h.2 c in
      omega (arith, l)

-- a step that was taken waits, or came on disk by a flush
module _ (actions : List Action) (id p : ℕ) (step : Step) (taken : slice_get actions p ≡ Some (Takes id step)) where
  pub record CameByFlush (before : ℕ) : Type 0 where
    pub flush : ℕ
    pub early : flush < before
    pub is : slice_get actions flush ≡ Some (Flushes id)
    pub behind : List ℕ
    pub oldest : waiting id (take flush actions) ≡ p ∷ behind

  abbrev pub Stays : ℕ → Type 0
  Stays upto = (number k at : ℕ) → p < number → number < upto → slice_get actions number ≢ Some (Crashes id k at)

  abbrev Somewhere : ℕ → Type 0
  Somewhere i = Contains (waiting id (take i actions)) p ⊎ CameByFlush i

  came_on : (i j : ℕ) → i ≤ j → CameByFlush i → CameByFlush j
  came_on i j l f = record { flush = f.flush; early = (let k = f.early in omega (arith, k, l)); is = f.is; behind = f.behind; oldest = f.oldest }

  at_first : Somewhere (suc p)
  at_first = inl (subst (λ ts. Contains ts p) (sym (waiting_next id actions p (Takes id step) taken)) (go (nat_eq id id) (eq-eqb id id refl)))
    where
      go : (b : Bool) → b ≡ true → Contains (if b then waiting id (take p actions) ++ p ∷ [] else waiting id (take p actions)) p
      go true q = Contains-append_right (waiting id (take p actions)) (p ∷ []) p (here p [])
      go false q = cc

  one_on : (i : ℕ) (a : Action) → slice_get actions i ≡ Some a → p < i → ((k at : ℕ) → slice_get actions i ≢ Some (Crashes id k at)) → Contains (waiting id (take i actions)) p → Somewhere (suc i)
  one_on i (Takes other s) e l up c = inl (subst (λ ts. Contains ts p) (sym (waiting_next id actions i (Takes other s) e)) (go (nat_eq other id)))
    where
      go : (b : Bool) → Contains (if b then waiting id (take i actions) ++ i ∷ [] else waiting id (take i actions)) p
      go true = Contains-append_left (waiting id (take i actions)) (i ∷ []) p c
      go false = c
  one_on i (Flushes other) e l up c = go (nat_eq other id) refl (waiting id (take i actions)) refl c
    where
      here_is : (b : Bool) → nat_eq other id ≡ b → (ts : List ℕ) → waiting id (take i actions) ≡ ts → Contains (if b then but_oldest ts else ts) p → Somewhere (suc i)
      here_is b q ts r d =
          inl (subst (λ xs. Contains xs p) (sym (waiting_next id actions i (Flushes other) e))
          (subst (λ (x : Bool). Contains (if x then but_oldest (waiting id (take i actions)) else waiting id (take i actions)) p) (sym q)
          (subst (λ xs. Contains (if b then but_oldest xs else xs) p) (sym r) d)))

      oldest_is : nat_eq other id ≡ true → (t : ℕ) (ts : List ℕ) → waiting id (take i actions) ≡ t ∷ ts → (t ≡ p) ⊎ Contains ts p → Somewhere (suc i)
      oldest_is q t ts r (inl z) = inr (record {
        flush = i;
        early = omega arith;
        is = e ∙ ap (λ x. Some (Flushes x)) (eqb-true other id q);
        behind = ts;
        oldest = r ∙ ap (λ x. x ∷ ts) z;
      })
      oldest_is q t ts r (inr d) = here_is true q (t ∷ ts) r d

      go : (b : Bool) → nat_eq other id ≡ b → (ts : List ℕ) → waiting id (take i actions) ≡ ts → Contains ts p → Somewhere (suc i)
      go true q [] r d = absurd (let k : d.0 < 0 = d.1 in omega (arith, k))
      go true q (t ∷ ts) r d = oldest_is q t ts r (first_or t ts p d)
      go false q ts r d = here_is false q ts r d
  one_on i (Crashes other k at) e l up c = go (nat_eq other id) refl
    where
      go : (b : Bool) → nat_eq other id ≡ b → Somewhere (suc i)
      go true q = absurd (up k at (e ∙ ap (λ x. Some (Crashes x k at)) (eqb-true other id q)))
      go false q =
          inl (subst (λ xs. Contains xs p) (sym (waiting_next id actions i (Crashes other k at) e))
          (subst (λ (x : Bool). Contains (if x then i ∷ [] else waiting id (take i actions)) p) (sym q) c))

  from_first : (d : ℕ) → suc p + d ≤ length actions → Stays (suc p + d) → Somewhere (suc p + d)
  from_first zero l up = let q : suc p ≡ suc p + 0 = omega arith in subst Somewhere q at_first
  from_first (suc d) l up = go (from_first d (omega (arith, l)) (λ number k at a b. up number k at a (omega (arith, b))))
    where
      there : suc (suc p + d) ≡ suc p + suc d
      there = omega arith

      next : (a : Action) × (slice_get actions (suc p + d) ≡ Some a)
      next = slot_at actions (suc p + d) (omega (arith, l))

      go : Somewhere (suc p + d) → Somewhere (suc p + suc d)
      go (inr f) = inr (came_on (suc p + d) (suc p + suc d) (omega arith) f)
      go (inl c) = subst Somewhere there (one_on (suc p + d) next.0 next.1 (omega arith) (λ k at. up (suc p + d) k at (omega arith) (omega arith)) c)

  pub waits_or_came : (i : ℕ) → p < i → i ≤ length actions → Stays i → Somewhere i
  waits_or_came i l k up = go (i - suc p) (omega (arith, l))
    where
      go : (d : ℕ) → i ≡ suc p + d → Somewhere i
      go d q = subst Somewhere (sym q) (from_first d (omega (arith, k, q)) (subst Stays q up))
