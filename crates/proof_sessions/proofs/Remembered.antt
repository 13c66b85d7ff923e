-- Which requests of sessions are remembered, while there is room for all sessions.
use Rattle.std.proofs.Common.{ℕ, suc, ◌+◌, ◌-◌, ◌<◌, ◌≤◌, ◌≡◌, ◌≢◌, inl, inr, ⊎_elim, Bool, true, false, cond, List, [], ◌∷◌, length, take, Option, Some, None, arith, refl, sym, ap, ◌∙◌, subst}
use Rattle.std.specs.Prelude.{nat_eq}
use Rattle.std.specs.Map.{lookup, lookup_entry, remove_entry}
use Rattle.std.specs.Option.{option_map_or}
use Rattle.std.proofs.lemmas.Bool.{cases_eq, eq-eqb, ne_eqb, eqb-true}
use Rattle.std.proofs.lemmas.List.{take_all}
use Rattle.lru.specs.LruCache.{LruCache, lru_cache, put_entries}
use Rattle.raft_machine.specs.declared.machine.Answered.{Answered}
use Rattle.proof_sessions.proofs.Lists.{Has}

abbrev pub Sessions : Type 0
Sessions = List (ℕ × Answered)

abbrev pub at : ℕ → Sessions → Option Answered
at k xs = lookup (nat_eq k) xs

abbrev entry_at : ℕ → Sessions → Option (ℕ × Answered)
entry_at k xs = lookup_entry (nat_eq k) xs

abbrev without : ℕ → Sessions → Sessions
without k xs = remove_entry (nat_eq k) xs

-- ---- entries

entry_is : (k : ℕ) (xs : Sessions) (e : ℕ × Answered) → entry_at k xs ≡ Some e → nat_eq k e.0 ≡ true
entry_is k [] e h = absurd cc
entry_is k (x ∷ xs) e h = go (nat_eq k x.0) refl (entry_is k xs e) h where
  go : (b : Bool) → nat_eq k x.0 ≡ b → (entry_at k xs ≡ Some e → nat_eq k e.0 ≡ true) → cond b (Some x) (entry_at k xs) ≡ Some e → nat_eq k e.0 ≡ true
  go true t f g = let same : x ≡ e = cc in subst (λ (y : ℕ × Answered). nat_eq k y.0 ≡ true) same t
  go false t f g = f g

no_value : (k : ℕ) (xs : Sessions) → entry_at k xs ≡ None → at k xs ≡ None
no_value k [] h = refl
no_value k (x ∷ xs) h = go (nat_eq k x.0) (no_value k xs) h where
  go : (b : Bool) → (entry_at k xs ≡ None → at k xs ≡ None) → cond b (Some x) (entry_at k xs) ≡ None → cond b (Some x.1) (at k xs) ≡ None
  go true f g = absurd cc
  go false f g = f g

one_less : (k : ℕ) (xs : Sessions) (e : ℕ × Answered) → entry_at k xs ≡ Some e → suc (length (without k xs)) ≡ length xs
one_less k [] e h = absurd cc
one_less k (x ∷ xs) e h = go (nat_eq k x.0) (one_less k xs e) h where
  go : (b : Bool) → (entry_at k xs ≡ Some e → suc (length (without k xs)) ≡ length xs) → cond b (Some x) (entry_at k xs) ≡ Some e → suc (length (cond b xs (x ∷ without k xs))) ≡ suc (length xs)
  go true f g = refl
  go false f g = ap suc (f g)

-- another key's value stays
without_other : (j k : ℕ) (xs : Sessions) → j ≢ k → at j (without k xs) ≡ at j xs
without_other j k [] d = refl
without_other j k (x ∷ xs) d = go (nat_eq k x.0) refl (without_other j k xs d) where
  go : (b : Bool) → nat_eq k x.0 ≡ b → at j (without k xs) ≡ at j xs → at j (cond b xs (x ∷ without k xs)) ≡ at j (x ∷ xs)
  go true t f = sym (ap (λ b. cond b (Some x.1) (at j xs)) (ne_eqb j x.0 (λ e. d (e ∙ sym (eqb-true k x.0 t)))))
  go false t f = ap (λ o. cond (nat_eq j x.0) (Some x.1) o) f

-- ---- a value is put

module _ (c : LruCache ℕ Answered) (k : ℕ) (v : Answered) where
  -- by whether the key is there
  abbrev put_at : Option (ℕ × Answered) → Sessions
  put_at o = option_map_or (λ e. (e.0, v) ∷ without k c.entries) o ((k, v) ∷ take (c.cap - 1) c.entries)

  pub put_same : at k (put_entries nat_eq c k v) ≡ Some v
  put_same = go (entry_at k c.entries) refl where
    go : (o : Option (ℕ × Answered)) → entry_at k c.entries ≡ o → at k (put_at o) ≡ Some v
    go None e = ap (λ b. cond b (Some v) (at k (take (c.cap - 1) c.entries))) (eq-eqb k k refl)
    go (Some x) e = ap (λ b. cond b (Some v) (at k (without k c.entries))) (entry_is k c.entries x e)

  -- there is room for it
  abbrev pub Fits : Type 0
  Fits = at k c.entries ≡ None → length c.entries < c.cap

  pub put_other : (j : ℕ) → j ≢ k → Fits → at j (put_entries nat_eq c k v) ≡ at j c.entries
  put_other j d f = go (entry_at k c.entries) refl where
    go : (o : Option (ℕ × Answered)) → entry_at k c.entries ≡ o → at j (put_at o) ≡ at j c.entries
    go None e =
        let room : length c.entries < c.cap = f (no_value k c.entries e) in
        ap (λ b. cond b (Some v) (at j (take (c.cap - 1) c.entries))) (ne_eqb j k d)
        ∙ ap (at j) (take_all (c.cap - 1) c.entries (omega (arith, room)))
    go (Some x) e =
        ap (λ b. cond b (Some v) (at j (without k c.entries))) (ne_eqb j x.0 (λ q. d (q ∙ sym (eqb-true k x.0 (entry_is k c.entries x e)))))
        ∙ without_other j k c.entries d

  -- there is one pair more, if the key is new
  pub put_length : Fits → (at k c.entries ≡ None → length (put_entries nat_eq c k v) ≡ suc (length c.entries)) × (at k c.entries ≢ None → length (put_entries nat_eq c k v) ≡ length c.entries)
  put_length f = go (entry_at k c.entries) refl where
    go : (o : Option (ℕ × Answered)) → entry_at k c.entries ≡ o → (at k c.entries ≡ None → length (put_at o) ≡ suc (length c.entries)) × (at k c.entries ≢ None → length (put_at o) ≡ length c.entries)
    go None e = (
      λ n. let room : length c.entries < c.cap = f n in ap (λ (xs : Sessions). suc (length xs)) (take_all (c.cap - 1) c.entries (omega (arith, room))),
      λ d. absurd (d (no_value k c.entries e)),
    )
    go (Some x) e = (λ n. absurd (found_not k c.entries x e n), λ d. one_less k c.entries x e)
      where
        found_not : (j : ℕ) (xs : Sessions) (y : ℕ × Answered) → entry_at j xs ≡ Some y → at j xs ≡ None → ⊥
        found_not j [] y p q = absurd cc
        found_not j (z ∷ zs) y p q = by (nat_eq j z.0) (found_not j zs y) p q
          where
            by : (b : Bool) → (entry_at j zs ≡ Some y → at j zs ≡ None → ⊥) → cond b (Some z) (entry_at j zs) ≡ Some y → cond b (Some z.1) (at j zs) ≡ None → ⊥
            by true g p' q' = absurd cc
            by false g p' q' = g p' q'

-- ---- room

abbrev weigh : Option Answered → ℕ
weigh None = 1
weigh (Some a) = 0

-- how many of the sessions aren't remembered
abbrev pub unseen : List ℕ → Sessions → ℕ
unseen [] xs = 0
unseen (k ∷ ks) xs = weigh (at k xs) + unseen ks xs

unseen_le : (ks : List ℕ) (xs ys : Sessions) → ((j : ℕ) → weigh (at j ys) ≤ weigh (at j xs)) → unseen ks ys ≤ unseen ks xs
unseen_le [] xs ys f = omega arith
unseen_le (k ∷ ks) xs ys f = let here = f k in let rest = unseen_le ks xs ys f in omega (arith, here, rest)

unseen_lt : (ks : List ℕ) (xs ys : Sessions) (k : ℕ) → ((j : ℕ) → weigh (at j ys) ≤ weigh (at j xs)) → Has ks k → at k xs ≡ None → weigh (at k ys) ≡ 0 → unseen ks ys < unseen ks xs
unseen_lt [] xs ys k f h n w = absurd h
unseen_lt (j ∷ ks) xs ys k f (inl e) n w =
    let before : weigh (at j xs) ≡ 1 = ap (λ i. weigh (at i xs)) e ∙ ap weigh n in
    let after : weigh (at j ys) ≡ 0 = ap (λ i. weigh (at i ys)) e ∙ w in
    let rest = unseen_le ks xs ys f in
    omega (arith, before, after, rest)
unseen_lt (j ∷ ks) xs ys k f (inr h) n w =
    let here = f j in
    let rest = unseen_lt ks xs ys k f h n w in
    omega (arith, here, rest)

-- there is room for those of the sessions that aren't remembered
abbrev pub HasRoom : List ℕ → LruCache ℕ Answered → Type 0
HasRoom ids c = length c.entries + unseen ids c.entries ≤ c.cap

pub none_seen : (ids : List ℕ) → unseen ids [] ≡ length ids
none_seen [] = refl
none_seen (k ∷ ks) = let rest = none_seen ks in omega (arith, rest)

module _ (ids : List ℕ) (c : LruCache ℕ Answered) (k : ℕ) (v : Answered) (room : HasRoom ids c) (named : Has ids k) where
  some_unseen : (ks : List ℕ) → Has ks k → at k c.entries ≡ None → 0 < unseen ks c.entries
  some_unseen [] h n = absurd h
  some_unseen (j ∷ ks) (inl e) n = let one : weigh (at j c.entries) ≡ 1 = ap (λ i. weigh (at i c.entries)) e ∙ ap weigh n in omega (arith, one)
  some_unseen (j ∷ ks) (inr h) n = let rest = some_unseen ks h n in omega (arith, rest)

  pub fits : Fits c k v
  fits n = let some = some_unseen ids named n in omega (arith, some, room)

  lighter : (j : ℕ) → weigh (at j (put_entries nat_eq c k v)) ≤ weigh (at j c.entries)
  lighter j =
      ⊎_elim
      (λ (e : j ≡ k). let none : weigh (at j (put_entries nat_eq c k v)) ≡ 0 = ap (λ i. weigh (at i (put_entries nat_eq c k v))) e ∙ ap weigh (put_same c k v) in omega (arith, none))
      (λ (d : j ≢ k). let same = ap weigh (put_other c k v j d fits) in omega (arith, same))
      (cases_eq j k)

  pub room_kept : HasRoom ids (lru_cache (put_entries nat_eq c k v) c.cap)
  room_kept = go (at k c.entries) refl where
    lengths : (at k c.entries ≡ None → length (put_entries nat_eq c k v) ≡ suc (length c.entries)) × (at k c.entries ≢ None → length (put_entries nat_eq c k v) ≡ length c.entries)
    lengths = put_length c k v fits

    go : (o : Option Answered) → at k c.entries ≡ o → length (put_entries nat_eq c k v) + unseen ids (put_entries nat_eq c k v) ≤ c.cap
    go None e =
        let longer = lengths.0 e in
        let fewer = unseen_lt ids c.entries (put_entries nat_eq c k v) k lighter named e (ap weigh (put_same c k v)) in
        omega (arith, longer, fewer, room)
    go (Some a) e =
        let same = lengths.1 (λ n. let z : ◌≡◌ {A = Option Answered} (Some a) None = sym e ∙ n in cc) in
        let no_more = unseen_le ids c.entries (put_entries nat_eq c k v) lighter in
        omega (arith, same, no_more, room)
