-- Lists of rising log ids with consecutive indexes.
use Rattle.std.specs.Prelude.{◌≡◌, ℕ, ◌+◌, ◌-◌, ◌<◌, ◌≤◌, ◌==◌, ◌⊎◌, nat_lt, Bool, true, false, ◌&&◌, List, [], ◌∷◌, ◌++◌, Option, None, Some, refl, length, slice_get, filter}
use Rattle.std.specs.List.{AllByRecursion, last_or}
use Rattle.std.proofs.Common.{ap, sym, ◌∙◌, cond, rules, arith, inl, inr, ⊎_elim, suc, subst}
use Rattle.std.proofs.lemmas.Bool.Decides.{nat_tests}
use Rattle.std.specs.declared.cmp.Ordering.{Ordering}
use Rattle.std.specs.declared.cmp.Ordering.TheVariants.{Equal}
use Rattle.std.specs.Ordering.{is_lt, is_le}
use Rattle.std.specs.Cmp.{IsTotalOrder}
use Rattle.raft_state.specs.declared.ids.LogId.{LogId}
use Rattle.raft_state.specs.Order.{last_id_cmp, next}
use Rattle.raft_state.specs.Log.{last, at, below}
use Rattle.raft_state.specs.LogLaws.{IsRun}
use Rattle.raft_state.specs.State.{is_found}
use Rattle.raft_state.specs.Same.{found_is}
use Rattle.raft_state.specs.Fits.{fits, is_within, is_below}
use Rattle.raft_state.specs.Consecutive.{follows_on}
use Rattle.raft_state.specs.Invariants.{Rises}
use Rattle.raft_state.proofs.Orders.{and_both, last_total, lt_is_le, lt_le, lt_not_ge, within_of, within_le, within_refl, within_trans, nat_lt_is, or_cases}

module _ {X : Type 0} (P : X → Type 0) where
  pub each_append : (xs ys : List X) → AllByRecursion P xs → AllByRecursion P ys → AllByRecursion P (xs ++ ys)
  each_append [] ys h k = k
  each_append (x ∷ xs) ys h k = (h.0, each_append xs ys h.1 k)

  pub each_filter : (p : X → Bool) (xs : List X) → AllByRecursion P xs → AllByRecursion P (filter p xs)
  each_filter p [] h = h
  each_filter p (x ∷ xs) h = elim (p x) as (λ b. AllByRecursion P (cond b (x ∷ filter p xs) (filter p xs))) [ true ↦ (h.0, each_filter p xs h.1) | false ↦ each_filter p xs h.1 ]

pub each_map : {X : Type 0} (P Q : X → Type 0) → ((x : X) → P x → Q x) → (xs : List X) → AllByRecursion P xs → AllByRecursion Q xs
each_map P Q f [] h = h
each_map P Q f (x ∷ xs) h = (f x h.0, each_map P Q f xs h.1)

next_place : (n : ℕ) → suc (suc n) - 1 ≡ suc (suc n - 1)
next_place n = omega arith

module _ {NID : Type 0} where
  -- the last id, by recursion
  pub last_is : (ids : List (LogId NID)) → last ids ≡ last_or None ids
  last_is [] = refl
  last_is (x ∷ []) = refl
  last_is (x ∷ y ∷ ys) = ap (slice_get (x ∷ y ∷ ys)) (next_place (length ys)) ∙ last_is (y ∷ ys)

  pub last_append : (d : Option (LogId NID)) (xs ys : List (LogId NID)) → last_or d (xs ++ ys) ≡ last_or (last_or d xs) ys
  last_append d [] ys = refl
  last_append d (x ∷ xs) ys = last_append (Some x) xs ys

  pub run_append : (n : ℕ) (xs ys : List (LogId NID)) → IsRun n xs → IsRun (n + length xs) ys → IsRun n (xs ++ ys)
  run_append n [] ys h k = let e : n + 0 ≡ n = omega arith in subst (λ m. IsRun m ys) e k
  run_append n (x ∷ xs) ys h k =
      let e : n + suc (length xs) ≡ (n + 1) + length xs = omega arith in
      (h.0, run_append (n + 1) xs ys h.1 (subst (λ m. IsRun m ys) e k))

  -- the index after the last of a run
  pub run_next : (d : Option (LogId NID)) (n : ℕ) (xs : List (LogId NID)) → next d ≡ n → IsRun n xs → next (last_or d xs) ≡ n + length xs
  run_next d n [] e h = omega (arith, e)
  run_next d n (x ∷ xs) e h =
      let i : next (Some x) ≡ n + 1 = ap (λ k. k + 1) h.0 in
      let r : next (last_or (Some x) xs) ≡ (n + 1) + length xs = run_next (Some x) (n + 1) xs i h.1 in
      omega (arith, r)

  -- an id of the list
  abbrev pub Has : LogId NID → List (LogId NID) → Type 0
  Has x [] = ⊥
  Has x (y ∷ ys) = (y ≡ x) ⊎ Has x ys

  -- what an index finds is there, with that index
  found : (i : ℕ) (x y : LogId NID) (ys : List (LogId NID)) (b : Bool) → (y.index == i) ≡ b → (at ys i ≡ Some x → Has x ys) → cond b (Some y) (at ys i) ≡ Some x → Has x (y ∷ ys)
  found i x y ys true e rest h = inl (search (rules, h))
  found i x y ys false e rest h = inr (rest h)

  pub at_has : (i : ℕ) (x : LogId NID) (ids : List (LogId NID)) → at ids i ≡ Some x → Has x ids
  at_has i x [] h = cc
  at_has i x (y ∷ ys) h = found i x y ys (y.index == i) refl (at_has i x ys) h

  -- a run's ids are at or past its first index
  pub run_low : (n : ℕ) (x : LogId NID) (ids : List (LogId NID)) → IsRun n ids → Has x ids → n ≤ x.index
  run_low n x [] r h = absurd h
  run_low n x (y ∷ ys) r h =
      ⊎_elim
      (λ (e : y ≡ x). let q : y.index ≡ x.index = ap (λ z. z.index) e in omega (arith, q, r.0))
      (λ (k : Has x ys). let q : n + 1 ≤ x.index = run_low (n + 1) x ys r.1 k in omega (arith, q))
      h

  -- no id of a run is below its first index
  pub run_none_below : (n k : ℕ) (ids : List (LogId NID)) → IsRun n ids → k ≤ n → below k ids ≡ []
  run_none_below n k [] r h = refl
  run_none_below n k (y ∷ ys) r h =
      let e : nat_lt y.index k ≡ false = not_lt_index y.index n k r.0 h in
      rw e (run_none_below (n + 1) k ys r.1 (omega (arith, h))) where
        not_lt_index : (i n k : ℕ) → i ≡ n → k ≤ n → nat_lt i k ≡ false
        not_lt_index i n k e h = grind (arith, nat_tests)

  below_run_at : (n k : ℕ) (y : LogId NID) (ys : List (LogId NID)) → y.index ≡ n → IsRun (n + 1) (below k ys) → below k ys ≡ [] ⊎ (nat_lt y.index k ≡ true) → (b : Bool) → nat_lt y.index k ≡ b → IsRun n (cond b (y ∷ below k ys) (below k ys))
  below_run_at n k y ys i r c true e = (i, r)
  below_run_at n k y ys i r c false e =
      ⊎_elim (λ (q : below k ys ≡ []). rw q tt) (λ (q : nat_lt y.index k ≡ true). let z : true ≡ false = sym q ∙ e in cc) c

  -- where the first index is not below k, nothing of the rest is
  pub below_cut : (n k : ℕ) (y : LogId NID) (ys : List (LogId NID)) → y.index ≡ n → IsRun (n + 1) ys → (below k ys ≡ []) ⊎ (nat_lt y.index k ≡ true)
  below_cut n k y ys i r = go (nat_lt y.index k) refl where
    go : (b : Bool) → nat_lt y.index k ≡ b → (below k ys ≡ []) ⊎ (nat_lt y.index k ≡ true)
    go true e = inr e
    go false e = inl (run_none_below (n + 1) k ys r (over y.index n k i e)) where
      over : (a n k : ℕ) → a ≡ n → nat_lt a k ≡ false → k ≤ n + 1
      over a n k e f = grind (arith, nat_tests)

  pub below_run : (n k : ℕ) (ids : List (LogId NID)) → IsRun n ids → IsRun n (below k ids)
  below_run n k [] r = r
  below_run n k (y ∷ ys) r = below_run_at n k y ys r.0 (below_run (n + 1) k ys r.1) (below_cut n k y ys r.0 r.1) (nat_lt y.index k) refl

module _ {NID : Type 0} (cmp : NID → NID → Ordering) where
  pub rises_append : (d : Option (LogId NID)) (xs ys : List (LogId NID)) → Rises cmp d xs → Rises cmp (last_or d xs) ys → Rises cmp d (xs ++ ys)
  rises_append d [] ys h k = k
  rises_append d (x ∷ xs) ys h k = (h.0, rises_append (Some x) xs ys h.1 k)

  pub rises_below : (d : Option (LogId NID)) (n k : ℕ) (ids : List (LogId NID)) → IsRun n ids → Rises cmp d ids → Rises cmp d (below k ids)
  rises_below d n k [] r h = h
  rises_below d n k (y ∷ ys) r h = go (nat_lt y.index k) refl (below_cut n k y ys r.0 r.1) (rises_below (Some y) (n + 1) k ys r.1 h.1) where
    go : (b : Bool) → nat_lt y.index k ≡ b → (below k ys ≡ []) ⊎ (nat_lt y.index k ≡ true) → Rises cmp (Some y) (below k ys) → Rises cmp d (cond b (y ∷ below k ys) (below k ys))
    go true e c rest = (h.0, rest)
    go false e c rest = ⊎_elim (λ (q : below k ys ≡ []). rw q tt) (λ (q : nat_lt y.index k ≡ true). let z : true ≡ false = sym q ∙ e in cc) c

  -- ids that follow on rise, and run
  pub follow_rise : (d : Option (LogId NID)) (xs : List (LogId NID)) → follows_on cmp d xs ≡ true → Rises cmp d xs
  follow_rise d [] h = tt
  follow_rise d (x ∷ xs) h =
      let p = and_both (x.index == next d && is_lt (last_id_cmp cmp d (Some x))) (follows_on cmp (Some x) xs) h in
      ((and_both (x.index == next d) _ p.0).1, follow_rise (Some x) xs p.1)

  pub follow_run : (d : Option (LogId NID)) (n : ℕ) (xs : List (LogId NID)) → next d ≡ n → follows_on cmp d xs ≡ true → IsRun n xs
  follow_run d n [] e h = tt
  follow_run d n (x ∷ xs) e h =
      let p = and_both (x.index == next d && is_lt (last_id_cmp cmp d (Some x))) (follows_on cmp (Some x) xs) h in
      let i : x.index ≡ n = same_index x.index (next d) n (and_both (x.index == next d) (is_lt (last_id_cmp cmp d (Some x))) p.0).0 e in
      let j : x.index + 1 ≡ n + 1 = ap (λ k. k + 1) i in
      (i, follow_run (Some x) (n + 1) xs j p.1) where
        same_index : (a b c : ℕ) → (a == b) ≡ true → b ≡ c → a ≡ c
        same_index a b c h e = grind (arith, nat_tests)

module _ {NID : Type 0} (cmp : NID → NID → Ordering) (total : IsTotalOrder cmp) where
  -- ids after one, rising with consecutive indexes, end past it
  pub rise_within : (d : Option (LogId NID)) (n : ℕ) (xs : List (LogId NID)) → next d ≤ n → IsRun n xs → Rises cmp d xs → is_within cmp d (last_or d xs) ≡ true
  rise_within d n [] e r h = within_refl cmp total d
  rise_within d n (x ∷ xs) e r h =
      let i : x.index ≡ n = r.0 in
      within_trans cmp total d (Some x) _
      (within_of cmp total d (Some x) (lt_is_le _ h.0) (omega (arith, e, i)))
      (rise_within (Some x) (n + 1) xs (omega (arith, i)) r.1 h.1)

  -- an id of the list is within its last
  pub has_within : (x : LogId NID) (d : Option (LogId NID)) (n : ℕ) (ids : List (LogId NID)) → IsRun n ids → Rises cmp d ids → Has x ids → is_within cmp (Some x) (last_or d ids) ≡ true
  has_within x d n [] r h k = absurd k
  has_within x d n (y ∷ ys) r h k =
      ⊎_elim
      (λ (e : y ≡ x). subst (λ z. is_within cmp (Some z) (last_or (Some y) ys) ≡ true) e (rise_within (Some y) (n + 1) ys (let i : y.index ≡ n = r.0 in omega (arith, i)) r.1 h.1))
      (λ (m : Has x ys). has_within x (Some y) (n + 1) ys r.1 h.1 m)
      k

  -- and above what it rises from
  pub has_above : (x : LogId NID) (d : Option (LogId NID)) (ids : List (LogId NID)) → Rises cmp d ids → Has x ids → is_lt (last_id_cmp cmp d (Some x)) ≡ true
  has_above x d [] h k = absurd k
  has_above x d (y ∷ ys) h k =
      ⊎_elim
      (λ (e : y ≡ x). subst (λ z. is_lt (last_id_cmp cmp d (Some z)) ≡ true) e h.0)
      (λ (m : Has x ys). lt_le (last_total cmp total) d (Some y) (Some x) h.0 (lt_is_le _ (has_above x (Some y) ys h.1 m)))
      k

  -- of two ids the one with the smaller index is the smaller
  pub has_lt : (a b : LogId NID) (d : Option (LogId NID)) (n : ℕ) (ids : List (LogId NID)) → IsRun n ids → Rises cmp d ids → Has a ids → Has b ids → a.index < b.index → is_lt (last_id_cmp cmp (Some a) (Some b)) ≡ true
  has_lt a b d n [] r h ha hb lt = absurd ha
  has_lt a b d n (y ∷ ys) r h ha hb lt =
      let i : y.index ≡ n = r.0 in
      ⊎_elim
      (λ (ea : y ≡ a). ⊎_elim
      (λ (eb : y ≡ b). absurd (let p : y.index ≡ a.index = ap (λ z. z.index) ea in let q : y.index ≡ b.index = ap (λ z. z.index) eb in omega (arith, p, q, lt)))
      (λ (mb : Has b ys). subst (λ z. is_lt (last_id_cmp cmp (Some z) (Some b)) ≡ true) ea (has_above b (Some y) ys h.1 mb))
      hb)
      (λ (ma : Has a ys). ⊎_elim
      (λ (eb : y ≡ b). absurd (let q : y.index ≡ b.index = ap (λ z. z.index) eb in let low : n + 1 ≤ a.index = run_low (n + 1) a ys r.1 ma in omega (arith, q, i, low, lt)))
      (λ (mb : Has b ys). has_lt a b (Some y) (n + 1) ys r.1 h.1 ma mb lt)
      hb)
      ha

  -- so the order of two ids is that of their indexes
  pub has_le_index : (a b : LogId NID) (d : Option (LogId NID)) (n : ℕ) (ids : List (LogId NID)) → IsRun n ids → Rises cmp d ids → Has a ids → Has b ids → is_le (last_id_cmp cmp (Some a) (Some b)) ≡ true → a.index ≤ b.index
  has_le_index a b d n ids r h ha hb le = go (nat_lt b.index a.index) refl where
    no_less : (i j : ℕ) → nat_lt j i ≡ false → i ≤ j
    no_less i j e = grind (arith, nat_tests)

    go : (t : Bool) → nat_lt b.index a.index ≡ t → a.index ≤ b.index
    go false e = no_less a.index b.index e
    go true e =
        let lt = has_lt b a d n ids r h hb ha (nat_lt_is _ _ e) in
        let no : false ≡ true = sym (lt_not_ge (last_total cmp total) (Some b) (Some a) lt) ∙ le in
        cc

module _ {NID : Type 0} (cmp : NID → NID → Ordering) (total : IsTotalOrder cmp) (same : (a b : NID) → cmp a b ≡ Equal → a ≡ b) where
  -- an id that fits and isn't below the purged one is in the log
  pub fits_has : (ids : List (LogId NID)) (purged : Option (LogId NID)) (x : LogId NID) → fits cmp ids purged (Some x) ≡ true → is_within cmp purged (Some x) ≡ true → at ids x.index ≡ Some x
  fits_has ids purged x f w =
      ⊎_elim
      (λ (e : is_found cmp (at ids x.index) x ≡ true). found_is cmp same _ x e)
      (λ (e : is_below cmp (Some x) purged ≡ true).
      let lt = (and_both _ (nat_lt (next (Some x)) (next purged)) e).0 in
      let no : false ≡ true = sym (lt_not_ge (last_total cmp total) (Some x) purged lt) ∙ within_le cmp total purged (Some x) w in
      cc)
      (or_cases _ (is_below cmp (Some x) purged) f)
