-- The places of ids with consecutive indexes.
use Rattle.std.proofs.Common.{ℕ, zero, suc, ◌+◌, ◌-◌, ◌<◌, ◌≤◌, ◌≡◌, Bool, true, false, cond, List, [], ◌∷◌, ◌++◌, length, take, drop, arith, refl, sym, ap, ◌∙◌, subst, Option, Some, None}
use Rattle.std.specs.Prelude.{nat_lt, ◌&&◌, ◌==◌, slice_get, min}
use Rattle.std.specs.List.{last_or}
use Rattle.std.proofs.lemmas.Bool.Decides.{nat_tests}
use Rattle.raft_state.specs.declared.ids.LogId.{LogId}
use Rattle.raft_state.specs.Log.{last, at, from, below}
use Rattle.raft_state.specs.LogLaws.{IsRun, at-run}
use Rattle.raft_state.specs.Consecutive.{follows, follow_on}
use Rattle.raft_state.proofs.Orders.{and_both, both_and}
use Rattle.raft_state.proofs.LogLists.{last_is, run_none_below}

same : (a b : ℕ) → (a == b) ≡ true → a ≡ b
same a b h = grind (arith, nat_tests)

differ : (a n i : ℕ) → a ≡ n → i < n → (a == i) ≡ false
differ a n i e h = grind (arith, nat_tests)

lower : (a n k : ℕ) → a ≡ n → nat_lt a (n + suc k) ≡ true
lower a n k e = grind (arith, nat_tests)

not_lower : (a n k : ℕ) → a ≡ n → k ≤ n → nat_lt a k ≡ false
not_lower a n k e h = grind (arith, nat_tests)

min_suc : (a k : ℕ) → min (suc a) (suc k) ≡ suc (min a k)
min_suc a k = omega arith

zero_min : (a : ℕ) → min 0 a ≡ 0
zero_min a = omega arith

min_zero : (a : ℕ) → min a 0 ≡ 0
min_zero a = omega arith

module _ {NID : Type 0} where
  -- the ids behind one that they follow
  run_behind : (x : LogId NID) (xs : List (LogId NID)) → follow_on (Some x) xs ≡ true → IsRun (x.index + 1) xs
  run_behind x [] h = tt
  run_behind x (y ∷ ys) h =
      let p = and_both (y.index == x.index + 1) (follow_on (Some y) ys) h in
      let i : y.index ≡ x.index + 1 = same _ _ p.0 in
      (i, subst (λ n. IsRun n ys) (ap (λ n. n + 1) i) (run_behind y ys p.1))

  -- no id of a run stands below its first index
  pub at_low : (n i : ℕ) (ids : List (LogId NID)) → IsRun n ids → i < n → at ids i ≡ None
  at_low n i [] r l = refl
  at_low n i (x ∷ xs) r l = ap (λ b. cond b (Some x) (at xs i)) (differ x.index n i r.0 l) ∙ at_low (n + 1) i xs r.1 (omega (arith, l))

  -- all ids of a run stand from its first index on
  pub from_all : (n k : ℕ) (ids : List (LogId NID)) → IsRun n ids → k ≤ n → from k ids ≡ ids
  from_all n k [] r l = refl
  from_all n k (x ∷ xs) r l = rw (not_lower x.index n k r.0 l) (ap (λ ys. x ∷ ys) (from_all (n + 1) k xs r.1 (omega (arith, l))))

  -- the ids below an index are the first ones
  pub take_below : (n k : ℕ) (ids : List (LogId NID)) → IsRun n ids → take k ids ≡ below (n + k) ids
  take_below n zero [] r = refl
  take_below n (suc k) [] r = refl
  take_below n zero (x ∷ xs) r = sym (run_none_below n (n + 0) (x ∷ xs) r (omega arith))
  take_below n (suc k) (x ∷ xs) r =
      let e : (n + 1) + k ≡ n + suc k = omega arith in
      rw (lower x.index n k r.0) (ap (λ ys. x ∷ ys) (take_below (n + 1) k xs r.1 ∙ ap (λ m. below m xs) e))

  -- and the others are those from it on
  pub drop_from : (n k : ℕ) (ids : List (LogId NID)) → IsRun n ids → drop k ids ≡ from (n + k) ids
  drop_from n zero [] r = refl
  drop_from n (suc k) [] r = refl
  drop_from n zero (x ∷ xs) r = sym (from_all n (n + 0) (x ∷ xs) r (omega arith))
  drop_from n (suc k) (x ∷ xs) r =
      let e : (n + 1) + k ≡ n + suc k = omega arith in
      rw (lower x.index n k r.0) (drop_from (n + 1) k xs r.1 ∙ ap (λ m. from m xs) e)

  -- no more are there than all
  take_short : (k : ℕ) (ids : List (LogId NID)) → take (min (length ids) k) ids ≡ take k ids
  take_short zero ids = ap (λ n. take n ids) (min_zero (length ids))
  take_short (suc k) [] = ap (λ n. take n []) (zero_min (suc k))
  take_short (suc k) (x ∷ xs) = ap (λ n. take n (x ∷ xs)) (min_suc (length xs) k) ∙ ap (λ ys. x ∷ ys) (take_short k xs)

  drop_short : (k : ℕ) (ids : List (LogId NID)) → drop (min (length ids) k) ids ≡ drop k ids
  drop_short zero ids = ap (λ n. drop n ids) (min_zero (length ids))
  drop_short (suc k) [] = ap (λ n. drop n []) (zero_min (suc k))
  drop_short (suc k) (x ∷ xs) = ap (λ n. drop n (x ∷ xs)) (min_suc (length xs) k) ∙ drop_short k xs

  -- with a first id the ids are a run from its index on
  pub run_from : (x : LogId NID) (ids : List (LogId NID)) → follow_on None ids ≡ true → slice_get ids 0 ≡ Some x → IsRun x.index ids
  run_from x [] h e = cc
  run_from x (y ∷ ys) h e =
      let q : y ≡ x = some_same y x e in
      subst (λ z. IsRun z.index (y ∷ ys)) q (refl, run_behind y ys h) where
        some_same : (y x : LogId NID) → ◌≡◌ {A = Option (LogId NID)} (Some y) (Some x) → y ≡ x
        some_same y x e = cc

  module _ (x : LogId NID) (ids : List (LogId NID)) (i : ℕ) (h : follow_on None ids ≡ true) (e : slice_get ids 0 ≡ Some x) where
    -- below the first index there is none
    pub at_before : i < x.index → None ≡ at ids i
    at_before l = sym (at_low x.index i ids (run_from x ids h e) l)

    -- else an index gives the place
    pub at_place : x.index ≤ i → slice_get ids (i - x.index) ≡ at ids i
    at_place l =
        let s : x.index + (i - x.index) ≡ i = omega (arith, l) in
        sym (at-run x.index (i - x.index) ids (run_from x ids h e)) ∙ ap (at ids) s

    -- the first ones are those below an index, and the others those from it on
    pub first_below : (n : ℕ) → n ≡ min (length ids) (i - x.index) → x.index < i → take n ids ≡ below i ids
    first_below n q l =
        let s : x.index + (i - x.index) ≡ i = omega (arith, l) in
        ap (λ k. take k ids) q ∙ take_short (i - x.index) ids ∙ take_below x.index (i - x.index) ids (run_from x ids h e) ∙ ap (λ k. below k ids) s

    pub rest_from : (n : ℕ) → n ≡ min (length ids) (i - x.index) → x.index < i → drop n ids ≡ from i ids
    rest_from n q l =
        let s : x.index + (i - x.index) ≡ i = omega (arith, l) in
        ap (λ k. drop k ids) q ∙ drop_short (i - x.index) ids ∙ drop_from x.index (i - x.index) ids (run_from x ids h e) ∙ ap (λ k. from k ids) s

    pub none_below : i ≤ x.index → [] ≡ below i ids
    none_below l = sym (run_none_below x.index i ids (run_from x ids h e) l)

    pub all_from : i ≤ x.index → ids ≡ from i ids
    all_from l = sym (from_all x.index i ids (run_from x ids h e) l)

  -- where there is no first id there is none
  pub no_first : (ids : List (LogId NID)) → slice_get ids 0 ≡ None → ids ≡ []
  no_first [] e = refl
  no_first (x ∷ xs) e = cc

  -- ids that follow on do so in parts, and in a row
  pub follow_append : (p : Option (LogId NID)) (xs ys : List (LogId NID)) → follow_on p (xs ++ ys) ≡ (follow_on p xs && follow_on (last_or p xs) ys)
  follow_append p [] ys = refl
  follow_append p (x ∷ xs) ys = ap (λ b. follows p x.index && b) (follow_append (Some x) xs ys) ∙ assoc (follows p x.index) (follow_on (Some x) xs) (follow_on (last_or (Some x) xs) ys) where
    assoc : (a b c : Bool) → (a && (b && c)) ≡ ((a && b) && c)
    assoc true b c = refl
    assoc false b c = refl

  pub follow_more : (xs ys : List (LogId NID)) → follow_on None xs ≡ true → follow_on (last xs) ys ≡ true → follow_on None (xs ++ ys) ≡ true
  follow_more xs ys h k = follow_append None xs ys ∙ both_and _ _ h (ap (λ p. follow_on p ys) (sym (last_is xs)) ∙ k)

  pub follow_one : (p : Option (LogId NID)) (x : LogId NID) → follows p x.index ≡ true → follow_on p (x ∷ []) ≡ true
  follow_one p x h = both_and _ _ h refl

  take_follow : (p : Option (LogId NID)) (k : ℕ) (ids : List (LogId NID)) → follow_on p ids ≡ true → follow_on p (take k ids) ≡ true
  take_follow p zero [] h = refl
  take_follow p (suc k) [] h = refl
  take_follow p zero (x ∷ xs) h = refl
  take_follow p (suc k) (x ∷ xs) h =
      let q = and_both (follows p x.index) (follow_on (Some x) xs) h in
      both_and _ _ q.0 (take_follow (Some x) k xs q.1)

  -- a beginning of them follows on
  pub follow_take : (k : ℕ) (ids : List (LogId NID)) → follow_on None ids ≡ true → follow_on None (take k ids) ≡ true
  follow_take k ids h = take_follow None k ids h

  forget : (p : Option (LogId NID)) (ids : List (LogId NID)) → follow_on p ids ≡ true → follow_on None ids ≡ true
  forget p [] h = refl
  forget p (x ∷ xs) h = (and_both (follows p x.index) (follow_on (Some x) xs) h).1

  -- and so does an end of them
  pub follow_drop : (k : ℕ) (ids : List (LogId NID)) → follow_on None ids ≡ true → follow_on None (drop k ids) ≡ true
  follow_drop zero [] h = refl
  follow_drop (suc k) [] h = refl
  follow_drop zero (x ∷ xs) h = h
  follow_drop (suc k) (x ∷ xs) h = follow_drop k xs (forget (Some x) xs (and_both true (follow_on (Some x) xs) h).1)
