-- The places of a whole log without gaps.
use Rattle.std.proofs.Common.{ℕ, zero, suc, ◌+◌, ◌-◌, ◌<◌, ◌≤◌, ◌≡◌, ⊎_elim, true, false, not, List, [], ◌∷◌, ◌++◌, length, map, take, drop, arith, refl, sym, ap, ◌∙◌, subst}
use Rattle.std.specs.Prelude.{◌&&◌, max, min, nat_le, nat_lt}
use Rattle.std.specs.Map.{values_of}
use Rattle.std.proofs.lemmas.Bool.{cases_lt}
use Rattle.std.proofs.lemmas.Bool.Decides.{nat_tests}
use Rattle.std.proofs.lemmas.List.{append-nil, drop-append-le, drop-drop, drop-take, drop_all, length-append, length-drop, length-map, length-take, take-append-le, take_all, take_min}
use Rattle.raft_state.specs.declared.config.RaftEntry
use Rattle.raft_state.specs.LogLaws.{IsRun}
use Rattle.raft_state.specs.Order.{next}
use Rattle.raft_store.specs.Store.{Store, between, past, whole, whole_upto, index_of}
use Rattle.raft_store.specs.Mirror.{IsGapless, keyed}
use Rattle.raft_store.proofs.Ranges.{between_none}

-- the front of two lists that reaches into the second, and what is left of them behind the first
module _ {X : Type 0} where
  take_into : (xs ys : List X) (n : ℕ) → take (length xs + n) (xs ++ ys) ≡ xs ++ take n ys
  take_into [] ys n = let e : 0 + n ≡ n = omega arith in ap (λ k. take k ys) e
  take_into (x ∷ xs) ys n = let e : length (x ∷ xs) + n ≡ suc (length xs + n) = omega arith in rw e (ap (λ zs. x ∷ zs) (take_into xs ys n))

  drop_into : (xs ys : List X) (n : ℕ) → drop (length xs + n) (xs ++ ys) ≡ drop n ys
  drop_into [] ys n = let e : 0 + n ≡ n = omega arith in ap (λ k. drop k ys) e
  drop_into (x ∷ xs) ys n = let e : length (x ∷ xs) + n ≡ suc (length xs + n) = omega arith in rw e (drop_into xs ys n)

  take_none : (n : ℕ) → ◌≡◌ {A = List X} (take n []) []
  take_none n = take_all {A = X} n [] (omega arith)

  drop_none : (n : ℕ) → ◌≡◌ {A = List X} (drop n []) []
  drop_none n = drop_all {X = X} n [] (omega arith)

  -- the front of a list is as long as it is
  pub take_own : (n : ℕ) (xs : List X) → take (length (take n xs)) xs ≡ take n xs
  take_own n xs = ap (λ k. take k xs) (length-take n xs) ∙ take_min n xs

below_test : (a i b : ℕ) → b ≤ i → (nat_le a i && nat_lt i b) ≡ false
below_test a i b h = grind (arith, nat_tests)

within_test : (a i b : ℕ) → a ≤ i → i < b → (nat_le a i && nat_lt i b) ≡ true
within_test a i b h l = grind (arith, nat_tests)

before_test : (a i b : ℕ) → i < a → (nat_le a i && nat_lt i b) ≡ false
before_test a i b h = grind (arith, nat_tests)

past_test : (i m : ℕ) → m ≤ i → not (nat_lt i m) ≡ true
past_test i m h = grind (arith, nat_tests)

under_test : (i m : ℕ) → i < m → not (nat_lt i m) ≡ false
under_test i m h = grind (arith, nat_tests)

module _ {NID N E : Type 0} (entry : RaftEntry.Ghosts E NID N) where
  none_below : (n a b : ℕ) (es : List E) → IsRun n (map entry.id_of es) → b ≤ n → between a b (keyed entry es) ≡ []
  none_below n a b [] r h = refl
  none_below n a b (e ∷ es) r h = rw (below_test a (index_of entry e) b (omega (arith, r.0))) (none_below (n + 1) a b es r.1 (omega arith))

  first_ones : (n a q : ℕ) (es : List E) → IsRun n (map entry.id_of es) → a ≤ n → between a (n + q) (keyed entry es) ≡ take q es
  first_ones n a q [] r h = sym (take_none q)
  first_ones n a zero (e ∷ es) r h = none_below n a (n + 0) (e ∷ es) r (omega arith)
  first_ones n a (suc q) (e ∷ es) r h =
      rw (within_test a (index_of entry e) (n + suc q) (omega (arith, r.0)) (omega (arith, r.0)))
      (ap (λ xs. e ∷ xs) (let k : n + suc q ≡ (n + 1) + q = omega arith in subst (λ m. between a m (keyed entry es) ≡ take q es) (sym k) (first_ones (n + 1) a q es r.1 (omega arith))))

  -- between two indexes stand the entries of those places
  places_between : (n p q : ℕ) (es : List E) → IsRun n (map entry.id_of es) → between (n + p) (n + q) (keyed entry es) ≡ drop p (take q es)
  places_between n p q [] r = sym (ap (drop p) (take_none q) ∙ drop_none p)
  places_between n zero q (e ∷ es) r = first_ones n (n + 0) q (e ∷ es) r (omega arith)
  places_between n (suc p) zero (e ∷ es) r = none_below n (n + suc p) (n + 0) (e ∷ es) r (omega arith)
  places_between n (suc p) (suc q) (e ∷ es) r =
      rw (before_test (n + suc p) (index_of entry e) (n + suc q) (omega (arith, r.0)))
      (let k : n + suc p ≡ (n + 1) + p = omega arith in let l : n + suc q ≡ (n + 1) + q = omega arith in
      subst (λ m. between m (n + suc q) (keyed entry es) ≡ drop p (take q es)) (sym k)
      (subst (λ m. between ((n + 1) + p) m (keyed entry es) ≡ drop p (take q es)) (sym l) (places_between (n + 1) p q es r.1)))

  all_past : (n m : ℕ) (es : List E) → IsRun n (map entry.id_of es) → m ≤ n → past m (keyed entry es) ≡ es
  all_past n m [] r h = refl
  all_past n m (e ∷ es) r h = rw (past_test (index_of entry e) m (omega (arith, r.0))) (ap (λ xs. e ∷ xs) (all_past (n + 1) m es r.1 (omega arith)))

  places_past : (n c : ℕ) (es : List E) → IsRun n (map entry.id_of es) → past (n + c) (keyed entry es) ≡ drop c es
  places_past n c [] r = sym (drop_none c)
  places_past n zero (e ∷ es) r = all_past n (n + 0) (e ∷ es) r (omega arith)
  places_past n (suc c) (e ∷ es) r =
      rw (under_test (index_of entry e) (n + suc c) (omega (arith, r.0))) (let k : n + suc c ≡ (n + 1) + c = omega arith in subst (λ m. past m (keyed entry es) ≡ drop c es) (sym k) (places_past (n + 1) c es r.1))

  module _ (t : Store NID N E) (h : IsGapless entry t) where
    -- what is stored past the snapshot
    past_is : (c : ℕ) → next t.front + c ≡ length t.snap → past (length t.snap) t.log ≡ drop c (values_of t.log)
    past_is c e = ap (past (length t.snap)) h.keys ∙ (ap (λ k. past k (keyed entry (values_of t.log))) (sym e) ∙ places_past (next t.front) c (values_of t.log) h.run)

    -- how long the whole log is
    pub whole_length : length (whole t) ≡ max (length t.snap) (next t.front + length t.log)
    whole_length =
        let c : ℕ = length t.snap - next t.front in
        let e : next t.front + c ≡ length t.snap = omega (arith, h.front) in
        let l : length (values_of t.log) ≡ length t.log = length-map t.log (λ p. p.1) in
        omega (arith, length-append t.snap (past (length t.snap) t.log), ap (λ es. length es) (past_is c e), length-drop c (values_of t.log), l, h.front)

    -- a part of the whole log: of the snapshot, and of what is stored past it
    pub whole_part : (from end : ℕ) → drop from (take end (whole t)) ≡ drop from (take end t.snap) ++ between (max from (length t.snap)) end t.log
    whole_part from end = ⊎_elim (λ l. within (omega (arith, l))) (λ l. beyond (end - length t.snap) (omega (arith, l))) (cases_lt end (length t.snap))
      where
        within : end ≤ length t.snap → drop from (take end (whole t)) ≡ drop from (take end t.snap) ++ between (max from (length t.snap)) end t.log
        within l =
            rw (between_none (max from (length t.snap)) end t.log (omega (arith, l)))
            (ap (drop from) (take-append-le end t.snap (past (length t.snap) t.log) l) ∙ sym (append-nil (drop from (take end t.snap))))

        beyond : (q : ℕ) → end ≡ length t.snap + q → drop from (take end (whole t)) ≡ drop from (take end t.snap) ++ between (max from (length t.snap)) end t.log
        beyond q e = ⊎_elim (λ l. short (omega (arith, l))) (λ l. long (from - length t.snap) (omega (arith, l))) (cases_lt from (length t.snap))
          where
            c : ℕ
            c = length t.snap - next t.front

            is : next t.front + (length t.snap - next t.front) ≡ length t.snap
            is = omega (arith, h.front)

            front : take end (whole t) ≡ t.snap ++ take q (drop c (values_of t.log))
            front =
                ap (λ k. take k (whole t)) e ∙ (take_into t.snap (past (length t.snap) t.log) q ∙ ap (λ es. t.snap ++ take q es) (past_is c is))

            snapshot : take end t.snap ≡ t.snap
            snapshot = take_all end t.snap (omega (arith, e))

            -- the stored entries from a place behind the snapshot
            rest : (p : ℕ) → between (length t.snap + p) end t.log ≡ drop p (take q (drop c (values_of t.log)))
            rest p =
                let a : length t.snap + p ≡ next t.front + (c + p) = omega (arith, is) in
                let b : end ≡ next t.front + (c + q) = omega (arith, is, e) in
                ap (between (length t.snap + p) end) h.keys
                ∙ (ap (λ k. between k end (keyed entry (values_of t.log))) a
                ∙ (ap (λ k. between (next t.front + (c + p)) k (keyed entry (values_of t.log))) b
                ∙ (places_between (next t.front) (c + p) (c + q) (values_of t.log) h.run
                ∙ (sym (drop-drop p c (take (c + q) (values_of t.log))) ∙ ap (drop p) (drop-take c q (values_of t.log))))))

            short : from ≤ length t.snap → drop from (take end (whole t)) ≡ drop from (take end t.snap) ++ between (max from (length t.snap)) end t.log
            short l =
                let m : max from (length t.snap) ≡ length t.snap + 0 = omega (arith, l) in
                ap (drop from) front ∙ (drop-append-le from t.snap (take q (drop c (values_of t.log))) l
                ∙ (ap (λ es. drop from t.snap ++ es) (sym (rest 0)) ∙ (ap (λ k. drop from t.snap ++ between k end t.log) (sym m)
                ∙ ap (λ es. drop from es ++ between (max from (length t.snap)) end t.log) (sym snapshot))))

            long : (p : ℕ) → from ≡ length t.snap + p → drop from (take end (whole t)) ≡ drop from (take end t.snap) ++ between (max from (length t.snap)) end t.log
            long p f =
                let m : max from (length t.snap) ≡ length t.snap + p = omega (arith, f) in
                let z : drop from (take end t.snap) ≡ [] = ap (drop from) snapshot ∙ drop_all from t.snap (omega (arith, f)) in
                ap (drop from) front ∙ (ap (λ k. drop k (t.snap ++ take q (drop c (values_of t.log)))) f ∙ (drop_into t.snap (take q (drop c (values_of t.log))) p
                ∙ (sym (rest p) ∙ (ap (λ k. between k end t.log) (sym m) ∙ ap (λ es. es ++ between (max from (length t.snap)) end t.log) (sym z)))))

-- how long the whole log is up to an index
pub upto_length : {NID N E : Type 0} (t : Store NID N E) (i n : ℕ) → n ≡ min (i + 1) (length (whole t)) → n ≡ length (whole_upto t i)
upto_length t i n e = e ∙ sym (length-take (i + 1) (whole t))
