-- The entries between two indexes, as a map's range gives them.
use Rattle.std.specs.Prelude.{ℕ, ◌≡◌, ◌+◌, Bool, false, true, not, ◌&&◌, List, [], ◌∷◌, filter, length, nat_eq, nat_le, nat_lt, ◌≤◌, refl}
use Rattle.std.proofs.lemmas.List.{nil_from_length}
use Rattle.std.proofs.Common.{ap, arith, map, Bor}
use Rattle.std.specs.Map.Iter.{deref_pair}
use Rattle.raft_store.specs.declared.entry.Entry.{Entry}
use Rattle.std.specs.List.{AllByRecursion}
use Rattle.std.specs.Ordering.{nat_cmp, is_gt, is_le, is_lt}
use Rattle.std.specs.Map.{values_of}
use Rattle.std.specs.BTreeMap.Range.{IsLeBy, entries_between, range_contains}
use Rattle.std.specs.declared.ops.Bound.TheVariants.{Excluded, Included, Unbounded}
use Rattle.std.proofs.lemmas.Bool.Decides.{nat_tests}
use Rattle.raft_store.specs.Starting.{entries_of}
use Rattle.raft_store.specs.Store.{between, past}

le_test : (a b : ℕ) → is_le (nat_cmp a b) ≡ nat_le a b
le_test a b = grind (arith, nat_tests)

lt_test : (a b : ℕ) → is_lt (nat_cmp a b) ≡ nat_lt a b
lt_test a b = grind (arith, nat_tests)

upto_test : (a b : ℕ) → not (nat_lt a b) ≡ nat_lt b (a + 1)
upto_test a b = grind (arith, nat_tests)

same_test : (from last q : ℕ) → range_contains nat_cmp (Included from) (Included last) q ≡ (nat_le from q && nat_lt q (last + 1))
same_test from last q = rw (le_test from q, lt_test last q, upto_test last q) refl

-- filters of tests that agree
filter-same : {X : Type 0} (p q : X → Bool) → ((x : X) → p x ≡ q x) → (xs : List X) → filter p xs ≡ filter q xs
filter-same p q same [] = refl
filter-same p q same (x ∷ xs) = rw (same x, filter-same p q same xs) refl

-- the values that a range of a map gives
pub range-between : {E : Type 0} (from last : ℕ) (log : List (ℕ × E)) → values_of (entries_between nat_cmp (Included from) (Included last) log) ≡ between from (last + 1) log
range-between from last log =
    ap values_of (filter-same (λ p. range_contains nat_cmp (Included from) (Included last) p.0) (λ p. nat_le from p.0 && nat_lt p.0 (last + 1)) (λ p. same_test from last p.0) log)

before_test : (a b : ℕ) → not (nat_le a b) ≡ nat_lt b a
before_test a b = grind (arith, nat_tests)

same_upto : (from end q : ℕ) → range_contains nat_cmp (Included from) (Excluded end) q ≡ (nat_le from q && nat_lt q end)
same_upto from end q = rw (le_test from q, le_test end q, before_test end q) refl

-- and of one whose last is left out
pub range-upto : {E : Type 0} (from end : ℕ) (log : List (ℕ × E)) → values_of (entries_between nat_cmp (Included from) (Excluded end) log) ≡ between from end log
range-upto from end log =
    ap values_of (filter-same (λ p. range_contains nat_cmp (Included from) (Excluded end) p.0) (λ p. nat_le from p.0 && nat_lt p.0 end) (λ p. same_upto from end p.0) log)

no_test : (from end q : ℕ) → end ≤ from → (nat_le from q && nat_lt q end) ≡ false
no_test from end q h = grind (arith, nat_tests)

-- no entry stands between an index and one at or below it
pub between_none : {E : Type 0} (from end : ℕ) (log : List (ℕ × E)) → end ≤ from → between from end log ≡ []
between_none from end [] h = refl
between_none from end (x ∷ log) h = rw (no_test from end x.0 h) (between_none from end log h)

past_test : (from q : ℕ) → range_contains nat_cmp (Included from) Unbounded q ≡ not (nat_lt q from)
past_test from q = grind (arith, nat_tests)

-- the values that an open range gives
pub range-past : {E : Type 0} (from : ℕ) (log : List (ℕ × E)) → values_of (entries_between nat_cmp (Included from) Unbounded log) ≡ past from log
range-past from log = ap values_of (filter-same (λ p. range_contains nat_cmp (Included from) Unbounded p.0) (λ p. not (nat_lt p.0 from)) (λ p. past_test from p.0) log)

-- a list whose length is tested to be 0
zero_is : (n : ℕ) → nat_eq n 0 ≡ true → n ≡ 0
zero_is n h = grind (arith, nat_tests)

pub none_left : {X : Type 0} (xs : List X) → nat_eq (length xs) 0 ≡ true → xs ≡ []
none_left xs h = nil_from_length xs (zero_is (length xs) h)

-- the values of what an iterator shows
pub shown_values : (xs : List (Bor ℕ × Bor Entry)) → map (λ p. p.1.now) xs ≡ values_of (map deref_pair xs)
shown_values [] = refl
shown_values (x ∷ xs) = ap (λ es. x.1.now ∷ es) (shown_values xs)

pub entries_shown : (xs : List (Bor ℕ × Bor Entry)) → entries_of (map (λ p. p.1) xs) ≡ values_of (map deref_pair xs)
entries_shown [] = refl
entries_shown (x ∷ xs) = ap (λ es. x.1.now ∷ es) (entries_shown xs)

-- entries whose keys are all above an index
above_test : (upto first q : ℕ) → nat_le first upto ≡ false → is_gt (nat_cmp first q) ≡ false → nat_lt upto q ≡ true
above_test upto first q more le = grind (arith, nat_tests)

pub all_above : {E : Type 0} (upto first : ℕ) (log : List (ℕ × E)) → nat_le first upto ≡ false
    → AllByRecursion (IsLeBy nat_cmp first) (map (λ p. p.0) log) → filter (λ p. nat_lt upto p.0) log ≡ log
all_above upto first [] more le = refl
all_above upto first (x ∷ log) more le = rw (above_test upto first x.0 more le.0) (ap (λ ys. x ∷ ys) (all_above upto first log more le.1))
