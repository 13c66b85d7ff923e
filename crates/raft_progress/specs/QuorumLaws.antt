-- Lemmas: ids ascend, what contains a quorum is one, two quorums meet. Nothing here has to be believed.
use Rattle.std.specs.Prelude.{ℕ, Bool, true, false, List, [], ◌∷◌, length, ◌≡◌, ◌+◌, ◌<◌, ◌≤◌, ◌*◌, ◌/◌, nat_lt, ◌&&◌, count_by, Contains, refl, cond}
use Rattle.std.specs.List.Sorted.{IsStrictlySortedBy}
use Rattle.std.specs.Cmp.{IsTotalOrder, eq_by_cmp_equiv, both_ways}
use Rattle.std.specs.Ordering.{eq_by_cmp}
use Rattle.std.specs.declared.cmp.Ordering.{Ordering}
use Rattle.std.specs.declared.cmp.Ordering.TheVariants.{Equal}
use Rattle.std.proofs.Common.{arith}
use Rattle.std.proofs.lemmas.Bool.{ltb-true, lt-ltb}
use Rattle.std.proofs.lemmas.List.Recursion.{is_count_by}
use Rattle.std.proofs.lemmas.Map.Views.{Contains-from_any, list_any-from_Contains, tells_apart}
use Rattle.raft_state.specs.Sorted.{has_id}
use Rattle.raft_state.proofs.Groups.{group_ascends}
use Rattle.raft_progress.specs.Quorum.{joined, is_majority, is_quorum, ids_of}

-- the ids of groups ascend, each once
pub ids_ascend : {ID : Type 0} (cmp : ID → ID → Ordering) → IsTotalOrder cmp → (groups : List (List ID)) → IsStrictlySortedBy cmp (ids_of cmp groups)
ids_ascend cmp total groups = group_ascends cmp total (joined groups)

-- how many pass
tally : {A : Type 0} → (A → Bool) → List A → ℕ
tally p [] = 0
tally p (x ∷ xs) = cond (p x) (1 + tally p xs) (tally p xs)

tally_is : {A : Type 0} (p : A → Bool) (xs : List A) → tally p xs ≡ count_by p xs
unfolding tally
tally_is p xs = is_count_by (tally p) p refl (λ x xs. refl) xs

rising_step : (a b : Bool) → (a ≡ true → b ≡ true) → (m n : ℕ) → m ≤ n → cond a (1 + m) m ≤ cond b (1 + n) n
rising_step true true h m n le = omega arith
rising_step true false h m n le = let e : false ≡ true = h refl in cc
rising_step false true h m n le = omega arith
rising_step false false h m n le = le

-- a weaker test passes at least as many
tally_rises : {A : Type 0} (p q : A → Bool) → ((i : A) → p i ≡ true → q i ≡ true) → (xs : List A) → tally p xs ≤ tally q xs
unfolding tally
tally_rises p q h [] = omega arith
tally_rises p q h (x ∷ xs) = rising_step (p x) (q x) (h x) (tally p xs) (tally q xs) (tally_rises p q h xs)

common_step :
    {A : Type 0} (p q : A → Bool) (x : A) (xs : List A) (a b : Bool) → p x ≡ a → q x ≡ b
    → (length xs < tally p xs + tally q xs → (i : A) × (p i ≡ true) × (q i ≡ true))
    → length (x ∷ xs) < cond a (1 + tally p xs) (tally p xs) + cond b (1 + tally q xs) (tally q xs)
    → (i : A) × (p i ≡ true) × (q i ≡ true)
common_step p q x xs true true e f rest h = (x, e, f)
common_step p q x xs true false e f rest h = rest (omega arith)
common_step p q x xs false true e f rest h = rest (omega arith)
common_step p q x xs false false e f rest h = rest (omega arith)

-- if two tests pass more than there are, both pass at one
common : {A : Type 0} (p q : A → Bool) (xs : List A) → length xs < tally p xs + tally q xs → (i : A) × (p i ≡ true) × (q i ≡ true)
unfolding tally
common p q [] h = absurd (omega arith)
common p q (x ∷ xs) h = common_step p q x xs (p x) (q x) refl refl (λ k. common p q xs k) h

and_parts : (a b : Bool) → (a && b) ≡ true → (a ≡ true) × (b ≡ true)
and_parts true b h = (refl, h)
and_parts false b h = let e : false ≡ true = h in cc

module _ {ID : Type 0} (cmp : ID → ID → Ordering) (exact : (a b : ID) → cmp a b ≡ Equal → a ≡ b) where
  -- an id that is had is contained
  pub contains_from_has : (ids : List ID) (id : ID) → has_id cmp ids id ≡ true → Contains ids id
  contains_from_has ids id h = Contains-from_any {eq = eq_by_cmp cmp} (tells_apart exact) id ids h

  -- two majorities of a group have a common id
  majorities_meet : (group one other : List ID) → is_majority cmp group one ≡ true → is_majority cmp group other ≡ true → (id : ID) × Contains one id × Contains other id
  majorities_meet group one other h k =
      let p = ltb-true _ _ h in
      let q = ltb-true _ _ k in
      let c = common (has_id cmp one) (has_id cmp other) group (omega (arith, p, q, tally_is (has_id cmp one) group, tally_is (has_id cmp other) group)) in
      (c.0, contains_from_has one c.0 c.1, contains_from_has other c.0 c.2)

  -- if the groups have ids, two quorums have a common one
  pub quorums_meet : (groups : List (List ID)) (one other : List ID) → 0 < length (ids_of cmp groups) → is_quorum cmp groups one ≡ true → is_quorum cmp groups other ≡ true → (id : ID) × Contains one id × Contains other id
  quorums_meet [] one other some h k = absurd (omega arith)
  quorums_meet (group ∷ groups) one other some h k =
      majorities_meet group one other
      (and_parts (is_majority cmp group one) (is_quorum cmp groups one) h).0
      (and_parts (is_majority cmp group other) (is_quorum cmp groups other) k).0

  module _ (total : IsTotalOrder cmp) where
    -- and the converse
    pub has_from_contains : (ids : List ID) (id : ID) → Contains ids id → has_id cmp ids id ≡ true
    has_from_contains ids id c = list_any-from_Contains {eq = eq_by_cmp cmp} (eq_by_cmp_equiv total) id ids c

    majority_grows : (group few many : List ID) → ((id : ID) → Contains few id → Contains many id) → is_majority cmp group few ≡ true → is_majority cmp group many ≡ true
    majority_grows group few many within h =
        let p = ltb-true _ _ h in
        let m = tally_rises (has_id cmp few) (has_id cmp many) (λ id e. has_from_contains many id (within id (contains_from_has few id e))) group in
        lt-ltb _ _ (omega (arith, p, m, tally_is (has_id cmp few) group, tally_is (has_id cmp many) group))

    -- ids that contain a quorum are a quorum
    pub quorum_grows : (groups : List (List ID)) (few many : List ID) → ((id : ID) → Contains few id → Contains many id) → is_quorum cmp groups few ≡ true → is_quorum cmp groups many ≡ true
    quorum_grows [] few many within h = refl
    quorum_grows (group ∷ groups) few many within h =
        let parts = and_parts (is_majority cmp group few) (is_quorum cmp groups few) h in
        let first : is_majority cmp group many ≡ true = majority_grows group few many within parts.0 in
        rw first (quorum_grows groups few many within parts.1)

-- more than the half, rounded down, is more than half
pub half_exceeded : (n held : ℕ) → nat_lt (n / 2) held ≡ nat_lt n (2 * held)
half_exceeded n held = both_ways _ _ (λ e. lt-ltb _ _ (omega (arith, ltb-true _ _ e))) (λ e. lt-ltb _ _ (omega (arith, ltb-true _ _ e)))
