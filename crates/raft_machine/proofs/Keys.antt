-- Keys compare as the numbers that their first bytes are, if these differ.
use Rattle.std.proofs.Common.{◌≡◌, ℕ, zero, suc, ◌+◌, ◌*◌, ◌^◌, ◌<◌, ◌≤◌, List, [], ◌∷◌, length, refl, sym, ap, ◌∙◌, arith}
use Rattle.std.specs.Ordering.{nat_cmp, ordering_then, ordering_reverse, is_eq}
use Rattle.std.specs.declared.cmp.Ordering.{Ordering}
use Rattle.std.specs.declared.cmp.Ordering.TheVariants.{Less, Equal, Greater}
use Rattle.std.specs.Cmp.{ranked, nat_cmp_is}
use Rattle.std.specs.Cmp.Lexicographic.{slice_cmp, nat_list_cmp_total}
use Rattle.raft_machine.specs.Cursors.{AreBytes, AreHeads, leading}
use Rattle.raft_machine.proofs.Digits.{above as apart, leading-below, leading_next, leading-rises}
use Rattle.raft_machine.proofs.Tables.{same_bytes}

-- a key whose first bytes are a smaller number is less
below : (n : ℕ) (j k : List ℕ) → leading n j < leading n k → slice_cmp nat_cmp j k ≡ Less
below n j k h =
    elim (slice_cmp nat_cmp j k) as (λ o. slice_cmp nat_cmp j k ≡ o → o ≡ Less) [
      | Less ↦ λ o. refl
      | Equal ↦ λ o. let same : leading n j ≡ leading n k = ap (leading n) (same_bytes j k (ap is_eq o)) in absurd (omega arith)
      | Greater ↦ λ o.
          let turned : slice_cmp nat_cmp k j ≡ Less = nat_list_cmp_total.antisymm k j ∙ ap ordering_reverse o in
          let rises = leading-rises n k j turned in
          absurd (omega arith)
    ] refl

above : (n : ℕ) (j k : List ℕ) → leading n k < leading n j → slice_cmp nat_cmp j k ≡ Greater
above n j k h = nat_list_cmp_total.antisymm j k ∙ ap ordering_reverse (below n k j h)

-- two numbers of eight bytes compare as the number that both are
first_less : (f s g t : ℕ) (j k : List ℕ) → s < 2 ^ 64 → AreHeads f s j → AreHeads g t k → f < g → slice_cmp nat_cmp j k ≡ Less
first_less f s g t j k small a b h = below 16 j k (omega arith)

first_greater : (f s g t : ℕ) (j k : List ℕ) → t < 2 ^ 64 → AreHeads f s j → AreHeads g t k → g < f → slice_cmp nat_cmp j k ≡ Greater
first_greater f s g t j k small a b h = above 16 j k (omega arith)

second_less : (f s g t : ℕ) (j k : List ℕ) → AreHeads f s j → AreHeads g t k → f ≡ g → s < t → slice_cmp nat_cmp j k ≡ Less
second_less f s g t j k a b e h = below 16 j k (omega arith)

second_greater : (f s g t : ℕ) (j k : List ℕ) → AreHeads f s j → AreHeads g t k → f ≡ g → t < s → slice_cmp nat_cmp j k ≡ Greater
second_greater f s g t j k a b e h = above 16 j k (omega arith)

-- heads that differ tell how the keys compare
pub by_first : (f s g t : ℕ) (j k : List ℕ) (r : Ordering) → s < 2 ^ 64 → t < 2 ^ 64 → AreHeads f s j → AreHeads g t k → r ≡ nat_cmp f g → (r ≡ Equal → ⊥) → r ≡ slice_cmp nat_cmp j k
by_first f s g t j k Less small_s small_t a b e other = sym (first_less f s g t j k small_s a b (ranked f g Less e))
by_first f s g t j k Equal small_s small_t a b e other = absurd (other refl)
by_first f s g t j k Greater small_s small_t a b e other = sym (first_greater f s g t j k small_t a b (ranked f g Greater e))

pub by_second : (f s g t : ℕ) (j k : List ℕ) (r : Ordering) → AreHeads f s j → AreHeads g t k → Equal ≡ nat_cmp f g → r ≡ nat_cmp s t → (r ≡ Equal → ⊥) → r ≡ slice_cmp nat_cmp j k
by_second f s g t j k Less a b same e other = sym (second_less f s g t j k a b (ranked f g Equal same) (ranked s t Less e))
by_second f s g t j k Equal a b same e other = absurd (other refl)
by_second f s g t j k Greater a b same e other = sym (second_greater f s g t j k a b (ranked f g Equal same) (ranked s t Greater e))

-- ---- short keys

same_digits : (P a b l m : ℕ) → l < P → m < P → a * P + l ≡ b * P + m → a ≡ b
same_digits P a b l m hl hm e =
    elim (nat_cmp a b) as (λ o. o ≡ nat_cmp a b → a ≡ b) [
      | Less ↦ λ o. let far = apart a b P (ranked a b Less o) in absurd (omega arith)
      | Equal ↦ λ o. ranked a b Equal o
      | Greater ↦ λ o. let far = apart b a P (ranked a b Greater o) in absurd (omega arith)
    ] refl

-- keys of no more than n bytes that are the same number have the same bytes, but for zeros at an end
pub short : (n : ℕ) (j k : List ℕ) → AreBytes j → AreBytes k → length j ≤ n → length k ≤ n → leading n j ≡ leading n k → nat_cmp (length j) (length k) ≡ slice_cmp nat_cmp j k
short n [] [] a b l m e = refl
short n [] (y ∷ k) a b l m e = sym (nat_cmp_is 0 (length (y ∷ k)) Less (omega arith))
short n (x ∷ j) [] a b l m e = sym (nat_cmp_is (length (x ∷ j)) 0 Greater (omega arith))
short zero (x ∷ j) (y ∷ k) a b l m e = absurd (omega arith)
short (suc n) (x ∷ j) (y ∷ k) a b l m e =
    let P = 256 ^ n in
    let one : leading (suc n) (x ∷ j) ≡ x * P + leading n j = leading_next n (x ∷ j) a.0 in
    let other : leading (suc n) (y ∷ k) ≡ y * P + leading n k = leading_next n (y ∷ k) b.0 in
    let same : x ≡ y = same_digits P x y (leading n j) (leading n k) (leading-below n j) (leading-below n k) (sym one ∙ e ∙ other) in
    let product : x * P ≡ y * P = ap (λ (z : ℕ). z * P) same in
    let rest : leading n j ≡ leading n k = let s : x * P + leading n j ≡ y * P + leading n k = sym one ∙ e ∙ other in omega arith in
    let level : Equal ≡ nat_cmp x y = nat_cmp_is x y Equal same in
    nat_cmp-suc (length j) (length k) ∙ short n j k a.1 b.1 (omega arith) (omega arith) rest ∙ ap (λ o. ordering_then o (slice_cmp nat_cmp j k)) level
  where
    nat_cmp-suc : (p q : ℕ) → nat_cmp (suc p) (suc q) ≡ nat_cmp p q
    nat_cmp-suc p q = elim (nat_cmp p q) as (λ o. o ≡ nat_cmp p q → nat_cmp (suc p) (suc q) ≡ o) [
      | Less ↦ λ o. let h = ranked p q Less o in sym (nat_cmp_is (suc p) (suc q) Less (omega arith))
      | Equal ↦ λ o. let h = ranked p q Equal o in sym (nat_cmp_is (suc p) (suc q) Equal (omega arith))
      | Greater ↦ λ o. let h = ranked p q Greater o in sym (nat_cmp_is (suc p) (suc q) Greater (omega arith))
    ] refl
