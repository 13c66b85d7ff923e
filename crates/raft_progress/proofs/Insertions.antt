-- A list that is in order but for one element is in order once that element has moved to the front as far as it belongs.
use Rattle.std.proofs.Common.{◌≡◌, ℕ, ◌+◌, ◌<◌, Bool, true, false, List, get_or, arith, ⊎_elim}
use Rattle.std.specs.List.{SwappedAt}
use Rattle.std.specs.List.Sorted.{IsSortedWithin}
use Rattle.std.proofs.lemmas.Bool.{cases_eq}

module _ {X : Type 0} (lt : X → X → Bool) where
  -- the first n are in order but for the one at `at`, which is in order with those after it
  pub record IsSettling (at n : ℕ) (xs : List X) : Type 0 where
    pub others : (k : ℕ) (d : X) → k + 1 < n → (k + 1 ≡ at → ⊥) → lt (get_or xs (k + 1) d) (get_or xs k d) ≡ false
    pub around : (k : ℕ) (d : X) → k + 1 ≡ at → at + 1 < n → lt (get_or xs (at + 1) d) (get_or xs k d) ≡ false

  -- it has changed places with the one before it, which it is less than
  pub settling_swapped : ((x y : X) → lt x y ≡ true → lt y x ≡ false) → (before at n : ℕ) (xs ys : List X) → before + 1 ≡ at → IsSettling at n xs → SwappedAt xs ys before at
      → ((d : X) → lt (get_or xs at d) (get_or xs before d) ≡ true) → IsSettling before n ys
  settling_swapped one_way before at n xs ys next was s less = record {
    others = λ k d below other.
        ⊎_elim (λ (e : k ≡ before). rw (e, next) (rw (s.1 d, s.0 d) (one_way (get_or xs at d) (get_or xs before d) (less d))))
        (λ (not_before : k ≡ before → ⊥). ⊎_elim
        (λ (e : k ≡ at). rw e (rw (s.1 d, s.2 (at + 1) d (λ h. absurd (omega (arith, h, next))) (λ h. absurd (omega (arith, h)))) (was.around before d next (omega (arith, e, below)))))
        (λ (not_at : k ≡ at → ⊥). rw (s.2 k d not_before not_at, s.2 (k + 1) d other (λ h. not_before (omega (arith, h, next)))) (was.others k d below (λ h. not_before (omega (arith, h, next)))))
        (cases_eq k at))
        (cases_eq k before);
    around = λ k d e below.
        rw (next, s.1 d, s.2 k d (λ h. absurd (omega (arith, h, e))) (λ h. absurd (omega (arith, h, e, next)))) (rw e at (was.others k d (omega (arith, e, below)) (λ h. absurd (omega (arith, h, e, next)))));
  }

  -- the first n are in order once it isn't less than the one before it, if there is one
  pub settled : (at n : ℕ) (xs : List X) → IsSettling at n xs → ((k : ℕ) (d : X) → k + 1 ≡ at → lt (get_or xs at d) (get_or xs k d) ≡ false) → IsSortedWithin lt xs 0 n
  settled at n xs was last k d from below = ⊎_elim (λ (e : k + 1 ≡ at). rw e (last k d e)) (λ (other : k + 1 ≡ at → ⊥). was.others k d below other) (cases_eq (k + 1) at)
