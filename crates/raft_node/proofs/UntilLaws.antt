-- Laws of steps until one is done.
use Rattle.std.specs.Prelude.{ℕ, Bool, true, false, ◌≡◌, ◌<◌, ◌≤◌, refl}
use Rattle.std.proofs.Common.{arith, ◌∙◌, sym, suc, zero}
use Rattle.raft_node.specs.Until.{until}

module _ {S : Type 0} (done : S → Bool) (step : S → S) where
  -- where one is done there is no step
  pub until-done : (n : ℕ) (s : S) → done s ≡ true → until done step n s ≡ s
  until-done zero s d = refl
  until-done (suc n) s d = rw d refl

  -- a step is the next, or there is none
  next : (n : ℕ) (s : S) (P : S → Type 0) → (done s ≡ true → P s) → (done s ≡ false → P (until done step n (step s))) → P (until done step (suc n) s)
  next n s P here there = go (done s) refl
    where
      go : (b : Bool) → done s ≡ b → P (until done step (suc n) s)
      go true d = rw d (here d)
      go false d = rw d (there d)

  -- what each step keeps
  pub until-keeps : (P : S → Type 0) → ((s : S) → done s ≡ false → P s → P (step s)) → (n : ℕ) (s : S) → P s → P (until done step n s)
  until-keeps P keep zero s p = p
  until-keeps P keep (suc n) s p = next n s P (λ d. p) (λ d. until-keeps P keep n (step s) (keep s d p))

module _ {S : Type 0} (done : S → Bool) (step : S → S) (weight : S → ℕ)
    (falls : (s : S) → done s ≡ false → weight (step s) < weight s) where
  at_zero : (s : S) → weight s ≤ 0 → done s ≡ true
  at_zero s le = go (done s) refl
    where
      go : (b : Bool) → done s ≡ b → done s ≡ true
      go true d = d
      go false d = let f : weight (step s) < weight s = falls s d in absurd (omega arith)

  -- so many steps as the weight are enough
  pub until-ends : (n : ℕ) (s : S) → weight s ≤ n → done (until done step n s) ≡ true
  until-ends zero s le = at_zero s le
  until-ends (suc n) s le =
      next done step n s (λ t. done t ≡ true) (λ d. d)
      (λ d. let f : weight (step s) < weight s = falls s d in until-ends n (step s) (omega arith))

  -- more change nothing
  pub until-enough : (n m : ℕ) (s : S) → weight s ≤ n → weight s ≤ m → until done step n s ≡ until done step m s
  until-enough zero m s le me = sym (until-done done step m s (at_zero s le))
  until-enough (suc n) zero s le me = until-done done step (suc n) s (at_zero s me)
  until-enough (suc n) (suc m) s le me =
      both (done s) refl (λ d. let f : weight (step s) < weight s = falls s d in until-enough n m (step s) (omega arith) (omega arith))
    where
      both : (b : Bool) → done s ≡ b → (done s ≡ false → until done step n (step s) ≡ until done step m (step s))
          → until done step (suc n) s ≡ until done step (suc m) s
      both true d same = rw d refl
      both false d same = rw d (same d)

  -- after a step the same is left to come
  pub until-step : (s : S) → done s ≡ false → until done step (weight (step s)) (step s) ≡ until done step (weight s) s
  until-step s d = go (weight s) refl
    where
      go : (n : ℕ) → weight s ≡ n → until done step (weight (step s)) (step s) ≡ until done step n s
      go zero w = let f : weight (step s) < weight s = falls s d in absurd (omega arith)
      go (suc n) w =
          let f : weight (step s) < weight s = falls s d in
          let le : weight (step s) ≤ n = omega arith in
          let same : until done step (weight (step s)) (step s) ≡ until done step n (step s) = until-enough (weight (step s)) n (step s) (omega arith) le in
          let one : until done step (suc n) s ≡ until done step n (step s) = rw d refl in
          same ∙ sym one
