-- Steps until one is done.
use Rattle.std.specs.Prelude.{ℕ, Bool, if◌then◌else◌}
use Rattle.std.proofs.Common.{suc, zero}

module _ {S : Type 0} (done : S → Bool) (step : S → S) where
  -- steps until one is done, at most so many
  abbrev pub until : ℕ → S → S
  until zero s = s
  until (suc n) s = if done s then s else until n (step s)
