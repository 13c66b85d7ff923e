-- Which numbers fit.
use Rattle.std.proofs.Common.{◌≡◌, Some, None, Option, refl, ap, sym}
use Rattle.std.specs.Prelude.{ℤ, FitsSigned}
use Rattle.std.specs.Int.{w64}
use Rattle.std.specs.Option.{SomeIff}
use Rattle.raft_machine.proofs.Runs.{fits_true, fits_false}
use Rattle.raft_requests.specs.Times.{fitting}

-- a checked result is what fits
pub fitting_is : (o : Option ℤ) (z : ℤ) → SomeIff o (FitsSigned w64 z) z → fitting z ≡ o
fitting_is None z h = rw (fits_false z h) refl
fitting_is (Some y) z h = rw (fits_true z h.0) (ap Some (sym h.1))
