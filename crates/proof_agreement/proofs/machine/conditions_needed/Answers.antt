use Rattle.proof_agreement.proofs.LowTruncation.{low_truncation_differs}
use Rattle.proof_agreement.proofs.HastyMembership.{hasty_membership_differs}
use Rattle.proof_agreement.proofs.machine.conditions_needed.Goals as goal

pub returns-clause-low_truncation : goal.returns-clause-low_truncation
returns-clause-low_truncation c = low_truncation_differs

pub returns-clause-hasty_membership : goal.returns-clause-hasty_membership
returns-clause-hasty_membership c = hasty_membership_differs
