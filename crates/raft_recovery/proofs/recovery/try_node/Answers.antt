use Rattle.std.proofs.Common.{◌∙◌, ap, sym}
use Rattle.std.specs.Prelude.{is_some}
use Rattle.raft_recovery.proofs.Trying.{not_elected}
use Rattle.raft_recovery.proofs.recovery.try_node.Goals as goal

pub returns-in-None-clause-none : goal.returns-in-None-clause-none
returns-in-None-clause-none c =
    λ _ _.
    not_elected c.args.world.now.given c.args.world.now.history.net c.args.up.now c.args.value.now c.args.id
    (sym (ap is_some c.in-None.is) ∙ c.in_ok-candidate_at.ensures.exact)

pub try_candidate-requires : goal.try_candidate-requires
try_candidate-requires c = rw c.in-Some.is at c.in_ok-candidate_at.ensures.found
