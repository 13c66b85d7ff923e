use Rattle.std.proofs.Common.{◌∙◌, ap}
use Rattle.raft_node.specs.declared.given.Given.{Given}
use Rattle.raft_recovery.proofs.Played.{made_same}
use Rattle.raft_recovery.proofs.scratch.empty_world.Goals as goal

pub returns-clause-empty : goal.returns-clause-empty
returns-clause-empty c =
    let same = c.given-given.ensures.given in
    made_same c.args.world.now.given c.as_slice.result.now c.in_ok-membership.membership c.given-given.result.now.settings c.in_ok-new.field-0
    (c.as_slice.ensures ∙ ap (λ (g : Given). g.ids) same)
    (c.in_ok-membership.ensures ∙ ap (λ (g : Given). g.membership) same) (ap (λ (g : Given). g.settings) same) c.in_ok-new.ensures.1
