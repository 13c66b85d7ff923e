use Rattle.std.proofs.Common.{None, subst, sym, ◌≡◌, ◌∙◌}
use Rattle.raft_node.specs.Events.{skip_reason}
use Rattle.raft_node.specs.Net.{NodeView}
use Rattle.raft_node.proofs.Ready.{skip_moved}
use Rattle.raft_node.proofs.node.Node.begin.Goals as goal

pub call-requires-clause-taken : goal.call-requires-clause-taken
call-requires-clause-taken c =
    subst (λ (n : NodeView). skip_reason c.args.act.now (record n { moment = c.args.moment }) ≡ None) (sym c.self.view_is)
    (skip_moved c.args.act.now c.args.self.now c.args.moment ∙ c.requires.taken)
