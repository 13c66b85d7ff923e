use Rattle.std.proofs.Common.{None, subst, sym, ◌≡◌, ◌∙◌}
use Rattle.raft_node.specs.Events.{skip_reason}
use Rattle.proof_packed.specs.Nodes.{PackedNode, without_store}
use Rattle.raft_packed_node.proofs.Ready.{skip_at}
use Rattle.raft_packed_node.proofs.node.Node.begin.Goals as goal

pub call-requires-clause-taken : goal.call-requires-clause-taken
call-requires-clause-taken g c =
    let app = g.M.Machine.application in
    subst (λ (n : PackedNode g.row.M.Denot). skip_reason c.args.act.now (without_store app (record n { moment = c.args.moment })) ≡ None) (sym c.self.view_is)
    (skip_at app c.args.act.now c.args.self.now c.args.moment ∙ c.requires.taken)
