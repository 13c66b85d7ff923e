use Rattle.std.proofs.Common.{Some, ap, subst, sym, ◌≡◌, ◌∙◌}
use Rattle.raft_calls.specs.Held.{IsRestingWhereRunning}
use Rattle.proof_packed.specs.Nodes.{PackedNode, PackedRecords}
use Rattle.raft_packed_server.specs.declared.serving.Serving.{Serving}
use Rattle.raft_packed_server.specs.Views.{RestsWhereServing, ServerView}
use Rattle.raft_packed_server.proofs.Waiting.{flush_stands, released_node}
use Rattle.raft_packed_server.proofs.server.Server.flushed.Goals as goal

pub returns-clause-flushes : goal.returns-clause-flushes
returns-clause-flushes g c = λ s is.
    let v = c.in-Some.serving in
    let serves : c.args.self.now.serving ≡ Some v =
    ap (λ (w : ServerView g.row.M.Denot). w.serving) (sym c.self.view_is) ∙ c.in-Some.is in
    flush_stands g.M.Machine.application s c.args.self.now.serving v serves is c.args.position
    c.release.result c.release.new.serving c.release.ensures

-- what leaves takes nothing of the node
pub invariant_of-self-2 : goal.invariant_of-self-2
invariant_of-self-2 g c =
    let v = c.in-Some.serving in
    let rests : IsRestingWhereRunning v.node.engine = subst RestsWhereServing c.in-Some.is c.self.invariant in
    subst (λ (n : PackedNode g.row.M.Denot). IsRestingWhereRunning n.engine)
    (sym (ap (λ (p : PackedRecords g.row.M.Denot × Serving g.row.M.Denot). p.1.node) c.release.ensures ∙ released_node c.args.position v)) rests
