use Rattle.std.proofs.Common.{◌∙◌, sym, ap}
use Rattle.raft_steps.specs.RequestRefusals.{contradicts_committed}
use Rattle.raft_steps.proofs.Named.{any_id}
use Rattle.raft_handler_follower.proofs.Looped.{any_more, any_here, any_over}
use Rattle.raft_handler_follower.proofs.request_refusals.any_contradicts_committed.Goals as goal

pub loop-entry-preserved : goal.loop-entry-preserved
loop-entry-preserved g c =
    any_more _ c.args.entries.now c.loop-entry.entry-index c.entry-item.result c.loop-entry-test.true c.entry-item.is (sym c.if-contradicts_committed.false ∙ (c.contradicts_committed.ensures ∙ ap (contradicts_committed g.C.NodeId.Ord.cmp c.args.state.now) c.get_log_id.ensures)) c.loop-entry.invariant

pub returns-then-contradicts_committed : goal.returns-then-contradicts_committed
returns-then-contradicts_committed g c =
    any_id (contradicts_committed g.C.NodeId.Ord.cmp c.args.state.now) g.C.Entry.RaftEntry.id_of c.args.entries.now _
    (any_here _ c.args.entries.now c.loop-entry.entry-index c.entry-item.result c.loop-entry-test.true c.entry-item.is (sym c.if-contradicts_committed.true ∙ (c.contradicts_committed.ensures ∙ ap (contradicts_committed g.C.NodeId.Ord.cmp c.args.state.now) c.get_log_id.ensures)) c.loop-entry.invariant)

pub returns : goal.returns
returns g c = any_id (contradicts_committed g.C.NodeId.Ord.cmp c.args.state.now) g.C.Entry.RaftEntry.id_of c.args.entries.now _
    (any_over _ c.args.entries.now c.loop-entry.entry-index c.loop-entry-test.false c.loop-entry.invariant)
