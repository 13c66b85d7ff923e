use Rattle.std.proofs.Common.{◌∙◌, sym, ap}
use Rattle.raft_steps.specs.RequestRefusals.{contradicts_accepted}
use Rattle.raft_steps.proofs.Named.{any_id}
use Rattle.raft_handler_follower.proofs.Looped.{any_more, any_here, any_over}
use Rattle.raft_handler_follower.proofs.request_refusals.entry_contradicts_accepted.Goals as goal

pub loop-entry-preserved : goal.loop-entry-preserved
loop-entry-preserved g c =
    any_more _ c.args.entries.now c.loop-entry.entry-index c.entry-item.result c.loop-entry-test.true c.entry-item.is (sym c.if-contradicts_accepted.false ∙ (c.contradicts_accepted.ensures ∙ ap (contradicts_accepted g.C.NodeId.Ord.cmp c.args.state.now c.args.vote.now) c.get_log_id.ensures)) c.loop-entry.invariant

pub returns-then-contradicts_accepted : goal.returns-then-contradicts_accepted
returns-then-contradicts_accepted g c =
    any_id (contradicts_accepted g.C.NodeId.Ord.cmp c.args.state.now c.args.vote.now) g.C.Entry.RaftEntry.id_of c.args.entries.now _
    (any_here _ c.args.entries.now c.loop-entry.entry-index c.entry-item.result c.loop-entry-test.true c.entry-item.is (sym c.if-contradicts_accepted.true ∙ (c.contradicts_accepted.ensures ∙ ap (contradicts_accepted g.C.NodeId.Ord.cmp c.args.state.now c.args.vote.now) c.get_log_id.ensures)) c.loop-entry.invariant)

pub returns : goal.returns
returns g c = any_id (contradicts_accepted g.C.NodeId.Ord.cmp c.args.state.now c.args.vote.now) g.C.Entry.RaftEntry.id_of c.args.entries.now _
    (any_over _ c.args.entries.now c.loop-entry.entry-index c.loop-entry-test.false c.loop-entry.invariant)
