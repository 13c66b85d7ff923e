use Rattle.std.proofs.Common.{◌∙◌, sym, ap}
use Rattle.raft_steps.specs.RequestRefusals.{is_above_vote}
use Rattle.raft_steps.proofs.Named.{any_id}
use Rattle.raft_handler_follower.proofs.Looped.{any_more, any_here, any_over}
use Rattle.raft_handler_follower.proofs.request_refusals.entry_above_vote.Goals as goal

pub loop-entry-preserved : goal.loop-entry-preserved
loop-entry-preserved g c =
    any_more _ c.args.entries.now c.loop-entry.entry-index c.entry-item.result c.loop-entry-test.true c.entry-item.is (sym c.if-is_above_vote.false ∙ (c.is_above_vote.ensures ∙ ap (is_above_vote g.C.NodeId.Ord.cmp c.args.vote.now) c.get_log_id.ensures)) c.loop-entry.invariant

pub returns-then-is_above_vote : goal.returns-then-is_above_vote
returns-then-is_above_vote g c =
    any_id (is_above_vote g.C.NodeId.Ord.cmp c.args.vote.now) g.C.Entry.RaftEntry.id_of c.args.entries.now _
    (any_here _ c.args.entries.now c.loop-entry.entry-index c.entry-item.result c.loop-entry-test.true c.entry-item.is (sym c.if-is_above_vote.true ∙ (c.is_above_vote.ensures ∙ ap (is_above_vote g.C.NodeId.Ord.cmp c.args.vote.now) c.get_log_id.ensures)) c.loop-entry.invariant)

pub returns : goal.returns
returns g c = any_id (is_above_vote g.C.NodeId.Ord.cmp c.args.vote.now) g.C.Entry.RaftEntry.id_of c.args.entries.now _
    (any_over _ c.args.entries.now c.loop-entry.entry-index c.loop-entry-test.false c.loop-entry.invariant)
