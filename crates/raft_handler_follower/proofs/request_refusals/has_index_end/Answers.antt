use Rattle.std.proofs.Common.{◌∙◌, sym, ap}
use Rattle.raft_steps.specs.Refusals.{is_at_end}
use Rattle.raft_handler_follower.proofs.Looped.{any_more, any_here, any_over}
use Rattle.raft_handler_follower.proofs.request_refusals.has_index_end.Goals as goal

pub loop-entry-preserved : goal.loop-entry-preserved
loop-entry-preserved g c =
    any_more _ c.args.entries.now c.loop-entry.entry-index c.entry-item.result c.loop-entry-test.true c.entry-item.is (sym c.if-is_at_end.false ∙ (c.is_at_end.ensures ∙ ap is_at_end c.get_log_id.ensures)) c.loop-entry.invariant

pub returns-then-is_at_end : goal.returns-then-is_at_end
returns-then-is_at_end g c =
    any_here _ c.args.entries.now c.loop-entry.entry-index c.entry-item.result c.loop-entry-test.true c.entry-item.is (sym c.if-is_at_end.true ∙ (c.is_at_end.ensures ∙ ap is_at_end c.get_log_id.ensures)) c.loop-entry.invariant

pub returns : goal.returns
returns g c = any_over _ c.args.entries.now c.loop-entry.entry-index c.loop-entry-test.false c.loop-entry.invariant
