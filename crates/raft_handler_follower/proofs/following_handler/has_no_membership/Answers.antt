use Rattle.std.proofs.Common.{rules, ◌∙◌, sym, ap, not}
use Rattle.raft_steps.proofs.Memberships.{has_memberships}
use Rattle.raft_handler_follower.proofs.Looped.{any_more, any_here, any_over}
use Rattle.raft_handler_follower.proofs.following_handler.has_no_membership.Goals as goal

pub loop-entry-preserved : goal.loop-entry-preserved
loop-entry-preserved g c =
    any_more _ c.args.entries.now c.loop-entry.entry-index c.entry-item.result c.loop-entry-test.true c.entry-item.is (search rules) c.loop-entry.invariant

pub returns-then-is_some : goal.returns-then-is_some
returns-then-is_some g c =
    ap not (any_here _ c.args.entries.now c.loop-entry.entry-index c.entry-item.result c.loop-entry-test.true c.entry-item.is (search rules) c.loop-entry.invariant)
    ∙ sym (has_memberships g.C.Entry.RaftEntry c.args.entries.now)

pub returns : goal.returns
returns g c = ap not (any_over _ c.args.entries.now c.loop-entry.entry-index c.loop-entry-test.false c.loop-entry.invariant) ∙ sym (has_memberships g.C.Entry.RaftEntry c.args.entries.now)
