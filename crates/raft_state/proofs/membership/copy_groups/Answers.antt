use Rattle.std.proofs.Common.{refl}
use Rattle.std.proofs.lemmas.List.{take_more}
use Rattle.raft_state.proofs.membership.copy_groups.Goals as goal

pub loop-group-preserved : goal.loop-group-preserved
loop-group-preserved g c =
    rw (c.in_ok-push.ensures.items, c.loop-group.invariant, c.in_ok-copy.ensures, take_more c.args.groups.now c.loop-group.group-index c.group-item.result c.loop-group-test.true, ← c.group-item.is)
    refl
