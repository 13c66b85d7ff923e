use Rattle.std.proofs.Common.{refl}
use Rattle.std.proofs.lemmas.List.{take_all, take_more}
use Rattle.raft_progress.proofs.quorum.copy_groups.Goals as goal

pub loop-group-preserved : goal.loop-group-preserved
loop-group-preserved g c =
    rw (c.in_ok-push.ensures.ok, c.loop-group.invariant, c.in_ok-copy.ensures, take_more c.args.groups.now c.loop-group.group-index c.group-item.result c.loop-group-test.true, ← c.group-item.is)
    refl

pub returns : goal.returns
returns g c = rw (c.loop-group.invariant, take_all c.loop-group.group-index c.args.groups.now c.loop-group-test.false) refl
