use Rattle.std.proofs.Common.{take, [], refl}
use Rattle.std.proofs.lemmas.List.{take_all, take_more, flat_map_more}
use Rattle.raft_progress.proofs.quorum.join.Goals as goal

pub loop-group-preserved : goal.loop-group-preserved
loop-group-preserved g c =
    rw (c.in_ok-extend_from_slice.ensures.items, c.loop-group.invariant, c.as_slice.ensures, take_more c.args.groups.now c.loop-group.group-index c.group-item.result c.loop-group-test.true, ← c.group-item.is)
    (flat_map_more (λ group. group) [] (take c.loop-group.group-index c.args.groups.now) c.group-item.result)

pub returns : goal.returns
returns g c = rw (c.loop-group.invariant, take_all c.loop-group.group-index c.args.groups.now c.loop-group-test.false) refl
