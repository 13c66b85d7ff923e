use Rattle.std.proofs.Common.{refl}
use Rattle.std.proofs.lemmas.List.{take_more}
use Rattle.raft_state.proofs.membership.copy_nodes.Goals as goal

pub loop-id-preserved : goal.loop-id-preserved
loop-id-preserved g c =
    rw (c.in_ok-push.ensures.items, c.loop-id.invariant, c.in_ok-copy.ensures, take_more c.args.nodes.now c.loop-id.id-index c.loop-id-item.result c.loop-id-test.true, ← c.loop-id-item.is)
    refl
