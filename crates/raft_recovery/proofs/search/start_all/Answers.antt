use Rattle.std.proofs.Common.{◌+◌, drop, get_or, refl}
use Rattle.raft_recovery.proofs.Plays.{ended, goes_along, start_more, starting}
use Rattle.raft_recovery.proofs.search.start_all.Goals as goal

pub loop-id-preserved : goal.loop-id-preserved
loop-id-preserved c =
    let i = c.loop-id.id-index in
    goes_along c.loop-id.world c.start.new.world c.args.world.now starting c.args.ids.now i c.loop-id-test.true
    (start_more c.loop-id.world c.start.new.world (get_or c.args.ids.now i 0) (drop (i + 1) c.args.ids.now) c.in_ok-start.ensures)
    c.loop-id.invariant

pub returns : goal.returns
returns c = ended c.loop-id.world c.args.world.now starting c.args.ids.now c.loop-id.id-index (λ _ _. refl) c.loop-id-test.false c.loop-id.invariant
