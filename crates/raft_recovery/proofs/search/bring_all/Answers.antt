use Rattle.std.proofs.Common.{◌+◌, drop, get_or, refl}
use Rattle.raft_recovery.proofs.Plays.{bring_more, bringing, ended, goes_along}
use Rattle.raft_recovery.proofs.search.bring_all.Goals as goal

pub loop-other-preserved : goal.loop-other-preserved
loop-other-preserved c =
    let i = c.loop-other.other-index in
    goes_along c.loop-other.world c.bring.new.world c.args.world.now (bringing c.args.now c.args.id) c.args.others.now i c.loop-other-test.true
    (bring_more c.args.now c.args.id c.loop-other.world c.bring.new.world (get_or c.args.others.now i 0) (drop (i + 1) c.args.others.now)
    c.in_ok-bring.ensures)
    c.loop-other.invariant

pub returns : goal.returns
returns c =
    ended c.loop-other.world c.args.world.now (bringing c.args.now c.args.id) c.args.others.now c.loop-other.other-index (λ _ _. refl)
    c.loop-other-test.false c.loop-other.invariant
