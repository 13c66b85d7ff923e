use Rattle.std.proofs.Common.{◌+◌, drop, get_or, refl, sym}
use Rattle.raft_recovery.proofs.Plays.{ended, goes_along, stops_along, tell_more, tell_stuck, telling}
use Rattle.raft_recovery.proofs.search.tell_all.Goals as goal

pub loop-other-preserved : goal.loop-other-preserved
loop-other-preserved c =
    let k = c.args.commit.now in
    let i = c.loop-other.other-index in
    goes_along c.loop-other.world c.play.new.world c.args.world.now (telling c.args.now k.id k.vote k.committed) c.args.others.now i
    c.loop-other-test.true
    (tell_more c.args.now k.id k.vote k.committed c.loop-other.world c.play.new.world (get_or c.args.others.now i 0)
    (drop (i + 1) c.args.others.now) c.in-Some.number (sym c.in-Some.ensures) c.in_ok-play.ensures)
    c.loop-other.invariant

pub returns-in_default : goal.returns-in_default
returns-in_default c =
    let k = c.args.commit.now in
    let i = c.loop-other.other-index in
    stops_along c.loop-other.world c.args.world.now (telling c.args.now k.id k.vote k.committed) c.args.others.now i c.loop-other-test.true
    (tell_stuck c.args.now k.id k.vote k.committed c.loop-other.world (get_or c.args.others.now i 0) (drop (i + 1) c.args.others.now)
    (sym c.in_default.ensures))
    c.loop-other.invariant

pub returns : goal.returns
returns c =
    let k = c.args.commit.now in
    ended c.loop-other.world c.args.world.now (telling c.args.now k.id k.vote k.committed) c.args.others.now c.loop-other.other-index
    (λ _ _. refl) c.loop-other-test.false c.loop-other.invariant
