use Rattle.raft_recovery.specs.Recoveries.{LacksLog}
use Rattle.raft_recovery.proofs.Electing.{each_all, each_more}
use Rattle.raft_recovery.proofs.premises.have_log.Goals as goal

pub loop-id-init : goal.loop-id-init
loop-id-init c = λ t h. absurd h

pub loop-id-preserved : goal.loop-id-preserved
loop-id-preserved c =
    each_more (LacksLog c.args.world.now.given c.args.world.now.history.net) c.args.up.now c.loop-id.id-index c.loop-id-test.true c.loop-id.invariant
    (c.in_ok-has.ensures c.if-has.false)

pub returns : goal.returns
returns c = λ _. each_all (LacksLog c.args.world.now.given c.args.world.now.history.net) c.args.up.now c.loop-id.id-index c.loop-id-test.false
    c.loop-id.invariant
