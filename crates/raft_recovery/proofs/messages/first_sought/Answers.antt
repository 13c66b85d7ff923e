use Rattle.std.proofs.Common.{◌+◌, ap, refl}
use Rattle.raft_recovery.specs.Ways.{is_sought}
use Rattle.raft_recovery.proofs.Plays.{sought_here, sought_none, sought_nowhere}
use Rattle.raft_recovery.proofs.messages.first_sought.Goals as goal

pub loop-message-init : goal.loop-message-init
loop-message-init c = (refl, refl)

pub loop-message-preserved : goal.loop-message-preserved
loop-message-preserved c = (
  ap (λ n. n + 1) c.loop-message.invariant.0,
  sought_none (is_sought c.args.sought.now) c.args.messages.now c.loop-message.message-index c.loop-message.number c.message-item.result c.is.result
      c.loop-message-test.true c.message-item.is c.is.ensures c.if-is.false c.loop-message.invariant.1,
)

pub returns-then-is : goal.returns-then-is
returns-then-is c =
    sought_here (is_sought c.args.sought.now) c.args.messages.now c.loop-message.message-index c.loop-message.number c.message-item.result c.is.result
    c.loop-message-test.true c.message-item.is c.is.ensures c.if-is.true c.loop-message.invariant.1

pub returns : goal.returns
returns c =
    sought_nowhere (is_sought c.args.sought.now) c.args.messages.now c.loop-message.message-index c.loop-message.number c.loop-message-test.false
    c.loop-message.invariant.1
