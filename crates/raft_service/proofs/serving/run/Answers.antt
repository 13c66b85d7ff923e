use Rattle.std.proofs.Common.{suc}
use Rattle.raft_service.specs.Serving.{front}
use Rattle.raft_service.proofs.serving.run.Goals as goal

pub loop-preserved : goal.loop-preserved
loop-preserved c = (suc c.loop.invariant.0, (front c.loop.clients c.loop.intake c.loop.sent.items, c.loop.invariant.1, c.in_ok-take_round.ensures))

pub returns-then-not-branch : goal.returns-then-not-branch
returns-then-not-branch c = (suc c.loop.invariant.0, (front c.loop.clients c.loop.intake c.loop.sent.items, c.loop.invariant.1, c.in_ok-take_round.ensures))
