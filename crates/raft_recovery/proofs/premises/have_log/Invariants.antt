use Rattle.std.proofs.Common.{take}
use Rattle.raft_recovery.specs.Recoveries.{LackLogs}
use Rattle.raft_recovery.proofs.premises.have_log.Given as goal

-- none before has one
abbrev pub invariant-loop-id : goal.invariant-loop-id
invariant-loop-id l = LackLogs l.world.given l.world.history.net (take l.id-index l.up)
