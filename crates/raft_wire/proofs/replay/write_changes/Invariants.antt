use Rattle.std.proofs.Common.{take}
use Rattle.raft_wire.proofs.Replays.{WrittenSo}
use Rattle.raft_wire.proofs.replay.write_changes.Given as goal

abbrev pub invariant-loop-command : goal.invariant-loop-command
invariant-loop-command l = WrittenSo (take l.command-index l.commands) l.fn.out.items l.out.items
