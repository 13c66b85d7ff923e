use Rattle.std.proofs.Common.{◌≡◌, ◌++◌, take, drop, map}
use Rattle.raft_reads.specs.Reads.{answer_left}
use Rattle.raft_reads.proofs.reads.leave_all.Given as goal

abbrev pub invariant-loop-round : goal.invariant-loop-round
invariant-loop-round l = l.rounds ≡ map answer_left (take l.round-index l.initial.rounds) ++ drop l.round-index l.initial.rounds
