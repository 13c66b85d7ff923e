use Rattle.std.proofs.Common.{◌≡◌, ◌++◌, take, drop, map}
use Rattle.raft_reads.specs.Reads.{heard_in}
use Rattle.raft_reads.proofs.reads.hear_all.Given as goal

abbrev pub invariant-loop-round : goal.invariant-loop-round
invariant-loop-round l = l.rounds ≡ map (heard_in l.message) (take l.round-index l.initial.rounds) ++ drop l.round-index l.initial.rounds
