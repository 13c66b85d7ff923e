use Rattle.std.proofs.Common.{◌≡◌, ◌++◌, take, drop, map}
use Rattle.raft_reads.specs.Reads.{answered_in}
use Rattle.raft_reads.proofs.reads.forget_all.Given as goal

abbrev pub invariant-loop-round : goal.invariant-loop-round
invariant-loop-round l = l.rounds ≡ map (answered_in l.count) (take l.round-index l.initial.rounds) ++ drop l.round-index l.initial.rounds
