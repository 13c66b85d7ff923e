use Rattle.std.proofs.Common.{◌≡◌, take}
use Rattle.raft_reads.specs.Reads.{count_over}
use Rattle.raft_reads.proofs.reads.count_over.Given as goal

abbrev pub invariant-loop-round : goal.invariant-loop-round
invariant-loop-round l = l.most ≡ count_over l.index (take l.round-index l.rounds)
