use Rattle.std.proofs.Common.{◌≡◌, ◌+◌, ◌++◌, take, drop}
use Rattle.raft_proposer.specs.Leader.{numbered}
use Rattle.raft_proposer.proofs.leader.number.Given as goal

abbrev pub invariant-loop-entry : goal.invariant-loop-entry
invariant-loop-entry g l =
    (l.index ≡ l.first + l.entry-index)
    × (l.entries ≡ numbered g.C.Entry.RaftEntry l.leader_id l.first (take l.entry-index l.initial.entries) ++ drop l.entry-index l.initial.entries)
