-- A leader and a candidate over groups of voters, and the greatest index.
use Rattle.std.specs.Prelude.{ℕ, ◌-◌, ◌^◌, List}
use Rattle.raft_proposer.specs.declared.leader.Leader.{Leader}
use Rattle.raft_proposer.specs.Candidacy.{Candidacy}

abbrev pub JointLeader : (C NID N E D R S : Type 0) → Type 0
JointLeader C NID N E D R S = Leader C (List (List NID)) NID N E D R S

abbrev pub JointCandidate : Type 0 → Type 0
JointCandidate NID = Candidacy NID (List (List NID))

-- the greatest u64: no entry follows one at this index
abbrev pub u64_max : ℕ
u64_max = 2 ^ 64 - 1
