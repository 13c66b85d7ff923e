-- How a candidate becomes the leader by votes.
use Rattle.std.specs.Prelude.{Bool, true, ◌&&◌, Option, None, Some, if◌then◌else◌}
use Rattle.std.specs.Ordering.{is_eq, is_lt}
use Rattle.raft_proposer.specs.Candidate.{into_leader}
use Rattle.std.specs.declared.cmp.Ordering.{Ordering}
use Rattle.raft_state.specs.declared.state.RaftState.{RaftState}
use Rattle.raft_state.specs.Order.{vote_cmp}
use Rattle.raft_proposer.specs.Joint.{JointLeader, JointCandidate}

module _ {C NID N E D R S : Type 0} (cmp : NID → NID → Ordering) where
  -- no leader's vote is at or above the candidate's
  abbrev pub outvotes : Option (JointLeader C NID N E D R S) → JointCandidate NID → Bool
  outvotes leader c = elim leader [ None ↦ true | Some l ↦ is_lt (vote_cmp cmp l.vote c.vote) ]

  -- the candidate may lead: its vote is still the state's, and no leader's vote is at or above it
  abbrev pub may_establish : RaftState NID N → Option (JointLeader C NID N E D R S) → JointCandidate NID → Bool
  may_establish s leader c = is_eq (vote_cmp cmp c.vote s.vote) && outvotes leader c

  -- the leader that a candidate becomes, if it may lead
  abbrev pub established : RaftState NID N → Option (JointLeader C NID N E D R S) → JointCandidate NID → Option (JointLeader C NID N E D R S)
  established s leader c = if may_establish s leader c then Some (into_leader cmp c) else None
