-- Candidates: whom they ask, who has granted, and the leader that a candidate becomes.
use Rattle.std.specs.Prelude.{ℕ, Bool, true, false, List, [], Option}
use Rattle.std.specs.Ordering.{bool_cmp}
use Rattle.std.specs.Option.{option_to_list}
use Rattle.raft_progress.specs.Table.{table_of, row_ids, granted, updated}
use Rattle.raft_progress.specs.raft_state.Members.{voter_ids, learner_ids}
use Rattle.raft_proposer.specs.Leader.{leader_of}
use Rattle.std.specs.declared.cmp.Ordering.{Ordering}
use Rattle.raft_progress.specs.raft_state.declared.ids.LogId.{LogId}
use Rattle.raft_progress.specs.raft_state.declared.ids.Vote.{Vote}
use Rattle.raft_progress.specs.raft_state.declared.membership.Members.{Members}
use Rattle.raft_proposer.specs.declared.leader.Leader.{Leader}
use Rattle.raft_proposer.specs.Candidacy.{Candidacy}
use Rattle.raft_proposer.specs.Joint.{JointCandidate}

module _ {NID : Type 0} where
  -- the vote of the same leader id, committed
  abbrev pub as_committed : Vote NID → Vote NID
  as_committed v = record v { committed = true }

module _ {NID QS : Type 0} where
  -- a candidate for the votes of a quorum set
  abbrev pub candidate_with : ℕ → Vote NID → Option (LogId NID) → QS → List NID → List NID → Candidacy NID QS
  candidate_with now vote last_log_id set voters learners = record {
    starting_time = now;
    vote = vote;
    last_log_id = last_log_id;
    progress = table_of (λ g. g) set voters [] false;
    learner_ids = learners;
  }

module _ {NID QS : Type 0} (cmp : NID → NID → Ordering) where
  -- one voter has granted
  abbrev pub grant_by : Candidacy NID QS → NID → Candidacy NID QS
  grant_by c id = record c { progress = updated cmp c.progress id true }

module _ {C NID N E D R S QS : Type 0} (cmp : NID → NID → Ordering) where
  -- the leader that a candidate becomes
  abbrev pub into_leader : Candidacy NID QS → Leader C QS NID N E D R S
  into_leader c = leader_of cmp (as_committed c.vote) c.progress.set (row_ids c.progress) c.learner_ids (option_to_list c.last_log_id)

module _ {NID QS : Type 0} (is_quorum : QS → List NID → Bool) where
  -- a quorum of the candidate's voters has granted
  abbrev pub is_granted : Candidacy NID QS → Bool
  is_granted c = granted is_quorum bool_cmp (λ g. g) c.progress

module _ {NID N : Type 0} (cmp : NID → NID → Ordering) where
  -- a candidate for the votes of a membership
  abbrev pub candidate_of : ℕ → Vote NID → Option (LogId NID) → Members NID N → JointCandidate NID
  candidate_of now vote last_log_id m = candidate_with now vote last_log_id m.groups (voter_ids cmp m) (learner_ids cmp m)
