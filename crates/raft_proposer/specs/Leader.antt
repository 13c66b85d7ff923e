-- Leaders: their no-op entry, the ids that they give, and what a quorum has acknowledged.
use Rattle.std.specs.Prelude.{ℕ, ◌+◌, Bool, List, [], ◌∷◌, Option, None, Some, length, if◌then◌else◌}
use Rattle.std.specs.Ordering.{is_eq, nat_cmp}
use Rattle.std.specs.Option.{option_cmp}
use Rattle.raft_progress.specs.Table.{table_of, granted, increased}
use Rattle.raft_progress.specs.raft_progress_entry.declared.entry.ProgressEntry.{ProgressEntry}
use Rattle.raft_progress.specs.raft_state.Members.{voter_ids, learner_ids}
use Rattle.raft_progress.specs.raft_progress_entry.Entry.{empty}
use Rattle.std.specs.declared.cmp.Ordering.{Ordering}
use Rattle.raft_progress.specs.raft_state.declared.ids.LogId.{LogId}
use Rattle.raft_progress.specs.raft_state.declared.ids.LeaderId.{LeaderId}
use Rattle.raft_progress.specs.raft_state.declared.ids.Vote.{Vote}
use Rattle.raft_progress.specs.raft_state.declared.membership.Members.{Members}
use Rattle.raft_progress.specs.raft_state.Order.{last_id_cmp, leader_id_cmp, next}
use Rattle.raft_progress.specs.raft_state.Log.{last}
use Rattle.raft_proposer.specs.declared.leader.Leader.{Leader}
use Rattle.raft_proposer.specs.Joint.{JointLeader}
use Rattle.raft_progress.specs.raft_state.declared.config.RaftEntry

module _ {NID : Type 0} (cmp : NID → NID → Ordering) where
  -- the id of the no-op entry: the first given id if it is this leader's, else the one after the last
  abbrev pub blank_id : Vote NID → List (LogId NID) → LogId NID
  blank_id vote [] = record { leader_id = vote.leader_id; index = 0 }
  blank_id vote (first ∷ ids) =
      if is_eq (leader_id_cmp cmp first.leader_id vote.leader_id) then first
      else record { leader_id = vote.leader_id; index = next (last (first ∷ ids)) }

module _ {C NID N E D R S QS : Type 0} (cmp : NID → NID → Ordering) where
  -- a leader over a quorum set and a copy of it; these are the first and the last id of the log's last leader
  abbrev pub leader_over : Vote NID → QS → QS → List NID → List NID → List (LogId NID) → Leader C QS NID N E D R S
  leader_over vote set copied voters learners ids = record {
    vote = vote;
    last_log_id = last ids;
    noop_log_id = blank_id cmp vote ids;
    progress = table_of (λ e. e.matching) set voters learners (empty (next (last ids)));
    clock_progress = table_of (λ t. t) copied voters learners None;
  }

  -- the same over one set
  abbrev pub leader_of : Vote NID → QS → List NID → List NID → List (LogId NID) → Leader C QS NID N E D R S
  leader_of vote set voters learners ids = leader_over vote set set voters learners ids

  -- the clock of a node is at least this moment
  abbrev pub with_clock : Leader C QS NID N E D R S → NID → ℕ → Leader C QS NID N E D R S
  with_clock l id time = record l { clock_progress = increased cmp (option_cmp nat_cmp) (λ t. t) l.clock_progress id (Some time) }

  -- the leader with its own clock at now: what it grants is the last moment that a quorum has acknowledged
  abbrev pub last_quorum_acked : Leader C QS NID N E D R S → ℕ → Leader C QS NID N E D R S
  last_quorum_acked l now = with_clock l l.vote.leader_id.node_id now

module _ {C NID N E D R S QS : Type 0} (cmp : NID → NID → Ordering) (is_quorum : QS → List NID → Bool) where
  -- what a quorum of the leader's voters has acknowledged: an id, and a moment
  abbrev pub granted_id : Leader C QS NID N E D R S → Option (LogId NID)
  granted_id l = granted is_quorum (last_id_cmp cmp) (λ (e : ProgressEntry NID). e.matching) l.progress

  abbrev pub granted_time : Leader C QS NID N E D R S → Option ℕ
  granted_time l = granted is_quorum (option_cmp nat_cmp) (λ t. t) l.clock_progress

module _ {C NID N E D R S : Type 0} (cmp : NID → NID → Ordering) where
  -- a leader of a membership
  abbrev pub leader_in : Vote NID → Members NID N → List (LogId NID) → JointLeader C NID N E D R S
  leader_in vote m ids = leader_of cmp vote m.groups (voter_ids cmp m) (learner_ids cmp m) ids

module _ {NID N E : Type 0} (entry : RaftEntry.Ghosts E NID N) where
  -- entries with a leader's id and the indexes from n on
  abbrev pub numbered : LeaderId NID → ℕ → List E → List E
  numbered leader n [] = []
  numbered leader n (e ∷ es) = entry.with_id e (record { leader_id = leader; index = n }) ∷ numbered leader (n + 1) es

module _ {C NID N E D R S QS : Type 0} (entry : RaftEntry.Ghosts E NID N) where
  -- the entries that a leader proposes, with their ids
  abbrev pub assigned : Leader C QS NID N E D R S → List E → List E
  assigned l es = numbered entry l.vote.leader_id (next l.last_log_id) es

module _ {C NID N E D R S QS : Type 0} where
  -- the id of the last of n entries that a leader proposes
  abbrev pub last_assigned : Leader C QS NID N E D R S → List E → Option (LogId NID)
  last_assigned l [] = l.last_log_id
  last_assigned l (e ∷ es) = Some (record { leader_id = l.vote.leader_id; index = next l.last_log_id + length es })
