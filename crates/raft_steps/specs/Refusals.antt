-- The refusals of each call, in the order in which they are asked.
use Rattle.std.specs.Prelude.{ℕ, ◌+◌, ◌-◌, ◌==◌, nat_lt, nat_le, Bool, false, not, ◌&&◌, ◌||◌, List, [], ◌∷◌, Option, None, Some, is_none, if◌then◌else◌}
use Rattle.std.specs.Ordering.{is_lt}
use Rattle.std.specs.Option.{option_or}
use Rattle.raft_proposer.specs.raft_progress.Table.{get}
use Rattle.raft_proposer.specs.raft_progress.Quorum.{is_quorum}
use Rattle.raft_progress_entry.specs.declared.entry.ProgressEntry.{ProgressEntry}
use Rattle.raft_state.specs.Members.{is_voter}
use Rattle.raft_state.specs.Fits.{is_within}
use Rattle.std.specs.List.{list_any}
use Rattle.raft_state.specs.State.{is_initialized}
use Rattle.raft_progress_entry.specs.raft_error.declared.error.EngineError.{EngineError}
use Rattle.raft_progress_entry.specs.raft_error.declared.error.EngineError.TheVariants.{NotAllowed, NoMembership, NotInMembers, TermEnd, IndexEnd, CounterEnd, UnknownTarget, OutsideInflight, Spent}
use Rattle.raft_progress_entry.specs.raft_error.Number.{first_refusal}
use Rattle.raft_command.specs.declared.message.VoteResponse.{VoteResponse}
use Rattle.raft_proposer.specs.Candidate.{grant_by, is_granted}
use Rattle.raft_steps.specs.Room.{leads_anew, is_full}
use Rattle.raft_steps.specs.VoteHandler.{rejects_vote}
use Rattle.raft_steps.specs.Engine.{is_granted_to, may_establish}
use Rattle.std.specs.declared.cmp.Ordering.{Ordering}
use Rattle.raft_state.specs.declared.ids.LogId.{LogId}
use Rattle.raft_state.specs.declared.ids.Vote.{Vote}
use Rattle.raft_state.specs.declared.state.RaftState.{RaftState}
use Rattle.raft_state.specs.Order.{last_id_cmp, next}
use Rattle.raft_state.specs.Log.{last}
use Rattle.raft_command.specs.declared.config.EngineConfig.{EngineConfig}
use Rattle.raft_command.specs.Ends as queue
use Rattle.raft_steps.specs.Parts.{Core, Led, Machine}
use Rattle.raft_proposer.specs.Joint.{JointLeader, JointCandidate, u64_max}
use Rattle.raft_state.specs.declared.config.RaftEntry

-- a number so near its end that a call might not count on from it
abbrev pub is_near_end : ℕ → Bool
is_near_end n = nat_lt (u64_max - 8) n

module _ {C NID N E D R S : Type 0} where
  -- the rows of the leader, if there is one
  abbrev pub rows_in : Machine C NID N E D R S → List (NID × ProgressEntry NID)
  rows_in m = elim m.leader [ None ↦ [] | Some l ↦ l.progress.rows ]

  -- the last sequence number or an inflight number is near its end
  abbrev pub is_counter_end_among : Core C NID N E D R S → List (NID × ProgressEntry NID) → Bool
  is_counter_end_among c rows = is_near_end c.output.seq || list_any (λ row. is_near_end row.1.last_inflight_id) rows

  -- the queue is spent
  abbrev pub is_spent : Machine C NID N E D R S → Bool
  is_spent m = m.core.output.spent

  abbrev pub is_counter_end : Machine C NID N E D R S → Bool
  is_counter_end m = is_counter_end_among m.core (rows_in m)

  -- `Spent` after `OutOfMemory`
  abbrev pub refusals_of_spent : Machine C NID N E D R S → Option (EngineError NID N)
  refusals_of_spent m = queue.refusals_of_spent m.core.output

  -- the same, and then `CounterEnd` if the numbers of commands or requests are near their end
  abbrev pub refusals_of_counter_led : Led C NID N E D R S → Option (EngineError NID N)
  refusals_of_counter_led l = first_refusal ((l.core.output.spent, Spent) ∷ (is_counter_end_among l.core l.leader.progress.rows, CounterEnd) ∷ [])

  abbrev pub refusals_of_counter : Machine C NID N E D R S → Option (EngineError NID N)
  refusals_of_counter m = first_refusal ((is_spent m, Spent) ∷ (is_counter_end m, CounterEnd) ∷ [])

  -- building a snapshot: `CounterEnd` only if none is being built
  abbrev pub refusals_of_trigger_snapshot : Core C NID N E D R S → Option (EngineError NID N)
  refusals_of_trigger_snapshot c = first_refusal ((c.output.spent, Spent) ∷ (not c.state.building && is_near_end c.output.seq, CounterEnd) ∷ [])

  -- proposing entries: the last would get the greatest index, or one above it
  abbrev pub refusals_of_propose : ℕ → Led C NID N E D R S → Option (EngineError NID N)
  refusals_of_propose count l = option_or (refusals_of_counter_led l) (first_refusal ((nat_lt u64_max (next l.leader.last_log_id + count), IndexEnd) ∷ []))

-- an id has the greatest index
abbrev pub is_at_end : {NID : Type 0} → LogId NID → Bool
is_at_end x = nat_le u64_max x.index

module _ {NID N E : Type 0} (entry : RaftEntry.Ghosts E NID N) where
  -- an entry has the greatest index
  abbrev pub has_index_end : List E → Bool
  has_index_end es = list_any (λ e. is_at_end (entry.id_of e)) es

module _ {C NID N E D R S : Type 0} (entry : RaftEntry.Ghosts E NID N) where
  -- appending entries after the last one
  abbrev pub refusals_of_do_append : List E → Core C NID N E D R S → Option (EngineError NID N)
  refusals_of_do_append es c = first_refusal ((c.output.spent, Spent) ∷ (has_index_end entry es, IndexEnd) ∷ [])

module _ {NID : Type 0} (cmp : NID → NID → Ordering) where
  -- an acknowledgement above an entry's matching id by order, and below it by index
  abbrev pub is_outside : Option (LogId NID) → Option (ProgressEntry NID) → Bool
  is_outside x entry = elim entry [ None ↦ false | Some e ↦ is_lt (last_id_cmp cmp e.matching x) && not (is_within cmp e.matching x) ]

module _ {C NID N E D R S : Type 0} (cmp : NID → NID → Ordering) where
  -- a grant: from a node that is no voter; or completing a quorum when no index is left for the no-op entry
  abbrev pub refusals_of_grant : NID → JointCandidate NID → RaftState NID N → Option (JointLeader C NID N E D R S) → Option (EngineError NID N)
  refusals_of_grant target c s leader = first_refusal (
      (is_none (get cmp c.progress target), UnknownTarget)
      ∷ (is_granted (is_quorum cmp) (grant_by cmp c target) && may_establish cmp s leader c && (next c.last_log_id == u64_max), IndexEnd)
      ∷ [])

  -- a reply to a candidate's vote request
  abbrev pub refusals_of_reply_of : NID → VoteResponse NID → Option (JointCandidate NID) → RaftState NID N → Option (JointLeader C NID N E D R S) → Option (EngineError NID N)
  refusals_of_reply_of target resp candidate s leader =
      elim candidate [ None ↦ None | Some c ↦ (if is_granted_to cmp resp c.vote then refusals_of_grant target c s leader else None) ]

module _ {C NID N E D R S : Type 0} (cmp : NID → NID → Ordering) (config : EngineConfig NID) where
  -- this node would lead anew by a vote, and its no-op entry would get the greatest index
  abbrev pub blank_is_at_end : Vote NID → Machine C NID N E D R S → Bool
  blank_is_at_end v m = leads_anew cmp config v m.core.state.em.membership m.leader && is_full cmp v m.core.state.ids

  -- adopting a vote
  abbrev pub refusals_of_update_vote : Vote NID → Machine C NID N E D R S → Option (EngineError NID N)
  refusals_of_update_vote v m = first_refusal ((is_spent m, Spent) ∷ (not (rejects_vote cmp m.core.state v) && blank_is_at_end v m, IndexEnd) ∷ [])

  -- looking at the node's own vote again
  abbrev pub refusals_of_lead : Machine C NID N E D R S → Option (EngineError NID N)
  refusals_of_lead m = first_refusal ((is_spent m, Spent) ∷ (blank_is_at_end m.core.state.vote m, IndexEnd) ∷ [])

  abbrev pub refusals_of_elect : Machine C NID N E D R S → Option (EngineError NID N)
  refusals_of_elect m = first_refusal ((is_spent m, Spent) ∷ (m.core.state.vote.leader_id.term == u64_max, TermEnd) ∷ [])

  -- a reply to the candidate's vote request: only a grant is refused
  abbrev pub refusals_of_vote_resp : NID → VoteResponse NID → Machine C NID N E D R S → Option (EngineError NID N)
  refusals_of_vote_resp target resp m = option_or (refusals_of_spent m) (refusals_of_reply_of cmp target resp m.candidate m.core.state m.leader)

  -- this node's own acknowledgement
  abbrev pub refusals_of_local_progress : Option (LogId NID) → Led C NID N E D R S → Option (EngineError NID N)
  refusals_of_local_progress x l = option_or (refusals_of_counter_led l) (first_refusal ((is_outside cmp x (get cmp l.leader.progress config.id), OutsideInflight) ∷ []))

module _ {C NID N E D R S : Type 0} (cmp : NID → NID → Ordering) (entry : RaftEntry.Ghosts E NID N) (config : EngineConfig NID) where
  -- the first entry of a cluster
  abbrev pub refusals_of_initialize : NID → E → Machine C NID N E D R S → Option (EngineError NID N)
  refusals_of_initialize first e m =
      option_or (first_refusal (
      (is_spent m, Spent)
      ∷ (is_initialized cmp first m.core.state, NotAllowed (last m.core.state.ids) m.core.state.vote)
      ∷ [])) (elim (entry.membership_of e) [
        | None ↦ Some NoMembership
        | Some members ↦ (if is_voter cmp members config.id then None else Some (NotInMembers config.id))
      ])
