-- The calls of an engine: its first entry, elections, and the replies to its vote requests.
use Rattle.std.specs.Prelude.{ℕ, ◌+◌, Bool, false, not, ◌&&◌, [], ◌∷◌, Option, None, Some, if◌then◌else◌}
use Rattle.std.specs.Ordering.{is_gt}
use Rattle.raft_proposer.specs.raft_progress.Quorum.{is_quorum}
use Rattle.raft_command.specs.declared.message.VoteResponse.{VoteResponse}
use Rattle.raft_command.specs.declared.command.Command.TheVariants.{SendVote}
use Rattle.raft_steps.specs.ServerStateHandler.{update_role}
use Rattle.raft_steps.specs.FollowingHandler.{do_append_entries}
use Rattle.raft_steps.specs.ReplicationHandler.{rebuild_replication_streams}
use Rattle.raft_steps.specs.LeaderHandler.{leader_append_entries}
use Rattle.raft_steps.specs.VoteHandler.{update_vote}
pub use Rattle.raft_steps.specs.EstablishHandler.{may_establish}
use Rattle.raft_proposer.specs.Candidate.{candidate_of, into_leader, grant_by, is_granted}
use Rattle.std.specs.declared.cmp.Ordering.{Ordering}
use Rattle.raft_state.specs.declared.ids.LogId.{LogId}
use Rattle.raft_state.specs.declared.ids.Vote.{Vote}
use Rattle.raft_state.specs.declared.state.RaftState.{RaftState}
use Rattle.raft_state.specs.Order.{last_id_cmp}
use Rattle.raft_state.specs.Log.{last}
pub use Rattle.raft_command.specs.Message.{is_granted_to}
use Rattle.raft_command.specs.declared.config.EngineConfig.{EngineConfig}
use Rattle.raft_steps.specs.Parts.{Machine, then_command, on_core, leading, on_leader}
use Rattle.raft_proposer.specs.Joint.{JointLeader, JointCandidate}
use Rattle.raft_state.specs.declared.config.RaftEntry

-- the id of the first entry, of the default node
abbrev pub default_log_id : {NID : Type 0} → NID → LogId NID
default_log_id first = record { leader_id = record { term = 0; node_id = first }; index = 0 }

module _ {NID : Type 0} where
  -- the vote of the same leader id, not committed
  abbrev pub as_uncommitted : Vote NID → Vote NID
  as_uncommitted v = record v { committed = false }

module _ {NID N : Type 0} (cmp : NID → NID → Ordering) where
  -- a greater log was seen by this reply to a candidate: a rejection whose last id is above this node's
  abbrev pub sees_greater_log : VoteResponse NID → Option (JointCandidate NID) → RaftState NID N → Bool
  sees_greater_log resp candidate s =
      elim candidate [ None ↦ false | Some c ↦ not (is_granted_to cmp resp c.vote) && is_gt (last_id_cmp cmp resp.last_log_id (last s.ids)) ]

module _ {C NID N E D R S : Type 0} (cmp : NID → NID → Ordering) (entry : RaftEntry.Ghosts E NID N) (config : EngineConfig NID) where
  -- an election: the node votes for itself in the next term, and asks the others (Raft paper, section 5.2)
  unfoldable pub elect : ℕ → Machine C NID N E D R S → Machine C NID N E D R S
  elect now m =
      let s = m.core.state in
      let v : Vote NID = record { leader_id = record { term = s.vote.leader_id.term + 1; node_id = config.id }; committed = false } in
      let voted = update_vote cmp entry config v now (record m { candidate = Some (candidate_of cmp now v (last s.ids) s.em.membership) }) in
      on_core (λ c. update_role cmp config (then_command c (SendVote (record { vote = v; last_log_id = last s.ids })))) voted

  -- a candidate with a quorum is used up: if it may lead, it does, under its vote committed, and proposes a no-op entry
  unfoldable pub lead_by_votes : JointCandidate NID → ℕ → Machine C NID N E D R S → Machine C NID N E D R S
  lead_by_votes c now m =
      let used = record m { candidate = None } in
      let l : JointLeader C NID N E D R S = into_leader cmp c in
      let led = leading used (rebuild_replication_streams cmp config (record { leader = l; core = m.core })) in
      if may_establish cmp m.core.state m.leader c
      then on_leader (leader_append_entries cmp entry config (entry.blank l.noop_log_id ∷ [])) (update_vote cmp entry config l.vote now led)
      else used

  -- a rejection: its vote is adopted as uncommitted, unless it is below this node's
  unfoldable pub take_rejection : VoteResponse NID → ℕ → Machine C NID N E D R S → Machine C NID N E D R S
  take_rejection resp now m = update_vote cmp entry config (as_uncommitted resp.vote) now m

  -- a grant is counted: on a quorum the candidate is used up
  unfoldable pub take_grant : JointCandidate NID → NID → ℕ → Machine C NID N E D R S → Machine C NID N E D R S
  take_grant c target now m =
      let granted = grant_by cmp c target in
      if is_granted (is_quorum cmp) granted then lead_by_votes granted now m else record m { candidate = Some granted }

  -- a reply to the candidate's vote request
  unfoldable pub handle_vote_resp : NID → VoteResponse NID → ℕ → Machine C NID N E D R S → Machine C NID N E D R S
  handle_vote_resp target resp now m =
      elim m.candidate [
        | None ↦ m
        | Some c ↦ (if is_granted_to cmp resp c.vote then take_grant c target now m else take_rejection resp now m)
      ]

  -- the first entry of a cluster is appended, and the node is a candidate
  unfoldable pub initialize : NID → E → ℕ → Machine C NID N E D R S → Machine C NID N E D R S
  initialize first e now m =
      elect now (on_core (do_append_entries cmp entry config (entry.with_id e (default_log_id first) ∷ [])) m)
