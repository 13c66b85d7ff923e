-- The refusals of the requests of candidates and leaders, in the order in which they are asked.
use Rattle.std.specs.Prelude.{ℕ, nat_le, nat_lt, Bool, false, not, ◌&&◌, List, [], ◌∷◌, ◌++◌, Option, None, Some, if◌then◌else◌}
use Rattle.std.specs.List.{list_any}
use Rattle.std.specs.Option.{option_or, option_to_list}
use Rattle.std.specs.Ordering.{is_eq, is_gt}
use Rattle.std.specs.declared.cmp.Ordering.{Ordering}
use Rattle.raft_state.specs.declared.ids.LogId.{LogId}
use Rattle.raft_state.specs.declared.ids.Vote.{Vote}
use Rattle.raft_state.specs.declared.state.RaftState.{RaftState}
use Rattle.raft_state.specs.Consecutive.{follows_on}
use Rattle.raft_state.specs.Log.{at}
use Rattle.raft_state.specs.Order.{leader_id_cmp, next}
use Rattle.raft_state.specs.State.{accepted_under, commits, has_log_id, is_found}
use Rattle.raft_progress_entry.specs.raft_error.Number.{first_refusal}
use Rattle.raft_progress_entry.specs.raft_error.declared.error.EngineError.{EngineError}
use Rattle.raft_progress_entry.specs.raft_error.declared.error.EngineError.TheVariants.{IndexEnd, CounterEnd, VoteNotCommitted, OwnVote, NotFollowing, ContradictsHeld, CommittedNotHeld, Spent}
use Rattle.raft_command.specs.declared.config.EngineConfig.{EngineConfig}
use Rattle.raft_command.specs.declared.message.VoteRequest.{VoteRequest}
use Rattle.raft_steps.specs.Refusals.{is_at_end, is_near_end, is_spent, is_counter_end, refusals_of_counter, blank_is_at_end}
use Rattle.raft_proposer.specs.Joint.{u64_max}
use Rattle.raft_steps.specs.FollowingHandler.{commit_target}
use Rattle.raft_steps.specs.Parts.{Core, Machine}
use Rattle.raft_steps.specs.Requests.{refuses_vote_req}
use Rattle.raft_steps.specs.VoteHandler.{rejects_vote}

module _ {NID : Type 0} (cmp : NID → NID → Ordering) where
  -- the leader of an id is above a vote's
  abbrev pub is_above_vote : Vote NID → LogId NID → Bool
  is_above_vote v x = is_gt (leader_id_cmp cmp x.leader_id v.leader_id)

module _ {NID N : Type 0} (cmp : NID → NID → Ordering) where
  -- an id at or below the committed index, but above the committed id
  abbrev pub is_above_committed : RaftState NID N → LogId NID → Bool
  is_above_committed s x = nat_lt x.index (next s.committed) && commits cmp s (Some x)

  -- the same of an entry's id; or it is above the committed index, but not above the committed id
  abbrev pub contradicts_committed : RaftState NID N → LogId NID → Bool
  contradicts_committed s x = if nat_lt x.index (next s.committed) then commits cmp s (Some x) else not (commits cmp s (Some x))

  -- an id that isn't held, though its index was accepted from this vote's leader
  abbrev pub contradicts_accepted : RaftState NID N → Vote NID → LogId NID → Bool
  contradicts_accepted s v x = nat_lt x.index (next (accepted_under cmp v.leader_id s.accepted_by)) && not (has_log_id cmp s x)

  -- the ids of an append: the one before its entries, if any, and theirs
  abbrev pub refusals_of_follow : RaftState NID N → Vote NID → Option (LogId NID) → List (LogId NID) → Option (EngineError NID N)
  refusals_of_follow s v prev ids =
      let all = option_to_list prev ++ ids in
      first_refusal (
      (list_any is_at_end all, IndexEnd)
      ∷ (not (follows_on cmp prev ids), NotFollowing)
      ∷ (list_any (is_above_vote cmp v) all, NotFollowing)
      ∷ (list_any (is_above_committed s) (option_to_list prev), ContradictsHeld)
      ∷ (list_any (contradicts_committed s) ids, ContradictsHeld)
      ∷ (list_any (contradicts_accepted s v) all, ContradictsHeld)
      ∷ [])

  -- what would be newly committed is not in the log
  abbrev pub is_missing : RaftState NID N → Option (LogId NID) → Bool
  is_missing s None = false
  is_missing s (Some x) = commits cmp s (Some x) && not (is_found cmp (at s.ids x.index) x)

  -- a leader's committed id, as far as this node has accepted
  abbrev pub refusals_of_held : RaftState NID N → Option (LogId NID) → Option (EngineError NID N)
  refusals_of_held s x = first_refusal ((is_missing s (commit_target cmp s x), CommittedNotHeld) ∷ [])

module _ {C NID N E D R S : Type 0} where
  -- a follower's step: `Spent` after `OutOfMemory`, then `CounterEnd` if the sequence numbers are near their end
  abbrev pub refusals_of_counter_core : Core C NID N E D R S → Option (EngineError NID N)
  refusals_of_counter_core c = first_refusal ((c.output.spent, Spent) ∷ (is_near_end c.output.seq, CounterEnd) ∷ [])

module _ {C NID N E D R S : Type 0} (cmp : NID → NID → Ordering) where
  -- the id before an append's entries, of the vote's leader
  abbrev pub refusals_of_consecutive : Option (LogId NID) → Core C NID N E D R S → Option (EngineError NID N)
  refusals_of_consecutive prev c = option_or (first_refusal ((c.output.spent, Spent) ∷ [])) (refusals_of_follow cmp c.state c.state.vote prev [])

  -- entries after a held id, of the vote's leader
  abbrev pub refusals_of_append_core : Option (LogId NID) → List (LogId NID) → Core C NID N E D R S → Option (EngineError NID N)
  refusals_of_append_core prev ids c = option_or (refusals_of_counter_core c) (refusals_of_follow cmp c.state c.state.vote prev ids)

  -- a leader's committed id
  abbrev pub refusals_of_commit_core : Option (LogId NID) → Core C NID N E D R S → Option (EngineError NID N)
  refusals_of_commit_core x c = option_or (refusals_of_counter_core c) (refusals_of_held cmp c.state x)

  -- the same in an engine
  abbrev pub refusals_of_commit : Option (LogId NID) → Machine C NID N E D R S → Option (EngineError NID N)
  refusals_of_commit x m = option_or (refusals_of_counter m) (refusals_of_held cmp m.core.state x)

module _ {C NID N E D R S : Type 0} (cmp : NID → NID → Ordering) (config : EngineConfig NID) where
  -- a vote request: `Spent`, and `IndexEnd` only if its vote is adopted
  abbrev pub refusals_of_vote_req : VoteRequest NID → ℕ → Machine C NID N E D R S → Option (EngineError NID N)
  refusals_of_vote_req req now m = first_refusal (
      (is_spent m, Spent)
      ∷ (
        not (refuses_vote_req cmp config m.core.state req now)
            && (not (rejects_vote cmp m.core.state req.vote) && blank_is_at_end cmp config req.vote m),
        IndexEnd,
      )
      ∷ [])

  -- a leader's request, and more of it if its vote isn't below ours: a smaller vote is answered
  abbrev pub refusals_of_request : Vote NID → Option (EngineError NID N) → Machine C NID N E D R S → Option (EngineError NID N)
  refusals_of_request v more m = option_or (first_refusal (
      (is_spent m, Spent)
      ∷ (is_counter_end m, CounterEnd)
      ∷ (not v.committed, VoteNotCommitted)
      ∷ (is_eq (cmp v.leader_id.node_id config.id), OwnVote)
      ∷ [])) (if rejects_vote cmp m.core.state v then None else more)

  -- an append
  abbrev pub refusals_of_append : Vote NID → Option (LogId NID) → List (LogId NID) → Machine C NID N E D R S → Option (EngineError NID N)
  refusals_of_append v prev ids m = refusals_of_request v (refusals_of_follow cmp m.core.state v prev ids) m
