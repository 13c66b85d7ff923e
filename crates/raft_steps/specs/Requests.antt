-- The calls of an engine for requests from candidates and leaders.
use Rattle.std.specs.Prelude.{ℕ, ◌+◌, nat_le, Bool, false, not, ◌&&◌, ◌||◌, List, Option, None, Some, Result, Err, if◌then◌else◌}
use Rattle.std.specs.Ordering.{is_lt}
use Rattle.std.specs.declared.cmp.Ordering.{Ordering}
use Rattle.raft_state.specs.declared.config.RaftEntry
use Rattle.raft_state.specs.declared.ids.LogId.{LogId}
use Rattle.raft_state.specs.declared.ids.Vote.{Vote}
use Rattle.raft_state.specs.declared.policy.RejectAppendEntries.{RejectAppendEntries}
use Rattle.raft_state.specs.declared.policy.RejectAppendEntries.TheVariants as reject
use Rattle.raft_state.specs.declared.state.RaftState.{RaftState}
use Rattle.raft_state.specs.Log.{last}
use Rattle.raft_state.specs.Order.{last_id_cmp}
use Rattle.raft_command.specs.Message.{append_response}
use Rattle.raft_command.specs.Push.{with_command}
use Rattle.raft_command.specs.Queue.{Queue}
use Rattle.raft_command.specs.declared.command.Command.{Command}
use Rattle.raft_command.specs.declared.command.Command.TheVariants.{Respond}
use Rattle.raft_command.specs.declared.config.EngineConfig.{EngineConfig}
use Rattle.raft_command.specs.declared.message.AppendEntriesResponse.{AppendEntriesResponse}
use Rattle.raft_command.specs.declared.message.Token.{Token}
use Rattle.raft_command.specs.declared.message.VoteRequest.{VoteRequest}
use Rattle.raft_command.specs.declared.message.VoteResponse.{VoteResponse}
use Rattle.raft_command.specs.declared.respond.Respond.TheVariants as respond
use Rattle.raft_steps.specs.FollowingHandler.{holds_previous, consecutive_answer, ensure_log_consecutive, commit_entries}
use Rattle.raft_steps.specs.FollowingHandler as following
use Rattle.raft_steps.specs.Parts.{Core, Machine, on_core}
use Rattle.raft_steps.specs.VoteHandler.{rejects_vote, update_vote}

-- `now` is within a lease of `since`, its last millisecond included
abbrev pub is_within_lease : Option ℕ → ℕ → ℕ → Bool
is_within_lease None lease now = false
is_within_lease (Some since) lease now = nat_le now (since + lease)

-- a leader's lease is in force (openraft's `handle_vote_req`)
abbrev pub is_leased : {NID N : Type 0} → EngineConfig NID → RaftState NID N → ℕ → Bool
is_leased config s now = s.vote.committed && is_within_lease s.time config.timer_config.leader_lease now

module _ {NID N : Type 0} (cmp : NID → NID → Ordering) where
  -- a vote request is denied by the lease, or as its log is behind this node's (Raft paper, section 5.4.1)
  abbrev pub refuses_vote_req : EngineConfig NID → RaftState NID N → VoteRequest NID → ℕ → Bool
  refuses_vote_req config s req now = is_leased config s now || is_lt (last_id_cmp cmp req.last_log_id (last s.ids))

-- the reply to a vote request: this node's vote and last log id, and whether it granted
abbrev pub vote_response : {NID N : Type 0} → RaftState NID N → Bool → VoteResponse NID
vote_response s granted = record { vote = s.vote; vote_granted = granted; last_log_id = last s.ids }

module _ {C NID N E D R S : Type 0} where
  -- the reply to an append, after what is queued, if there is a token
  abbrev pub replied : Option Token → AppendEntriesResponse NID → Queue (Command C NID N E D R S) → Queue (Command C NID N E D R S)
  replied None response q = q
  replied (Some token) response q = with_command q (Respond None (respond.AppendEntries (record { value = response; token = token })))

module _ {C NID N E D R S : Type 0} (cmp : NID → NID → Ordering) (entry : RaftEntry.Ghosts E NID N) (config : EngineConfig NID) where
  -- the vote of a request is adopted, unless the lease or the log denies it
  unfoldable pub handle_vote_req : VoteRequest NID → ℕ → Machine C NID N E D R S → Machine C NID N E D R S
  handle_vote_req req now m = if refuses_vote_req cmp config m.core.state req now then m else update_vote cmp entry config req.vote now m

  -- the answer to it: granted if the vote was adopted
  unfoldable pub vote_req_answer : VoteRequest NID → ℕ → Machine C NID N E D R S → VoteResponse NID
  vote_req_answer req now m =
      vote_response (handle_vote_req req now m).core.state
      (not (refuses_vote_req cmp config m.core.state req now) && not (rejects_vote cmp m.core.state req.vote))

  -- the entries of a leader whose vote was adopted: they are appended if the id before them is held
  unfoldable pub follow : Option (LogId NID) → List E → Core C NID N E D R S → Core C NID N E D R S
  follow prev es c =
      if holds_previous cmp c.state prev then following.append_entries cmp entry config prev es c
      else ensure_log_consecutive cmp config prev c

  -- an append under a vote not below ours: it is adopted, then the entries (Raft paper, figure 2: AppendEntries)
  unfoldable pub append_entries : Vote NID → Option (LogId NID) → List E → ℕ → Machine C NID N E D R S → Machine C NID N E D R S
  append_entries vote prev es now m =
      if rejects_vote cmp m.core.state vote then m else on_core (follow prev es) (update_vote cmp entry config vote now m)

  -- whether they were appended, or why not
  unfoldable pub append_answer : Vote NID → Option (LogId NID) → ℕ → Machine C NID N E D R S → Result (Unit {0}) (RejectAppendEntries NID)
  append_answer vote prev now m =
      if rejects_vote cmp m.core.state vote then Err (reject.ByVote m.core.state.vote)
      else consecutive_answer cmp (update_vote cmp entry config vote now m).core.state prev

  -- the same, with a reply after it if there is a token
  unfoldable pub handle_append_entries : Vote NID → Option (LogId NID) → List E → Option Token → ℕ → Machine C NID N E D R S → Machine C NID N E D R S
  handle_append_entries vote prev es token now m =
      on_core (λ c. record c { output = replied token (append_response (append_answer vote prev now m)) c.output }) (append_entries vote prev es now m)

  -- a leader's committed id is committed
  unfoldable pub handle_commit_entries : Option (LogId NID) → Machine C NID N E D R S → Machine C NID N E D R S
  handle_commit_entries x m = on_core (commit_entries cmp config x) m
