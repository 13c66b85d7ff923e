-- Computed examples of vote requests, appends and commits.
use Rattle.std.specs.Prelude.{◌≡◌, ℕ, ◌-◌, false, true, List, [], ◌∷◌, ◌++◌, Option, None, Some, refl}
use Rattle.std.specs.Ordering.{nat_cmp}
use Rattle.raft_state.specs.declared.ids.LogId.{LogId}
use Rattle.raft_state.specs.declared.ids.Vote.{Vote}
use Rattle.raft_state.specs.declared.state.RaftState.{RaftState}
use Rattle.raft_state.specs.declared.state.ServerState.TheVariants as role
use Rattle.raft_state.specs.State.{accepted}
use Rattle.raft_progress_entry.specs.raft_error.declared.error.EngineError.{EngineError}
use Rattle.raft_progress_entry.specs.raft_error.declared.error.EngineError.TheVariants.{IndexEnd, CounterEnd, VoteNotCommitted, OwnVote, NotFollowing, ContradictsHeld, CommittedNotHeld}
use Rattle.raft_command.specs.declared.command.Command.TheVariants as command
use Rattle.raft_command.specs.declared.message.AppendEntriesResponse.TheVariants as answer
use Rattle.raft_command.specs.declared.message.Token.{Token}
use Rattle.raft_command.specs.declared.message.VoteRequest.{VoteRequest}
use Rattle.raft_command.specs.declared.respond.Respond.TheVariants as respond
use Rattle.raft_steps.specs.Commit.{commit_by}
use Rattle.raft_steps.specs.FollowingHandler.{do_append_entries, truncate_logs, ensure_log_consecutive, commit_entries}
use Rattle.raft_steps.specs.FollowingHandler as following
use Rattle.raft_steps.specs.RequestRefusals.{refusals_of_append, refusals_of_commit}
use Rattle.raft_steps.specs.Requests.{handle_vote_req, vote_req_answer, follow, append_entries, append_answer, handle_append_entries}
use Rattle.raft_steps.specs.ServerStateHandler.{update_role}
use Rattle.raft_steps.specs.SnapshotHandler.{snapshot_where_due, trigger_snapshot}
use Rattle.raft_steps.specs.VoteHandler.{become_following, become_leader, begin_lead, lead_anew, update_internal_server_state, update_vote}
use Rattle.raft_steps.proofs.Example.{PlainMachine, PlainCommand, plain, lid, pending, committed, settings, state, core, machine, blanks, quiet, u64_end}

token : Token
token = record { 0 = 9 }

-- a lease runs to its last moment
leased : RaftState ℕ (Unit {0})
leased = record (state (committed 2 1) (lid 0 0 0 ∷ lid 1 1 1 ∷ [])) { time = Some 1000 }

request : VoteRequest ℕ
request = record { vote = pending 3 2; last_log_id = Some (lid 1 1 1) }

nothing_is_granted_at_the_last_moment_of_a_lease : vote_req_answer nat_cmp plain (settings 0) request 1150 (machine leased) ≡ record { vote = committed 2 1; vote_granted = false; last_log_id = Some (lid 1 1 1) }
unfolding leased request vote_req_answer handle_vote_req
nothing_is_granted_at_the_last_moment_of_a_lease = refl

nothing_changes_at_the_last_moment_of_a_lease : handle_vote_req nat_cmp plain (settings 0) request 1150 (machine leased) ≡ machine leased
unfolding leased request handle_vote_req
nothing_changes_at_the_last_moment_of_a_lease = refl

the_vote_is_granted_a_moment_later : vote_req_answer nat_cmp plain (settings 0) request 1151 (machine leased) ≡ record { vote = pending 3 2; vote_granted = true; last_log_id = Some (lid 1 1 1) }
unfolding leased request vote_req_answer handle_vote_req update_vote update_internal_server_state become_following become_leader lead_anew begin_lead update_role
the_vote_is_granted_a_moment_later = refl

a_granted_vote_is_saved : (handle_vote_req nat_cmp plain (settings 0) request 1151 (machine leased)).core.output.items ≡ command.SaveVote (pending 3 2) ∷ []
unfolding leased request handle_vote_req update_vote update_internal_server_state become_following become_leader lead_anew begin_lead update_role
a_granted_vote_is_saved = refl

-- near the end of time too
a_lease_may_reach_past_the_end_of_time : (vote_req_answer nat_cmp plain (settings 0) (record { vote = pending 3 2; last_log_id = None }) u64_end (machine (record (state (committed 2 1) []) { time = Some (u64_end - 15) }))).vote_granted ≡ false
unfolding vote_req_answer handle_vote_req
a_lease_may_reach_past_the_end_of_time = refl

-- no more is committed than was accepted
behind : RaftState ℕ (Unit {0})
behind = record (state (committed 2 1) (lid 0 0 0 ∷ lid 1 1 1 ∷ lid 1 1 2 ∷ [])) {
  committed = Some (lid 1 1 1);
  accepted_by = Some (record { term = 2; node_id = 1 }, lid 1 1 2);
}

no_more_is_committed_than_was_accepted : (commit_entries nat_cmp (settings 0) (Some (lid 2 1 3)) (core behind)).state.committed ≡ Some (lid 1 1 2)
unfolding behind commit_entries commit_by snapshot_where_due trigger_snapshot
no_more_is_committed_than_was_accepted = refl

a_commit_is_queued_with_the_id_before : (commit_entries nat_cmp (settings 0) (Some (lid 2 1 3)) (core behind)).output.items ≡ command.Commit 1 (Some (lid 1 1 1)) (lid 1 1 2) ∷ []
unfolding behind commit_entries commit_by snapshot_where_due trigger_snapshot
a_commit_is_queued_with_the_id_before = refl

-- an append that comes late takes nothing back
ahead : RaftState ℕ (Unit {0})
ahead = record (state (committed 3 1) (lid 0 0 0 ∷ lid 1 1 1 ∷ lid 1 1 2 ∷ lid 2 1 3 ∷ [])) { role = role.Follower }

append_to_ahead : List (LogId ℕ) → PlainMachine → PlainMachine
append_to_ahead ids m = handle_append_entries nat_cmp plain (settings 2) (committed 3 1) (Some (lid 2 1 3)) (blanks ids) (Some token) 5 m

once : PlainMachine
unfolding ahead append_to_ahead
once = append_to_ahead (lid 3 1 4 ∷ lid 3 1 5 ∷ []) (machine ahead)

an_append_is_taken : once.core.state.ids ≡ lid 0 0 0 ∷ lid 1 1 1 ∷ lid 1 1 2 ∷ lid 2 1 3 ∷ lid 3 1 4 ∷ lid 3 1 5 ∷ []
unfolding once ahead append_to_ahead token handle_append_entries append_answer append_entries follow following.append_entries do_append_entries truncate_logs update_vote update_internal_server_state become_following become_leader lead_anew begin_lead update_role
an_append_is_taken = refl

an_append_is_accepted : accepted nat_cmp once.core.state ≡ Some (lid 3 1 5)
unfolding once ahead append_to_ahead token handle_append_entries append_answer append_entries follow following.append_entries do_append_entries truncate_logs update_vote update_internal_server_state become_following become_leader lead_anew begin_lead update_role
an_append_is_accepted = refl

an_append_that_comes_late_only_answers : (append_to_ahead (lid 3 1 4 ∷ []) once).core
    ≡ record once.core { output = record once.core.output { items = once.core.output.items ++ command.Respond None (respond.AppendEntries (record { value = answer.Success; token = token })) ∷ [] } }
unfolding once ahead append_to_ahead token handle_append_entries append_answer append_entries follow following.append_entries do_append_entries truncate_logs update_vote update_internal_server_state become_following become_leader lead_anew begin_lead update_role
an_append_that_comes_late_only_answers = refl

-- a conflict truncates and is answered
other : RaftState ℕ (Unit {0})
other = record (state (committed 2 2) (lid 0 0 0 ∷ lid 1 1 1 ∷ lid 1 1 2 ∷ [])) { role = role.Follower }

append_to_other : LogId ℕ → List PlainCommand
append_to_other prev = (handle_append_entries nat_cmp plain (settings 3) (committed 2 2) (Some prev) [] (Some token) 5 (machine other)).core.output.items

a_conflict_truncates_and_is_answered : append_to_other (lid 2 2 2) ≡ command.DeleteConflictLog (lid 1 1 2) ∷ command.Respond None (respond.AppendEntries (record { value = answer.Conflict; token = token })) ∷ []
unfolding append_to_other other token handle_append_entries append_answer append_entries follow ensure_log_consecutive truncate_logs update_vote update_internal_server_state become_following become_leader lead_anew begin_lead update_role
a_conflict_truncates_and_is_answered = refl

a_conflict_past_the_log_is_only_answered : append_to_other (lid 2 2 5) ≡ command.Respond None (respond.AppendEntries (record { value = answer.Conflict; token = token })) ∷ []
unfolding append_to_other other token handle_append_entries append_answer append_entries follow ensure_log_consecutive truncate_logs update_vote update_internal_server_state become_following become_leader lead_anew begin_lead update_role
a_conflict_past_the_log_is_only_answered = refl

an_append_that_contradicts_the_committed_id_is_refused :
    refusals_of_append nat_cmp (settings 3) (committed 3 2) (Some (lid 2 2 1)) []
    (machine (record (state (pending 1 1) (lid 0 0 0 ∷ lid 1 1 1 ∷ [])) { committed = Some (lid 1 1 1) }))
    ≡ Some ContradictsHeld
an_append_that_contradicts_the_committed_id_is_refused = refl

-- what a hostile request is refused with
held : RaftState ℕ (Unit {0})
held = record (state (committed 2 1) (lid 0 0 0 ∷ lid 1 1 1 ∷ lid 2 1 2 ∷ [])) {
  committed = Some (lid 1 1 1);
  accepted_by = Some (record { term = 2; node_id = 1 }, lid 2 1 2);
  role = role.Follower;
}

asked : Vote ℕ → Option (LogId ℕ) → List (LogId ℕ) → Option (EngineError ℕ (Unit {0}))
asked v prev ids = refusals_of_append nat_cmp (settings 3) v prev ids (machine held)

an_uncommitted_vote_is_refused : asked (pending 2 2) None [] ≡ Some VoteNotCommitted
unfolding asked held
an_uncommitted_vote_is_refused = refl

an_own_vote_is_refused : asked (committed 3 3) None [] ≡ Some OwnVote
unfolding asked held
an_own_vote_is_refused = refl

a_smaller_vote_is_not_refused : asked (committed 1 2) None (lid 1 2 u64_end ∷ []) ≡ None
unfolding asked held
a_smaller_vote_is_not_refused = refl

a_smaller_vote_is_answered :
    (handle_append_entries nat_cmp plain (settings 3) (committed 1 2) None (blanks (lid 1 2 u64_end ∷ [])) (Some token) 5 (machine held)).core.output.items
    ≡ command.Respond None (respond.AppendEntries (record { value = answer.HigherVote (committed 2 1); token = token })) ∷ []
unfolding held token handle_append_entries append_answer append_entries
a_smaller_vote_is_answered = refl

entries_that_leave_a_gap_are_refused : asked (committed 2 1) (Some (lid 2 1 2)) (lid 2 1 4 ∷ []) ≡ Some NotFollowing
unfolding asked held
entries_that_leave_a_gap_are_refused = refl

entries_above_the_vote_are_refused : asked (committed 2 1) (Some (lid 2 1 2)) (lid 3 1 3 ∷ []) ≡ Some NotFollowing
unfolding asked held
entries_above_the_vote_are_refused = refl

an_id_before_them_that_contradicts_is_refused : asked (committed 3 2) (Some (lid 3 2 1)) [] ≡ Some ContradictsHeld
unfolding asked held
an_id_before_them_that_contradicts_is_refused = refl

entries_that_contradict_what_was_accepted_are_refused : asked (committed 2 1) None (lid 0 0 0 ∷ lid 1 1 1 ∷ lid 1 1 2 ∷ []) ≡ Some ContradictsHeld
unfolding asked held
entries_that_contradict_what_was_accepted_are_refused = refl

a_commit_of_an_id_that_is_not_held_is_refused : refusals_of_commit nat_cmp (Some (lid 1 2 2)) (machine held) ≡ Some CommittedNotHeld
unfolding held
a_commit_of_an_id_that_is_not_held_is_refused = refl

-- numbers at their ends
the_greatest_index_before_entries_is_refused : refusals_of_append nat_cmp (settings 3) (committed 1 1) (Some (lid 1 1 u64_end)) [] (machine (state (committed 1 1) [])) ≡ Some IndexEnd
the_greatest_index_before_entries_is_refused = refl

an_entry_of_the_greatest_index_is_refused : refusals_of_append nat_cmp (settings 3) (committed 1 1) (Some (lid 1 1 (u64_end - 1))) (lid 1 1 u64_end ∷ []) (machine (state (committed 1 1) [])) ≡ Some IndexEnd
an_entry_of_the_greatest_index_is_refused = refl

numbered_to : ℕ → PlainMachine
numbered_to n = record (machine (state (committed 1 1) [])) { core = record { state = state (committed 1 1) []; output = record quiet { seq = n } } }

a_number_that_may_be_counted_on_from : refusals_of_commit nat_cmp None (numbered_to (u64_end - 8)) ≡ None
unfolding numbered_to
a_number_that_may_be_counted_on_from = refl

a_number_near_its_end_is_refused : refusals_of_commit nat_cmp None (numbered_to (u64_end - 7)) ≡ Some CounterEnd
unfolding numbered_to
a_number_near_its_end_is_refused = refl
