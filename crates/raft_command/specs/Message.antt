-- What messages say.
use Rattle.std.specs.Prelude.{Bool, true, false, ◌&&◌, Result, Ok, Err}
use Rattle.std.specs.declared.cmp.Ordering.{Ordering}
use Rattle.std.specs.Ordering.{is_eq}
use Rattle.raft_progress_entry.specs.raft_state.Order.{vote_cmp}
use Rattle.raft_progress_entry.specs.raft_state.declared.ids.Vote.{Vote}
use Rattle.raft_progress_entry.specs.raft_state.declared.policy.RejectAppendEntries.{RejectAppendEntries}
use Rattle.raft_progress_entry.specs.raft_state.declared.policy.RejectAppendEntries.TheVariants as reject
use Rattle.raft_command.specs.declared.message.VoteResponse.{VoteResponse}
use Rattle.raft_command.specs.declared.message.AppendEntriesResponse.{AppendEntriesResponse}
use Rattle.raft_command.specs.declared.message.AppendEntriesResponse.TheVariants as response

-- the reply is marked as granted, and its vote is the candidate's (Raft paper, section 5.2)
abbrev pub is_granted_to : {NID : Type 0} → (NID → NID → Ordering) → VoteResponse NID → Vote NID → Bool
is_granted_to cmp reply vote = reply.vote_granted && is_eq (vote_cmp cmp reply.vote vote)

-- all entries are held
abbrev pub is_success : {NID : Type 0} → AppendEntriesResponse NID → Bool
is_success response.Success = true
is_success (response.PartialSuccess _) = false
is_success response.Conflict = false
is_success (response.HigherVote _) = false

-- the log id before the entries is not held
abbrev pub is_conflict : {NID : Type 0} → AppendEntriesResponse NID → Bool
is_conflict response.Success = false
is_conflict (response.PartialSuccess _) = false
is_conflict response.Conflict = true
is_conflict (response.HigherVote _) = false

-- the reply to an append that succeeded, or was rejected
abbrev pub append_response : {A NID : Type 0} → Result A (RejectAppendEntries NID) → AppendEntriesResponse NID
append_response (Ok _) = response.Success
append_response (Err (reject.ByVote vote)) = response.HigherVote vote
append_response (Err (reject.ByConflictingLogId _ _)) = response.Conflict
