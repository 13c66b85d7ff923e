-- How a node answers a leader's requests, and commits what it has accepted (Raft paper, figure 2: AppendEntries).
use Rattle.std.specs.Prelude.{ℕ, ◌≡◌, ◌⊎◌, true, false, List, Option, is_some, map}
use Rattle.std.specs.declared.cmp.Ordering.{Ordering}
use Rattle.std.specs.Ordering.{is_le}
use Rattle.proof_deeds.specs.raft_state.declared.config.RaftEntry
use Rattle.proof_deeds.specs.raft_state.declared.ids.LogId.{LogId}
use Rattle.proof_deeds.specs.raft_state.declared.ids.Vote.{Vote}
use Rattle.proof_deeds.specs.raft_state.Log.{last}
use Rattle.proof_deeds.specs.raft_state.Order.{last_id_cmp}
use Rattle.proof_deeds.specs.raft_command.Message.{append_response}
use Rattle.proof_deeds.specs.raft_command.declared.config.EngineConfig.{EngineConfig}
use Rattle.proof_deeds.specs.raft_command.declared.message.AppendEntriesResponse.TheVariants.{Conflict, Success}
use Rattle.proof_deeds.specs.raft_steps.Laws.{later}
use Rattle.proof_deeds.specs.raft_steps.Parts.{Machine}
use Rattle.proof_deeds.specs.raft_steps.Requests.{append_answer, append_entries, handle_commit_entries}
use Rattle.proof_deeds.specs.raft_steps.VoteHandler.{rejects_vote}

module _ {NID : Type 0} (C N E D R S : Type 0) (cmp : NID → NID → Ordering) (entry : RaftEntry.Ghosts E NID N) where
  -- a node whose vote isn't above the leader's answers its request with success, or with a conflict at the id before the entries
  abbrev pub RequestsAnswered : Type 0
  RequestsAnswered =
      (config : EngineConfig NID) (vote : Vote NID) (prev : Option (LogId NID)) (now : ℕ) (m : Machine C NID N E D R S) → rejects_vote cmp m.core.state vote ≡ false
      → (append_response (append_answer cmp entry config vote prev now m) ≡ Success) ⊎ ((is_some prev ≡ true) × (append_response (append_answer cmp entry config vote prev now m) ≡ Conflict))

  -- after success, what the leader says is committed is, as far as the request went
  abbrev pub SuccessesCommit : Type 0
  SuccessesCommit =
      (config : EngineConfig NID) (vote : Vote NID) (prev : Option (LogId NID)) (es : List E) (now : ℕ) (m : Machine C NID N E D R S) → rejects_vote cmp m.core.state vote ≡ false
      → append_response (append_answer cmp entry config vote prev now m) ≡ Success → (x : Option (LogId NID)) → is_le (last_id_cmp cmp x (later cmp prev (last (map entry.id_of es)))) ≡ true
      → is_le (last_id_cmp cmp x (handle_commit_entries cmp entry config x (append_entries cmp entry config vote prev es now m)).core.state.committed) ≡ true
