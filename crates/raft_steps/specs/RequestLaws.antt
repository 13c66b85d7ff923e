-- The laws of the requests of candidates and leaders, for the step of each call.
use Rattle.std.specs.Prelude.{◌≡◌, ℕ, ⊤, true, false, not, ◌&&◌, List, Option, Some}
use Rattle.std.specs.declared.cmp.Ordering.{Ordering}
use Rattle.std.specs.Ordering.{is_eq, is_lt}
use Rattle.raft_state.specs.declared.config.RaftEntry
use Rattle.raft_state.specs.declared.ids.LogId.{LogId}
use Rattle.raft_state.specs.declared.ids.Vote.{Vote}
use Rattle.raft_state.specs.Log.{last}
use Rattle.raft_state.specs.Order.{last_id_cmp, vote_cmp}
use Rattle.raft_command.specs.declared.config.EngineConfig.{EngineConfig}
use Rattle.raft_command.specs.declared.message.Snapshot.{Snapshot}
use Rattle.raft_command.specs.declared.message.Token.{Token}
use Rattle.raft_command.specs.declared.message.VoteRequest.{VoteRequest}
use Rattle.raft_command.specs.declared.message.VoteResponse.{VoteResponse}
use Rattle.raft_steps.specs.Accepts.{Accepts}
use Rattle.raft_steps.specs.Engine.{as_uncommitted, handle_vote_resp, is_granted_to}
use Rattle.raft_steps.specs.FollowingHandler.{ensure_log_consecutive, commit_entries}
use Rattle.raft_steps.specs.FollowingHandler as following
use Rattle.raft_steps.specs.Installs.{handle_install_full_snapshot}
use Rattle.raft_steps.specs.Laws.{DeletesNothing, KeepsCommitted, Renews}
use Rattle.raft_steps.specs.Parts.{Core, Machine}
use Rattle.raft_proposer.specs.Joint.{JointCandidate}
use Rattle.raft_steps.specs.Requests.{is_leased, refuses_vote_req, handle_vote_req, vote_req_answer, append_entries, handle_append_entries, handle_commit_entries}
use Rattle.raft_steps.specs.VoteHandler.{update_vote}

module _ {C NID N E D R S : Type 0} (cmp : NID → NID → Ordering) (entry : RaftEntry.Ghosts E NID N) (config : EngineConfig NID) where
  -- a vote request changes nothing and is denied
  pub record GrantsNothing (req : VoteRequest NID) (now : ℕ) (m : Machine C NID N E D R S) : Type 0 where
    pub unchanged : handle_vote_req cmp entry config req now m ≡ m
    pub not_granted : (vote_req_answer cmp entry config req now m).vote_granted ≡ false

module _ {NID N E : Type 0} (C D R S : Type 0) (cmp : NID → NID → Ordering) (entry : RaftEntry.Ghosts E NID N) where
  -- each request does this to the core
  pub record RequestCalls (Does : Core C NID N E D R S → Core C NID N E D R S → Type 0) : Type 0 where
    pub by_handle_vote_req : (config : EngineConfig NID) (req : VoteRequest NID) (now : ℕ) (m : Machine C NID N E D R S) → Does m.core (handle_vote_req cmp entry config req now m).core
    pub by_append_entries : (config : EngineConfig NID) (v : Vote NID) (prev : Option (LogId NID)) (es : List E) (now : ℕ) (m : Machine C NID N E D R S) → Does m.core (append_entries cmp entry config v prev es now m).core
    pub by_handle_append_entries : (config : EngineConfig NID) (v : Vote NID) (prev : Option (LogId NID)) (es : List E) (token : Option Token) (now : ℕ) (m : Machine C NID N E D R S) → Does m.core (handle_append_entries cmp entry config v prev es token now m).core
    pub by_handle_commit_entries : (config : EngineConfig NID) (x : Option (LogId NID)) (m : Machine C NID N E D R S) → Does m.core (handle_commit_entries cmp entry config x m).core
    pub by_ensure_log_consecutive : (config : EngineConfig NID) (prev : Option (LogId NID)) (c : Core C NID N E D R S) → Does c (ensure_log_consecutive cmp config prev c)
    pub by_following_append : (config : EngineConfig NID) (prev : Option (LogId NID)) (es : List E) (c : Core C NID N E D R S) → Does c (following.append_entries cmp entry config prev es c)
    pub by_commit_entries : (config : EngineConfig NID) (x : Option (LogId NID)) (c : Core C NID N E D R S) → Does c (commit_entries cmp config x c)

  -- a lease in force denies the vote (openraft's `handle_vote_req`), as does a log behind ours (Raft paper, 5.4.1)
  pub record LeaseHolds : Type 0 where
    pub by_lease : (config : EngineConfig NID) (req : VoteRequest NID) (now : ℕ) (m : Machine C NID N E D R S) → is_leased config m.core.state now ≡ true → GrantsNothing cmp entry config req now m
    pub by_log : (config : EngineConfig NID) (req : VoteRequest NID) (now : ℕ) (m : Machine C NID N E D R S) → is_lt (last_id_cmp cmp req.last_log_id (last m.core.state.ids)) ≡ true → GrantsNothing cmp entry config req now m

  -- a vote request is granted exactly if no lease is in force, and neither its last log id nor its vote is below ours
  -- (Raft paper, sections 5.2 and 5.4.1)
  abbrev pub GrantsExactly : Type 0
  GrantsExactly =
      (config : EngineConfig NID) (req : VoteRequest NID) (now : ℕ) (m : Machine C NID N E D R S)
      → (vote_req_answer cmp entry config req now m).vote_granted
      ≡ (not (is_leased config m.core.state now) && (not (is_lt (last_id_cmp cmp req.last_log_id (last m.core.state.ids))) && not (is_lt (vote_cmp cmp req.vote m.core.state.vote))))

  -- an equal vote renews its time and saves nothing
  pub record EqualVotesRenew : Type 0 where
    pub by_update_vote : (config : EngineConfig NID) (v : Vote NID) (now : ℕ) (m : Machine C NID N E D R S) → is_eq (vote_cmp cmp v m.core.state.vote) ≡ true → Renews now m.core (update_vote cmp entry config v now m).core
    pub by_handle_vote_req : (config : EngineConfig NID) (req : VoteRequest NID) (now : ℕ) (m : Machine C NID N E D R S) → refuses_vote_req cmp config m.core.state req now ≡ false → is_eq (vote_cmp cmp req.vote m.core.state.vote) ≡ true
        → Renews now m.core (handle_vote_req cmp entry config req now m).core
    pub by_append_entries : (config : EngineConfig NID) (v : Vote NID) (prev : Option (LogId NID)) (es : List E) (now : ℕ) (m : Machine C NID N E D R S) → is_eq (vote_cmp cmp v m.core.state.vote) ≡ true
        → Renews now m.core (append_entries cmp entry config v prev es now m).core
    pub by_handle_append_entries : (config : EngineConfig NID) (v : Vote NID) (prev : Option (LogId NID)) (es : List E) (token : Option Token) (now : ℕ) (m : Machine C NID N E D R S) → is_eq (vote_cmp cmp v m.core.state.vote) ≡ true
        → Renews now m.core (handle_append_entries cmp entry config v prev es token now m).core
    -- whatever `accept_vote` replies to a vote below ours
    pub by_accept_vote : (config : EngineConfig NID) (v : Vote NID) (token : Token) (now : ℕ) (answer : Option Token) (old new : Machine C NID N E D R S)
        → Accepts cmp entry config (λ s rejected waiting reply. ⊤) v token now answer old new → is_eq (vote_cmp cmp v old.core.state.vote) ≡ true → Renews now old.core new.core
    -- a rejection whose vote, as uncommitted, is ours
    pub by_handle_vote_resp : (config : EngineConfig NID) (target : NID) (resp : VoteResponse NID) (now : ℕ) (c : JointCandidate NID) (m : Machine C NID N E D R S) → m.candidate ≡ Some c → is_granted_to cmp resp c.vote ≡ false
        → is_eq (vote_cmp cmp (as_uncommitted resp.vote) m.core.state.vote) ≡ true → Renews now m.core (handle_vote_resp cmp entry config target resp now m).core
    pub by_handle_install : (config : EngineConfig NID) (v : Vote NID) (snapshot : Snapshot C NID N E D R S) (token : Token) (now : ℕ) (m : Machine C NID N E D R S) → is_eq (vote_cmp cmp v m.core.state.vote) ≡ true
        → Renews now m.core (handle_install_full_snapshot cmp entry config v snapshot token now m).core

  -- no request deletes what is committed; vote requests and commits delete nothing
  pub record CommittedStays : Type 0 where
    pub by_handle_vote_req : (config : EngineConfig NID) (req : VoteRequest NID) (now : ℕ) (m : Machine C NID N E D R S) → DeletesNothing m.core (handle_vote_req cmp entry config req now m).core
    pub by_append_entries : (config : EngineConfig NID) (v : Vote NID) (prev : Option (LogId NID)) (es : List E) (now : ℕ) (m : Machine C NID N E D R S) → KeepsCommitted m.core (append_entries cmp entry config v prev es now m).core
    pub by_handle_append_entries : (config : EngineConfig NID) (v : Vote NID) (prev : Option (LogId NID)) (es : List E) (token : Option Token) (now : ℕ) (m : Machine C NID N E D R S) → KeepsCommitted m.core (handle_append_entries cmp entry config v prev es token now m).core
    pub by_handle_commit_entries : (config : EngineConfig NID) (x : Option (LogId NID)) (m : Machine C NID N E D R S) → DeletesNothing m.core (handle_commit_entries cmp entry config x m).core
    pub by_ensure_log_consecutive : (config : EngineConfig NID) (prev : Option (LogId NID)) (c : Core C NID N E D R S) → KeepsCommitted c (ensure_log_consecutive cmp config prev c)
    pub by_following_append : (config : EngineConfig NID) (prev : Option (LogId NID)) (es : List E) (c : Core C NID N E D R S) → KeepsCommitted c (following.append_entries cmp entry config prev es c)
    pub by_commit_entries : (config : EngineConfig NID) (x : Option (LogId NID)) (c : Core C NID N E D R S) → DeletesNothing c (commit_entries cmp config x c)
