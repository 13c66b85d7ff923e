-- An engine is sound after requests from candidates and leaders.
use Rattle.std.specs.Prelude.{◌≡◌, ℕ, ◌<◌, ◌≤◌, ◌⊎◌, Bool, true, false, ◌&&◌, not, List, [], Option, None, Some, IfSome, refl, map, if◌then◌else◌}
use Rattle.std.proofs.Common.{subst}
use Rattle.std.specs.declared.cmp.Ordering.{Ordering}
use Rattle.std.specs.declared.cmp.Ordering.TheVariants.{Equal}
use Rattle.std.specs.Ordering.{is_eq, is_gt}
use Rattle.std.specs.Cmp.{IsTotalOrder}
use Rattle.raft_state.specs.declared.config.RaftEntry
use Rattle.raft_state.specs.declared.ids.LogId.{LogId}
use Rattle.raft_state.specs.declared.ids.Vote.{Vote}
use Rattle.raft_state.specs.declared.state.ServerState.{ServerState}
use Rattle.raft_state.specs.Fits.{is_within}
use Rattle.raft_state.specs.Invariants.{IsSoundState}
use Rattle.raft_state.specs.Log.{at}
use Rattle.raft_state.specs.Members.{contains}
use Rattle.raft_state.specs.Order.{leader_id_cmp, vote_cmp, next}
use Rattle.raft_state.specs.Same.{found_is}
use Rattle.raft_state.specs.State.{commits, has_log_id, is_found}
use Rattle.raft_state.proofs.StateLaws.{cut, settled}
use Rattle.raft_progress_entry.specs.raft_error.declared.error.EngineError.{EngineError}
use Rattle.raft_progress_entry.specs.raft_error.declared.error.EngineError.TheVariants.{CounterEnd, VoteNotCommitted, OwnVote, CommittedNotHeld, Spent}
use Rattle.raft_command.specs.Queue.{Queue}
use Rattle.raft_command.specs.declared.command.Command.{Command}
use Rattle.raft_command.specs.declared.command.Command.TheVariants.{SaveVote}
use Rattle.raft_command.specs.declared.config.EngineConfig.{EngineConfig}
use Rattle.raft_command.specs.declared.message.AppendEntriesResponse.{AppendEntriesResponse}
use Rattle.raft_command.specs.declared.message.Token.{Token}
use Rattle.raft_command.specs.declared.message.VoteRequest.{VoteRequest}
use Rattle.raft_command.specs.Message.{append_response}
use Rattle.raft_steps.specs.Refusals.{is_spent, is_counter_end, blank_is_at_end}
use Rattle.raft_steps.specs.Commit.{commit_by}
use Rattle.raft_steps.specs.Conditions.{IsFollowing}
use Rattle.raft_steps.specs.FollowingHandler.{holds_previous, commit_target, new_entries, truncate_logs, truncate_for, ensure_log_consecutive, do_append_entries, commit_entries}
use Rattle.raft_steps.specs.FollowingHandler as following
use Rattle.raft_steps.specs.Invariants.{IsSound}
use Rattle.raft_steps.specs.Parts.{Core, Machine, then_command, with_state, on_core}
use Rattle.raft_steps.specs.RequestRefusals.{is_missing, refusals_of_follow, refusals_of_held, refusals_of_consecutive, refusals_of_append_core, refusals_of_commit_core, refusals_of_commit, refusals_of_vote_req, refusals_of_request, refusals_of_append}
use Rattle.raft_steps.specs.Requests.{refuses_vote_req, follow, append_entries, append_answer, replied, handle_append_entries}
use Rattle.raft_steps.specs.ServerStateHandler.{update_role}
use Rattle.raft_steps.specs.VoteHandler.{become_following, become_leader, rejects_vote, update_internal_server_state, update_vote}
use Rattle.raft_steps.proofs.Kept.{TakesIds, commit_by_case, vote_sound}
use Rattle.raft_steps.proofs.KeptAppend.{IsAllowed, followed, past_committed, past_accepted, truncate_case, append_sound}
use Rattle.raft_steps.proofs.KeptEngine.{else_of, idle_is_sound, following_core, update_vote_is_sound}
use Rattle.raft_steps.proofs.Leads.{no_order, vote_same}
use Rattle.raft_steps.proofs.Marks.{consecutive_marks, append_marks}
use Rattle.raft_steps.proofs.Unrefused.{test_fails, second_fails, neither}

module _ {C NID N E D R S : Type 0} (cmp : NID → NID → Ordering) (total : IsTotalOrder cmp) (same : (a b : NID) → cmp a b ≡ Equal → a ≡ b) (config : EngineConfig NID) where
  -- a truncation past the committed index, and past what was accepted of the vote's leader
  pub truncate_kept : (i : ℕ) (c : Core C NID N E D R S) → next c.state.committed ≤ i
      → IfSome c.state.accepted_by (λ r. is_eq (leader_id_cmp cmp r.0 c.state.vote.leader_id) ≡ true → (r.1.index < i) ⊎ (is_within cmp (Some r.1) c.state.committed ≡ true))
      → IsSoundState cmp c.state → IsSoundState cmp (truncate_logs cmp config i c).state
  truncate_kept i c past acc h =
      truncate_case cmp config (λ (d : Core C NID N E D R S). IsSoundState cmp d.state) i c (λ none. h) (λ first found em role q. cut cmp total same _ _ _ _ _ _ _ h i past acc)

  consecutive_sound : (prev : Option (LogId NID)) (c : Core C NID N E D R S) → IfSome prev (IsAllowed cmp c.state c.state.vote)
      → IsSoundState cmp c.state → IsSoundState cmp (ensure_log_consecutive cmp config prev c).state
  unfolding ensure_log_consecutive
  consecutive_sound None c k h = h
  consecutive_sound (Some x) c k h = go (has_log_id cmp c.state x) refl where
    go : (b : Bool) → has_log_id cmp c.state x ≡ b → IsSoundState cmp (if b then c else truncate_logs cmp config x.index c).state
    go true e = h
    go false e = truncate_kept x.index c (past_committed cmp c.state x e) (past_accepted cmp c.state x k.accepted e) h

  -- the id before an append's entries is asked for
  pub consecutive_kept : (prev : Option (LogId NID)) (c : Core C NID N E D R S) → refusals_of_consecutive cmp prev c ≡ None
      → IsSoundState cmp c.state → IsSoundState cmp (ensure_log_consecutive cmp config prev c).state
  consecutive_kept prev c asks h = consecutive_sound prev c (followed cmp c.state c.state.vote prev [] (neither _ _ asks).1).before_allowed h

  commit_entries_sound : (x : Option (LogId NID)) (c : Core C NID N E D R S) → refusals_of_held cmp c.state x ≡ None
      → IsSoundState cmp c.state → IsSoundState cmp (commit_entries cmp config x c).state
  unfolding commit_entries commit_by
  commit_entries_sound x c asks h = go (commit_target cmp c.state x) (test_fails (is_missing cmp c.state (commit_target cmp c.state x)) CommittedNotHeld None asks).0 where
    held : (a b : Bool) → (a && not b) ≡ false → a ≡ true → b ≡ true
    held true true e k = refl
    held true false e k = cc
    held false b e k = cc

    go : (o : Option (LogId NID)) → is_missing cmp c.state o ≡ false → IsSoundState cmp (commit_by cmp config [] o c).state
    go None e = h
    go (Some y) e =
        commit_by_case cmp total same config (λ (d : Core C NID N E D R S). IsSoundState cmp d.state) [] y c (λ low. h)
        (λ above cm building q. settled cmp total same _ _ _ _ _ _ _ h y (found_is cmp same _ y (held (commits cmp c.state (Some y)) (is_found cmp (at c.state.ids y.index) y) e above)) above)

  commit_vote : (x : Option (LogId NID)) (c : Core C NID N E D R S) → (commit_entries cmp config x c).state.vote ≡ c.state.vote
  unfolding commit_entries commit_by
  commit_vote x c = go (commit_target cmp c.state x) where
    go : (o : Option (LogId NID)) → (commit_by cmp config [] o c).state.vote ≡ c.state.vote
    go None = refl
    go (Some y) = commit_by_case cmp total same config (λ (d : Core C NID N E D R S). d.state.vote ≡ c.state.vote) [] y c (λ low. refl) (λ above cm building q. refl)

  -- in an engine that follows: the id before an append's entries is asked for
  pub consecutive_is_sound : (prev : Option (LogId NID)) (m : Machine C NID N E D R S) → IsFollowing cmp m → refusals_of_consecutive cmp prev m.core ≡ None
      → IsSound cmp config m → IsSound cmp config (on_core (ensure_log_consecutive cmp config prev) m)
  consecutive_is_sound prev m f asks h =
      following_core cmp total same config m (ensure_log_consecutive cmp config prev m.core) f.no_leader f.no_candidate (consecutive_marks cmp config prev m.core).vote h (consecutive_kept prev m.core asks h.sound)

  -- and so is a leader's committed id, which the log holds where it would newly be committed
  commits_is_sound : (x : Option (LogId NID)) (m : Machine C NID N E D R S) → IsFollowing cmp m → refusals_of_held cmp m.core.state x ≡ None
      → IsSound cmp config m → IsSound cmp config (on_core (commit_entries cmp config x) m)
  commits_is_sound x m f asks h =
      following_core cmp total same config m (commit_entries cmp config x m.core) f.no_leader f.no_candidate (commit_vote x m.core) h (commit_entries_sound x m.core asks h.sound)

  -- asked by the handler's call
  pub commit_entries_is_sound : (x : Option (LogId NID)) (m : Machine C NID N E D R S) → IsFollowing cmp m → refusals_of_commit_core cmp x m.core ≡ None
      → IsSound cmp config m → IsSound cmp config (on_core (commit_entries cmp config x) m)
  commit_entries_is_sound x m f asks h = commits_is_sound x m f (neither _ _ asks).1 h

  -- and by the engine's
  pub engine_commits_is_sound : (x : Option (LogId NID)) (m : Machine C NID N E D R S) → IsFollowing cmp m → refusals_of_commit cmp x m ≡ None
      → IsSound cmp config m → IsSound cmp config (on_core (commit_entries cmp config x) m)
  engine_commits_is_sound x m f asks h = commits_is_sound x m f (neither _ _ asks).1 h

  -- a reply is queued
  reply_is_sound : (token : Option Token) (response : AppendEntriesResponse NID) (m : Machine C NID N E D R S) → IsSound cmp config m → IsSound cmp config (on_core (λ c. record c { output = replied token response c.output }) m)
  reply_is_sound None response m h = h
  reply_is_sound (Some t) response m h = record { sound = h.sound; lead = h.lead }

module _ {C NID N E D R S : Type 0} (cmp : NID → NID → Ordering) (total : IsTotalOrder cmp) (same : (a b : NID) → cmp a b ≡ Equal → a ≡ b) (entry : RaftEntry.Ghosts E NID N) (config : EngineConfig NID) where
  -- entries behind a held id
  pub append_kept : (prev : Option (LogId NID)) (es : List E) (c : Core C NID N E D R S) → holds_previous cmp c.state prev ≡ true → refusals_of_append_core cmp prev (map entry.id_of es) c ≡ None
      → IsSoundState cmp c.state → IsSoundState cmp (following.append_entries cmp entry config prev es c).state
  append_kept prev es c held asks h = append_sound cmp total same entry config prev es c held (followed cmp c.state c.state.vote prev (map entry.id_of es) (neither _ _ asks).1) h

  -- the same in an engine that follows
  pub append_is_sound : (prev : Option (LogId NID)) (es : List E) (m : Machine C NID N E D R S) → IsFollowing cmp m → holds_previous cmp m.core.state prev ≡ true
      → refusals_of_append_core cmp prev (map entry.id_of es) m.core ≡ None → IsSound cmp config m → IsSound cmp config (on_core (following.append_entries cmp entry config prev es) m)
  append_is_sound prev es m f held asks h =
      following_core cmp total same config m (following.append_entries cmp entry config prev es m.core) f.no_leader f.no_candidate (append_marks cmp entry config prev es m.core).vote h
      (append_kept prev es m.core held asks h.sound)

  -- what a leader sends whose vote is the node's own
  pub follow_kept : (prev : Option (LogId NID)) (es : List E) (c : Core C NID N E D R S) → refusals_of_follow cmp c.state c.state.vote prev (map entry.id_of es) ≡ None
      → IsSoundState cmp c.state → IsSoundState cmp (follow cmp entry config prev es c).state
  unfolding follow
  follow_kept prev es c asks h = go (holds_previous cmp c.state prev) refl where
    go : (b : Bool) → holds_previous cmp c.state prev ≡ b
        → IsSoundState cmp (if b then following.append_entries cmp entry config prev es c else ensure_log_consecutive cmp config prev c).state
    go true e = append_sound cmp total same entry config prev es c e (followed cmp c.state c.state.vote prev (map entry.id_of es) asks) h
    go false e = consecutive_sound cmp total same config prev c (followed cmp c.state c.state.vote prev (map entry.id_of es) asks).before_allowed h

  -- a node whose vote names another one follows
  other_follows : (P : Machine C NID N E D R S → Type 0) (m : Machine C NID N E D R S) → is_eq (cmp m.core.state.vote.leader_id.node_id config.id) ≡ false
      → P (become_following cmp config m) → P (update_internal_server_state cmp entry config m)
  unfolding update_internal_server_state
  other_follows P m other p = go (is_eq (cmp m.core.state.vote.leader_id.node_id config.id)) other where
    go : (b : Bool) → b ≡ false
        → P (if (b && contains cmp m.core.state.em.membership config.id) && m.core.state.vote.committed then become_leader cmp entry config m
        else if b && contains cmp m.core.state.em.membership config.id then m
        else become_following cmp config m)
    go true e = cc
    go false e = p

  -- another node's vote that isn't below this node's is adopted, and the node follows
  pub heard_case : (P : Machine C NID N E D R S → Type 0) (v : Vote NID) (now : ℕ) (m : Machine C NID N E D R S) → rejects_vote cmp m.core.state v ≡ false → is_eq (cmp v.leader_id.node_id config.id) ≡ false
      → ((role : ServerState) (q : Queue (Command C NID N E D R S)) → P (record { core = record { state = record m.core.state { vote = v; time = Some now; role = role }; output = q }; leader = None; candidate = None }))
      → P (update_vote cmp entry config v now m)
  unfolding update_vote become_following update_role
  heard_case P v now m low other p = else_of P (rejects_vote cmp m.core.state v) _ _ low (go (is_gt (vote_cmp cmp v m.core.state.vote)) refl) where
    go : (b : Bool) → is_gt (vote_cmp cmp v m.core.state.vote) ≡ b
        → P (update_internal_server_state cmp entry config
        (on_core (λ c. if b then then_command (with_state c (record c.state { vote = v; time = Some now })) (SaveVote v) else with_state c (record c.state { time = Some now })) m))
    go true e = other_follows P (on_core (λ c. then_command (with_state c (record c.state { vote = v; time = Some now })) (SaveVote v)) m) other (p _ _)
    go false e =
        let own : v ≡ m.core.state.vote = vote_same cmp same v m.core.state.vote (no_order _ low e) in
        other_follows P (on_core (λ c. with_state c (record c.state { time = Some now })) m) (subst (λ (w : Vote NID). is_eq (cmp w.leader_id.node_id config.id) ≡ false) own other)
        (subst (λ (w : Vote NID). (role : ServerState) (q : Queue (Command C NID N E D R S)) → P (record { core = record { state = record m.core.state { vote = w; time = Some now; role = role }; output = q }; leader = None; candidate = None })) own p _ _)

  -- what is not refused of a leader's request: its vote is another node's, and committed
  pub not_own : (v : Vote NID) (more : Option (EngineError NID N)) (m : Machine C NID N E D R S) → refusals_of_request cmp config v more m ≡ None → is_eq (cmp v.leader_id.node_id config.id) ≡ false
  not_own v more m asks =
      let a = test_fails (is_spent m) Spent _ (neither _ _ asks).0 in
      let b = test_fails (is_counter_end m) CounterEnd _ a.1 in
      let c = test_fails (not v.committed) VoteNotCommitted _ b.1 in
      (test_fails (is_eq (cmp v.leader_id.node_id config.id)) OwnVote None c.1).0

  -- an append of a leader
  pub append_entries_is_sound : (v : Vote NID) (prev : Option (LogId NID)) (es : List E) (now : ℕ) (m : Machine C NID N E D R S) → refusals_of_append cmp config v prev (map entry.id_of es) m ≡ None
      → IsSound cmp config m → IsSound cmp config (append_entries cmp entry config v prev es now m)
  unfolding append_entries
  append_entries_is_sound v prev es now m asks h = go (rejects_vote cmp m.core.state v) refl (neither _ _ asks).1 where
    go : (b : Bool) → rejects_vote cmp m.core.state v ≡ b → (if b then None else refusals_of_follow cmp m.core.state v prev (map entry.id_of es)) ≡ None
        → IsSound cmp config (if b then m else on_core (follow cmp entry config prev es) (update_vote cmp entry config v now m))
    go true e f = h
    go false e f =
        heard_case (λ n. IsSound cmp config (on_core (follow cmp entry config prev es) n)) v now m e (not_own v (refusals_of_follow cmp m.core.state v prev (map entry.id_of es)) m asks)
        (λ role q. idle_is_sound cmp total same config (follow cmp entry config prev es (record { state = record m.core.state { vote = v; time = Some now; role = role }; output = q }))
        (follow_kept prev es (record { state = record m.core.state { vote = v; time = Some now; role = role }; output = q }) f (vote_sound cmp total same v m.core.state e h.sound)))

  -- the same with a reply
  pub handle_append_entries_is_sound : (v : Vote NID) (prev : Option (LogId NID)) (es : List E) (token : Option Token) (now : ℕ) (m : Machine C NID N E D R S) → refusals_of_append cmp config v prev (map entry.id_of es) m ≡ None
      → IsSound cmp config m → IsSound cmp config (handle_append_entries cmp entry config v prev es token now m)
  unfolding handle_append_entries
  handle_append_entries_is_sound v prev es token now m asks h =
      reply_is_sound cmp total same config token (append_response (append_answer cmp entry config v prev now m)) (append_entries cmp entry config v prev es now m) (append_entries_is_sound v prev es now m asks h)

module _ {C NID N E D R S : Type 0} (cmp : NID → NID → Ordering) (total : IsTotalOrder cmp) (same : (a b : NID) → cmp a b ≡ Equal → a ≡ b) (entry : RaftEntry.Ghosts E NID N) (named : TakesIds entry) (config : EngineConfig NID) where
  -- a candidate's request, which neither lease nor log refuses
  pub taken_vote_req_is_sound : (req : VoteRequest NID) (now : ℕ) (m : Machine C NID N E D R S) → refuses_vote_req cmp config m.core.state req now ≡ false → refusals_of_vote_req cmp config req now m ≡ None
      → IsSound cmp config m → IsSound cmp config (update_vote cmp entry config req.vote now m)
  taken_vote_req_is_sound req now m taken asks h =
      update_vote_is_sound cmp total same entry named config req.vote now m
      (subst (λ b. (not b && (not (rejects_vote cmp m.core.state req.vote) && blank_is_at_end cmp config req.vote m)) ≡ false) taken (second_fails _ _ _ _ _ asks)) h
