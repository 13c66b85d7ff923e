-- What requests from candidates and leaders queue, and what they leave as it is.
use Rattle.std.specs.Prelude.{◌≡◌, ℕ, ◌≤◌, ◌==◌, Bool, true, false, not, ◌&&◌, ◌||◌, List, [], ◌∷◌, ◌++◌, Option, None, Some, IfSome, refl, map, filter_map, if◌then◌else◌}
use Rattle.std.specs.List.{AllByRecursion}
use Rattle.std.proofs.Common.{ap, sym, ◌∙◌, subst, arith}
use Rattle.std.proofs.lemmas.Bool.Decides.{nat_tests}
use Rattle.std.proofs.lemmas.List.Elements.{filter_map-append}
use Rattle.std.specs.declared.cmp.Ordering.{Ordering}
use Rattle.std.specs.declared.cmp.Ordering.TheVariants.{Less, Equal, Greater}
use Rattle.std.specs.Ordering.{is_eq, is_lt, is_gt}
use Rattle.std.specs.Cmp.{IsTotalOrder}
use Rattle.std.proofs.lemmas.Cmp.{tied_itself}
use Rattle.raft_state.specs.declared.config.RaftEntry
use Rattle.raft_state.specs.declared.ids.LogId.{LogId}
use Rattle.raft_state.specs.declared.ids.Vote.{Vote}
use Rattle.raft_state.specs.declared.state.RaftState.{RaftState}
use Rattle.raft_state.specs.Log.{at, last}
use Rattle.raft_state.specs.Order.{last_id_cmp, vote_cmp, next}
use Rattle.raft_state.specs.State.{accept, accepted, has_log_id, truncate, undoes_membership}
use Rattle.raft_state.proofs.LogLists.{Has, each_append}
use Rattle.raft_state.proofs.Orders.{vote_total}
use Rattle.raft_command.specs.Message.{append_response}
use Rattle.raft_command.specs.Push.{with_command}
use Rattle.raft_command.specs.declared.command.Command.{Command}
use Rattle.raft_command.specs.declared.command.Command.TheVariants as command
use Rattle.raft_command.specs.declared.config.EngineConfig.{EngineConfig}
use Rattle.raft_command.specs.declared.message.AppendEntriesResponse.{AppendEntriesResponse}
use Rattle.raft_command.specs.declared.message.Token.{Token}
use Rattle.raft_command.specs.declared.message.VoteRequest.{VoteRequest}
use Rattle.raft_command.specs.declared.respond.Respond.TheVariants as respond
use Rattle.raft_steps.specs.FollowingHandler.{commit_target, holds_previous, is_held, new_entries, truncate_logs, truncate_for, ensure_log_consecutive, commit_entries, do_append_entries, with_entries, memberships_in}
use Rattle.raft_steps.specs.FollowingHandler as following
use Rattle.raft_steps.specs.Laws.{saved_vote, deleted_from, DeletesNothing, Queues, KeepsCommitted, Renews, later}
use Rattle.raft_steps.specs.Parts.{Core, Machine, then_command, with_state, on_core}
use Rattle.raft_steps.specs.RequestLaws.{GrantsNothing}
use Rattle.raft_steps.specs.Requests.{is_leased, refuses_vote_req, handle_vote_req, vote_req_answer, follow, append_entries, append_answer, replied, handle_append_entries, handle_commit_entries}
use Rattle.raft_steps.specs.ServerStateHandler.{update_role}
use Rattle.raft_steps.specs.VoteHandler.{take_vote, rejects_vote, update_internal_server_state, update_vote}
use Rattle.raft_steps.proofs.Allowed.{AllowsLeading, both_behind, none_given, only_here, only_of, role_only}
use Rattle.raft_steps.proofs.AllowedCalls.{AllowsElections, do_append_only, voted_only}
use Rattle.raft_steps.proofs.Kept.{either, either_option}
use Rattle.raft_steps.proofs.KeptAppend.{IsMissing, past_committed, new_missing}
use Rattle.raft_steps.proofs.KeptEngine.{else_of}
use Rattle.raft_steps.proofs.LawsQueue.{saved_where_grown, reply_queues, still, queues_then, role_queues, commit_by_queues, do_append_queues, update_vote_queues}
use Rattle.raft_steps.proofs.Marks.{internal_marks, truncate_for_marks, noted_marks, follow_marks}
use Rattle.raft_steps.proofs.Room.{find_has}

pub not_below : (r : Ordering) → is_eq r ≡ true → is_lt r ≡ false
not_below Less e = cc
not_below Equal e = refl
not_below Greater e = cc

granted_by : (a b c : Bool) → (not (a || b) && c) ≡ (not a && (not b && c))
granted_by true b c = refl
granted_by false true c = refl
granted_by false false c = refl

module _ {C NID N E D R S : Type 0} (cmp : NID → NID → Ordering) (total : IsTotalOrder cmp) (config : EngineConfig NID) where
  -- what requests queue, as every call does
  pub truncate_queues : (i : ℕ) (c : Core C NID N E D R S) → Queues cmp c (truncate_logs cmp config i c)
  unfolding truncate_logs
  truncate_queues i c =
      either_option (Queues cmp c) (at c.state.ids i) _ _ (still cmp c c refl refl refl)
      (λ first.
      let cut : Core C NID N E D R S = record { state = truncate c.state i; output = with_command c.output (command.DeleteConflictLog first) } in
      let vote : (truncate c.state i).vote ≡ c.state.vote = either (λ (s : RaftState NID N). s.vote ≡ c.state.vote) (undoes_membership c.state i) _ _ refl refl in
      let t : Queues cmp c cut = record { added = command.DeleteConflictLog first ∷ []; behind = refl; votes = vote; numbers = refl } in
      either (Queues cmp c) (not (undoes_membership c.state i)) _ _ t (queues_then cmp c cut (update_role cmp config cut) t (role_queues cmp total config cut)))

  pub consecutive_queues : (prev : Option (LogId NID)) (c : Core C NID N E D R S) → Queues cmp c (ensure_log_consecutive cmp config prev c)
  unfolding ensure_log_consecutive
  consecutive_queues None c = still cmp c c refl refl refl
  consecutive_queues (Some x) c = either (Queues cmp c) (has_log_id cmp c.state x) _ _ (still cmp c c refl refl refl) (truncate_queues x.index c)

  pub commit_entries_queues : (x : Option (LogId NID)) (c : Core C NID N E D R S) → Queues cmp c (commit_entries cmp config x c)
  unfolding commit_entries
  commit_entries_queues x c = commit_by_queues cmp total config [] (commit_target cmp c.state x) c (record { no_votes = refl; no_numbers = refl; no_deletes = refl })

  replied_queues : (token : Option Token) (response : AppendEntriesResponse NID) (c : Core C NID N E D R S) → Queues cmp c (record c { output = replied token response c.output })
  replied_queues None response c = still cmp c c refl refl refl
  replied_queues (Some t) response c = reply_queues cmp (respond.AppendEntries (record { value = response; token = t })) c

module _ {C NID N E D R S : Type 0} (cmp : NID → NID → Ordering) (total : IsTotalOrder cmp) (entry : RaftEntry.Ghosts E NID N) (config : EngineConfig NID) where
  truncate_for_queues : (es : List E) (c : Core C NID N E D R S) → Queues cmp c (truncate_for cmp entry config es c)
  truncate_for_queues [] c = still cmp c c refl refl refl
  truncate_for_queues (e ∷ es) c = truncate_queues cmp total config (entry.id_of e).index c

  pub append_queues : (prev : Option (LogId NID)) (es : List E) (c : Core C NID N E D R S) → Queues cmp c (following.append_entries cmp entry config prev es c)
  unfolding following.append_entries
  append_queues prev es c =
      let noted = with_state c (accept cmp c.state (later cmp prev (last (map entry.id_of es)))) in
      let new = new_entries cmp entry c.state es in
      let cut = truncate_for cmp entry config new noted in
      let vote : noted.state.vote ≡ c.state.vote = either (λ (t : RaftState NID N). t.vote ≡ c.state.vote) (is_gt (last_id_cmp cmp (later cmp prev (last (map entry.id_of es))) (accepted cmp c.state))) _ _ refl refl in
      queues_then cmp c noted _ (still cmp c noted refl refl vote)
      (queues_then cmp noted cut _ (truncate_for_queues new noted) (do_append_queues cmp total entry config new cut))

  follow_queues : (prev : Option (LogId NID)) (es : List E) (c : Core C NID N E D R S) → Queues cmp c (follow cmp entry config prev es c)
  unfolding follow
  follow_queues prev es c = either (Queues cmp c) (holds_previous cmp c.state prev) _ _ (append_queues prev es c) (consecutive_queues cmp total config prev c)

  pub handle_vote_req_queues : (req : VoteRequest NID) (now : ℕ) (m : Machine C NID N E D R S) → Queues cmp m.core (handle_vote_req cmp entry config req now m).core
  unfolding handle_vote_req
  handle_vote_req_queues req now m =
      either (λ (n : Machine C NID N E D R S). Queues cmp m.core n.core) (refuses_vote_req cmp config m.core.state req now) _ _ (still cmp m.core m.core refl refl refl) (update_vote_queues cmp total entry config req.vote now m)

  pub append_entries_queues : (v : Vote NID) (prev : Option (LogId NID)) (es : List E) (now : ℕ) (m : Machine C NID N E D R S) → Queues cmp m.core (append_entries cmp entry config v prev es now m).core
  unfolding append_entries
  append_entries_queues v prev es now m =
      let voted = update_vote cmp entry config v now m in
      either (λ (n : Machine C NID N E D R S). Queues cmp m.core n.core) (rejects_vote cmp m.core.state v) _ _ (still cmp m.core m.core refl refl refl)
      (queues_then cmp m.core voted.core _ (update_vote_queues cmp total entry config v now m) (follow_queues prev es voted.core))

  pub handle_append_queues : (v : Vote NID) (prev : Option (LogId NID)) (es : List E) (token : Option Token) (now : ℕ) (m : Machine C NID N E D R S) → Queues cmp m.core (handle_append_entries cmp entry config v prev es token now m).core
  unfolding handle_append_entries
  handle_append_queues v prev es token now m =
      let done = append_entries cmp entry config v prev es now m in
      queues_then cmp m.core done.core _ (append_entries_queues v prev es now m) (replied_queues cmp total config token (append_response (append_answer cmp entry config v prev now m)) done.core)

  pub handle_commit_queues : (x : Option (LogId NID)) (m : Machine C NID N E D R S) → Queues cmp m.core (handle_commit_entries cmp entry config x m).core
  unfolding handle_commit_entries
  handle_commit_queues x m = commit_entries_queues cmp total config x m.core

  -- a lease in force, and a log that is behind, grant nothing
  kept_by : (a b c : Bool) (m n : Machine C NID N E D R S) → (a || b) ≡ true → ((if a || b then m else n) ≡ m) × ((not (a || b) && c) ≡ false)
  kept_by true b c m n e = (refl, refl)
  kept_by false true c m n e = (refl, refl)
  kept_by false false c m n e = cc

  pub grants_exactly : (req : VoteRequest NID) (now : ℕ) (m : Machine C NID N E D R S)
      → (vote_req_answer cmp entry config req now m).vote_granted
      ≡ (not (is_leased config m.core.state now) && (not (is_lt (last_id_cmp cmp req.last_log_id (last m.core.state.ids))) && not (is_lt (vote_cmp cmp req.vote m.core.state.vote))))
  unfolding vote_req_answer
  grants_exactly req now m = granted_by (is_leased config m.core.state now) (is_lt (last_id_cmp cmp req.last_log_id (last m.core.state.ids))) (not (is_lt (vote_cmp cmp req.vote m.core.state.vote)))

  refused_grants_nothing : (req : VoteRequest NID) (now : ℕ) (m : Machine C NID N E D R S) → refuses_vote_req cmp config m.core.state req now ≡ true → GrantsNothing cmp entry config req now m
  unfolding handle_vote_req vote_req_answer
  refused_grants_nothing req now m e =
      let k = kept_by (is_leased config m.core.state now) (is_lt (last_id_cmp cmp req.last_log_id (last m.core.state.ids))) (not (rejects_vote cmp m.core.state req.vote)) m (update_vote cmp entry config req.vote now m) e in
      record { unchanged = k.0; not_granted = k.1 }

  pub lease_grants_nothing : (req : VoteRequest NID) (now : ℕ) (m : Machine C NID N E D R S) → is_leased config m.core.state now ≡ true → GrantsNothing cmp entry config req now m
  lease_grants_nothing req now m e = refused_grants_nothing req now m (left (is_leased config m.core.state now) (is_lt (last_id_cmp cmp req.last_log_id (last m.core.state.ids))) e) where
    left : (a b : Bool) → a ≡ true → (a || b) ≡ true
    left true b e = refl
    left false b e = cc

  pub log_grants_nothing : (req : VoteRequest NID) (now : ℕ) (m : Machine C NID N E D R S) → is_lt (last_id_cmp cmp req.last_log_id (last m.core.state.ids)) ≡ true → GrantsNothing cmp entry config req now m
  log_grants_nothing req now m e = refused_grants_nothing req now m (right (is_leased config m.core.state now) (is_lt (last_id_cmp cmp req.last_log_id (last m.core.state.ids))) e) where
    right : (a b : Bool) → b ≡ true → (a || b) ≡ true
    right true b e = refl
    right false b e = e

module _ {C NID N E D R S : Type 0} (cmp : NID → NID → Ordering) (total : IsTotalOrder cmp) (entry : RaftEntry.Ghosts E NID N) (config : EngineConfig NID) where
  -- where a vote that is queued for stays, none is saved
  pub renews_of : (now : ℕ) (old new : Core C NID N E D R S) → Queues cmp old new → new.state.vote ≡ old.state.vote → new.state.time ≡ Some now → Renews now old new
  renews_of now old new q v t = record {
    added = q.added;
    behind = q.behind;
    unsaved = sym (saved_where_grown cmp total old.state.vote (filter_map saved_vote q.added) new.state.vote q.votes)
        ∙ subst (λ w. is_lt (vote_cmp cmp old.state.vote w) ≡ false) (sym v) (ap is_lt (tied_itself (vote_total cmp total) old.state.vote));
    vote = v;
    time = t;
  }

  -- a vote that is the node's own: its time is now
  own_case : (P : Machine C NID N E D R S → Type 0) (v : Vote NID) (now : ℕ) (m : Machine C NID N E D R S) → is_eq (vote_cmp cmp v m.core.state.vote) ≡ true
      → P (update_internal_server_state cmp entry config (on_core (λ c. with_state c (record c.state { time = Some now })) m)) → P (update_vote cmp entry config v now m)
  unfolding update_vote
  own_case P v now m e p = go (vote_cmp cmp v m.core.state.vote) e where
    go : (r : Ordering) → is_eq r ≡ true
        → P (if is_lt r then m
        else update_internal_server_state cmp entry config (on_core (λ c. if is_gt r then then_command (with_state c (record c.state { vote = v; time = Some now })) (command.SaveVote v) else with_state c (record c.state { time = Some now })) m))
    go Less q = cc
    go Equal q = p
    go Greater q = cc

  -- the vote stays, and its time is now
  abbrev pub Stays : ℕ → Machine C NID N E D R S → Machine C NID N E D R S → Type 0
  Stays now m n = (n.core.state.vote ≡ m.core.state.vote) × (n.core.state.time ≡ Some now)

  pub own_stays : (v : Vote NID) (now : ℕ) (m : Machine C NID N E D R S) → is_eq (vote_cmp cmp v m.core.state.vote) ≡ true → Stays now m (update_vote cmp entry config v now m)
  own_stays v now m e =
      let timed = on_core (λ (c : Core C NID N E D R S). with_state c (record c.state { time = Some now })) m in
      let k = internal_marks cmp entry config timed in
      own_case (Stays now m) v now m e (k.vote, k.time)

  append_stays : (v : Vote NID) (prev : Option (LogId NID)) (es : List E) (now : ℕ) (m : Machine C NID N E D R S) → is_eq (vote_cmp cmp v m.core.state.vote) ≡ true → Stays now m (append_entries cmp entry config v prev es now m)
  unfolding append_entries
  append_stays v prev es now m e =
      let voted = update_vote cmp entry config v now m in
      let s = own_stays v now m e in
      let k = follow_marks cmp entry config prev es voted.core in
      else_of (Stays now m) (rejects_vote cmp m.core.state v) _ _ (not_below _ e) (k.vote ∙ s.0, k.time ∙ s.1)

  -- a vote that is heard again
  pub update_vote_renews : (v : Vote NID) (now : ℕ) (m : Machine C NID N E D R S) → is_eq (vote_cmp cmp v m.core.state.vote) ≡ true → Renews now m.core (update_vote cmp entry config v now m).core
  update_vote_renews v now m e = let s = own_stays v now m e in renews_of now m.core _ (update_vote_queues cmp total entry config v now m) s.0 s.1

  pub handle_vote_req_renews : (req : VoteRequest NID) (now : ℕ) (m : Machine C NID N E D R S) → refuses_vote_req cmp config m.core.state req now ≡ false → is_eq (vote_cmp cmp req.vote m.core.state.vote) ≡ true
      → Renews now m.core (handle_vote_req cmp entry config req now m).core
  unfolding handle_vote_req
  handle_vote_req_renews req now m r e = else_of (λ (n : Machine C NID N E D R S). Renews now m.core n.core) (refuses_vote_req cmp config m.core.state req now) _ _ r (update_vote_renews req.vote now m e)

  pub append_entries_renews : (v : Vote NID) (prev : Option (LogId NID)) (es : List E) (now : ℕ) (m : Machine C NID N E D R S) → is_eq (vote_cmp cmp v m.core.state.vote) ≡ true
      → Renews now m.core (append_entries cmp entry config v prev es now m).core
  append_entries_renews v prev es now m e = let s = append_stays v prev es now m e in renews_of now m.core _ (append_entries_queues cmp total entry config v prev es now m) s.0 s.1

  pub handle_append_renews : (v : Vote NID) (prev : Option (LogId NID)) (es : List E) (token : Option Token) (now : ℕ) (m : Machine C NID N E D R S) → is_eq (vote_cmp cmp v m.core.state.vote) ≡ true
      → Renews now m.core (handle_append_entries cmp entry config v prev es token now m).core
  unfolding handle_append_entries
  handle_append_renews v prev es token now m e = let s = append_stays v prev es now m e in renews_of now m.core _ (handle_append_queues cmp total entry config v prev es token now m) s.0 s.1

module _ {C NID N E D R S : Type 0} where
  -- a command deletes nothing, and so do those of leading
  abbrev pub Undeleting : Command C NID N E D R S → Type 0
  Undeleting x = deleted_from x ≡ None

  pub undeleting : AllowsLeading Undeleting
  undeleting = record {
    becomes = refl;
    quits = refl;
    saves = λ v. refl;
    rebuilds = λ targets. refl;
    replicates = λ target f. refl;
    tells = λ x. refl;
    commits = λ seq a b. refl;
    builds = λ seq. refl;
  }

  pub undeleting_elections : AllowsElections Undeleting
  undeleting_elections = record { leads = undeleting; stores = λ v es. refl; asks = λ r. refl }

  -- what deletes nothing deletes nothing that is committed, before and after what does not
  pub keeps_nothing : (old new : Core C NID N E D R S) → DeletesNothing old new → KeepsCommitted old new
  keeps_nothing old new h = record {
    added = h.added;
    behind = h.behind;
    past = subst (AllByRecursion (λ (x : LogId NID). next old.state.committed ≤ x.index)) (sym (none_given deleted_from h.added h.each)) tt;
  }

  pub keeps_here : (old new : Core C NID N E D R S) → new.output.items ≡ old.output.items → KeepsCommitted old new
  keeps_here old new e = keeps_nothing old new (only_here Undeleting old new e)

  pub keeps_then : (a b c : Core C NID N E D R S) → KeepsCommitted a b → b.state.committed ≡ a.state.committed → KeepsCommitted b c → KeepsCommitted a c
  keeps_then a b c h e k = record {
    added = h.added ++ k.added;
    behind = both_behind a.output.items b.output.items c.output.items h.added k.added h.behind k.behind;
    past = subst (AllByRecursion (λ (x : LogId NID). next a.state.committed ≤ x.index)) (sym (filter_map-append deleted_from h.added k.added))
        (each_append (λ (x : LogId NID). next a.state.committed ≤ x.index) (filter_map deleted_from h.added) (filter_map deleted_from k.added) h.past
        (subst (λ o. AllByRecursion (λ (x : LogId NID). next o ≤ x.index) (filter_map deleted_from k.added)) e k.past));
  }

module _ {C NID N E D R S : Type 0} (cmp : NID → NID → Ordering) (total : IsTotalOrder cmp) (config : EngineConfig NID) where
  -- a truncation past the committed index
  pub truncate_keeps : (i : ℕ) (c : Core C NID N E D R S) → next c.state.committed ≤ i → KeepsCommitted c (truncate_logs cmp config i c)
  unfolding truncate_logs
  truncate_keeps i c past = go (at c.state.ids i) (find_has (λ x. x.index == i) c.state.ids) where
    cut : LogId NID → Core C NID N E D R S
    cut first = record { state = truncate c.state i; output = with_command c.output (command.DeleteConflictLog first) }

    at_or_past : (a i n : ℕ) → (a == i) ≡ true → n ≤ i → n ≤ a
    at_or_past a i n e l = grind (arith, nat_tests)

    same_committed : (first : LogId NID) → (cut first).state.committed ≡ c.state.committed
    same_committed first = either (λ (s : RaftState NID N). s.committed ≡ c.state.committed) (undoes_membership c.state i) _ _ refl refl

    go : (o : Option (LogId NID)) → IfSome o (λ y. ((y.index == i) ≡ true) × Has y c.state.ids)
        → KeepsCommitted c (elim o as (λ _. Core C NID N E D R S) [ None ↦ c | Some first ↦ (if not (undoes_membership c.state i) then cut first else update_role cmp config (cut first)) ])
    go None h = keeps_here c c refl
    go (Some first) h =
        let t : KeepsCommitted c (cut first) = record { added = command.DeleteConflictLog first ∷ []; behind = refl; past = (at_or_past first.index i (next c.state.committed) h.0 past, tt) } in
        either (KeepsCommitted c) (not (undoes_membership c.state i)) _ _ t
        (keeps_then c (cut first) (update_role cmp config (cut first)) t (same_committed first) (keeps_nothing (cut first) (update_role cmp config (cut first)) (role_only Undeleting cmp config undeleting (cut first))))

  -- no committed entry is deleted
  pub consecutive_keeps : (prev : Option (LogId NID)) (c : Core C NID N E D R S) → KeepsCommitted c (ensure_log_consecutive cmp config prev c)
  unfolding ensure_log_consecutive
  consecutive_keeps None c = keeps_here c c refl
  consecutive_keeps (Some x) c = go (has_log_id cmp c.state x) refl where
    go : (b : Bool) → has_log_id cmp c.state x ≡ b → KeepsCommitted c (if b then c else truncate_logs cmp config x.index c)
    go true e = keeps_here c c refl
    go false e = truncate_keeps x.index c (past_committed cmp c.state x e)

  reply_keeps : (token : Option Token) (response : AppendEntriesResponse NID) (c : Core C NID N E D R S) → KeepsCommitted c (record c { output = replied token response c.output })
  reply_keeps None response c = keeps_here c c refl
  reply_keeps (Some t) response c = keeps_nothing c _ (only_of Undeleting (command.Respond None (respond.AppendEntries (record { value = response; token = t })) ∷ []) c _ refl (refl, tt))

module _ {C NID N E D R S : Type 0} (cmp : NID → NID → Ordering) (total : IsTotalOrder cmp) (entry : RaftEntry.Ghosts E NID N) (config : EngineConfig NID) where
  pub do_append_deletes : (es : List E) (c : Core C NID N E D R S) → DeletesNothing c (do_append_entries cmp entry config es c)
  do_append_deletes es c = do_append_only Undeleting cmp entry config undeleting_elections es c

  do_append_keeps : (es : List E) (c : Core C NID N E D R S) → KeepsCommitted c (do_append_entries cmp entry config es c)
  do_append_keeps es c = keeps_nothing c _ (do_append_deletes es c)

  pub update_vote_committed : (v : Vote NID) (now : ℕ) (m : Machine C NID N E D R S) → (update_vote cmp entry config v now m).core.state.committed ≡ m.core.state.committed
  unfolding update_vote
  update_vote_committed v now m =
      let taken = on_core (take_vote cmp config v now) m in
      either (λ (n : Machine C NID N E D R S). n.core.state.committed ≡ m.core.state.committed) (rejects_vote cmp m.core.state v) _ _ refl
      ((internal_marks cmp entry config taken).committed ∙ either (λ (c : Core C NID N E D R S). c.state.committed ≡ m.core.state.committed) (is_gt (vote_cmp cmp v m.core.state.vote)) _ _ refl refl)

  pub update_vote_deletes : (v : Vote NID) (now : ℕ) (m : Machine C NID N E D R S) → DeletesNothing m.core (update_vote cmp entry config v now m).core
  update_vote_deletes v now m = voted_only Undeleting cmp entry config undeleting_elections v now m

  pub update_vote_keeps : (v : Vote NID) (now : ℕ) (m : Machine C NID N E D R S) → KeepsCommitted m.core (update_vote cmp entry config v now m).core
  update_vote_keeps v now m = keeps_nothing m.core _ (update_vote_deletes v now m)

  truncate_for_keeps : (s : RaftState NID N) (es : List E) (c : Core C NID N E D R S) → IsMissing cmp entry s es → c.state.committed ≡ s.committed → KeepsCommitted c (truncate_for cmp entry config es c)
  truncate_for_keeps s [] c n e = keeps_here c c refl
  truncate_for_keeps s (x ∷ es) c n e =
      truncate_keeps cmp total config (entry.id_of x).index c (subst (λ o. next o ≤ (entry.id_of x).index) (sym e) (past_committed cmp s (entry.id_of x) n))

  pub append_keeps : (prev : Option (LogId NID)) (es : List E) (c : Core C NID N E D R S) → KeepsCommitted c (following.append_entries cmp entry config prev es c)
  unfolding following.append_entries
  append_keeps prev es c =
      let x = later cmp prev (last (map entry.id_of es)) in
      let noted = with_state c (accept cmp c.state x) in
      let new = new_entries cmp entry c.state es in
      let cut = truncate_for cmp entry config new noted in
      let same : noted.state.committed ≡ c.state.committed = (noted_marks cmp x c.state).committed in
      keeps_then c noted _ (keeps_here c noted refl) same
      (keeps_then noted cut _ (truncate_for_keeps c.state new noted (new_missing cmp entry c.state es) same) (truncate_for_marks cmp entry config new noted).committed
      (do_append_keeps new cut))

  follow_keeps : (prev : Option (LogId NID)) (es : List E) (c : Core C NID N E D R S) → KeepsCommitted c (follow cmp entry config prev es c)
  unfolding follow
  follow_keeps prev es c = either (KeepsCommitted c) (holds_previous cmp c.state prev) _ _ (append_keeps prev es c) (consecutive_keeps cmp total config prev c)

  pub append_entries_keeps : (v : Vote NID) (prev : Option (LogId NID)) (es : List E) (now : ℕ) (m : Machine C NID N E D R S) → KeepsCommitted m.core (append_entries cmp entry config v prev es now m).core
  unfolding append_entries
  append_entries_keeps v prev es now m =
      let voted = update_vote cmp entry config v now m in
      either (λ (n : Machine C NID N E D R S). KeepsCommitted m.core n.core) (rejects_vote cmp m.core.state v) _ _ (keeps_here m.core m.core refl)
      (keeps_then m.core voted.core _ (update_vote_keeps v now m) (update_vote_committed v now m) (follow_keeps prev es voted.core))

  append_entries_committed : (v : Vote NID) (prev : Option (LogId NID)) (es : List E) (now : ℕ) (m : Machine C NID N E D R S) → (append_entries cmp entry config v prev es now m).core.state.committed ≡ m.core.state.committed
  unfolding append_entries
  append_entries_committed v prev es now m =
      let voted = update_vote cmp entry config v now m in
      either (λ (n : Machine C NID N E D R S). n.core.state.committed ≡ m.core.state.committed) (rejects_vote cmp m.core.state v) _ _ refl
      ((follow_marks cmp entry config prev es voted.core).committed ∙ update_vote_committed v now m)

  pub handle_append_keeps : (v : Vote NID) (prev : Option (LogId NID)) (es : List E) (token : Option Token) (now : ℕ) (m : Machine C NID N E D R S) → KeepsCommitted m.core (handle_append_entries cmp entry config v prev es token now m).core
  unfolding handle_append_entries
  handle_append_keeps v prev es token now m =
      let done = append_entries cmp entry config v prev es now m in
      keeps_then m.core done.core _ (append_entries_keeps v prev es now m) (append_entries_committed v prev es now m)
      (reply_keeps cmp total config token (append_response (append_answer cmp entry config v prev now m)) done.core)
