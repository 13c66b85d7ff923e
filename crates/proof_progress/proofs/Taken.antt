-- What a node does that takes another leader's request: it neither leads nor stands then, and stores the request's entries or snapshot.
use Rattle.std.specs.Prelude.{Bool, List, None, Option, Some, [], false, true, if◌then◌else◌, length, map, refl, ℕ, ◌+◌, ◌==◌, ◌∷◌, ◌≡◌}
use Rattle.std.proofs.Common.{◌&&◌, subst, sym, true≢false, ◌∙◌}
use Rattle.std.specs.List.{AllByRecursion, prefix_len}
use Rattle.std.specs.Ordering.{is_eq, is_gt, nat_cmp}
use Rattle.std.specs.Result.{is_ok}
use Rattle.std.proofs.lemmas.Cmp.{nat_cmp_total}
use Rattle.proof_deeds.specs.raft_state.declared.ids.LogId.{LogId}
use Rattle.proof_deeds.specs.raft_state.declared.ids.Vote.{Vote}
use Rattle.proof_deeds.specs.raft_state.Log.{last}
use Rattle.proof_deeds.specs.raft_state.Members.{contains}
use Rattle.proof_deeds.specs.raft_state.Order.{last_id_cmp, vote_cmp}
use Rattle.proof_deeds.specs.raft_state.Same.{nat_same}
use Rattle.proof_deeds.specs.raft_state.State.{accept, has_log_id, is_leader, is_leading, purge}
use Rattle.proof_deeds.proofs.raft_state_proofs.Orders.{and_both}
use Rattle.proof_deeds.specs.raft_error.declared.error.EngineError.{EngineError}
use Rattle.proof_deeds.specs.raft_error.Number.{number_of}
use Rattle.proof_deeds.specs.raft_command.declared.command.Command.TheVariants.{AppendInputEntries, PurgeLog, Respond, SaveVote}
use Rattle.proof_deeds.specs.raft_command.declared.command.Condition.{Condition}
use Rattle.proof_deeds.specs.raft_command.declared.config.EngineConfig.{EngineConfig}
use Rattle.proof_deeds.specs.raft_command.declared.respond.Respond.TheVariants as respond
use Rattle.proof_deeds.specs.raft_command.declared.sm.CommandPayload.TheVariants.{InstallFullSnapshot}
use Rattle.proof_deeds.specs.raft_command.Message.{append_response}
use Rattle.proof_deeds.specs.raft_command.Push.{ordered, with_command}
use Rattle.proof_deeds.specs.raft_steps.FollowingHandler.{commit_entries, commit_target, do_append_entries, ensure_log_consecutive, holds_previous, is_held, memberships_in, new_entries, truncate_for, with_entries}
use Rattle.proof_deeds.specs.raft_steps.FollowingHandler as following
use Rattle.proof_deeds.specs.raft_steps.InstallLaws.{installing}
use Rattle.proof_deeds.specs.raft_steps.InstallRefusals.{refusals_of_fit, refusals_of_install}
use Rattle.proof_deeds.specs.raft_steps.Installs.{handle_install_full_snapshot, has_other_at, held_upto, install_and_reply, install_full_snapshot, install_upto, installs, replaces_log, reply_install, truncate_contradicted, with_memberships_of}
use Rattle.proof_deeds.specs.raft_steps.Laws.{QueuesOnly, later}
use Rattle.proof_deeds.specs.raft_steps.LogHandler.{purge_log, update_purge_upto}
use Rattle.proof_deeds.specs.raft_steps.Parts.{on_core, then_command, with_state}
use Rattle.proof_deeds.specs.raft_steps.RequestRefusals.{refusals_of_append, refusals_of_commit, refusals_of_follow}
use Rattle.proof_deeds.specs.raft_steps.Requests.{append_answer, append_entries, follow, handle_append_entries, handle_commit_entries}
use Rattle.proof_deeds.specs.raft_steps.ServerStateHandler.{update_role}
use Rattle.proof_deeds.specs.raft_steps.VoteHandler.{become_following, become_leader, rejects_vote, update_internal_server_state, update_vote}
use Rattle.proof_deeds.proofs.raft_steps_proofs.Allowed.{AllowsLeading, commit_by_only, following_only, only_here, only_of, only_then, role_only, truncate_only}
use Rattle.proof_deeds.proofs.raft_steps_proofs.Kept.{either, either_option}
use Rattle.proof_deeds.proofs.raft_steps_proofs.KeptFollow.{heard_case, not_own}
use Rattle.proof_deeds.proofs.raft_steps_proofs.Leads.{no_order, vote_same}
use Rattle.proof_deeds.specs.raft_store.declared.entry.Entry.{Entry}
use Rattle.proof_deeds.specs.raft_store.Entries.{entry_meaning}
use Rattle.proof_deeds.specs.raft_store.Types.{EngineView, WorldCandidate, WorldLeader, WorldMachine, WorldSnapshot}
use Rattle.proof_deeds.specs.raft_calls.declared.feed.Feed.{Feed}
use Rattle.proof_deeds.specs.raft_calls.declared.feed.Feed.TheVariants.{Nothing, Saved, Stored}
use Rattle.proof_deeds.specs.raft_calls.Deliveries.{answered, appended, reply_token, take_append, take_commit, with_machine}
use Rattle.proof_deeds.specs.raft_calls.Engines.{WorldRespond}
use Rattle.proof_deeds.specs.raft_calls.Feeds.{asks_itself, fed, grant_own, hold_own}
use Rattle.proof_deeds.proofs.raft_calls_proofs.Falls.{WorldCore}
use Rattle.proof_deeds.proofs.Stored.{each_drop}
use Rattle.proof_progress.proofs.EntriesQueued.{Brings}
use Rattle.proof_progress.proofs.OwnCalled.{Answer, engine_in}

-- it neither leads nor stands
abbrev pub Rests : WorldMachine → Type 0
Rests m = (m.leader ≡ None) × (m.candidate ≡ None)

-- so nothing is fed back
pub fed_rests : (now : ℕ) (f : Feed) (e : EngineView) → Rests e.machine → fed now f e ≡ e
fed_rests now Nothing e h = refl
fed_rests now (Stored v x) e h = go e.machine.leader h.0
  where
    go : (o : Option WorldLeader) → o ≡ None → (elim o as (λ _. EngineView) [ None ↦ e | Some l ↦ (if is_eq (vote_cmp nat_cmp l.vote v) then hold_own x l e else e) ]) ≡ e
    go None q = refl
    go (Some l) q = cc
fed_rests now (Saved v) e h = go e.machine.candidate h.1
  where
    go : (o : Option WorldCandidate) → o ≡ None → (elim o as (λ _. EngineView) [ None ↦ e | Some c ↦ (if asks_itself v c e then grant_own now v e else e) ]) ≡ e
    go None q = refl
    go (Some c) q = cc

abbrev machine_in : WorldMachine → WorldMachine
machine_in m = m

module _ (P : Entry → Type 0) where
  leading : AllowsLeading (Brings P)
  leading = record {
    becomes = tt;
    quits = tt;
    saves = λ v. tt;
    rebuilds = λ targets. tt;
    replicates = λ target f. tt;
    tells = λ x. tt;
    commits = λ seq a b. tt;
    builds = λ seq. tt;
  }

  -- a step queues commands that bring such entries alone
  abbrev pub OnlyGives : WorldCore → WorldCore → Type 0
  OnlyGives old new = QueuesOnly (Brings P) old new

  abbrev here : (old new : WorldCore) → new.output.items ≡ old.output.items → OnlyGives old new
  here old new e = only_here (Brings P) old new e

  abbrev next_to : (a b c : WorldCore) → OnlyGives a b → OnlyGives b c → OnlyGives a c
  next_to a b c h k = only_then (Brings P) a b c h k

  respond_gives : (when : Option (Condition ℕ)) (reply : WorldRespond) (c : WorldCore) → OnlyGives c (then_command c (Respond when reply))
  respond_gives when reply c = only_of (Brings P) (Respond when reply ∷ []) c _ refl (tt, tt)

  module _ (config : EngineConfig ℕ) where
    -- another node's vote
    follows_on : (m : WorldMachine) → is_eq (nat_cmp m.core.state.vote.leader_id.node_id config.id) ≡ false → OnlyGives m.core (update_internal_server_state nat_cmp entry_meaning config m).core
    unfolding update_internal_server_state
    follows_on m other = go (is_leader nat_cmp m.core.state config.id) refl
      where
        no : is_leader nat_cmp m.core.state config.id ≡ true → ⊥
        no e =
            let p = and_both (is_eq (nat_cmp m.core.state.vote.leader_id.node_id config.id) && contains nat_cmp m.core.state.em.membership config.id) m.core.state.vote.committed e in
            let q = (and_both (is_eq (nat_cmp m.core.state.vote.leader_id.node_id config.id)) (contains nat_cmp m.core.state.em.membership config.id) p.0).0 in
            true≢false (sym q ∙ other)

        go : (b : Bool) → is_leader nat_cmp m.core.state config.id ≡ b
            → OnlyGives m.core (machine_in (if b then become_leader nat_cmp entry_meaning config m else if is_leading nat_cmp m.core.state config.id then m else become_following nat_cmp config m)).core
        go true e = absurd (no e)
        go false e = either (λ (q : WorldMachine). OnlyGives m.core q.core) (is_leading nat_cmp m.core.state config.id) _ _ (here m.core m.core refl) (following_only (Brings P) nat_cmp config leading m)

    vote_gives : (v : Vote ℕ) (now : ℕ) (m : WorldMachine) → is_eq (nat_cmp v.leader_id.node_id config.id) ≡ false → rejects_vote nat_cmp m.core.state v ≡ false → OnlyGives m.core (update_vote nat_cmp entry_meaning config v now m).core
    unfolding update_vote
    vote_gives v now m other low = either (λ (q : WorldMachine). OnlyGives m.core q.core) (rejects_vote nat_cmp m.core.state v) _ _ (here m.core m.core refl) (taken (is_gt (vote_cmp nat_cmp v m.core.state.vote)) refl)
      where
        taken : (b : Bool) → is_gt (vote_cmp nat_cmp v m.core.state.vote) ≡ b
            → OnlyGives m.core
            (update_internal_server_state nat_cmp entry_meaning config
            (on_core (λ c. if b then then_command (with_state c (record c.state { vote = v; time = Some now })) (SaveVote v) else with_state c (record c.state { time = Some now })) m)).core
        taken true e =
            let saved : WorldMachine = on_core (λ c. then_command (with_state c (record c.state { vote = v; time = Some now })) (SaveVote v)) m in
            next_to m.core saved.core _ (only_of (Brings P) (SaveVote v ∷ []) m.core saved.core refl (tt, tt)) (follows_on saved other)
        taken false e =
            let same : v ≡ m.core.state.vote = vote_same nat_cmp nat_same v m.core.state.vote (no_order _ low e) in
            let timed : WorldMachine = on_core (λ c. with_state c (record c.state { time = Some now })) m in
            next_to m.core timed.core _ (here m.core timed.core refl) (follows_on timed (subst (λ (w : Vote ℕ). is_eq (nat_cmp w.leader_id.node_id config.id) ≡ false) same other))

    -- its entries
    do_append_gives : (es : List Entry) → AllByRecursion P es → (c : WorldCore) → OnlyGives c (do_append_entries nat_cmp entry_meaning config es c)
    unfolding do_append_entries
    do_append_gives es k c =
        let taken : WorldCore = with_state c (with_entries entry_meaning c.state es) in
        let t : OnlyGives c taken = here c taken refl in
        let settled : WorldCore = if length (memberships_in entry_meaning es) == 0 then taken else update_role nat_cmp config taken in
        let s : OnlyGives c settled = either (OnlyGives c) (length (memberships_in entry_meaning es) == 0) _ _ t (next_to c taken (update_role nat_cmp config taken) t (role_only (Brings P) nat_cmp config leading taken)) in
        either (OnlyGives c) (length es == 0) _ _ (here c c refl)
        (next_to c settled (then_command settled (AppendInputEntries c.state.vote es)) s (only_of (Brings P) (AppendInputEntries c.state.vote es ∷ []) settled _ refl (k, tt)))

    truncate_gives : (i : ℕ) (c : WorldCore) → OnlyGives c (following.truncate_logs nat_cmp config i c)
    truncate_gives i c = truncate_only (Brings P) nat_cmp config leading i c (λ x e. tt)

    truncate_for_gives : (es : List Entry) (c : WorldCore) → OnlyGives c (truncate_for nat_cmp entry_meaning config es c)
    truncate_for_gives [] c = here c c refl
    truncate_for_gives (e ∷ es) c = truncate_gives (entry_meaning.id_of e).index c

    consecutive_gives : (prev : Option (LogId ℕ)) (c : WorldCore) → OnlyGives c (ensure_log_consecutive nat_cmp config prev c)
    unfolding ensure_log_consecutive
    consecutive_gives None c = here c c refl
    consecutive_gives (Some x) c = either (OnlyGives c) (has_log_id nat_cmp c.state x) _ _ (here c c refl) (truncate_gives x.index c)

    append_gives : (prev : Option (LogId ℕ)) (es : List Entry) → AllByRecursion P es → (c : WorldCore) → OnlyGives c (following.append_entries nat_cmp entry_meaning config prev es c)
    unfolding following.append_entries
    append_gives prev es k c =
        let noted : WorldCore = with_state c (accept nat_cmp c.state (later nat_cmp prev (last (map entry_meaning.id_of es)))) in
        let new : List Entry = new_entries nat_cmp entry_meaning c.state es in
        let cut : WorldCore = truncate_for nat_cmp entry_meaning config new noted in
        next_to c noted _ (here c noted refl) (next_to noted cut _ (truncate_for_gives new noted) (do_append_gives new (each_drop P (prefix_len (is_held nat_cmp entry_meaning c.state) es) es k) cut))

    follow_gives : (prev : Option (LogId ℕ)) (es : List Entry) → AllByRecursion P es → (c : WorldCore) → OnlyGives c (follow nat_cmp entry_meaning config prev es c)
    unfolding follow
    follow_gives prev es k c = either (OnlyGives c) (holds_previous nat_cmp c.state prev) _ _ (append_gives prev es k c) (consecutive_gives prev c)

    -- a request's entries, and the reply
    handle_append_gives : (v : Vote ℕ) (prev : Option (LogId ℕ)) (es : List Entry) (now : ℕ) (m : WorldMachine) → is_eq (nat_cmp v.leader_id.node_id config.id) ≡ false → rejects_vote nat_cmp m.core.state v ≡ false → AllByRecursion P es
        → OnlyGives m.core (handle_append_entries nat_cmp entry_meaning config v prev es (Some reply_token) now m).core
    unfolding handle_append_entries append_entries
    handle_append_gives v prev es now m other low k =
        let voted : WorldMachine = update_vote nat_cmp entry_meaning config v now m in
        let done : WorldMachine = if rejects_vote nat_cmp m.core.state v then m else on_core (follow nat_cmp entry_meaning config prev es) voted in
        next_to m.core done.core _
        (either (λ (q : WorldMachine). OnlyGives m.core q.core) (rejects_vote nat_cmp m.core.state v) _ _ (here m.core m.core refl) (next_to m.core voted.core _ (vote_gives v now m other low) (follow_gives prev es k voted.core)))
        (respond_gives None (respond.AppendEntries (record { value = append_response (append_answer nat_cmp entry_meaning config v prev now m); token = reply_token })) done.core)

    commit_gives : (x : Option (LogId ℕ)) (m : WorldMachine) → OnlyGives m.core (handle_commit_entries nat_cmp entry_meaning config x m).core
    unfolding handle_commit_entries commit_entries
    commit_gives x m = commit_by_only (Brings P) nat_cmp config leading [] (commit_target nat_cmp m.core.state x) m.core tt

    -- its snapshot
    purge_gives : (c : WorldCore) → OnlyGives c (purge_log nat_cmp c)
    unfolding purge_log
    purge_gives c =
        either_option (OnlyGives c) c.state.purge_to c _ (here c c refl)
        (λ x. either (OnlyGives c) (is_gt (last_id_cmp nat_cmp (Some x) c.state.purged)) _ _
        (only_of (Brings P) (PurgeLog x ∷ []) c (record { state = purge nat_cmp c.state x; output = with_command c.output (PurgeLog x) }) refl (tt, tt)) (here c c refl))

    upto_gives : (snapshot : WorldSnapshot) → AllByRecursion P snapshot.snapshot → (x : LogId ℕ) (c : WorldCore) → OnlyGives c (install_upto nat_cmp config x snapshot c)
    unfolding install_upto
    upto_gives snapshot k x c =
        let begun : WorldCore = with_state c (record c.state { snap = snapshot.meta }) in
        let cut : WorldCore = truncate_contradicted nat_cmp config x begun in
        let held : WorldCore = with_state cut (with_memberships_of snapshot.meta.last_membership x (replaces_log nat_cmp c.state x) (held_upto nat_cmp x cut.state)) in
        let settled : WorldCore = update_role nat_cmp config held in
        let queuing : WorldCore = record settled { output = ordered settled.output (InstallFullSnapshot snapshot) } in
        let targeted : WorldCore = update_purge_upto (Some x) queuing in
        next_to c begun _ (here c begun refl)
        (next_to begun cut _ (either (OnlyGives begun) (has_other_at nat_cmp begun.state x) _ _ (truncate_gives x.index begun) (here begun begun refl))
        (next_to cut held _ (here cut held refl)
        (next_to held settled _ (role_only (Brings P) nat_cmp config leading held)
        (next_to settled queuing _ (only_of (Brings P) (installing snapshot (settled.output.seq + 1) ∷ []) settled queuing refl (k, tt))
        (next_to queuing targeted _ (here queuing targeted refl) (purge_gives targeted))))))

    install_gives : (snapshot : WorldSnapshot) → AllByRecursion P snapshot.snapshot → (c : WorldCore) → OnlyGives c (install_full_snapshot nat_cmp config snapshot c)
    unfolding install_full_snapshot
    install_gives snapshot k c =
        either_option (OnlyGives c) snapshot.meta.last_log_id _ _ (here c c refl)
        (λ x. either (OnlyGives c) (installs nat_cmp c.state snapshot.meta) _ _ (upto_gives snapshot k x c) (here c c refl))

    handle_install_gives : (snapshot : WorldSnapshot) (v : Vote ℕ) (now : ℕ) (m : WorldMachine) → is_eq (nat_cmp v.leader_id.node_id config.id) ≡ false → rejects_vote nat_cmp m.core.state v ≡ false → AllByRecursion P snapshot.snapshot
        → OnlyGives m.core (handle_install_full_snapshot nat_cmp entry_meaning config v snapshot reply_token now m).core
    unfolding handle_install_full_snapshot
    handle_install_gives snapshot v now m other low k =
        let voted : WorldMachine = update_vote nat_cmp entry_meaning config v now m in
        let installed : WorldCore = install_full_snapshot nat_cmp config snapshot voted.core in
        either (λ (q : WorldMachine). OnlyGives m.core q.core) (rejects_vote nat_cmp m.core.state v) _ _ (respond_gives _ _ m.core)
        (next_to m.core installed _ (next_to m.core voted.core installed (vote_gives v now m other low) (install_gives snapshot k voted.core)) (respond_gives _ _ installed))

    -- then it follows
    append_rests : (v : Vote ℕ) (prev : Option (LogId ℕ)) (es : List Entry) (now : ℕ) (m : WorldMachine) → is_eq (nat_cmp v.leader_id.node_id config.id) ≡ false → rejects_vote nat_cmp m.core.state v ≡ false
        → Rests (handle_append_entries nat_cmp entry_meaning config v prev es (Some reply_token) now m)
    unfolding handle_append_entries append_entries
    append_rests v prev es now m other low = go (rejects_vote nat_cmp m.core.state v) low
      where
        go : (b : Bool) → b ≡ false → Rests (if b then m else on_core (follow nat_cmp entry_meaning config prev es) (update_vote nat_cmp entry_meaning config v now m))
        go true q = absurd (true≢false q)
        go false q = heard_case nat_cmp nat_cmp_total nat_same entry_meaning config Rests v now m low other (λ role q. (refl, refl))

    install_rests : (snapshot : WorldSnapshot) (v : Vote ℕ) (now : ℕ) (m : WorldMachine) → is_eq (nat_cmp v.leader_id.node_id config.id) ≡ false → rejects_vote nat_cmp m.core.state v ≡ false
        → Rests (handle_install_full_snapshot nat_cmp entry_meaning config v snapshot reply_token now m)
    unfolding handle_install_full_snapshot
    install_rests snapshot v now m other low = go (rejects_vote nat_cmp m.core.state v) low
      where
        go : (b : Bool) → b ≡ false → Rests (if b then on_core (reply_install None reply_token) m else on_core (install_and_reply nat_cmp entry_meaning config snapshot reply_token) (update_vote nat_cmp entry_meaning config v now m))
        go true q = absurd (true≢false q)
        go false q = heard_case nat_cmp nat_cmp_total nat_same entry_meaning config Rests v now m low other (λ role q. (refl, refl))

    commit_rests : (x : Option (LogId ℕ)) (m : WorldMachine) → Rests m → Rests (handle_commit_entries nat_cmp entry_meaning config x m)
    unfolding handle_commit_entries
    commit_rests x m h = h

  -- a running engine after it
  abbrev pub Gave : EngineView → EngineView → Type 0
  Gave e f = OnlyGives e.machine.core f.machine.core × Rests f.machine

  pub append_gave : (v : Vote ℕ) (prev : Option (LogId ℕ)) (es : List Entry) (committed : Option (LogId ℕ)) (now : ℕ) (e : EngineView)
      → refusals_of_append nat_cmp e.config v prev (map (λ x. x.log_id) es) e.machine ≡ None → rejects_vote nat_cmp e.machine.core.state v ≡ false → AllByRecursion P es → Gave e (engine_in (take_append v prev es committed now e))
  append_gave v prev es committed now e asks low k = go (refusals_of_append nat_cmp e.config v prev (map (λ x. x.log_id) es) e.machine) asks
    where
      other : is_eq (nat_cmp v.leader_id.node_id e.config.id) ≡ false
      other = not_own nat_cmp nat_cmp_total nat_same entry_meaning e.config v (refusals_of_follow nat_cmp e.machine.core.state v prev (map (λ x. x.log_id) es)) e.machine asks

      new : EngineView
      new = appended v prev es now e

      done : Gave e (appended v prev es now e)
      done = (handle_append_gives e.config v prev es now e.machine other low k, append_rests e.config v prev es now e.machine other low)

      committing : (r : Option (EngineError ℕ (Unit {0}))) → Gave e (engine_in (answered r (appended v prev es now e) (with_machine (appended v prev es now e) (handle_commit_entries nat_cmp entry_meaning new.config committed new.machine))))
      committing (Some r) = done
      committing None = (next_to e.machine.core new.machine.core _ done.0 (commit_gives new.config committed new.machine), commit_rests new.config committed new.machine done.1)

      by : (b : Bool) → Gave e (engine_in (if b then take_commit committed (appended v prev es now e) else (None, appended v prev es now e)))
      by true = committing (refusals_of_commit nat_cmp committed new.machine)
      by false = done

      go : (o : Option (EngineError ℕ (Unit {0}))) → o ≡ None → Gave e (engine_in (elim o as (λ _. Answer) [
        | Some r ↦ (Some (number_of r), e)
        | None ↦ (if is_ok (append_answer nat_cmp entry_meaning e.config v prev now e.machine) then take_commit committed (appended v prev es now e) else (None, appended v prev es now e))
      ]))
      go (Some r) q = cc
      go None q = by (is_ok (append_answer nat_cmp entry_meaning e.config v prev now e.machine))

  pub install_gave : (snapshot : WorldSnapshot) (v : Vote ℕ) (now : ℕ) (e : EngineView)
      → refusals_of_install nat_cmp e.config v snapshot.meta e.machine ≡ None → rejects_vote nat_cmp e.machine.core.state v ≡ false → AllByRecursion P snapshot.snapshot
      → Gave e (engine_in (answered (refusals_of_install nat_cmp e.config v snapshot.meta e.machine) e (with_machine e (handle_install_full_snapshot nat_cmp entry_meaning e.config v snapshot reply_token now e.machine))))
  install_gave snapshot v now e asks low k = go (refusals_of_install nat_cmp e.config v snapshot.meta e.machine) asks
    where
      other : is_eq (nat_cmp v.leader_id.node_id e.config.id) ≡ false
      other = not_own nat_cmp nat_cmp_total nat_same entry_meaning e.config v (refusals_of_fit nat_cmp e.machine.core.state v snapshot.meta) e.machine asks

      go : (o : Option (EngineError ℕ (Unit {0}))) → o ≡ None → Gave e (engine_in (answered o e (with_machine e (handle_install_full_snapshot nat_cmp entry_meaning e.config v snapshot reply_token now e.machine))))
      go (Some r) q = cc
      go None q = (handle_install_gives e.config snapshot v now e.machine other low k, install_rests e.config snapshot v now e.machine other low)
