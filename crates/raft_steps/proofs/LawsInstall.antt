-- What installs queue, and what they leave.
use Rattle.std.specs.Prelude.{◌≡◌, ℕ, ◌+◌, ◌≤◌, Bool, true, false, not, ◌&&◌, List, [], ◌∷◌, ◌++◌, Option, None, Some, IfSome, refl, filter_map, if◌then◌else◌}
use Rattle.std.specs.List.{AllByRecursion}
use Rattle.std.proofs.Common.{ap, sym, ◌∙◌, subst}
use Rattle.std.proofs.lemmas.Bool.{and_parts}
use Rattle.std.proofs.lemmas.List.Elements.{filter_map-append}
use Rattle.std.specs.declared.cmp.Ordering.{Ordering}
use Rattle.std.specs.Ordering.{is_gt}
use Rattle.std.specs.Cmp.{IsTotalOrder}
use Rattle.raft_state.specs.declared.config.RaftEntry
use Rattle.raft_state.specs.declared.ids.LogId.{LogId}
use Rattle.raft_state.specs.declared.ids.Vote.{Vote}
use Rattle.raft_state.specs.declared.membership.SnapshotMeta.{SnapshotMeta}
use Rattle.raft_state.specs.declared.state.RaftState.{RaftState}
use Rattle.raft_state.specs.Fits.{is_within}
use Rattle.raft_state.specs.Log.{at, below}
use Rattle.raft_state.specs.Order.{last_id_cmp, next}
use Rattle.raft_state.specs.State.{accepted, undoes_membership}
use Rattle.raft_state.proofs.Orders.{within_refl}
use Rattle.raft_command.specs.declared.command.Command.{Command}
use Rattle.raft_command.specs.declared.command.Command.TheVariants.{DeleteConflictLog, PurgeLog, Respond}
use Rattle.raft_command.specs.declared.command.Condition.{Condition}
use Rattle.raft_command.specs.declared.command.Condition.TheVariants.{StateMachineCommand}
use Rattle.raft_command.specs.declared.config.EngineConfig.{EngineConfig}
use Rattle.raft_command.specs.declared.message.Snapshot.{Snapshot}
use Rattle.raft_command.specs.declared.message.Token.{Token}
use Rattle.raft_command.specs.declared.respond.Respond.TheVariants as respond
use Rattle.raft_command.specs.declared.sm.CommandPayload.TheVariants.{InstallFullSnapshot}
use Rattle.raft_command.specs.Push.{ordered}
use Rattle.raft_steps.specs.FollowingHandler.{truncate_logs}
use Rattle.raft_steps.specs.InstallRefusals.{refusals_of_fit, refusals_of_install}
use Rattle.raft_steps.specs.InstallLaws.{DeletesAt, installing, reply_waiting, InstallsFirst}
use Rattle.raft_steps.specs.Installs.{handle_install_full_snapshot, has_other_at, held_upto, install_and_reply, install_condition, install_full_snapshot, install_upto, installs, replaces_log, reply_install, truncate_contradicted, with_memberships_of}
use Rattle.raft_steps.specs.Laws.{KeepsCommitted, Queues, QueuesOnly}
use Rattle.raft_steps.specs.LogHandler.{purge_log, update_purge_upto}
use Rattle.raft_steps.specs.Parts.{Core, Machine, on_core, then_command, with_state}
use Rattle.raft_steps.specs.ReplyLaws.{purged_by, PurgesWithin}
use Rattle.raft_steps.specs.ServerStateHandler.{update_role}
use Rattle.raft_steps.specs.VoteHandler.{rejects_vote, update_vote}
use Rattle.raft_steps.proofs.Allowed.{AllowsLeading, both_behind, none_given, only_here, only_of, only_then, role_only, truncate_only, update_vote_only}
use Rattle.raft_steps.proofs.AllowedCalls.{AllowsElections, AllowsRequests}
use Rattle.raft_steps.proofs.Kept.{either, either_option}
use Rattle.raft_steps.proofs.KeptAppend.{truncate_case}
use Rattle.raft_steps.proofs.KeptEngine.{else_of}
use Rattle.raft_steps.proofs.KeptInstall.{fit_install, may_install, then_of}
use Rattle.raft_steps.proofs.LawsFollow.{keeps_here, keeps_nothing, keeps_then, truncate_keeps, truncate_queues, undeleting, Undeleting, update_vote_committed, update_vote_keeps}
use Rattle.raft_steps.proofs.LawsQueue.{append_append, append_none, queues_then, role_queues, silent, still, update_vote_queues}
use Rattle.raft_steps.proofs.LawsReply.{purge_leaves, purge_queues}
use Rattle.raft_steps.proofs.Unrefused.{neither}

module _ {NID : Type 0} (cmp : NID → NID → Ordering) where
  none_below : (o : Option (LogId NID)) (b : Bool) → (is_gt (last_id_cmp cmp None o) && b) ≡ true → ⊥
  none_below None b e = cc
  none_below (Some y) b e = cc

module _ {C NID N E D R S : Type 0} where
  -- a command purges nothing, and so do those of leading
  abbrev pub Unpurging : Command C NID N E D R S → Type 0
  Unpurging x = purged_by x ≡ None

  pub unpurging : AllowsLeading Unpurging
  unpurging = record {
    becomes = refl;
    quits = refl;
    saves = λ v. refl;
    rebuilds = λ targets. refl;
    replicates = λ target f. refl;
    tells = λ x. refl;
    commits = λ seq a b. refl;
    builds = λ seq. refl;
  }

  pub unpurging_elections : AllowsElections Unpurging
  unpurging_elections = record { leads = unpurging; stores = λ v es. refl; asks = λ r. refl }

  pub unpurging_requests : AllowsRequests Unpurging
  unpurging_requests = record { elects = unpurging_elections; cuts = λ x. refl; replies = λ r. refl }

  -- and delete nothing
  pub leaving : (i : ℕ) → AllowsLeading (DeletesAt {C = C} {NID = NID} {N = N} {E = E} {D = D} {R = R} {S = S} i)
  leaving i = record {
    becomes = tt;
    quits = tt;
    saves = λ v. tt;
    rebuilds = λ targets. tt;
    replicates = λ target f. tt;
    tells = λ x. tt;
    commits = λ seq a b. tt;
    builds = λ seq. tt;
  }

  -- what purges nothing, and then what purges within the snapshot
  pub within_then : (cmp : NID → NID → Ordering) (a b c : Core C NID N E D R S) → QueuesOnly Unpurging a b → PurgesWithin cmp b c → PurgesWithin cmp a c
  within_then cmp a b c h k = record {
    added = h.added ++ k.added;
    behind = both_behind a.output.items b.output.items c.output.items h.added k.added h.behind k.behind;
    within = subst (AllByRecursion (λ (y : LogId NID). is_within cmp (Some y) c.state.snap.last_log_id ≡ true))
        (sym (filter_map-append purged_by h.added k.added ∙ ap (λ ys. ys ++ filter_map purged_by k.added) (none_given purged_by h.added h.each))) k.within;
  }

  -- the same with an install between
  pub first_then : (snapshot : Snapshot C NID N E D R S) (number : ℕ) (ends more : List (Command C NID N E D R S)) (a b c d : Core C NID N E D R S)
      → QueuesOnly Unpurging a b → InstallsFirst snapshot number ends b c → d.output.items ≡ c.output.items ++ more → InstallsFirst snapshot number (ends ++ more) a d
  first_then snapshot number ends more a b c d h k e = record {
    before = h.added ++ k.before;
    after = k.after;
    behind = both_behind a.output.items b.output.items d.output.items h.added _ h.behind
        (both_behind b.output.items c.output.items d.output.items _ more k.behind e
        ∙ ap (λ ys. b.output.items ++ ys)
        (append_append k.before (installing snapshot number ∷ (k.after ++ ends)) more ∙ ap (λ ys. k.before ++ (installing snapshot number ∷ ys)) (append_append k.after ends more)))
        ∙ ap (λ ys. a.output.items ++ ys) (sym (append_append h.added k.before _));
    unpurged = filter_map-append purged_by h.added k.before ∙ (λ i. none_given purged_by h.added h.each i ++ k.unpurged i);
  }

module _ {C NID N E D R S : Type 0} (cmp : NID → NID → Ordering) (config : EngineConfig NID) where
  -- a purge
  purge_only : (P : Command C NID N E D R S → Type 0) → ((x : LogId NID) → P (PurgeLog x)) → (c : Core C NID N E D R S) → QueuesOnly P c (purge_log cmp c)
  unfolding purge_log
  purge_only P purges c =
      either_option (QueuesOnly P c) c.state.purge_to c _ (only_here P c c refl)
      (λ x. either (QueuesOnly P c) (is_gt (last_id_cmp cmp (Some x) c.state.purged)) _ _ (only_of P (PurgeLog x ∷ []) c _ refl (purges x, tt)) (only_here P c c refl))

  -- the steps of an install
  module _ (x : LogId NID) (snapshot : Snapshot C NID N E D R S) (c : Core C NID N E D R S) where
    abbrev begun : Core C NID N E D R S
    begun = with_state c (record c.state { snap = snapshot.meta })

    abbrev cut : Core C NID N E D R S
    cut = truncate_contradicted cmp config x begun

    abbrev held : Core C NID N E D R S
    held = with_state cut (with_memberships_of snapshot.meta.last_membership x (replaces_log cmp c.state x) (held_upto cmp x cut.state))

    abbrev settled : Core C NID N E D R S
    settled = update_role cmp config held

    abbrev queuing : Core C NID N E D R S
    queuing = record settled { output = ordered settled.output (InstallFullSnapshot snapshot) }

    abbrev targeted : Core C NID N E D R S
    targeted = update_purge_upto (Some x) queuing

    -- what holds of the state that is cut holds of the state after it, but for what is accepted, committed and the
    -- memberships
    held_leaves : (P : RaftState NID N → Type 0)
        → (let s : RaftState NID N = record cut.state { committed = Some x } in
        ((a : _) (cm em : _) → P (record s { accepted_by = a; cm = cm; em = em }))) → P held.state
    held_leaves P p =
        either P (replaces_log cmp c.state x) _ _
        (either (λ (s : RaftState NID N). P (record s { committed = Some x; cm = snapshot.meta.last_membership; em = snapshot.meta.last_membership })) (is_gt (last_id_cmp cmp (Some x) (accepted cmp cut.state))) _ _ (p _ _ _) (p _ _ _))
        (either (λ (s : RaftState NID N). P (with_memberships_of snapshot.meta.last_membership x false (record s { committed = Some x }))) (is_gt (last_id_cmp cmp (Some x) (accepted cmp cut.state))) _ _ (p _ _ _) (p _ _ _))

    cut_leaves : (P : Core C NID N E D R S → Type 0) → P begun → ((em : _) (ids : _) (role : _) (q : _) → P (record { state = record begun.state { ids = ids; em = em; role = role }; output = q })) → P cut
    cut_leaves P p q = either P (has_other_at cmp begun.state x) (truncate_logs cmp config x.index begun) begun (truncate_case cmp config P x.index begun (λ none. p) (λ first found em role o. q em (below x.index c.state.ids) role o)) p

    held_vote : held.state.vote ≡ cut.state.vote
    held_vote = held_leaves (λ s. s.vote ≡ cut.state.vote) (λ a cm em. refl)

    -- what is queued up to the install
    to_install : (P : Command C NID N E D R S → Type 0) → AllowsLeading P → ((y : LogId NID) → y.index ≡ x.index → P (DeleteConflictLog y)) → QueuesOnly P c settled
    to_install P allows deletes =
        only_then P c held settled
        (only_then P c cut held
        (only_then P c begun cut (only_here P c begun refl)
        (either (QueuesOnly P begun) (has_other_at cmp begun.state x) _ _ (truncate_only P cmp config allows x.index begun deletes) (only_here P begun begun refl)))
        (only_here P cut held refl)) (role_only P cmp config allows held)

    upto_queues : (total : IsTotalOrder cmp) → Queues cmp c (install_upto cmp config x snapshot c)
    unfolding install_upto
    upto_queues total =
        let push : Queues cmp settled queuing = record { added = installing snapshot (settled.output.seq + 1) ∷ []; behind = refl; votes = refl; numbers = (refl, refl) } in
        queues_then cmp c begun _ (still cmp c begun refl refl refl)
        (queues_then cmp begun cut _ (either (Queues cmp begun) (has_other_at cmp begun.state x) _ _ (truncate_queues cmp total config x.index begun) (still cmp begun begun refl refl refl))
        (queues_then cmp cut held _ (still cmp cut held refl refl held_vote)
        (queues_then cmp held settled _ (role_queues cmp total config held)
        (queues_then cmp settled queuing _ push
        (queues_then cmp queuing targeted _ (still cmp queuing targeted refl refl refl) (purge_queues cmp targeted))))))

    -- the log that is deleted begins at its last index
    upto_cuts : QueuesOnly (DeletesAt x.index) c (install_upto cmp config x snapshot c)
    unfolding install_upto
    upto_cuts =
        let At = DeletesAt {C = C} {NID = NID} {N = N} {E = E} {D = D} {R = R} {S = S} x.index in
        only_then At c settled _ (to_install At (leaving x.index) (λ y e. e))
        (only_then At settled queuing _ (only_of At (installing snapshot (settled.output.seq + 1) ∷ []) settled queuing refl (tt, tt))
        (only_then At queuing targeted _ (only_here At queuing targeted refl) (purge_only At (λ y. tt) targeted)))

    upto_keeps : (total : IsTotalOrder cmp) → next c.state.committed ≤ x.index → KeepsCommitted c (install_upto cmp config x snapshot c)
    unfolding install_upto
    upto_keeps total past =
        let cuts : KeepsCommitted begun cut = either (KeepsCommitted begun) (has_other_at cmp begun.state x) _ _ (truncate_keeps cmp total config x.index begun past) (keeps_here begun begun refl) in
        let ends : QueuesOnly Undeleting cut (purge_log cmp targeted) =
        only_then Undeleting cut settled _ (only_then Undeleting cut held settled (only_here Undeleting cut held refl) (role_only Undeleting cmp config undeleting held))
        (only_then Undeleting settled queuing _ (only_of Undeleting (installing snapshot (settled.output.seq + 1) ∷ []) settled queuing refl (refl, tt))
        (only_then Undeleting queuing targeted _ (only_here Undeleting queuing targeted refl) (purge_only Undeleting (λ y. refl) targeted))) in
        let same : cut.state.committed ≡ c.state.committed = cut_leaves (λ (d : Core C NID N E D R S). d.state.committed ≡ c.state.committed) refl (λ em ids role q. refl) in
        keeps_then c begun _ (keeps_here c begun refl) refl (keeps_then begun cut _ cuts same (keeps_nothing cut _ ends))

    -- the state that an install leaves
    upto_leaves : (P : RaftState NID N → Type 0) → ((ids : _) (purged : _) → P (record held.state { role = settled.state.role; purge_to = Some x; purged = purged; ids = ids })) → P (install_upto cmp config x snapshot c).state
    unfolding install_upto purge_log update_role
    upto_leaves P p =
        either (λ (d : Core C NID N E D R S). P d.state) (is_gt (last_id_cmp cmp (Some x) targeted.state.purged)) _ _
        (purge_leaves cmp P targeted.state x (p _ _) (p _ _)) (p _ _)

    upto_leaves_snapshot : (install_upto cmp config x snapshot c).state.snap ≡ snapshot.meta
    upto_leaves_snapshot =
        upto_leaves (λ (s : RaftState NID N). s.snap ≡ snapshot.meta)
        (λ ids purged. held_leaves (λ (s : RaftState NID N). s.snap ≡ snapshot.meta) (λ a cm em. cut_leaves (λ (d : Core C NID N E D R S). d.state.snap ≡ snapshot.meta) refl (λ em ids role q. refl)))

    upto_leaves_committed : (install_upto cmp config x snapshot c).state.committed ≡ Some x
    upto_leaves_committed =
        upto_leaves (λ (s : RaftState NID N). s.committed ≡ Some x) (λ ids purged. held_leaves (λ (s : RaftState NID N). s.committed ≡ Some x) (λ a cm em. refl))

    upto_leaves_vote : (let s = (install_upto cmp config x snapshot c).state in (s.vote ≡ c.state.vote) × (s.time ≡ c.state.time))
    upto_leaves_vote =
        let P = λ (s : RaftState NID N). (s.vote ≡ c.state.vote) × (s.time ≡ c.state.time) in
        upto_leaves P (λ ids purged. held_leaves P (λ a cm em. cut_leaves (λ (d : Core C NID N E D R S). P d.state) (refl, refl) (λ em ids role q. (refl, refl))))

    upto_leaves_members : replaces_log cmp c.state x ≡ true
        → (let s = (install_upto cmp config x snapshot c).state in (s.cm ≡ snapshot.meta.last_membership) × (s.em ≡ snapshot.meta.last_membership))
    upto_leaves_members gone =
        let P = λ (s : RaftState NID N). (s.cm ≡ snapshot.meta.last_membership) × (s.em ≡ snapshot.meta.last_membership) in
        upto_leaves P (λ ids purged. then_of P (replaces_log cmp c.state x) _ _ gone (refl, refl))

    -- the purge itself, where the recorded snapshot ends with x
    targeted_within : (total : IsTotalOrder cmp) → (purge_log cmp targeted).state.snap.last_log_id ≡ Some x → PurgesWithin cmp targeted (purge_log cmp targeted)
    unfolding purge_log
    targeted_within total =
        either (λ (d : Core C NID N E D R S). d.state.snap.last_log_id ≡ Some x → PurgesWithin cmp targeted d) (is_gt (last_id_cmp cmp (Some x) targeted.state.purged)) _ _
        (λ e. record { added = PurgeLog x ∷ []; behind = refl; within = (subst (λ o. is_within cmp (Some x) o ≡ true) (sym e) (within_refl cmp total (Some x)), tt) })
        (λ e. record { added = []; behind = append_none targeted.output.items; within = tt })

    upto_within : (total : IsTotalOrder cmp) → snapshot.meta.last_log_id ≡ Some x → PurgesWithin cmp c (install_upto cmp config x snapshot c)
    unfolding install_upto
    upto_within total is =
        within_then cmp c targeted _
        (only_then Unpurging c settled targeted (to_install Unpurging unpurging (λ y e. refl)) (only_of Unpurging (installing snapshot (settled.output.seq + 1) ∷ []) settled targeted refl (refl, tt)))
        (targeted_within total (ap (λ (meta : SnapshotMeta NID N). meta.last_log_id) upto_leaves_snapshot ∙ is))

    cut_seq : cut.output.seq ≡ c.output.seq
    unfolding truncate_logs update_role
    cut_seq =
        let Same = λ (d : Core C NID N E D R S). d.output.seq ≡ c.output.seq in
        either Same (has_other_at cmp begun.state x) _ _ (either_option Same (at begun.state.ids x.index) _ _ refl (λ first. either Same (not (undoes_membership begun.state x.index)) _ _ refl refl)) refl

    upto_first : InstallsFirst snapshot (c.output.seq + 1) [] c (install_upto cmp config x snapshot c)
    unfolding install_upto update_role
    upto_first =
        let b = to_install Unpurging unpurging (λ y e. refl) in
        let p = purge_queues cmp targeted in
        let last : Command C NID N E D R S = installing snapshot (settled.output.seq + 1) in
        subst (λ n. InstallsFirst snapshot (n + 1) [] c (purge_log cmp targeted)) cut_seq
        (record {
          before = b.added;
          after = p.added;
          behind = both_behind c.output.items settled.output.items (purge_log cmp targeted).output.items b.added (last ∷ (p.added ++ [])) b.behind
              (p.behind ∙ append_append settled.output.items (last ∷ []) p.added ∙ ap (λ ys. settled.output.items ++ (last ∷ ys)) (append_none p.added));
          unpurged = none_given purged_by b.added b.each;
        })

  -- what holds where a snapshot is installed
  installed_case : (P : Core C NID N E D R S → Type 0) (snapshot : Snapshot C NID N E D R S) (c : Core C NID N E D R S) → installs cmp c.state snapshot.meta ≡ true
      → ((x : LogId NID) → snapshot.meta.last_log_id ≡ Some x → P (install_upto cmp config x snapshot c)) → P (install_full_snapshot cmp config snapshot c)
  unfolding install_full_snapshot
  installed_case P snapshot c i p = go snapshot.meta.last_log_id refl i where
    go : (o : Option (LogId NID)) → snapshot.meta.last_log_id ≡ o → (is_gt (last_id_cmp cmp o c.state.committed) && is_gt (last_id_cmp cmp o c.state.snap.last_log_id)) ≡ true
        → P (elim o as (λ _. Core C NID N E D R S) [ None ↦ c | Some x ↦ (if installs cmp c.state snapshot.meta then install_upto cmp config x snapshot c else c) ])
    go None e j = absurd (none_below cmp c.state.committed _ j)
    go (Some x) e j = then_of P (installs cmp c.state snapshot.meta) _ _ i (p x e)

  -- and whether or not it is
  install_case : (P : Core C NID N E D R S → Type 0) (snapshot : Snapshot C NID N E D R S) (c : Core C NID N E D R S) → P c
      → ((x : LogId NID) → snapshot.meta.last_log_id ≡ Some x → installs cmp c.state snapshot.meta ≡ true → P (install_upto cmp config x snapshot c)) → P (install_full_snapshot cmp config snapshot c)
  unfolding install_full_snapshot
  install_case P snapshot c n p = go snapshot.meta.last_log_id refl where
    go : (o : Option (LogId NID)) → snapshot.meta.last_log_id ≡ o
        → P (elim o as (λ _. Core C NID N E D R S) [ None ↦ c | Some x ↦ (if installs cmp c.state snapshot.meta then install_upto cmp config x snapshot c else c) ])
    go None e = n
    go (Some x) e = by (installs cmp c.state snapshot.meta) refl where
      by : (b : Bool) → installs cmp c.state snapshot.meta ≡ b → P (if b then install_upto cmp config x snapshot c else c)
      by true i = p x e i
      by false i = n

  module _ (total : IsTotalOrder cmp) (snapshot : Snapshot C NID N E D R S) (c : Core C NID N E D R S) where
    pub install_queues : Queues cmp c (install_full_snapshot cmp config snapshot c)
    install_queues = install_case (Queues cmp c) snapshot c (still cmp c c refl refl refl) (λ x e i. upto_queues x snapshot c total)

    pub install_cuts : (x : LogId NID) → snapshot.meta.last_log_id ≡ Some x → QueuesOnly (DeletesAt x.index) c (install_full_snapshot cmp config snapshot c)
    install_cuts x e =
        install_case (QueuesOnly (DeletesAt x.index) c) snapshot c (only_here (DeletesAt x.index) c c refl)
        (λ y f i. let q : y ≡ x = same_some (sym f ∙ e) in subst (λ z. QueuesOnly (DeletesAt z.index) c (install_upto cmp config y snapshot c)) q (upto_cuts y snapshot c)) where
          same_some : {y z : LogId NID} → Some y ≡ Some z → y ≡ z
          same_some q = cc

    -- it deletes nothing that is committed, where its last index is past that
    install_past : ((x : LogId NID) → snapshot.meta.last_log_id ≡ Some x → installs cmp c.state snapshot.meta ≡ true → next c.state.committed ≤ x.index) → KeepsCommitted c (install_full_snapshot cmp config snapshot c)
    install_past past = install_case (KeepsCommitted c) snapshot c (keeps_here c c refl) (λ x e i. upto_keeps x snapshot c total (past x e i))

    pub install_keeps : (v : Vote NID) → refusals_of_fit cmp c.state v snapshot.meta ≡ None → KeepsCommitted c (install_full_snapshot cmp config snapshot c)
    install_keeps v asks = install_past (λ x e i. (may_install cmp c.state v snapshot.meta x e asks i).past)

    pub install_leaves_vote : (let s = (install_full_snapshot cmp config snapshot c).state in (s.vote ≡ c.state.vote) × (s.time ≡ c.state.time))
    install_leaves_vote =
        install_case (λ (d : Core C NID N E D R S). (d.state.vote ≡ c.state.vote) × (d.state.time ≡ c.state.time)) snapshot c (refl, refl) (λ x e i. upto_leaves_vote x snapshot c)

    pub install_within : PurgesWithin cmp c (install_full_snapshot cmp config snapshot c)
    install_within = install_case (PurgesWithin cmp c) snapshot c (record { added = []; behind = append_none c.output.items; within = tt }) (λ x e i. upto_within x snapshot c total e)

  module _ (snapshot : Snapshot C NID N E D R S) (c : Core C NID N E D R S) (i : installs cmp c.state snapshot.meta ≡ true) where
    pub install_first : InstallsFirst snapshot (c.output.seq + 1) [] c (install_full_snapshot cmp config snapshot c)
    install_first = installed_case (InstallsFirst snapshot (c.output.seq + 1) [] c) snapshot c i (λ x e. upto_first x snapshot c)

    pub install_records : (let s = (install_full_snapshot cmp config snapshot c).state in (s.snap ≡ snapshot.meta) × (s.committed ≡ snapshot.meta.last_log_id))
    install_records =
        installed_case (λ (d : Core C NID N E D R S). (d.state.snap ≡ snapshot.meta) × (d.state.committed ≡ snapshot.meta.last_log_id)) snapshot c i
        (λ x e. (upto_leaves_snapshot x snapshot c, upto_leaves_committed x snapshot c ∙ sym e))

    pub install_members : (x : LogId NID) → snapshot.meta.last_log_id ≡ Some x → replaces_log cmp c.state x ≡ true
        → (let s = (install_full_snapshot cmp config snapshot c).state in (s.cm ≡ snapshot.meta.last_membership) × (s.em ≡ snapshot.meta.last_membership))
    install_members x e gone =
        installed_case (λ (d : Core C NID N E D R S). (d.state.cm ≡ snapshot.meta.last_membership) × (d.state.em ≡ snapshot.meta.last_membership)) snapshot c i
        (λ y f. upto_leaves_members y snapshot c (subst (λ o. IfSome o (λ z. replaces_log cmp c.state z ≡ true)) (sym e ∙ f) gone))

module _ {C NID N E D R S : Type 0} (cmp : NID → NID → Ordering) where
  -- a reply behind the rest
  replied_queues : (when : Option (Condition NID)) (token : Token) (c : Core C NID N E D R S) → Queues cmp c (reply_install when token c)
  replied_queues when token c =
      silent cmp (Respond when (respond.InstallFullSnapshot (record { value = record { vote = c.state.vote }; token = token })) ∷ []) c (reply_install when token c) refl refl refl (record { no_votes = refl; no_numbers = refl; no_deletes = refl })

  -- one command more that deletes and purges nothing
  keeps_told : (a b : Core C NID N E D R S) (x : Command C NID N E D R S) → Undeleting x → KeepsCommitted a b → KeepsCommitted a (then_command b x)
  keeps_told a b x u h =
      let stayed : Core C NID N E D R S = record { state = a.state; output = b.output } in
      let k = keeps_nothing stayed (then_command stayed x) (only_of Undeleting (x ∷ []) stayed (then_command stayed x) refl (u, tt)) in
      let both = keeps_then a stayed (then_command stayed x) (record { added = h.added; behind = h.behind; past = h.past }) refl k in
      record { added = both.added; behind = both.behind; past = both.past }

  within_told : (a b : Core C NID N E D R S) (x : Command C NID N E D R S) → Unpurging x → PurgesWithin cmp a b → PurgesWithin cmp a (then_command b x)
  within_told a b x u h = record {
    added = h.added ++ (x ∷ []);
    behind = both_behind a.output.items b.output.items (b.output.items ++ (x ∷ [])) h.added (x ∷ []) h.behind refl;
    within = subst (AllByRecursion (λ (y : LogId NID). is_within cmp (Some y) b.state.snap.last_log_id ≡ true))
        (append_none (filter_map purged_by h.added) ∙ ap (λ ys. filter_map purged_by h.added ++ ys) (sym (none_given purged_by (x ∷ []) (u, tt))) ∙ sym (filter_map-append purged_by h.added (x ∷ []))) h.within;
  }

module _ {C NID N E D R S : Type 0} (cmp : NID → NID → Ordering) (total : IsTotalOrder cmp) (entry : RaftEntry.Ghosts E NID N) (config : EngineConfig NID) (v : Vote NID) (snapshot : Snapshot C NID N E D R S) (token : Token) (now : ℕ) (m : Machine C NID N E D R S) where
  abbrev voted : Machine C NID N E D R S
  voted = update_vote cmp entry config v now m

  abbrev when : Option (Condition NID)
  when = install_condition cmp snapshot.meta voted.core

  pub handle_install_queues : Queues cmp m.core (handle_install_full_snapshot cmp entry config v snapshot token now m).core
  unfolding handle_install_full_snapshot
  handle_install_queues =
      let installed = install_full_snapshot cmp config snapshot voted.core in
      either (λ (n : Machine C NID N E D R S). Queues cmp m.core n.core) (rejects_vote cmp m.core.state v) _ _ (replied_queues cmp None token m.core)
      (queues_then cmp m.core voted.core _ (update_vote_queues cmp total entry config v now m)
      (queues_then cmp voted.core installed _ (install_queues cmp config total snapshot voted.core) (replied_queues cmp when token installed)))

  pub handle_install_cuts : (x : LogId NID) → snapshot.meta.last_log_id ≡ Some x → QueuesOnly (DeletesAt x.index) m.core (handle_install_full_snapshot cmp entry config v snapshot token now m).core
  unfolding handle_install_full_snapshot
  handle_install_cuts x e =
      let At = DeletesAt {C = C} {NID = NID} {N = N} {E = E} {D = D} {R = R} {S = S} x.index in
      let installed = install_full_snapshot cmp config snapshot voted.core in
      let reply : Option (Condition NID) → Core C NID N E D R S → Command C NID N E D R S = λ w c. Respond w (respond.InstallFullSnapshot (record { value = record { vote = c.state.vote }; token = token })) in
      either (λ (n : Machine C NID N E D R S). QueuesOnly At m.core n.core) (rejects_vote cmp m.core.state v) _ _ (only_of At (reply None m.core ∷ []) m.core _ refl (tt, tt))
      (only_then At m.core installed _
      (only_then At m.core voted.core installed (update_vote_only At cmp config (leaving x.index) entry _ (λ vote leader e. tt) v now m refl) (install_cuts cmp config total snapshot voted.core x e))
      (only_of At (reply when installed ∷ []) installed _ refl (tt, tt)))

  pub handle_install_keeps : refusals_of_install cmp config v snapshot.meta m ≡ None → KeepsCommitted m.core (handle_install_full_snapshot cmp entry config v snapshot token now m).core
  unfolding handle_install_full_snapshot
  handle_install_keeps asks = go (rejects_vote cmp m.core.state v) (neither _ _ asks).1 where
    same : voted.core.state.committed ≡ m.core.state.committed
    same = update_vote_committed cmp total entry config v now m

    go : (b : Bool) → (if b then None else refusals_of_fit cmp m.core.state v snapshot.meta) ≡ None
        → KeepsCommitted m.core (if b then on_core (reply_install None token) m else on_core (install_and_reply cmp entry config snapshot token) voted).core
    go true f = keeps_told cmp m.core m.core _ refl (keeps_here m.core m.core refl)
    go false f =
        keeps_told cmp m.core (install_full_snapshot cmp config snapshot voted.core) _ refl
        (keeps_then m.core voted.core _ (update_vote_keeps cmp total entry config v now m) same
        (install_past cmp config total snapshot voted.core (λ x e i. subst (λ o. next o ≤ x.index) (sym same)
        (fit_install cmp m.core.state v snapshot.meta x e f
        (subst (λ o. is_gt (last_id_cmp cmp (Some x) o) ≡ true) same (subst (λ y. is_gt (last_id_cmp cmp y voted.core.state.committed) ≡ true) e (and_parts (is_gt (last_id_cmp cmp snapshot.meta.last_log_id voted.core.state.committed)) _ i).0))).past)))

  -- a vote that is taken purges nothing
  voted_unpurging : QueuesOnly Unpurging m.core voted.core
  voted_unpurging = update_vote_only Unpurging cmp config unpurging entry _ (λ vote leader e. refl) v now m refl

  pub handle_install_within : PurgesWithin cmp m.core (handle_install_full_snapshot cmp entry config v snapshot token now m).core
  unfolding handle_install_full_snapshot
  handle_install_within =
      let installed = install_full_snapshot cmp config snapshot voted.core in
      either (λ (n : Machine C NID N E D R S). PurgesWithin cmp m.core n.core) (rejects_vote cmp m.core.state v) _ _
      (within_told cmp m.core m.core _ refl (record { added = []; behind = append_none m.core.output.items; within = tt }))
      (within_told cmp m.core installed _ refl (within_then cmp m.core voted.core installed voted_unpurging (install_within cmp config total snapshot voted.core)))

  pub handle_install_first : rejects_vote cmp m.core.state v ≡ false → installs cmp voted.core.state snapshot.meta ≡ true
      → (let new = (handle_install_full_snapshot cmp entry config v snapshot token now m).core in
      let number = voted.core.output.seq + 1 in InstallsFirst snapshot number (reply_waiting new.state.vote token number ∷ []) m.core new)
  unfolding handle_install_full_snapshot
  handle_install_first taken i =
      let installed = install_full_snapshot cmp config snapshot voted.core in
      let number = voted.core.output.seq + 1 in
      let waits : when ≡ Some (StateMachineCommand number) = then_of (λ w. w ≡ Some (StateMachineCommand number)) (installs cmp voted.core.state snapshot.meta) _ _ i refl in
      else_of (λ (n : Machine C NID N E D R S). InstallsFirst snapshot number (reply_waiting n.core.state.vote token number ∷ []) m.core n.core) (rejects_vote cmp m.core.state v) _ _ taken
      (subst (λ w. InstallsFirst snapshot number (reply_waiting installed.state.vote token number ∷ []) m.core (reply_install w token installed)) (sym waits)
      (first_then snapshot number [] (reply_waiting installed.state.vote token number ∷ []) m.core voted.core installed _ voted_unpurging (install_first cmp config snapshot voted.core i) refl))
