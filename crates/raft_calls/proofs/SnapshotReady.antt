-- Calls for snapshots and purges leave an engine ready.
use Rattle.std.specs.Prelude.{ℕ, ◌+◌, ◌≡◌, nat_lt, min, Bool, true, false, List, [], ◌∷◌, Option, None, Some, Ok, refl, if◌then◌else◌}
use Rattle.std.proofs.Common.{◌∙◌, ap, sym, subst}
use Rattle.std.proofs.lemmas.Bool.{cond_both}
use Rattle.std.proofs.lemmas.Cmp.{nat_cmp_total}
use Rattle.std.proofs.lemmas.List.{append-nil}
use Rattle.std.specs.Ordering.{is_gt, nat_cmp}
use Rattle.raft_state.specs.declared.ids.LogId.{LogId}
use Rattle.raft_state.specs.declared.ids.Vote.{Vote}
use Rattle.raft_state.specs.declared.membership.SnapshotMeta.{SnapshotMeta}
use Rattle.raft_state.specs.Log.{at}
use Rattle.raft_state.specs.Order.{last_id_cmp, next, vote_cmp}
use Rattle.raft_state.specs.Same.{nat_same}
use Rattle.raft_state.specs.State.{purge}
use Rattle.raft_progress_entry.specs.declared.entry.ProgressEntry.{ProgressEntry}
use Rattle.raft_error.specs.declared.error.EngineError.{EngineError}
use Rattle.raft_command.specs.declared.command.Command.TheVariants.{PurgeLog, Respond, StateMachine}
use Rattle.raft_command.specs.declared.command.Condition.{Condition}
use Rattle.raft_command.specs.declared.config.EngineConfig.{EngineConfig}
use Rattle.raft_command.specs.declared.message.SnapshotResponse.{SnapshotResponse}
use Rattle.raft_command.specs.declared.message.Token.{Token}
use Rattle.raft_command.specs.declared.respond.Respond.TheVariants as respond
use Rattle.raft_command.specs.declared.sm.CommandPayload.TheVariants.{BuildSnapshot, InstallFullSnapshot}
use Rattle.raft_command.specs.Push.{ordered, with_command}
use Rattle.raft_steps.specs.InstallRefusals.{refusals_of_fit, refusals_of_install}
use Rattle.raft_steps.specs.Installs.{handle_install_full_snapshot, has_other_at, held_upto, install_and_reply, install_condition, install_full_snapshot, install_upto, installs, replaces_log, reply_install, truncate_contradicted, with_memberships_of}
use Rattle.raft_steps.specs.FollowingHandler.{truncate_logs}
use Rattle.raft_steps.specs.Invariants.{IsSound}
use Rattle.raft_steps.specs.LogHandler.{purge_log, schedule_policy_based_purge, try_purge_log, update_purge_upto}
use Rattle.raft_steps.specs.Parts.{on_core, with_state}
use Rattle.raft_steps.specs.Refusals.{refusals_of_spent, refusals_of_trigger_snapshot, rows_in}
use Rattle.raft_steps.specs.ServerStateHandler.{update_role}
use Rattle.raft_steps.specs.SnapshotCalls.{built, finish_building_snapshot, purge_to_index, trigger_purge_log}
use Rattle.raft_steps.specs.SnapshotHandler.{is_newer_snapshot, trigger_snapshot, update_snapshot}
use Rattle.raft_steps.specs.VoteHandler.{rejects_vote, update_vote}
use Rattle.raft_steps.proofs.KeptEngine.{trigger_is_sound}
use Rattle.raft_steps.proofs.KeptFollow.{not_own}
use Rattle.raft_steps.proofs.KeptInstall.{handle_install_is_sound}
use Rattle.raft_steps.proofs.KeptPurge.{finished_is_sound, triggered_is_sound}
use Rattle.raft_store.specs.declared.entry.Entry.{Entry}
use Rattle.raft_store.specs.Built.{meta_of}
use Rattle.raft_store.specs.Entries.{entry_meaning}
use Rattle.raft_store.specs.Types.{EngineView, WorldCommand, WorldMachine, WorldSnapshot}
use Rattle.raft_calls.specs.declared.message.Origin.{Origin}
use Rattle.raft_calls.specs.Deliveries.{answered, reply_token, take_higher_vote, take_result, take_snapshot, take_snapshot_reply, with_machine}
use Rattle.raft_calls.specs.Held.{IsReady, NoteFits}
use Rattle.raft_calls.specs.Snapshots.{purge_triggered, snapshot_triggered, told_built}
use Rattle.raft_calls.proofs.Falls.{WorldCore}
use Rattle.raft_calls.proofs.Follows.{Quiet, heard-quiet, quiet-none, quiet-silent, quiet-stores, quiet-then, role-quiet, stores_held, truncate-quiet}
use Rattle.raft_calls.proofs.LeaderReady.{AllQuiet, IsQuiet, higher_ready, quiet-append, quiet_held, result_ready, try_purge-quiet}

-- what is queued of a snapshot that is built, and of a purge
trigger-quiet : (c : WorldCore) → IsQuiet c → IsQuiet (trigger_snapshot c)
unfolding trigger_snapshot
trigger-quiet c h =
    cond_both c.state.building c (record { state = record c.state { building = true }; output = ordered c.output BuildSnapshot }) IsQuiet (λ _. h)
    (λ _. quiet-append c.output.items _ h (tt, tt))

module _ (config : EngineConfig ℕ) where
  index-quiet : (rows : List (ℕ × ProgressEntry ℕ)) (i : ℕ) (c : WorldCore) → IsQuiet c → IsQuiet (purge_to_index nat_cmp rows i c)
  index-quiet rows i c h = go c.state.snap.last_log_id
    where
      go : (o : Option (LogId ℕ)) → (let n = (elim o as (λ _. WorldCore) [
        | None ↦ c
        | Some x ↦ (if nat_lt i (next c.state.purge_to) then c else try_purge_log nat_cmp rows (update_purge_upto (at c.state.ids (min i x.index)) c))
      ]) in IsQuiet n)
      go None = h
      go (Some x) =
          cond_both (nat_lt i (next c.state.purge_to)) c (try_purge_log nat_cmp rows (update_purge_upto (at c.state.ids (min i x.index)) c)) IsQuiet (λ _. h)
          (λ _. try_purge-quiet config rows (update_purge_upto (at c.state.ids (min i x.index)) c) h)

  purge_to-quiet : (i : ℕ) (m : WorldMachine) → IsQuiet m.core → IsQuiet (trigger_purge_log nat_cmp i m).core
  unfolding trigger_purge_log
  purge_to-quiet i m h = index-quiet (rows_in m) i m.core h

  recorded-quiet : (meta : SnapshotMeta ℕ (Unit {0})) (c : WorldCore) → IsQuiet c → IsQuiet (schedule_policy_based_purge nat_cmp config (update_snapshot nat_cmp meta c))
  unfolding schedule_policy_based_purge update_snapshot
  recorded-quiet meta c h = cond_both (is_newer_snapshot nat_cmp c.state meta) (with_state c (record c.state { snap = meta })) c IsQuiet (λ _. h) (λ _. h)

  finish-quiet : (meta : SnapshotMeta ℕ (Unit {0})) (m : WorldMachine) → IsQuiet m.core → IsQuiet (finish_building_snapshot nat_cmp config meta m).core
  unfolding finish_building_snapshot
  finish-quiet meta m h =
      let b : WorldCore = built m.core in
      let scheduled : WorldCore = schedule_policy_based_purge nat_cmp config (update_snapshot nat_cmp meta b) in
      cond_both (is_newer_snapshot nat_cmp b.state meta) (try_purge_log nat_cmp (rows_in m) scheduled) b IsQuiet
      (λ _. try_purge-quiet config (rows_in m) scheduled (recorded-quiet meta b h)) (λ _. h)

  -- what is queued of an install
  same-quiet : (old new : WorldCore) → new.output ≡ old.output → Quiet old new
  same-quiet old new is = quiet-silent old new [] (ap (λ q. q.items) is ∙ sym (append-nil old.output.items)) tt

  purged-quiet : (c : WorldCore) → Quiet c (purge_log nat_cmp c)
  unfolding purge_log
  purged-quiet c = go c.state.purge_to
    where
      purged : LogId ℕ → WorldCore
      purged x = record { state = purge nat_cmp c.state x; output = with_command c.output (PurgeLog x) }

      go : (o : Option (LogId ℕ)) → Quiet c
          (elim o as (λ _. WorldCore) [ None ↦ c | Some x ↦ (if is_gt (last_id_cmp nat_cmp (Some x) c.state.purged) then purged x else c) ])
      go None = quiet-none c
      go (Some x) =
          cond_both (is_gt (last_id_cmp nat_cmp (Some x) c.state.purged)) (purged x) c (Quiet c)
          (λ _. record { more = PurgeLog x ∷ []; items = refl; held = λ ids. (tt, tt) }) (λ _. quiet-none c)

  cut-quiet : (x : LogId ℕ) (c : WorldCore) → Quiet c (truncate_contradicted nat_cmp config x c)
  cut-quiet x c =
      cond_both (has_other_at nat_cmp c.state x) (truncate_logs nat_cmp config x.index c) c (Quiet c) (λ _. truncate-quiet config x.index c) (λ _. quiet-none c)

  upto-quiet : (x : LogId ℕ) (snapshot : WorldSnapshot) (c : WorldCore) → Quiet c (install_upto nat_cmp config x snapshot c)
  unfolding install_upto
  upto-quiet x snapshot c =
      let noted : WorldCore = with_state c (record c.state { snap = snapshot.meta }) in
      let cut : WorldCore = truncate_contradicted nat_cmp config x noted in
      let held : WorldCore = with_state cut (with_memberships_of snapshot.meta.last_membership x (replaces_log nat_cmp c.state x) (held_upto nat_cmp x cut.state)) in
      let settled : WorldCore = update_role nat_cmp config held in
      let asked : WorldCore = update_purge_upto (Some x) (record settled { output = ordered settled.output (InstallFullSnapshot snapshot) }) in
      let install : WorldCommand = StateMachine (record { seq = settled.output.seq + 1; payload = InstallFullSnapshot snapshot }) in
      quiet-then c noted _ (same-quiet c noted refl)
      (quiet-then noted cut _ (cut-quiet x noted)
      (quiet-then cut held _ (same-quiet cut held refl)
      (quiet-then held settled _ (role-quiet config held)
      (quiet-then settled asked _ (record { more = install ∷ []; items = refl; held = λ ids. (tt, tt) }) (purged-quiet asked)))))

  full-quiet : (snapshot : WorldSnapshot) (c : WorldCore) → Quiet c (install_full_snapshot nat_cmp config snapshot c)
  unfolding install_full_snapshot
  full-quiet snapshot c = go snapshot.meta.last_log_id
    where
      go : (o : Option (LogId ℕ)) → Quiet c
          (elim o as (λ _. WorldCore) [ None ↦ c | Some x ↦ (if installs nat_cmp c.state snapshot.meta then install_upto nat_cmp config x snapshot c else c) ])
      go None = quiet-none c
      go (Some x) =
          cond_both (installs nat_cmp c.state snapshot.meta) (install_upto nat_cmp config x snapshot c) c (Quiet c) (λ _. upto-quiet x snapshot c) (λ _. quiet-none c)

  told-quiet : (when : Option (Condition ℕ)) (token : Token) (c : WorldCore) → Quiet c (reply_install when token c)
  told-quiet when token c = record {
    more = Respond when (respond.InstallFullSnapshot (record { value = record { vote = c.state.vote }; token = token })) ∷ [];
    items = refl;
    held = λ ids. (tt, tt);
  }

  handle_install-quiet : (v : Vote ℕ) (snapshot : WorldSnapshot) (token : Token) (now : ℕ) (m : WorldMachine)
      → refusals_of_install nat_cmp config v snapshot.meta m ≡ None → Quiet m.core (handle_install_full_snapshot nat_cmp entry_meaning config v snapshot token now m).core
  unfolding handle_install_full_snapshot
  handle_install-quiet v snapshot token now m asks = go (rejects_vote nat_cmp m.core.state v) refl
    where
      go : (b : Bool) → rejects_vote nat_cmp m.core.state v ≡ b → Quiet m.core
          (if b then on_core (reply_install None token) m
          else on_core (install_and_reply nat_cmp entry_meaning config snapshot token) (update_vote nat_cmp entry_meaning config v now m)).core
      go true e = told-quiet None token m.core
      go false e =
          let heard : WorldMachine = update_vote nat_cmp entry_meaning config v now m in
          let installed : WorldCore = install_full_snapshot nat_cmp config snapshot heard.core in
          quiet-then m.core heard.core _
          (heard-quiet config v now m e (not_own nat_cmp nat_cmp_total nat_same entry_meaning config v (refusals_of_fit nat_cmp m.core.state v snapshot.meta) m asks))
          (quiet-then heard.core installed _ (full-quiet snapshot heard.core) (told-quiet (install_condition nat_cmp snapshot.meta heard.core) token installed))

-- a call that isn't refused
pub answered_ready : (asks : Option (EngineError ℕ (Unit {0}))) (e after : EngineView) → IsReady e → (asks ≡ None → IsReady after) → IsReady (answered asks e after).1
answered_ready None e after h next = next refl
answered_ready (Some r) e after h next = h

module _ (e : EngineView) (h : IsReady e) (queue : e.machine.core.output.items ≡ []) where
  empty_quiet : IsQuiet e.machine.core
  empty_quiet = subst AllQuiet (sym queue) tt

  quiet_ready : (m : WorldMachine) → IsSound nat_cmp e.config m → IsQuiet m.core → IsReady (with_machine e m)
  quiet_ready m sound quiet = record { sound = sound; held = quiet_held m.core.state.ids m.core.output.items quiet }

  -- a snapshot to be built
  pub triggered_ready : IsReady (snapshot_triggered e).1
  triggered_ready =
      answered_ready (refusals_of_trigger_snapshot e.machine.core) e _ h
      (λ _. quiet_ready (on_core trigger_snapshot e.machine) (trigger_is_sound nat_cmp nat_cmp_total nat_same e.config e.machine h.sound) (trigger-quiet e.machine.core empty_quiet))

  -- a purge up to an index
  pub purged_ready : (i : ℕ) → IsReady (purge_triggered i e).1
  purged_ready i =
      answered_ready (refusals_of_spent e.machine) e _ h
      (λ _. quiet_ready (trigger_purge_log nat_cmp i e.machine) (triggered_is_sound nat_cmp nat_cmp_total nat_same e.config i e.machine h.sound) (purge_to-quiet e.config i e.machine empty_quiet))

  -- a snapshot that was built of these entries
  pub built_ready : (es : List Entry) → NoteFits e es → IsReady (told_built es e).1
  built_ready es f =
      let meta : SnapshotMeta ℕ (Unit {0}) = meta_of entry_meaning es in
      answered_ready (refusals_of_spent e.machine) e _ h
      (λ _. quiet_ready (finish_building_snapshot nat_cmp e.config meta e.machine)
      (finished_is_sound nat_cmp nat_cmp_total nat_same e.config meta e.machine f.fit f.committed h.sound) (finish-quiet e.config meta e.machine empty_quiet))

  -- a leader's snapshot
  pub installed_ready : (v : Vote ℕ) (snapshot : WorldSnapshot) (now : ℕ) → IsReady (take_snapshot v snapshot now e).1
  installed_ready v snapshot now =
      let after : WorldMachine = handle_install_full_snapshot nat_cmp entry_meaning e.config v snapshot reply_token now e.machine in
      answered_ready (refusals_of_install nat_cmp e.config v snapshot.meta e.machine) e _ h
      (λ (asks : refusals_of_install nat_cmp e.config v snapshot.meta e.machine ≡ None). record {
        sound = handle_install_is_sound nat_cmp nat_cmp_total nat_same entry_meaning e.config v snapshot reply_token now e.machine asks h.sound;
        held = stores_held e.machine.core after.core queue (quiet-stores e.machine.core after.core (handle_install-quiet e.config v snapshot reply_token now e.machine asks));
      })

  -- a reply to a snapshot
  pub snapshot_reply_ready : (from : ℕ) (o : Origin) (reply : SnapshotResponse ℕ) (upto : Option (LogId ℕ)) (now : ℕ) → IsReady (take_snapshot_reply from o reply upto now e).1
  snapshot_reply_ready from o reply upto now =
      cond_both (is_gt (vote_cmp nat_cmp reply.vote o.session_id.vote)) (take_higher_vote reply.vote now e) (take_result from o (Ok upto) e) (λ (r : Option ℕ × EngineView). IsReady r.1)
      (λ _. higher_ready e h reply.vote now) (λ _. result_ready e h queue from o (Ok upto))
