-- The calls of an event at a packed node.
use Rattle.std.specs.Prelude.{◌≡◌, ◌+◌, ◌++◌, ℕ, Bool, true, false, List, [], ◌∷◌, map, Option, None, Some, Err, refl, if◌then◌else◌}
use Rattle.std.specs.Ordering.{is_gt, nat_cmp}
use Rattle.std.proofs.Common.{◌∙◌, sym, subst, inl, inr, ap}
use Rattle.raft_node.specs.raft_state.declared.ids.LogId.{LogId}
use Rattle.raft_node.specs.raft_state.declared.ids.Vote.{Vote}
use Rattle.raft_node.specs.raft_state.Order.{last_id_cmp}
use Rattle.raft_node.specs.raft_error.declared.error.EngineError.{EngineError}
use Rattle.raft_node.specs.raft_error.Number.{number_of}
use Rattle.raft_node.specs.raft_command.declared.message.VoteRequest.{VoteRequest}
use Rattle.raft_node.specs.raft_command.declared.respond.Respond.TheVariants as respond
use Rattle.raft_node.specs.raft_steps.Engine.{initialize}
use Rattle.raft_node.specs.raft_steps.Installs.{handle_install_full_snapshot, has_other_at, held_upto, install_and_reply, install_condition, install_full_snapshot, install_upto, installs, replaces_log, reply_install, truncate_contradicted, with_memberships_of}
use Rattle.raft_node.specs.raft_steps.Parts.{idle, on_core, with_state}
use Rattle.raft_node.specs.raft_steps.Refusals.{refusals_of_counter_led, refusals_of_initialize, refusals_of_spent, refusals_of_trigger_snapshot}
use Rattle.raft_node.specs.raft_steps.InstallRefusals.{refusals_of_install, refusals_of_fit}
use Rattle.raft_node.specs.raft_steps.ReplicationHandler.{initiate_replication}
use Rattle.raft_node.specs.raft_steps.SnapshotCalls.{finish_building_snapshot, trigger_purge_log}
use Rattle.raft_node.specs.raft_steps.SnapshotHandler.{trigger_snapshot}
use Rattle.raft_node.specs.raft_steps.Starts.{leader_step_down, refusals_of_step_down}
use Rattle.raft_node.specs.raft_steps.VoteHandler.{update_vote, rejects_vote}
use Rattle.raft_node.proofs.raft_steps_proofs.Allowed.{initiate_only, only_then, AllowsLeading, only_here, only_of, role_only, truncate_only, update_vote_only}
use Rattle.raft_node.specs.raft_store.declared.entry.Entry.{Entry}
use Rattle.raft_node.specs.raft_store.Built.{meta_of}
use Rattle.raft_node.specs.raft_store.Entries.{entry_meaning}
use Rattle.raft_node.specs.raft_store.Types.{EngineView, WorldSnapshot, WorldCommand, WorldMachine}
use Rattle.raft_node.specs.raft_schedule.declared.event.Start.{Start}
use Rattle.raft_node.specs.raft_schedule.declared.event.Start.TheVariants as starts
use Rattle.raft_node.specs.declared.act.Act.{Act}
use Rattle.raft_node.specs.declared.act.Act.TheVariants.{Initialize, Elect, Take, Propose, SendHeartbeat, Fail, TriggerSnapshot, FinishSnapshot, TriggerPurge, Restart, ChangeLearners, ChangeMembership, Read, StepDown, Stop}
use Rattle.raft_node.specs.declared.given.Given.{Given}
use Rattle.raft_node.specs.raft_calls.declared.message.Body.{Body}
use Rattle.raft_node.specs.raft_calls.declared.message.Body.TheVariants as body
use Rattle.raft_node.specs.raft_calls.Deliveries.{answered, deliver, reply_token, take_snapshot, with_machine}
use Rattle.raft_node.specs.Events.{calls_at, on_engine}
use Rattle.raft_node.specs.raft_calls.Elections.{elected, first_entry, initialized}
use Rattle.raft_node.specs.raft_calls.LeaderCalls.{failed, heartbeats_sent, inflight_to, proposed, read_asked, read_refusal, request_of, stepped_down, value_entry}
use Rattle.raft_node.specs.raft_calls.Memberships.{groups_in, learners_changed, members_with, membership_changed, membership_entry}
use Rattle.raft_node.specs.raft_calls.declared.message.Message.{Message}
use Rattle.raft_node.specs.Net.{NodeView, no_streams}
use Rattle.raft_node.specs.Snapshots.{finish_snapshot, kept_built}
use Rattle.raft_node.specs.raft_calls.Snapshots.{purge_triggered, snapshot_triggered, told_built}
use Rattle.raft_node.specs.raft_calls.Starts.{begun_anew, resumed}
use Rattle.raft_node.specs.Starts.{engine_on, restart, started_with, unsaved}
use Rattle.std.specs.List.{AllByRecursion}
use Rattle.std.specs.Option.{option_map}
use Rattle.std.proofs.lemmas.Cmp.{nat_cmp_total}
use Rattle.raft_node.specs.raft_state.Same.{nat_same}
use Rattle.raft_node.specs.raft_state.State.{purge}
use Rattle.raft_node.specs.raft_command.declared.command.Command.TheVariants.{PurgeLog, StateMachine}
use Rattle.raft_node.specs.raft_command.declared.command.Command.TheVariants as command
use Rattle.raft_node.specs.raft_command.declared.sm.CommandPayload.TheVariants.{InstallFullSnapshot}
use Rattle.raft_node.specs.raft_command.declared.config.EngineConfig.{EngineConfig}
use Rattle.raft_node.specs.raft_command.Push.{ordered, with_command}
use Rattle.raft_node.specs.raft_steps.Laws.{QueuesOnly}
use Rattle.raft_node.specs.raft_steps.LogHandler.{purge_log, update_purge_upto}
use Rattle.raft_node.specs.raft_steps.ServerStateHandler.{update_role}
use Rattle.raft_node.proofs.raft_steps_proofs.Kept.{either, either_option}
use Rattle.raft_node.proofs.raft_steps_proofs.KeptFollow.{heard_case, not_own}
use Rattle.proof_mirror.specs.Ready.{Shaped, Ordered}
use Rattle.proof_packed.specs.Laws.{HasEmptyQueue}
use Rattle.proof_packed_stores.specs.Laws.{Brings}
use Rattle.proof_packed.specs.Nodes.{PackedNode, bare_act, bare_body, bare_engine, brought_by_body, brought_by_act, of_no_entries, packed_calls_at, packed_engine_on, packed_finish_snapshot, packed_kept_built, packed_node, packed_restart, packed_started_with, packed_told_built, without_store, with_engine_of}
use Rattle.proof_packed_stores.specs.Stores.{Application, Packed, PackedStore, packed_keep_snapshot, packed, packed_restarted, packed_store}
use Rattle.proof_packed.proofs.Installs.{installs_by_meta}
use Rattle.proof_packed_stores.proofs.Stores.{built_kept, start_kept}
use Rattle.proof_packed.proofs.Works.{IsReady, Ready, engine_bare}
use Rattle.raft_node.proofs.raft_calls_proofs.Falls.{WorldCore}
use Rattle.raft_node.proofs.raft_calls_proofs.Queues.{Answer, Plain, core_in, plain_self, call_plain, led_plain, entries_plain, entry_plain, progressed_plain, deliver_plain, elected_plain, resumed_plain, begun_plain, initialize-only, trigger_purge-only, finish-only, trigger_snapshot-only, step_down-only}
use Rattle.proof_packed.proofs.Calls.{IsNoInstall, none_installs}

-- an answer of an engine without a snapshot's data
abbrev bare_answer : Answer → Answer
bare_answer r = (r.0, bare_engine r.1)

pub empty_queue_bare : (e : EngineView) → e.machine.core.output.items ≡ [] → bare_engine e ≡ e
empty_queue_bare e none = engine_bare e (subst (AllByRecursion IsNoInstall) (sym none) tt)

plain_bare : (e : EngineView) (r : Answer) → e.machine.core.output.items ≡ [] → Plain IsNoInstall none_installs e r → AllByRecursion IsNoInstall (core_in r).output.items
plain_bare e r none h = subst (AllByRecursion IsNoInstall) (sym (h.behind ∙ ap (λ cs. cs ++ h.added) none)) h.each

plain_alike : (f : EngineView → Answer) (e : EngineView) → e.machine.core.output.items ≡ [] → Plain IsNoInstall none_installs e (f e) → bare_answer (f e) ≡ f (bare_engine e)
plain_alike f e none h = ap (λ x. ((f e).0, x)) (engine_bare (f e).1 (plain_bare e (f e) none h)) ∙ ap f (sym (empty_queue_bare e none))

module _ {S : Type 0} (app : Application S) where
  abbrev pub packed_result : Option ℕ × NodeView → Option ℕ × PackedNode S
  packed_result r = (r.0, packed_node app r.1)

  -- an engine's calls at a packed node
  on_engine_kept : (f g : EngineView → Answer) (n : NodeView) → ((e : EngineView) → n.engine ≡ Some e → bare_answer (f e) ≡ g (bare_engine e))
      → packed_result (on_engine f n) ≡ with_engine_of app (packed_node app n) (on_engine g (without_store app (packed_node app n)))
  on_engine_kept f g n h = go n.engine refl
    where
      go : (o : Option EngineView) → n.engine ≡ o
          → packed_result (elim o as (λ _. Option ℕ × NodeView) [ None ↦ (None, n) | Some e ↦ (let r = f e in (r.0, record n { engine = Some r.1 })) ])
          ≡ with_engine_of app (packed_node app n) (elim (option_map bare_engine o) as (λ _. Option ℕ × NodeView) [ None ↦ (None, without_store app (packed_node app n)) | Some e ↦ (let r = g e in (r.0, record (without_store app (packed_node app n)) { engine = Some r.1 })) ])
      go None q = refl
      go (Some e) q = ap (λ (p : Answer). (p.0, record (packed_node app n) { engine = Some p.1 })) (h e q)

  on_engine_ready : (brought : Packed S) (f : EngineView → Answer) (n : NodeView) → ((e : EngineView) → n.engine ≡ Some e → Ready app brought (f e).1) → IsReady app brought (on_engine f n).1.engine
  on_engine_ready brought f n h = go n.engine refl
    where
      node_in : Option ℕ × NodeView → NodeView
      node_in r = r.1

      go : (o : Option EngineView) → n.engine ≡ o
          → IsReady app brought (elim o as (λ _. Option ℕ × NodeView) [ None ↦ (None, n) | Some e ↦ (let r = f e in (r.0, record n { engine = Some r.1 })) ]).1.engine
      go None q = subst (IsReady app brought) (sym q) tt
      go (Some e) q = h e q

  -- after an act's calls the packed node is the node packed, and its engine is ready to work
  pub record Calls (act : Act) (n : NodeView) (r : Option ℕ × NodeView) (p : Option ℕ × PackedNode S) : Type 0 where
    pub alike : packed_result r ≡ p
    pub ready : IsReady app (brought_by_act app act) r.1.engine

  plain_calls : (act : Act) (f : EngineView → Answer) (n : NodeView) → HasEmptyQueue n → ((e : EngineView) → Plain IsNoInstall none_installs e (f e))
      → Calls act n (on_engine f n) (with_engine_of app (packed_node app n) (on_engine f (without_store app (packed_node app n))))
  plain_calls act f n rests h = record {
    alike = on_engine_kept f f n (λ e q. plain_alike f e (rests e q) (h e));
    ready = on_engine_ready (brought_by_act app act) f n (λ e q. inl (plain_bare e (f e) (rests e q) (h e)));
  }

  -- an install
  module _ (s : WorldSnapshot) where
    abbrev brought : Packed S
    brought = packed app s.snapshot

    abbrev P : WorldCommand → Type 0
    P = Brings app brought

    allows : AllowsLeading P
    allows = record { becomes = tt; quits = tt; saves = λ v. tt; rebuilds = λ targets. tt; replicates = λ target f. tt; tells = λ x. tt; commits = λ seq a b. tt; builds = λ seq. tt }

    module _ (config : EngineConfig ℕ) where
      purge_brings : (c : WorldCore) → QueuesOnly P c (purge_log nat_cmp c)
      unfolding purge_log
      purge_brings c =
          either_option (QueuesOnly P c) c.state.purge_to c _ (only_here P c c refl)
          (λ x. either (QueuesOnly P c) (is_gt (last_id_cmp nat_cmp (Some x) c.state.purged)) _ _
          (only_of P (PurgeLog x ∷ []) c (record { state = purge nat_cmp c.state x; output = with_command c.output (PurgeLog x) }) refl (tt, tt)) (only_here P c c refl))

      upto_brings : (x : LogId ℕ) (c : WorldCore) → QueuesOnly P c (install_upto nat_cmp config x s c)
      unfolding install_upto
      upto_brings x c =
          let begun : WorldCore = with_state c (record c.state { snap = s.meta }) in
          let cut : WorldCore = truncate_contradicted nat_cmp config x begun in
          let held : WorldCore = with_state cut (with_memberships_of s.meta.last_membership x (replaces_log nat_cmp c.state x) (held_upto nat_cmp x cut.state)) in
          let settled : WorldCore = update_role nat_cmp config held in
          let queuing : WorldCore = record settled { output = ordered settled.output (InstallFullSnapshot s) } in
          let targeted : WorldCore = update_purge_upto (Some x) queuing in
          only_then P c begun _ (only_here P c begun refl)
          (only_then P begun cut _ (either (QueuesOnly P begun) (has_other_at nat_cmp begun.state x) _ _ (truncate_only P nat_cmp config allows x.index begun (λ y e. tt)) (only_here P begun begun refl))
          (only_then P cut held _ (only_here P cut held refl)
          (only_then P held settled _ (role_only P nat_cmp config allows held)
          (only_then P settled queuing _ (only_of P (StateMachine (record { seq = settled.output.seq + 1; payload = InstallFullSnapshot s }) ∷ []) settled queuing refl (refl, tt))
          (only_then P queuing targeted _ (only_here P queuing targeted refl) (purge_brings targeted))))))

      install_brings : (c : WorldCore) → QueuesOnly P c (install_full_snapshot nat_cmp config s c)
      unfolding install_full_snapshot
      install_brings c =
          either_option (QueuesOnly P c) s.meta.last_log_id _ _ (only_here P c c refl)
          (λ x. either (QueuesOnly P c) (installs nat_cmp c.state s.meta) _ _ (upto_brings x c) (only_here P c c refl))

    taken_ready : (v : Vote ℕ) (now : ℕ) (e : EngineView) → e.machine.core.output.items ≡ [] → refusals_of_install nat_cmp e.config v s.meta e.machine ≡ None
        → Ready app brought (with_machine e (handle_install_full_snapshot nat_cmp entry_meaning e.config v s reply_token now e.machine))
    unfolding handle_install_full_snapshot
    taken_ready v now e none asks = go (rejects_vote nat_cmp e.machine.core.state v) refl
      where
        voted : WorldMachine
        voted = update_vote nat_cmp entry_meaning e.config v now e.machine

        follows : rejects_vote nat_cmp e.machine.core.state v ≡ false → (voted.leader ≡ None) × (voted.candidate ≡ None)
        follows r =
            heard_case nat_cmp nat_cmp_total nat_same entry_meaning e.config (λ (m : WorldMachine). (m.leader ≡ None) × (m.candidate ≡ None)) v now e.machine r
            (not_own nat_cmp nat_cmp_total nat_same entry_meaning e.config v (refusals_of_fit nat_cmp e.machine.core.state v s.meta) e.machine asks) (λ role q. (refl, refl))

        queues : QueuesOnly P e.machine.core (install_and_reply nat_cmp entry_meaning e.config s reply_token voted.core)
        queues =
            only_then P e.machine.core voted.core _ (update_vote_only P nat_cmp e.config allows entry_meaning _ (λ vote leader x. tt) v now e.machine refl)
            (only_then P voted.core (install_full_snapshot nat_cmp e.config s voted.core) _ (install_brings e.config voted.core)
            (only_of P (command.Respond (install_condition nat_cmp s.meta voted.core) (respond.InstallFullSnapshot (record { value = record { vote = (install_full_snapshot nat_cmp e.config s voted.core).state.vote }; token = reply_token })) ∷ [])
            (install_full_snapshot nat_cmp e.config s voted.core) _ refl (tt, tt)))

        all : AllByRecursion P (install_and_reply nat_cmp entry_meaning e.config s reply_token voted.core).output.items
        all = subst (AllByRecursion P) (sym (queues.behind ∙ ap (λ cs. cs ++ queues.added) none)) queues.each

        go : (b : Bool) → rejects_vote nat_cmp e.machine.core.state v ≡ b
            → Ready app brought (with_machine e (if b then on_core (reply_install None reply_token) e.machine else on_core (install_and_reply nat_cmp entry_meaning e.config s reply_token) voted))
        go true r = inl (subst (λ cs. AllByRecursion IsNoInstall (cs ++ command.Respond None (respond.InstallFullSnapshot (record { value = record { vote = e.machine.core.state.vote }; token = reply_token })) ∷ [])) (sym none) (refl, tt))
        go false r = inr (record { leader = (follows r).0; candidate = (follows r).1 }, all)

    install_ready : (v : Vote ℕ) (now : ℕ) (e : EngineView) → e.machine.core.output.items ≡ [] → Ready app brought (take_snapshot v s now e).1
    install_ready v now e none = go (refusals_of_install nat_cmp e.config v s.meta e.machine) refl
      where
        go : (o : Option (EngineError ℕ (Unit {0}))) → refusals_of_install nat_cmp e.config v s.meta e.machine ≡ o
            → Ready app brought (answered o e (with_machine e (handle_install_full_snapshot nat_cmp entry_meaning e.config v s reply_token now e.machine))).1
        go None q = taken_ready v now e none q
        go (Some r) q = inl (subst (AllByRecursion IsNoInstall) (sym none) tt)

    install_alike : (v : Vote ℕ) (now : ℕ) (e : EngineView) → e.machine.core.output.items ≡ [] → bare_answer (take_snapshot v s now e) ≡ take_snapshot v (record s { snapshot = [] }) now (bare_engine e)
    install_alike v now e none = go (refusals_of_install nat_cmp e.config v s.meta e.machine) ∙ ap (take_snapshot v (record s { snapshot = [] }) now) (sym (empty_queue_bare e none))
      where
        go : (o : Option (EngineError ℕ (Unit {0})))
            → bare_answer (answered o e (with_machine e (handle_install_full_snapshot nat_cmp entry_meaning e.config v s reply_token now e.machine)))
            ≡ answered o e (with_machine e (handle_install_full_snapshot nat_cmp entry_meaning e.config v (record s { snapshot = [] }) reply_token now e.machine))
        go None = ap (λ (m : WorldMachine). (None, with_machine e m)) (sym (installs_by_meta e.config v s.meta [] s.snapshot reply_token now e.machine none))
        go (Some r) = ap (λ (x : EngineView). (Some (number_of r), x)) (empty_queue_bare e none)

  -- the end of a build
  finish_calls : (n : NodeView) → HasEmptyQueue n → Calls FinishSnapshot n (finish_snapshot n) (packed_finish_snapshot app (packed_node app n))
  finish_calls n rests = go n.engine refl
    where
      told : (e : EngineView) → n.engine ≡ Some e → (es : List Entry) (o : Option (EngineError ℕ (Unit {0})))
          → (let after = with_machine e (finish_building_snapshot nat_cmp e.config (meta_of entry_meaning es) e.machine) in
          Calls FinishSnapshot n (kept_built es n (answered o e after)) (packed_kept_built app (packed app es) (packed_node app n) (answered o e after)))
      told e q es None =
          let after : EngineView = with_machine e (finish_building_snapshot nat_cmp e.config (meta_of entry_meaning es) e.machine) in
          let all : AllByRecursion IsNoInstall after.machine.core.output.items = plain_bare e (None, after) (rests e q) (finish-only IsNoInstall none_installs e.config (meta_of entry_meaning es) e.machine) in
          record {
            alike =
                ap (λ (u : PackedStore S). (None, record (packed_node app n) { store = u; engine = Some (bare_engine after); noted = None })) (built_kept app es n.store)
                ∙ ap (λ (x : EngineView). (None, record (packed_node app n) { store = packed_keep_snapshot (packed app es) (packed_store app n.store); engine = Some x; noted = None })) (engine_bare after all);
            ready = inl all;
          }
      told e q es (Some k) = record { alike = refl; ready = subst (IsReady app (of_no_entries app)) (sym q) (inl (subst (AllByRecursion IsNoInstall) (sym (rests e q)) tt)) }

      noted : (e : EngineView) → n.engine ≡ Some e → (o : Option (List Entry))
          → Calls FinishSnapshot n (elim o as (λ _. Option ℕ × NodeView) [ None ↦ (None, n) | Some es ↦ kept_built es n (told_built es e) ])
          (elim (option_map (packed app) o) as (λ _. Option ℕ × PackedNode S) [ None ↦ (None, packed_node app n) | Some p ↦ packed_kept_built app p (packed_node app n) (packed_told_built app p (bare_engine e)) ])
      noted e q None = record { alike = refl; ready = subst (IsReady app (of_no_entries app)) (sym q) (inl (subst (AllByRecursion IsNoInstall) (sym (rests e q)) tt)) }
      noted e q (Some es) =
          subst (λ (x : EngineView). Calls FinishSnapshot n (kept_built es n (told_built es e)) (packed_kept_built app (packed app es) (packed_node app n) (packed_told_built app (packed app es) x)))
          (sym (empty_queue_bare e (rests e q))) (told e q es (refusals_of_spent e.machine))

      go : (o : Option EngineView) → n.engine ≡ o
          → Calls FinishSnapshot n (elim o as (λ _. Option ℕ × NodeView) [ None ↦ (None, n) | Some e ↦ elim n.noted as (λ _. Option ℕ × NodeView) [ None ↦ (None, n) | Some es ↦ kept_built es n (told_built es e) ] ])
          (elim (option_map bare_engine o) as (λ _. Option ℕ × PackedNode S) [
            | None ↦ (None, packed_node app n)
            | Some e ↦ elim (option_map (packed app) n.noted) as (λ _. Option ℕ × PackedNode S) [ None ↦ (None, packed_node app n) | Some p ↦ packed_kept_built app p (packed_node app n) (packed_told_built app p e) ]
          ])
      go None q = record { alike = refl; ready = subst (IsReady app (of_no_entries app)) (sym q) tt }
      go (Some e) q = noted e q n.noted

  -- a start
  started_calls : (start : Start) (f : EngineView → Answer) → ((e : EngineView) → Plain IsNoInstall none_installs e (f e)) → (settings : EngineConfig ℕ) (saved : Bool) (n m : NodeView) → Shaped entry_meaning n.store → Ordered nat_cmp entry_meaning n.store
      → Calls (Restart start) m (started_with saved n (f (engine_on settings saved n))) (packed_started_with app saved (packed_node app n) (f (packed_engine_on app settings saved (packed_node app n))))
  started_calls start f plain settings saved n m h o =
      let k = start_kept app saved n.store h o in
      let e : EngineView = engine_on settings saved n in
      let r : Answer = f e in
      let all : AllByRecursion IsNoInstall r.1.machine.core.output.items = plain_bare e r refl (plain e) in
      let same : e ≡ packed_engine_on app settings saved (packed_node app n) = ap (λ s. record e { machine = idle s }) k.1 in
      record {
        alike =
            ap (λ (u : PackedStore S). (r.0, record (packed_node app n) { store = u; engine = Some (bare_engine r.1); streams = no_streams; noted = None })) k.0
            ∙ (ap (λ (x : EngineView). (r.0, record (packed_node app n) { store = packed_restarted app saved (packed_store app n.store); engine = Some x; streams = no_streams; noted = None })) (engine_bare r.1 all)
            ∙ ap (λ x. packed_started_with app saved (packed_node app n) (f x)) same);
        ready = inl all;
      }

  restart_calls : (given : Given) (start : Start) (n : NodeView) → Shaped entry_meaning n.store → Ordered nat_cmp entry_meaning n.store
      → Calls (Restart start) n (restart given.settings start n) (packed_restart app given.settings start (packed_node app n))
  restart_calls given starts.Plain n h o = started_calls starts.Plain resumed (resumed_plain IsNoInstall none_installs) given.settings false n n h o
  restart_calls given starts.Saved n h o = started_calls starts.Saved resumed (resumed_plain IsNoInstall none_installs) given.settings true n n h o
  restart_calls given starts.Bare n h o =
      started_calls starts.Bare (begun_anew n.moment) (begun_plain IsNoInstall none_installs n.moment) given.settings false (unsaved n) n
      (record { keys = h.keys; run = h.run; front = h.front; tells = h.tells; snap_run = h.snap_run; applied = h.applied; recorded = h.recorded }) (record { log = o.log; snapshot = o.snapshot; front = o.front })

  -- a message
  take_calls : (m : Message) (n : NodeView) → HasEmptyQueue n
      → Calls (Take m) n (on_engine (deliver m.from m.body n.moment) n) (with_engine_of app (packed_node app n) (on_engine (deliver m.from (bare_body m.body) n.moment) (without_store app (packed_node app n))))
  take_calls m n rests = go m.body refl
    where
      plain : (b : Body) → m.body ≡ b → bare_body b ≡ b → ((e : EngineView) → Plain IsNoInstall none_installs e (deliver m.from b n.moment e))
          → Calls (Take m) n (on_engine (deliver m.from b n.moment) n) (with_engine_of app (packed_node app n) (on_engine (deliver m.from (bare_body b) n.moment) (without_store app (packed_node app n))))
      plain b q same h =
          let c = plain_calls (Take m) (deliver m.from b n.moment) n rests h in
          subst (λ (x : Body). Calls (Take m) n (on_engine (deliver m.from b n.moment) n) (with_engine_of app (packed_node app n) (on_engine (deliver m.from x n.moment) (without_store app (packed_node app n))))) (sym same) c

      go : (b : Body) → m.body ≡ b → Calls (Take m) n (on_engine (deliver m.from b n.moment) n) (with_engine_of app (packed_node app n) (on_engine (deliver m.from (bare_body b) n.moment) (without_store app (packed_node app n))))
      go (body.VoteRequest req) q = plain (body.VoteRequest req) q refl (λ e. deliver_plain IsNoInstall none_installs m.from (body.VoteRequest req) n.moment e (λ o s x. cc))
      go (body.VoteReply resp) q = plain (body.VoteReply resp) q refl (λ e. deliver_plain IsNoInstall none_installs m.from (body.VoteReply resp) n.moment e (λ o s x. cc))
      go (body.AppendRequest o prev es committed) q = plain (body.AppendRequest o prev es committed) q refl (λ e. deliver_plain IsNoInstall none_installs m.from (body.AppendRequest o prev es committed) n.moment e (λ o2 s x. cc))
      go (body.AppendReply o reply prev upto) q = plain (body.AppendReply o reply prev upto) q refl (λ e. deliver_plain IsNoInstall none_installs m.from (body.AppendReply o reply prev upto) n.moment e (λ o2 s x. cc))
      go (body.SnapshotRequest o s) q = record {
        alike = on_engine_kept (take_snapshot o.session_id.vote s n.moment) (take_snapshot o.session_id.vote (record s { snapshot = [] }) n.moment) n (λ e is. install_alike s o.session_id.vote n.moment e (rests e is));
        ready = subst (λ (b : Body). IsReady app (brought_by_body app b) (on_engine (take_snapshot o.session_id.vote s n.moment) n).1.engine) (sym q)
            (on_engine_ready (packed app s.snapshot) (take_snapshot o.session_id.vote s n.moment) n (λ e is. install_ready s o.session_id.vote n.moment e (rests e is)));
      }
      go (body.SnapshotReply o reply upto) q = plain (body.SnapshotReply o reply upto) q refl (λ e. deliver_plain IsNoInstall none_installs m.from (body.SnapshotReply o reply upto) n.moment e (λ o2 s x. cc))

  -- all calls
  pub calls_kept : (given : Given) (act : Act) (n : NodeView) → HasEmptyQueue n → Shaped entry_meaning n.store → Ordered nat_cmp entry_meaning n.store
      → Calls act n (calls_at given act n) (packed_calls_at app given (bare_act act) (packed_node app n))
  calls_kept given Initialize n r h o =
      plain_calls Initialize (initialized given.membership n.moment) n r
      (λ e. call_plain IsNoInstall none_installs (refusals_of_initialize nat_cmp entry_meaning e.config 0 (first_entry given.membership) e.machine) e
      (with_machine e (initialize nat_cmp entry_meaning e.config 0 (first_entry given.membership) n.moment e.machine)) (initialize-only IsNoInstall none_installs e.config 0 (first_entry given.membership) n.moment e.machine))
  calls_kept given (Elect candidates) n r h o =
      plain_calls (Elect candidates) (elected n.moment) n r (elected_plain IsNoInstall none_installs n.moment)
  calls_kept given (Take m) n r h o = take_calls m n r
  calls_kept given (Propose values) n r h o = plain_calls (Propose values) (proposed values) n r (λ e. entries_plain IsNoInstall none_installs (map value_entry values) e)
  calls_kept given SendHeartbeat n r h o =
      plain_calls SendHeartbeat heartbeats_sent n r
      (λ e. led_plain IsNoInstall none_installs refusals_of_counter_led (initiate_replication nat_cmp e.config true) e (initiate_only IsNoInstall nat_cmp e.config none_installs.leading true))
  calls_kept given (Fail target) n r h o = plain_calls (Fail target) (failed target) n r (λ e. progressed_plain IsNoInstall none_installs target (request_of (inflight_to target e)) (Err tt) e)
  calls_kept given TriggerSnapshot n r h o =
      plain_calls TriggerSnapshot snapshot_triggered n r
      (λ e. call_plain IsNoInstall none_installs (refusals_of_trigger_snapshot e.machine.core) e (with_machine e (on_core trigger_snapshot e.machine)) (trigger_snapshot-only IsNoInstall none_installs e.config e.machine.core))
  calls_kept given FinishSnapshot n r h o = finish_calls n r
  calls_kept given (TriggerPurge i) n r h o =
      plain_calls (TriggerPurge i) (purge_triggered i) n r
      (λ e. call_plain IsNoInstall none_installs (refusals_of_spent e.machine) e (with_machine e (trigger_purge_log nat_cmp i e.machine)) (trigger_purge-only IsNoInstall none_installs e.config i e.machine))
  calls_kept given (Restart start) n r h o = restart_calls given start n h o
  calls_kept given (ChangeLearners learners) n r h o = plain_calls (ChangeLearners learners) (learners_changed learners) n r (λ e. entry_plain IsNoInstall none_installs (membership_entry (members_with (groups_in e) learners)) e)
  calls_kept given (ChangeMembership groups learners) n r h o = plain_calls (ChangeMembership groups learners) (membership_changed groups learners) n r (λ e. entry_plain IsNoInstall none_installs (membership_entry (members_with groups learners)) e)
  calls_kept given Read n r h o = plain_calls Read read_asked n r (λ e. plain_self IsNoInstall none_installs (read_refusal e) e)
  calls_kept given StepDown n r h o =
      plain_calls StepDown stepped_down n r
      (λ e. call_plain IsNoInstall none_installs (refusals_of_step_down nat_cmp e.config e.machine) e (with_machine e (leader_step_down nat_cmp entry_meaning e.config e.machine)) (step_down-only IsNoInstall none_installs e.config e.machine))
  calls_kept given Stop n r h o = record { alike = refl; ready = tt }
