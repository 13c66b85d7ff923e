-- The laws of an engine's calls for its purges and its snapshots: each keeps that its queue is carried to what it
-- knows.
use Rattle.std.proofs.Common.{ℕ, ◌+◌, ◌≤◌, ◌≡◌, true, false, List, arith, refl, sym, ap, ap₂, subst, Option, None, Some}
use Rattle.std.specs.Prelude.{nat_lt, min, if◌then◌else◌}
use Rattle.std.specs.Ordering.{nat_cmp}
use Rattle.std.proofs.lemmas.Bool.{both_ways, cond_both, ltb-false}
use Rattle.std.proofs.lemmas.Cmp.{nat_cmp_total}
use Rattle.raft_node.specs.raft_state.declared.ids.LogId.{LogId}
use Rattle.raft_node.specs.raft_state.declared.membership.SnapshotMeta.{SnapshotMeta}
use Rattle.raft_node.specs.raft_state.Fits.{fits, is_within}
use Rattle.raft_node.specs.raft_state.Invariants.{IsSoundState}
use Rattle.raft_node.specs.raft_state.Log.{at}
use Rattle.raft_node.specs.raft_state.Order.{next}
use Rattle.raft_node.specs.raft_state.Policy.{should_snapshot}
use Rattle.raft_node.specs.raft_state.Same.{nat_same}
use Rattle.raft_node.specs.raft_state.State.{accepted_under}
use Rattle.raft_node.specs.raft_progress_entry.declared.entry.ProgressEntry.{ProgressEntry}
use Rattle.raft_node.specs.raft_command.Push.{ordered}
use Rattle.raft_node.specs.raft_command.declared.command.Command.TheVariants as command
use Rattle.raft_node.specs.raft_command.declared.config.EngineConfig.{EngineConfig}
use Rattle.raft_node.specs.raft_command.declared.message.Token.{Token}
use Rattle.raft_node.specs.raft_command.declared.sm.CommandPayload.TheVariants as payload
use Rattle.raft_node.specs.raft_steps.Refusals.{rows_in}
use Rattle.raft_node.specs.raft_steps.Invariants.{IsSound}
use Rattle.raft_node.specs.raft_steps.Laws.{later}
use Rattle.raft_node.specs.raft_steps.LogHandler.{is_target_inflight, calc_purge_upto, update_purge_upto, purge_log, try_purge_log, schedule_policy_based_purge}
use Rattle.raft_node.specs.raft_steps.Parts.{with_state, on_core}
use Rattle.raft_node.specs.raft_steps.SnapshotCalls.{built, handle_begin_receiving_snapshot, purge_where_free, trigger_purge_log, finish_building_snapshot}
use Rattle.raft_node.specs.raft_steps.SnapshotHandler.{trigger_snapshot, snapshot_where_due, is_newer_snapshot, update_snapshot}
use Rattle.raft_node.proofs.raft_steps_proofs.KeptPurge.{index_sound, scheduled_is_sound, recorded_is_sound}
use Rattle.proof_agreement.specs.Machine.{Setup}
use Rattle.raft_node.specs.raft_store.declared.entry.Entry.{Entry}
use Rattle.raft_node.specs.raft_store.Entries.{entry_meaning}
use Rattle.raft_node.specs.raft_store.Types.{WorldStore, WorldMachine}
use Rattle.proof_mirror.specs.Ready.{InStep, Pending}
use Rattle.proof_mirror.proofs.Purging.{step_target, pending_schedule}
use Rattle.proof_mirror.proofs.Queued.{step_alike, awaits_state}
use Rattle.proof_mirror.proofs.Shape.{marks_of}
use Rattle.proof_mirror.proofs.Sound.{fits_within}
use Rattle.raft_node.specs.declared.node.Turn.{Turn}
use Rattle.proof_deeds.specs.Chains.{Reached, left_by, Carried}
use Rattle.proof_deeds.specs.Images.{Ideal}
use Rattle.proof_deeds.specs.Knows.{Knows, CarriedIn}
use Rattle.proof_deeds.proofs.Noting.{carried_noted}
use Rattle.proof_deeds.proofs.Keeps.{known_in}
use Rattle.proof_deeds.proofs.Pushes.{push, carry}
use Rattle.proof_deeds.proofs.Roles.{WorldCore, WorldState}
use Rattle.proof_deeds.proofs.SnapshotCalls.{knows_state, carried_purge}
use Rattle.proof_deeds.proofs.VotePushes.{done_nothing}

abbrev pub Waits : WorldStore → WorldCore → Type 0
Waits u c = Pending nat_cmp entry_meaning (λ es. es) u c

module _ (s : Setup Entry) (t : Turn) (u : WorldStore) (W : Ideal) where
  -- another state with the same vote and the same accepted record
  pub carried_state : (m : WorldMachine) (st : WorldState) → st.vote ≡ m.core.state.vote → st.accepted_by ≡ m.core.state.accepted_by → CarriedIn s t u W m → CarriedIn s t u W (record m { core = with_state m.core st })
  carried_state m st e a h =
      subst (λ v. Carried s t v u W m.core.output.items (Knows s t.id (record m { core = with_state m.core st }))) (ap (λ v. v.leader_id) (sym e))
      (carry s t m.core.state.vote.leader_id u W m.core.output.items (Knows s t.id m) (Knows s t.id (record m { core = with_state m.core st })) h
      (λ V _ k. knows_state s t.id m (with_state m.core st) V e (ap₂ (λ v o. accepted_under nat_cmp v.leader_id o) e a) k))

module _ (s : Setup Entry) (t : Turn) (u : WorldStore) (W : Ideal) (reached : Reached s W) where
  -- a purge that waits for the ranges on their way
  pub carried_try : (rows : List (ℕ × ProgressEntry ℕ)) (m : WorldMachine) → Waits u m.core → IsSoundState nat_cmp m.core.state → CarriedIn s t u W m → CarriedIn s t u W (on_core (try_purge_log nat_cmp rows) m)
  unfolding try_purge_log
  carried_try rows m p z h =
      cond_both (is_target_inflight nat_cmp rows m.core.state) m.core (purge_log nat_cmp m.core) (λ (c : WorldCore). CarriedIn s t u W (record m { core = c })) (λ _. h) (λ _. carried_purge s t u W reached m p z h)

  pub carried_where_free : (m : WorldMachine) → Waits u m.core → IsSoundState nat_cmp m.core.state → CarriedIn s t u W m → CarriedIn s t u W (purge_where_free nat_cmp m)
  unfolding purge_where_free
  carried_where_free m p z h = carried_try (rows_in m) m p z h

  -- another target
  pub carried_target : (x : Option (LogId ℕ)) (m : WorldMachine) → CarriedIn s t u W m → CarriedIn s t u W (on_core (update_purge_upto x) m)
  carried_target x m h = carried_state s t u W m (record m.core.state { purge_to = x }) refl refl h

  pub carried_schedule : (config : EngineConfig ℕ) (m : WorldMachine) → CarriedIn s t u W m → CarriedIn s t u W (on_core (schedule_policy_based_purge nat_cmp config) m)
  unfolding schedule_policy_based_purge
  carried_schedule config m h = carried_target (later nat_cmp m.core.state.purge_to (calc_purge_upto config m.core.state)) m h

  -- a purge up to an index
  pub carried_to_index : (i : ℕ) (m : WorldMachine) → Waits u m.core → IsSoundState nat_cmp m.core.state → CarriedIn s t u W m → CarriedIn s t u W (trigger_purge_log nat_cmp i m)
  unfolding trigger_purge_log
  carried_to_index i m p z h = go m.core.state.snap.last_log_id refl where
    go : (o : Option (LogId ℕ)) → m.core.state.snap.last_log_id ≡ o → CarriedIn s t u W (record m {
      core = elim o as (λ _. WorldCore) [
        | None ↦ m.core
        | Some x ↦
            (if nat_lt i (next m.core.state.purge_to) then m.core
            else try_purge_log nat_cmp (rows_in m) (update_purge_upto (at m.core.state.ids (min i x.index)) m.core))
      ];
    })
    go None e = h
    go (Some x) e =
        let c : WorldCore = update_purge_upto (at m.core.state.ids (min i x.index)) m.core in
        cond_both (nat_lt i (next m.core.state.purge_to)) m.core (try_purge_log nat_cmp (rows_in m) c) (λ (c : WorldCore). CarriedIn s t u W (record m { core = c }))
        (λ _. h)
        (λ l.
        let k : next m.core.state.snap.last_log_id ≡ x.index + 1 = ap next e in
        let above : next m.core.state.purge_to ≤ i = ltb-false i (next m.core.state.purge_to) l in
        let g : IsSoundState nat_cmp c.state = index_sound nat_cmp nat_cmp_total nat_same m.core.state z (min i x.index) (omega (arith, above, k, p.in_step.marks.target)) (omega (arith, k)) in
        carried_try (rows_in m) (record m { core = c })
        (awaits_state nat_cmp entry_meaning (λ es. es) u m.core.output.items m.core.state c.state p (step_target entry_meaning (left_by u m.core.output.items) m.core.state (at m.core.state.ids (min i x.index)) (marks_of nat_cmp c.state g) p.in_step)) g
        (carried_target (at m.core.state.ids (min i x.index)) m h))

  -- a snapshot that was built, is stored already and is above the recorded one
  pub carried_finish : (config : EngineConfig ℕ) (meta : SnapshotMeta ℕ (Unit {0})) (m : WorldMachine) → is_newer_snapshot nat_cmp m.core.state meta ≡ true → Waits u (with_state m.core (record m.core.state { snap = meta }))
      → IsSound nat_cmp config m → fits nat_cmp m.core.state.ids m.core.state.purged meta.last_log_id ≡ true → CarriedIn s t u W m → CarriedIn s t u W (finish_building_snapshot nat_cmp config meta m)
  unfolding finish_building_snapshot schedule_policy_based_purge update_snapshot
  carried_finish config meta m n p h f k =
      let w : is_within nat_cmp meta.last_log_id m.core.state.committed ≡ true = fits_within nat_cmp nat_cmp_total nat_same m.core.state h.sound meta.last_log_id f p.in_step.marks.snapshot in
      let b : WorldMachine = on_core built m in
      let g : IsSound nat_cmp config b = record { sound = h.sound; lead = record { leader_fits = h.lead.leader_fits; candidate_fits = h.lead.candidate_fits } } in
      let d : WorldCore = schedule_policy_based_purge nat_cmp config (update_snapshot nat_cmp meta b.core) in
      let z : IsSoundState nat_cmp d.state = (scheduled_is_sound nat_cmp nat_cmp_total nat_same config (on_core (update_snapshot nat_cmp meta) b) (recorded_is_sound nat_cmp nat_cmp_total nat_same config meta b f w g)).sound in
      let c1 : WorldCore = with_state m.core (record m.core.state { building = false; snap = meta }) in
      let e : update_snapshot nat_cmp meta b.core ≡ c1 = rw n refl in
      let q1 : InStep entry_meaning (left_by u m.core.output.items) c1.state =
      step_alike entry_meaning (left_by u m.core.output.items) (record m.core.state { snap = meta }) c1.state (record { ids = refl; purged = refl; purge_to = refl; snap = refl; committed = refl; em = refl; cm = refl }) refl p.in_step in
      let p1 : Waits u c1 = awaits_state nat_cmp entry_meaning (λ es. es) u m.core.output.items (record m.core.state { snap = meta }) c1.state p q1 in
      let p2 : Waits u (schedule_policy_based_purge nat_cmp config c1) = pending_schedule nat_cmp entry_meaning (λ es. es) config u c1 p1 in
      let q : Waits u d = subst (λ (y : WorldCore). Waits u (schedule_policy_based_purge nat_cmp config y)) (sym e) p2 in
      let k1 : CarriedIn s t u W (record m { core = c1 }) = carried_state s t u W m c1.state refl refl k in
      let k2 : CarriedIn s t u W (record m { core = schedule_policy_based_purge nat_cmp config c1 }) = carried_schedule config (record m { core = c1 }) k1 in
      let k3 : CarriedIn s t u W (record m { core = d }) = subst (λ (y : WorldCore). CarriedIn s t u W (record m { core = schedule_policy_based_purge nat_cmp config y })) (sym e) k2 in
      cond_both (is_newer_snapshot nat_cmp m.core.state meta) (try_purge_log nat_cmp (rows_in m) d) b.core (λ (c : WorldCore). CarriedIn s t u W (record m { core = c }))
      (λ _. carried_try (rows_in m) (record m { core = d }) q z k3)
      (λ l. absurd (both_ways (is_newer_snapshot nat_cmp m.core.state meta) l n))

  -- another one: none is being built any more
  pub carried_older : (config : EngineConfig ℕ) (meta : SnapshotMeta ℕ (Unit {0})) (m : WorldMachine) → is_newer_snapshot nat_cmp m.core.state meta ≡ false → CarriedIn s t u W m → CarriedIn s t u W (finish_building_snapshot nat_cmp config meta m)
  unfolding finish_building_snapshot
  carried_older config meta m n k = rw n (carried_state s t u W m (record m.core.state { building = false }) refl refl k)

  -- what is applied is noted for a snapshot, where none is being built
  pub carried_trigger : (m : WorldMachine) → Waits u m.core → CarriedIn s t u W m → CarriedIn s t u W (on_core trigger_snapshot m)
  unfolding trigger_snapshot
  carried_trigger m p h =
      cond_both m.core.state.building m.core (let c : WorldCore = record { state = record m.core.state { building = true }; output = ordered m.core.output payload.BuildSnapshot } in c) (λ (c : WorldCore). CarriedIn s t u W (record m { core = c }))
      (λ _. h)
      (λ _. carried_noted s t u W m.core.state.vote.leader_id m.core (Knows s t.id m) (Knows s t.id n) p.in_step (λ V X came e q k. knows_state s t.id m n.core X refl refl (known_in s t.id V X came m e q k)) h)
    where
      n : WorldMachine
      n = record m { core = record { state = record m.core.state { building = true }; output = ordered m.core.output payload.BuildSnapshot } }

  pub carried_due_in : (config : EngineConfig ℕ) (m : WorldMachine) → Waits u m.core → CarriedIn s t u W m → CarriedIn s t u W (on_core (snapshot_where_due config) m)
  unfolding snapshot_where_due
  carried_due_in config m p h = cond_both (should_snapshot config.snapshot_policy m.core.state) (trigger_snapshot m.core) m.core (λ (c : WorldCore). CarriedIn s t u W (record m { core = c })) (λ _. carried_trigger m p h) (λ _. h)

  -- the state machine is asked for room
  pub carried_receiving : (token : Token) (m : WorldMachine) → CarriedIn s t u W m → CarriedIn s t u W (handle_begin_receiving_snapshot token m)
  unfolding handle_begin_receiving_snapshot
  carried_receiving token m h =
      push s t m.core.state.vote.leader_id u W m.core.output.items (command.StateMachine (record { seq = m.core.output.seq + 1; payload = payload.BeginReceivingSnapshot token })) (Knows s t.id m) (Knows s t.id n) h
      (λ V y k. (
        V,
        done_nothing s t m.core.state.vote.leader_id (left_by u m.core.output.items) (command.StateMachine (record { seq = m.core.output.seq + 1; payload = payload.BeginReceivingSnapshot token })) V y.store refl refl (λ w e q r _. r),
        knows_state s t.id m n.core V refl refl k,
      ))
    where
      n : WorldMachine
      n = record m { core = record m.core { output = ordered m.core.output (payload.BeginReceivingSnapshot token) } }
