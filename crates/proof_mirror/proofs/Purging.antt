-- Purges in the queue, and built snapshots.
use Rattle.std.proofs.Common.{ℕ, ◌+◌, ◌-◌, ◌≤◌, ◌≡◌, ◌∙◌, inl, Bool, true, false, List, [], ◌∷◌, arith, refl, sym, ap, subst, Option, Some, None}
use Rattle.std.specs.Prelude.{nat_lt, min, ◌==◌, ◌||◌, if◌then◌else◌}
use Rattle.std.specs.declared.cmp.Ordering.{Ordering}
use Rattle.std.specs.declared.cmp.Ordering.TheVariants.{Equal}
use Rattle.std.specs.Ordering.{is_gt}
use Rattle.std.specs.Cmp.{IsTotalOrder}
use Rattle.std.proofs.lemmas.Bool.{cond_both, both_ways, ltb-false}
use Rattle.std.proofs.lemmas.Bool.Decides.{nat_tests}
use Rattle.raft_state.specs.declared.config.RaftEntry
use Rattle.raft_state.specs.declared.ids.LogId.{LogId}
use Rattle.raft_state.specs.declared.membership.SnapshotMeta.{SnapshotMeta}
use Rattle.raft_state.specs.declared.state.RaftState.{RaftState}
use Rattle.raft_state.specs.Fits.{fits, is_within}
use Rattle.raft_state.specs.Invariants.{IsSoundState, first_index}
use Rattle.raft_state.specs.Log.{at}
use Rattle.raft_state.specs.Order.{next, last_id_cmp}
use Rattle.raft_state.specs.Policy.{saturating_add}
use Rattle.raft_state.specs.State.{purge}
use Rattle.raft_state.proofs.LogLists.{fits_has, at_has, run_low}
use Rattle.raft_state.proofs.Orders.{within_trans}
use Rattle.raft_progress_entry.specs.declared.entry.ProgressEntry.{ProgressEntry}
use Rattle.raft_command.specs.Push.{with_command}
use Rattle.raft_command.specs.declared.command.Command.TheVariants as command
use Rattle.raft_command.specs.declared.config.EngineConfig.{EngineConfig}
use Rattle.raft_command.specs.declared.message.Token.{Token}
use Rattle.raft_command.specs.declared.sm.CommandPayload.TheVariants as payload
use Rattle.raft_steps.specs.Refusals.{rows_in}
use Rattle.raft_steps.specs.Invariants.{IsSound}
use Rattle.raft_steps.specs.Laws.{later}
use Rattle.raft_steps.specs.LogHandler.{is_target_inflight, calc_purge_upto, purge_end, update_purge_upto, purge_log, try_purge_log, schedule_policy_based_purge}
use Rattle.raft_steps.specs.Parts.{Core, Machine, with_state, on_core}
use Rattle.raft_steps.specs.SnapshotCalls.{built, handle_begin_receiving_snapshot, purge_where_free, purge_to_index, trigger_purge_log, finish_building_snapshot}
use Rattle.raft_steps.specs.SnapshotHandler.{is_newer_snapshot, update_snapshot}
use Rattle.raft_steps.proofs.KeptPurge.{index_sound, triggered_is_sound, purge_where_free_is_sound, finished_is_sound, scheduled_is_sound, recorded_is_sound}
use Rattle.raft_store.specs.Store.{Store}
use Rattle.raft_store.specs.Mirror.{Mirrors}
use Rattle.proof_mirror.specs.Ready.{Marks, InStep, Pending, PendingIn}
use Rattle.proof_mirror.proofs.Places.{at_index}
use Rattle.proof_mirror.proofs.Purges.{step_purge}
use Rattle.proof_mirror.proofs.Queued.{step_alike, after, awaits_idle, awaits_one, awaits_state}
use Rattle.proof_mirror.proofs.Shape.{Shape, shape_of, marks_of}
use Rattle.proof_mirror.proofs.Sound.{fits_within, machine_knows}

at_least : (a b : ℕ) → nat_lt a b ≡ false → b ≤ a
at_least a b e = ltb-false a b e

least_low : (i x p : ℕ) → p ≤ i → p ≤ x + 1 → p ≤ min i x + 1
least_low i x p a b = omega (arith, a, b)

least_high : (i x n : ℕ) → n ≡ x + 1 → min i x + 1 ≤ n
least_high i x n e = omega (arith, e)

module _ {NID N E : Type 0} (entry : RaftEntry.Ghosts E NID N) where
  -- another purge target
  pub step_target : (t : Store NID N E) (s : RaftState NID N) (x : Option (LogId NID)) → Marks (record s { purge_to = x }) → InStep entry t s → InStep entry t (record s { purge_to = x })
  step_target t s x k j =
      let m : Mirrors entry t s = j.mirrors in
      record {
        mirrors = record {
          log = record { vote_is = m.log.vote_is; ids_are = m.log.ids_are; purged_is = m.log.purged_is; keys = m.log.keys };
          meta = m.meta;
          tells = m.tells;
          snap_run = m.snap_run;
          em = m.em;
          cm = m.cm;
        };
        applied = j.applied;
        marks = k;
      }

module _ {NID N : Type 0} (cmp : NID → NID → Ordering) (config : EngineConfig NID) where
  -- the settings' purge target is an id of the log, and within the snapshot
  target_within : (s : RaftState NID N) → Marks s → (x : LogId NID) → calc_purge_upto config s ≡ Some x → (next s.purged ≤ next (Some x)) × (next (Some x) ≤ next s.snap.last_log_id)
  target_within s k x e = go (purge_end config s == 0) (nat_lt (purge_end config s) (saturating_add (next s.purged) config.purge_batch_size)) refl e where
    go : (none few : Bool) → (purge_end config s == 0) ≡ none → (if none || few then None else at s.ids (purge_end config s - 1)) ≡ Some x → (next s.purged ≤ next (Some x)) × (next (Some x) ≤ next s.snap.last_log_id)
    go true few n a = cc
    go false true n a = cc
    go false false n a =
        let i : x.index ≡ purge_end config s - 1 = at_index (purge_end config s - 1) s.ids x a in
        let m : 1 ≤ purge_end config s = positive (purge_end config s) n in
        let end : purge_end config s ≤ next s.snap.last_log_id = omega arith in
        (from_first s.purged (run_low (first_index s.purged) x s.ids k.run (at_has (purge_end config s - 1) x s.ids a)), omega (arith, i, m, end))
      where
        positive : (n : ℕ) → (n == 0) ≡ false → 1 ≤ n
        positive n t = grind (arith, nat_tests)

        from_first : (o : Option (LogId NID)) → first_index o ≤ x.index → next o ≤ next (Some x)
        from_first None l = omega arith
        from_first (Some y) l = omega (arith, l)

  -- so the marks still rise
  scheduled_marks : (s : RaftState NID N) → Marks s → Marks (record s { purge_to = later cmp s.purge_to (calc_purge_upto config s) })
  scheduled_marks s k =
      cond_both (is_gt (last_id_cmp cmp (calc_purge_upto config s) s.purge_to)) (calc_purge_upto config s) s.purge_to (λ o. Marks (record s { purge_to = o }))
      (λ g. raised (calc_purge_upto config s) g (target_within s k)) (λ _. record { run = k.run; purged = k.purged; target = k.target; snapshot = k.snapshot; committed = k.committed })
    where
      none_not_above : (o : Option (LogId NID)) → is_gt (last_id_cmp cmp None o) ≡ false
      none_not_above None = refl
      none_not_above (Some x) = refl

      raised : (o : Option (LogId NID)) → is_gt (last_id_cmp cmp o s.purge_to) ≡ true → ((x : LogId NID) → o ≡ Some x → (next s.purged ≤ next (Some x)) × (next (Some x) ≤ next s.snap.last_log_id)) → Marks (record s { purge_to = o })
      raised None g f = absurd (both_ways (is_gt (last_id_cmp cmp None s.purge_to)) (none_not_above s.purge_to) g)
      raised (Some x) g f = record { run = k.run; purged = (f x refl).0; target = (f x refl).1; snapshot = k.snapshot; committed = k.committed }

module _ {C NID N E D R S : Type 0} (cmp : NID → NID → Ordering) (entry : RaftEntry.Ghosts E NID N) (entries_in : S → List E) where
  -- another purge target
  pub pending_target : (t : Store NID N E) (x : Option (LogId NID)) (c : Core C NID N E D R S) → Pending cmp entry entries_in t c → Marks (record c.state { purge_to = x }) → Pending cmp entry entries_in t (update_purge_upto x c)
  pending_target t x c p k = awaits_state cmp entry entries_in t c.output.items c.state (record c.state { purge_to = x }) p (step_target entry (after cmp entry entries_in t c) c.state x k p.in_step)

  -- the settings' purge target
  pub pending_schedule : (config : EngineConfig NID) (t : Store NID N E) (c : Core C NID N E D R S) → Pending cmp entry entries_in t c → Pending cmp entry entries_in t (schedule_policy_based_purge cmp config c)
  unfolding schedule_policy_based_purge
  pending_schedule config t c p = pending_target t (later cmp c.state.purge_to (calc_purge_upto config c.state)) c p (scheduled_marks cmp config c.state p.in_step.marks)

  -- a snapshot that is stored already
  pub pending_record : (t : Store NID N E) (meta : SnapshotMeta NID N) (c : Core C NID N E D R S) → is_newer_snapshot cmp c.state meta ≡ true → Pending cmp entry entries_in t (with_state c (record c.state { snap = meta })) → Pending cmp entry entries_in t (update_snapshot cmp meta c)
  unfolding update_snapshot
  pending_record t meta c n p = rw n p

module _ {C NID N E D R S : Type 0} (cmp : NID → NID → Ordering) (total : IsTotalOrder cmp) (same : (a b : NID) → cmp a b ≡ Equal → a ≡ b) (entry : RaftEntry.Ghosts E NID N) (entries_in : S → List E) where
  -- a purge up to the target
  pub pending_purge : (t : Store NID N E) (c : Core C NID N E D R S) → Pending cmp entry entries_in t c → IsSoundState cmp c.state → Pending cmp entry entries_in t (purge_log cmp c)
  unfolding purge_log
  pending_purge t c p h = go c.state.purge_to refl where
    held : (x : LogId NID) → c.state.purge_to ≡ Some x → at c.state.ids x.index ≡ Some x
    held x e = fits_has cmp total same c.state.ids c.state.purged x (subst (λ o. fits cmp c.state.ids c.state.purged o ≡ true) e h.marks.target_fits) (subst (λ o. is_within cmp c.state.purged o ≡ true) e h.marks.at_purged)

    snap_held : (y : LogId NID) → c.state.snap.last_log_id ≡ Some y → at c.state.ids y.index ≡ Some y
    snap_held y e =
        fits_has cmp total same c.state.ids c.state.purged y (subst (λ o. fits cmp c.state.ids c.state.purged o ≡ true) e h.marks.snapshot_fits)
        (subst (λ o. is_within cmp c.state.purged o ≡ true) e (within_trans cmp total c.state.purged c.state.purge_to c.state.snap.last_log_id h.marks.at_purged h.marks.at_target))

    -- an id of the log at the snapshot's end is its last
    snap_end : (x : LogId NID) → at c.state.ids x.index ≡ Some x → next c.state.snap.last_log_id ≡ x.index + 1 → (o : Option (LogId NID)) → c.state.snap.last_log_id ≡ o → c.state.snap.last_log_id ≡ Some x
    snap_end x a n None e = let q : next c.state.snap.last_log_id ≡ 0 = ap next e in absurd (omega (arith, n, q))
    snap_end x a n (Some y) e = let q : next c.state.snap.last_log_id ≡ y.index + 1 = ap next e in let i : y.index ≡ x.index = omega (arith, n, q) in e ∙ (sym (snap_held y e) ∙ (ap (at c.state.ids) i ∙ a))

    go : (o : Option (LogId NID)) → c.state.purge_to ≡ o → Pending cmp entry entries_in t (elim o [
      | None ↦ c
      | Some upto ↦
          (if is_gt (last_id_cmp cmp (Some upto) c.state.purged)
          then record { state = purge cmp c.state upto; output = with_command c.output (command.PurgeLog upto) }
          else c)
    ])
    go None e = p
    go (Some x) e =
        let T : Store NID N E = after cmp entry entries_in t c in
        let k : Marks c.state = p.in_step.marks in
        let g : Shape entry T c.state = shape_of entry T c.state p.in_step.mirrors k in
        let z : next c.state.purge_to ≡ x.index + 1 = ap next e in
        let n : next c.state.purged ≡ next T.front = ap next p.in_step.mirrors.log.purged_is in
        cond_both (is_gt (last_id_cmp cmp (Some x) c.state.purged)) (record { state = purge cmp c.state x; output = with_command c.output (command.PurgeLog x) }) c (Pending cmp entry entries_in t)
        (λ _. awaits_one cmp entry entries_in t c.output.items (command.PurgeLog x) c.state (purge cmp c.state x) p
        (record {
          above = omega (arith, n, z, k.purged);
          within = omega (arith, z, k.target, g.snap_end);
          end = λ q. ap (λ (a : SnapshotMeta NID N). a.last_log_id) (sym p.in_step.mirrors.meta) ∙ snap_end x (held x e) (omega (arith, q, g.snap_end)) c.state.snap.last_log_id refl;
          held = inl (subst (λ ids. at ids x.index ≡ Some x) p.in_step.mirrors.log.ids_are (held x e));
        })
        (step_purge entry cmp T c.state x p.in_step e (held x e)))
        (λ _. p)

  pub pending_try_purge : (t : Store NID N E) (rows : List (NID × ProgressEntry NID)) (c : Core C NID N E D R S) → Pending cmp entry entries_in t c → IsSoundState cmp c.state → Pending cmp entry entries_in t (try_purge_log cmp rows c)
  unfolding try_purge_log
  pending_try_purge t rows c p h = cond_both (is_target_inflight cmp rows c.state) c (purge_log cmp c) (Pending cmp entry entries_in t) (λ _. p) (λ _. pending_purge t c p h)

module _ {C NID N E D R S : Type 0} (cmp : NID → NID → Ordering) (total : IsTotalOrder cmp) (same : (a b : NID) → cmp a b ≡ Equal → a ≡ b) (entry : RaftEntry.Ghosts E NID N) (entries_in : S → List E) (config : EngineConfig NID) where
  -- an engine's purges
  pub pending_where_free : (t : Store NID N E) (m : Machine C NID N E D R S) → PendingIn cmp entry entries_in t m → IsSound cmp config m → PendingIn cmp entry entries_in t (purge_where_free cmp m)
  unfolding purge_where_free
  pending_where_free t m p h = record {
    core = pending_try_purge cmp total same entry entries_in t (rows_in m) m.core p.core h.sound;
    knows = machine_knows cmp config (on_core (try_purge_log cmp (rows_in m)) m) (purge_where_free_is_sound cmp total same config m h);
  }

  pub pending_purge_to : (t : Store NID N E) (i : ℕ) (m : Machine C NID N E D R S) → PendingIn cmp entry entries_in t m → IsSound cmp config m → PendingIn cmp entry entries_in t (trigger_purge_log cmp i m)
  unfolding trigger_purge_log
  pending_purge_to t i m p h = record { core = go s.snap.last_log_id refl; knows = machine_knows cmp config (on_core (purge_to_index cmp (rows_in m) i) m) (triggered_is_sound cmp total same config i m h) } where
    s : RaftState NID N
    s = m.core.state

    go : (o : Option (LogId NID)) → m.core.state.snap.last_log_id ≡ o → Pending cmp entry entries_in t (elim o [
      | None ↦ m.core
      | Some x ↦
          (if nat_lt i (next m.core.state.purge_to) then m.core
          else try_purge_log cmp (rows_in m) (update_purge_upto (at m.core.state.ids (min i x.index)) m.core))
    ])
    go None e = p.core
    go (Some x) e =
        let c : Core C NID N E D R S = update_purge_upto (at m.core.state.ids (min i x.index)) m.core in
        cond_both (nat_lt i (next m.core.state.purge_to)) m.core (try_purge_log cmp (rows_in m) c) (Pending cmp entry entries_in t)
        (λ _. p.core)
        (λ l.
        let k : next m.core.state.snap.last_log_id ≡ x.index + 1 = ap next e in
        let above : next m.core.state.purge_to ≤ i = at_least i (next m.core.state.purge_to) l in
        let z : IsSoundState cmp c.state = index_sound cmp total same m.core.state h.sound (min i x.index) (least_low i x.index (next m.core.state.purge_to) above (omega (arith, k, p.core.in_step.marks.target))) (least_high i x.index (next m.core.state.snap.last_log_id) k) in
        pending_try_purge cmp total same entry entries_in t (rows_in m) c
        (awaits_state cmp entry entries_in t m.core.output.items m.core.state c.state p.core (step_target entry (after cmp entry entries_in t m.core) m.core.state (at m.core.state.ids (min i x.index)) (marks_of cmp c.state z) p.core.in_step)) z)

  -- a snapshot that is stored already, and above the recorded one, is recorded, and the log is purged by the settings
  pub pending_finish : (t : Store NID N E) (meta : SnapshotMeta NID N) (m : Machine C NID N E D R S) → is_newer_snapshot cmp m.core.state meta ≡ true → Pending cmp entry entries_in t (with_state m.core (record m.core.state { snap = meta }))
      → IsSound cmp config m → fits cmp m.core.state.ids m.core.state.purged meta.last_log_id ≡ true
      → PendingIn cmp entry entries_in t (finish_building_snapshot cmp config meta m)
  unfolding finish_building_snapshot schedule_policy_based_purge update_snapshot
  pending_finish t meta m n p h f =
      let w : is_within cmp meta.last_log_id m.core.state.committed ≡ true = fits_within cmp total same m.core.state h.sound meta.last_log_id f p.in_step.marks.snapshot in
      let b : Machine C NID N E D R S = on_core built m in
      let k : IsSound cmp config b = record { sound = h.sound; lead = record { leader_fits = h.lead.leader_fits; candidate_fits = h.lead.candidate_fits } } in
      let d : Core C NID N E D R S = schedule_policy_based_purge cmp config (update_snapshot cmp meta b.core) in
      let z : IsSoundState cmp d.state = (scheduled_is_sound cmp total same config (on_core (update_snapshot cmp meta) b) (recorded_is_sound cmp total same config meta b f w k)).sound in
      let c1 : Core C NID N E D R S = with_state m.core (record m.core.state { building = false; snap = meta }) in
      let u : update_snapshot cmp meta b.core ≡ c1 = rw n refl in
      let q1 : InStep entry (after cmp entry entries_in t m.core) c1.state =
      step_alike entry (after cmp entry entries_in t m.core) (record m.core.state { snap = meta }) c1.state (record { ids = refl; purged = refl; purge_to = refl; snap = refl; committed = refl; em = refl; cm = refl }) refl p.in_step in
      let p1 : Pending cmp entry entries_in t c1 = awaits_state cmp entry entries_in t m.core.output.items (record m.core.state { snap = meta }) c1.state p q1 in
      let q2 : Pending cmp entry entries_in t (schedule_policy_based_purge cmp config c1) = pending_schedule cmp entry entries_in config t c1 p1 in
      let q : Pending cmp entry entries_in t d = subst (λ y. Pending cmp entry entries_in t (schedule_policy_based_purge cmp config y)) (sym u) q2 in
      record {
        core = cond_both (is_newer_snapshot cmp m.core.state meta) (try_purge_log cmp (rows_in m) d) b.core (Pending cmp entry entries_in t)
            (λ _. pending_try_purge cmp total same entry entries_in t (rows_in m) d q z)
            (λ e. absurd (both_ways (is_newer_snapshot cmp m.core.state meta) e n));
        knows = machine_knows cmp config (finish_building_snapshot cmp config meta m) (finished_is_sound cmp total same config meta m f w h);
      }

  -- another one changes nothing but that none is being built
  pub pending_older : (t : Store NID N E) (meta : SnapshotMeta NID N) (m : Machine C NID N E D R S) → is_newer_snapshot cmp m.core.state meta ≡ false → PendingIn cmp entry entries_in t m
      → PendingIn cmp entry entries_in t (finish_building_snapshot cmp config meta m)
  unfolding finish_building_snapshot
  pending_older t meta m n p =
      let b : Machine C NID N E D R S = on_core built m in
      let q : PendingIn cmp entry entries_in t b = record {
        core = awaits_state cmp entry entries_in t m.core.output.items m.core.state b.core.state p.core
            (step_alike entry (after cmp entry entries_in t m.core) m.core.state b.core.state (record { ids = refl; purged = refl; purge_to = refl; snap = refl; committed = refl; em = refl; cm = refl }) refl p.core.in_step);
        knows = p.knows;
      } in
      rw n q

module _ {C NID N E D R S : Type 0} (cmp : NID → NID → Ordering) (entry : RaftEntry.Ghosts E NID N) (entries_in : S → List E) where
  -- the state machine is asked for room
  pub pending_receiving : (t : Store NID N E) (token : Token) (m : Machine C NID N E D R S) → PendingIn cmp entry entries_in t m → PendingIn cmp entry entries_in t (handle_begin_receiving_snapshot token m)
  unfolding handle_begin_receiving_snapshot
  pending_receiving t token m p = record {
    core = awaits_idle cmp entry entries_in t m.core.output.items (command.StateMachine (record { seq = m.core.output.seq + 1; payload = payload.BeginReceivingSnapshot token }) ∷ []) m.core.state m.core.state p.core (refl, tt, tt) p.core.in_step;
    knows = p.knows;
  }
