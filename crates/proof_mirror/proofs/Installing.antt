-- Installs of snapshots.
use Rattle.std.proofs.Common.{ℕ, ◌+◌, ◌<◌, ◌≤◌, ◌≡◌, ⊎_elim, inl, inr, Bool, true, false, not, List, [], ◌∷◌, ◌++◌, length, take, append-nil, arith, refl, sym, ap, ◌∙◌, subst, Option, Some, None}
use Rattle.std.specs.Prelude.{nat_lt, nat_le, ◌||◌, map, filter, if◌then◌else◌}
use Rattle.std.specs.Map.{values_of}
use Rattle.std.specs.declared.cmp.Ordering.{Ordering}
use Rattle.std.specs.declared.cmp.Ordering.TheVariants.{Equal}
use Rattle.std.specs.Ordering.{is_eq, is_gt}
use Rattle.std.proofs.lemmas.Bool.{cases_lt, cond_both, both_ways, leb-true, not-false}
use Rattle.raft_state.specs.declared.config.RaftEntry
use Rattle.raft_state.specs.declared.ids.LogId.{LogId}
use Rattle.raft_state.specs.declared.ids.Vote.{Vote}
use Rattle.raft_state.specs.declared.membership.SnapshotMeta.{SnapshotMeta}
use Rattle.raft_state.specs.declared.membership.StoredMembership.{StoredMembership}
use Rattle.raft_state.specs.declared.state.RaftState.{RaftState}
use Rattle.raft_state.specs.declared.state.ServerState.{ServerState}
use Rattle.raft_state.specs.Invariants.{LogOrder, first_index}
use Rattle.raft_state.specs.Log.{last, at, below}
use Rattle.raft_state.specs.LogLaws.{IsRun}
use Rattle.raft_state.specs.Order.{next, last_id_cmp, log_id_cmp}
use Rattle.raft_state.specs.Same.{found_is}
use Rattle.raft_state.specs.State.{accept, accepted, purge, server_state, truncate, undoes_membership}
use Rattle.raft_command.specs.Push.{with_command, ordered}
use Rattle.raft_command.specs.Queue.{queued}
use Rattle.raft_command.specs.declared.command.Command.{Command}
use Rattle.raft_command.specs.declared.command.Command.TheVariants as command
use Rattle.raft_command.specs.declared.config.EngineConfig.{EngineConfig}
use Rattle.raft_command.specs.declared.message.Snapshot.{Snapshot}
use Rattle.raft_command.specs.declared.sm.CommandPayload.TheVariants as payload
use Rattle.raft_steps.specs.FollowingHandler.{memberships_in, truncate_logs}
use Rattle.raft_steps.specs.Installs.{has_other_at, membership_after, with_memberships_of, held_upto, install_upto}
use Rattle.raft_steps.specs.LogHandler.{update_purge_upto, purge_log}
use Rattle.raft_steps.specs.Parts.{Core, with_state}
use Rattle.raft_steps.specs.ServerStateHandler.{role_commands, update_role}
use Rattle.raft_steps.proofs.Marks.{truncate_marks}
use Rattle.raft_store.specs.Store.{Store, past, whole, index_of, exec, exec_all}
use Rattle.raft_store.specs.Mirror.{Holds, Mirrors, Tells, keyed, last_two}
use Rattle.proof_mirror.specs.Ready.{Shaped, IsStored, FitsBefore, Ready, Marks, InStep, Pending}
use Rattle.proof_mirror.proofs.Cuts.{cut_parts, cut_end, cut_holds, cut_values, cut_whole, cut_map}
use Rattle.proof_mirror.proofs.Ends.{Two, kept_or, join_two, under_each, onward_each, memberships-append}
use Rattle.raft_store.proofs.Lists.{Run, under, onward, onward_none, split, run_under, run_onward, onward_onward, next_last_0}
use Rattle.proof_mirror.proofs.Places.{at_index, end_at_none, first_below, next_last_le, at_reaches}
use Rattle.proof_mirror.proofs.Purges.{purge_holds, purge_is, purged_ids, purged_map, purged_values}
use Rattle.proof_mirror.proofs.Queued.{after, exec_all-append, ready_end, ready_append, Idle, idle_ready, idle_same, role_idle}
use Rattle.proof_mirror.proofs.Shape.{Shape, shape_of, shaped_of, whole_run, take_all, take_under, take_append, take_take, applied_upto, length_ids, held_run, held_end, past_keyed, onward_whole, ids_of_run}

-- what an install needs: the snapshot goes past the committed index and the purged id, its meta tells of its entries,
-- and these are a log in order under the vote
pub record InstallFits {NID N E : Type 0} (cmp : NID → NID → Ordering) (entry : RaftEntry.Ghosts E NID N) (s : RaftState NID N) (meta : SnapshotMeta NID N) (es : List E) (x : LogId NID) : Type 0 where
  pub above : next s.committed ≤ x.index
  pub last_is : meta.last_log_id ≡ Some x
  pub tells : Tells entry meta es
  pub order : LogOrder cmp s.vote.leader_id (map entry.id_of es) None
  pub newer : is_gt (last_id_cmp cmp (Some x) s.purged) ≡ true

module _ {NID N E : Type 0} (entry : RaftEntry.Ghosts E NID N) where
  -- a store that is cut past what is committed
  shaped_cut : (t : Store NID N E) (s : RaftState NID N) (i : ℕ) → InStep entry t s → next s.committed ≤ i → Shaped entry (record t { log = filter (λ p. nat_lt p.0 i) t.log })
  shaped_cut t s i j l =
      let h : Shape entry t s = shape_of entry t s j.mirrors j.marks in
      let z : Shaped entry t = shaped_of entry t s j in
      let w : Store NID N E = record t { log = filter (λ p. nat_lt p.0 i) t.log } in
      let r : Run (index_of entry) (next t.front) (values_of w.log) = subst (Run (index_of entry) (next t.front)) (sym (cut_values entry t i z.keys)) (run_under (index_of entry) (next t.front) i (values_of t.log) h.run) in
      let n : length t.applied ≤ i = omega (arith, l, applied_upto entry t s j) in
      record {
        keys = cut_map entry t i z.keys ∙ ap (keyed entry) (sym (cut_values entry t i z.keys));
        run = ids_of_run entry (next t.front) (values_of w.log) r;
        front = z.front;
        tells = z.tells;
        snap_run = z.snap_run;
        applied = z.applied ∙ sym (ap (take (length t.applied)) (cut_whole entry t s i j.mirrors h l ∙ sym (take_under (index_of entry) i (whole t) (whole_run entry t s h))) ∙ take_take (length t.applied) i (whole t) n);
        recorded = z.recorded;
      }

  -- a store whose snapshot and applied entries are another list, which is as long as the front
  shaped_install : (t : Store NID N E) (meta : SnapshotMeta NID N) (L : List E) → Shaped entry t → Tells entry meta L → IsRun 0 (map entry.id_of L) → next t.front ≤ length L → Shaped entry (record t { meta = meta; snap = L; applied = L })
  shaped_install t meta L z tells r f = record {
    keys = z.keys;
    run = z.run;
    front = f;
    tells = tells;
    snap_run = r;
    applied = sym (take_append (length L) L (past (length L) t.log) (omega arith) ∙ take_all L);
    recorded = omega arith;
  }

module _ {NID N : Type 0} (cmp : NID → NID → Ordering) where
  -- a state once a snapshot up to x is its beginning
  abbrev begun : SnapshotMeta NID N → LogId NID → Bool → RaftState NID N → RaftState NID N
  begun meta x gone s = record s {
    accepted_by = (accept cmp s (Some x)).accepted_by;
    committed = Some x;
    cm = if gone then meta.last_membership else membership_after meta.last_membership x s.cm;
    em = if gone then meta.last_membership else membership_after meta.last_membership x s.em;
  }

  begun_is : (meta : SnapshotMeta NID N) (x : LogId NID) (gone : Bool) (s : RaftState NID N) → begun meta x gone s ≡ with_memberships_of meta.last_membership x gone (held_upto cmp x s)
  begun_is meta x gone s = go (is_gt (last_id_cmp cmp (Some x) (accepted cmp s))) gone where
    go : (b g : Bool) → ◌≡◌ {A = RaftState NID N}
        (record s { accepted_by = (if b then record s { accepted_by = Some (s.vote.leader_id, x) } else s).accepted_by; committed = Some x; cm = if g then meta.last_membership else membership_after meta.last_membership x s.cm; em = if g then meta.last_membership else membership_after meta.last_membership x s.em })
        (with_memberships_of meta.last_membership x g (record (if b then record s { accepted_by = Some (s.vote.leader_id, x) } else s) { committed = Some x }))
    go true true = refl
    go true false = refl
    go false true = refl
    go false false = refl

module _ {C NID N E D R S : Type 0} (cmp : NID → NID → Ordering) (entry : RaftEntry.Ghosts E NID N) (entries_in : S → List E) where
  -- commands that are ready, and after which the log alone is mirrored
  record Stored (t : Store NID N E) (c : Core C NID N E D R S) (n : ℕ) : Type 0 where
    pub ready : Ready cmp entry entries_in t c.output.items
    pub holds : Holds entry (after cmp entry entries_in t c) c.state.vote c.state.ids c.state.purged
    pub run : Run (index_of entry) (next (after cmp entry entries_in t c).front) (values_of (after cmp entry entries_in t c).log)
    pub applied : length (after cmp entry entries_in t c).applied ≤ n

  ready_idle : (t : Store NID N E) (cs ds : List (Command C NID N E D R S)) → Ready cmp entry entries_in t cs → Idle cmp entry entries_in (exec_all entry entries_in t cs) ds → Ready cmp entry entries_in t (cs ++ ds)
  ready_idle t cs ds h i = ready_append cmp entry entries_in t cs ds h (idle_ready cmp entry entries_in (exec_all entry entries_in t cs) ds (ready_end cmp entry entries_in t cs h) i)

  -- one command more, by the store before and after it
  ready_one : (t u w : Store NID N E) (cs : List (Command C NID N E D R S)) (c : Command C NID N E D R S) → Ready cmp entry entries_in t cs → exec_all entry entries_in t cs ≡ u → exec entry entries_in c u ≡ w → FitsBefore cmp entry entries_in u [] c → Shaped entry w
      → Ready cmp entry entries_in t (cs ++ c ∷ []) × (exec_all entry entries_in t (cs ++ c ∷ []) ≡ w)
  ready_one t u w cs c h e f fit z = (
    ready_append cmp entry entries_in t cs (c ∷ []) h (ready_end cmp entry entries_in t cs h, subst (λ v. FitsBefore cmp entry entries_in v [] c) (sym e) fit, subst (Shaped entry) (sym (ap (exec entry entries_in c) e ∙ f)) z),
    exec_all-append cmp entry entries_in t cs (c ∷ []) ∙ (ap (exec entry entries_in c) e ∙ f),
  )

module _ {C NID N E D R S : Type 0} (cmp : NID → NID → Ordering) (entry : RaftEntry.Ghosts E NID N) (entries_in : S → List E) (config : EngineConfig NID) where
  -- the last commands of an install
  abbrev ended : Snapshot C NID N E D R S → LogId NID → Core C NID N E D R S → RaftState NID N → Core C NID N E D R S
  ended snapshot x cut s =
      let settled = update_role cmp config (with_state cut s) in
      purge_log cmp (update_purge_upto (Some x) (record settled { output = ordered settled.output (payload.InstallFullSnapshot snapshot) }))

  install_end : (t : Store NID N E) (snapshot : Snapshot C NID N E D R S) (x : LogId NID) (cut : Core C NID N E D R S) (gone : Bool) (n : ℕ)
      → Stored cmp entry entries_in t cut n → n ≤ x.index
      → cut.state.snap ≡ snapshot.meta
      → InstallFits cmp entry (record cut.state { committed = None }) snapshot.meta (entries_in snapshot.snapshot) x
      → next cut.state.purged ≤ x.index + 1
      → (x.index < next (last cut.state.ids) → at cut.state.ids x.index ≡ Some x)
      → Two (begun cmp snapshot.meta x gone cut.state).cm (begun cmp snapshot.meta x gone cut.state).em (memberships_in entry (entries_in snapshot.snapshot ++ onward (index_of entry) (x.index + 1) (values_of (after cmp entry entries_in t cut).log)))
      → Pending cmp entry entries_in t (ended snapshot x cut (begun cmp snapshot.meta x gone cut.state))
  unfolding purge_log update_role
  install_end t snapshot x cut gone nc h nl es f l a two =
      let T : Store NID N E = after cmp entry entries_in t cut in
      let L : List E = entries_in snapshot.snapshot in
      let s : RaftState NID N = begun cmp snapshot.meta x gone cut.state in
      let b : ServerState = server_state cmp s config.id in
      let rc : List (Command C NID N E D R S) = role_commands s.role b in
      let install : Command C NID N E D R S = command.StateMachine (record { seq = cut.output.seq + 1; payload = payload.InstallFullSnapshot snapshot }) in
      let s2 : RaftState NID N = record s { role = b; purge_to = Some x } in
      let after_install : Store NID N E = record T { meta = snapshot.meta; snap = L; applied = L } in
      let after_purge : Store NID N E = record after_install { log = filter (λ p. nat_lt x.index p.0) T.log; front = Some x } in
      let cr : IsRun (first_index cut.state.purged) cut.state.ids = held_run entry T cut.state.vote cut.state.ids cut.state.purged h.holds h.run in
      let g : Holds entry (record T { log = filter (λ p. nat_lt x.index p.0) T.log; front = Some x }) cut.state.vote (purged_ids cut.state.ids x) (Some x) = purge_holds entry T cut.state.vote cut.state.ids cut.state.purged x h.holds cr l a in
      let n : length L ≡ x.index + 1 = sym (ap next (sym f.last_is ∙ f.tells.last_id) ∙ (next_last_0 (map entry.id_of L) f.order.run ∙ length_ids entry L)) in
      let xs : List E = values_of T.log in
      let fr : next cut.state.purged ≡ next T.front = ap next h.holds.purged_is in
      let p : past (length L) after_purge.log ≡ onward (index_of entry) (x.index + 1) xs =
      ap (past (length L)) (purged_map entry T x.index h.holds.keys) ∙ (past_keyed entry (length L) (onward (index_of entry) (x.index + 1) xs)
      ∙ (onward_onward (index_of entry) (next T.front) (x.index + 1) (length L) xs (omega (arith, n)) h.run ∙ ap (λ k. onward (index_of entry) k xs) n)) in
      let w : L ++ past (length L) after_purge.log ≡ L ++ onward (index_of entry) (x.index + 1) xs = ap (λ ys. L ++ ys) p in
      let m : Mirrors entry after_purge (record s2 { purged = Some x; ids = purged_ids cut.state.ids x }) =
      record {
        log = record { vote_is = g.vote_is; ids_are = g.ids_are; purged_is = g.purged_is; keys = g.keys };
        meta = es;
        tells = f.tells;
        snap_run = f.order.run;
        em = two.em_is ∙ ap (λ es. (last_two (memberships_in entry es)).1) (sym w);
        cm = ⊎_elim (λ e. inl e) (λ e. inr (e ∙ ap (λ es. (last_two (memberships_in entry es)).0) (sym w))) two.cm_is;
      } in
      let r3 : Run (index_of entry) (x.index + 1) (values_of after_purge.log) = subst (Run (index_of entry) (x.index + 1)) (sym (purged_values entry T x.index h.holds.keys)) (run_onward (index_of entry) (next T.front) (x.index + 1) xs (omega (arith, fr, l)) h.run) in
      let e3 : next (last (purged_ids cut.state.ids x)) ≡ (x.index + 1) + length (values_of after_purge.log) = held_end entry after_purge cut.state.vote (purged_ids cut.state.ids x) (Some x) m.log r3 in
      let sn : next cut.state.snap.last_log_id ≡ x.index + 1 = ap (λ (z : SnapshotMeta NID N). next z.last_log_id) es ∙ ap next f.last_is in
      let j : InStep entry after_purge (record s2 { purged = Some x; ids = purged_ids cut.state.ids x }) = record {
        mirrors = m;
        applied = sym (ap (λ k. take k (L ++ past (length L) after_purge.log)) (sym n) ∙ (take_append (length L) L (past (length L) after_purge.log) (omega arith) ∙ take_all L));
        marks = record {
          run = held_run entry after_purge cut.state.vote (purged_ids cut.state.ids x) (Some x) m.log r3;
          purged = omega arith;
          target = omega (arith, sn);
          snapshot = omega (arith, sn);
          committed = omega (arith, e3);
        };
      } in
      let j2 : InStep entry after_purge (purge cmp s2 x) = subst (InStep entry after_purge) (purge_is cmp s2 x) j in
      let i : Idle cmp entry entries_in T rc = role_idle C D R cmp entry entries_in T s.role b in
      let q1 : Ready cmp entry entries_in t (cut.output.items ++ rc) = ready_idle cmp entry entries_in t cut.output.items rc h.ready i in
      let e1 : exec_all entry entries_in t (cut.output.items ++ rc) ≡ T = exec_all-append cmp entry entries_in t cut.output.items rc ∙ idle_same cmp entry entries_in T rc i in
      let z : Shaped entry T = ready_end cmp entry entries_in t cut.output.items h.ready in
      let z2 : Shaped entry after_install = shaped_install entry T snapshot.meta L z f.tells f.order.run (omega (arith, n, fr, l)) in
      let q2 : Ready cmp entry entries_in t ((cut.output.items ++ rc) ++ install ∷ []) × (exec_all entry entries_in t ((cut.output.items ++ rc) ++ install ∷ []) ≡ after_install) =
      ready_one cmp entry entries_in t T after_install (cut.output.items ++ rc) install q1 e1 refl
      (record { tells = f.tells; order = subst (λ (v : Vote NID). LogOrder cmp v.leader_id (map entry.id_of L) None) h.holds.vote_is f.order; past = omega (arith, n, nl, h.applied) }) z2 in
      let q3 : Ready cmp entry entries_in t (((cut.output.items ++ rc) ++ install ∷ []) ++ command.PurgeLog x ∷ []) × (exec_all entry entries_in t (((cut.output.items ++ rc) ++ install ∷ []) ++ command.PurgeLog x ∷ []) ≡ after_purge) =
      ready_one cmp entry entries_in t after_install after_purge ((cut.output.items ++ rc) ++ install ∷ []) (command.PurgeLog x) q2.0 q2.1 refl
      (record {
        above = omega (arith, fr, l);
        within = omega (arith, n);
        end = λ _. f.last_is;
        held = ⊎_elim (λ o. inl (subst (λ ids. at ids x.index ≡ Some x) h.holds.ids_are (a o))) (λ o. inr (f.last_is, subst (λ ids. next (last ids) ≤ x.index) h.holds.ids_are o)) (cases_lt x.index (next (last cut.state.ids)));
      }) (shaped_of entry after_purge (purge cmp s2 x) j2) in
      cond_both (is_gt (last_id_cmp cmp (Some x) cut.state.purged))
      (record { state = purge cmp s2 x; output = with_command (ordered (queued cut.output rc) (payload.InstallFullSnapshot snapshot)) (command.PurgeLog x) })
      (record { state = s2; output = ordered (queued cut.output rc) (payload.InstallFullSnapshot snapshot) })
      (Pending cmp entry entries_in t)
      (λ _. record { ready = q3.0; in_step = subst (λ u. InStep entry u (purge cmp s2 x)) (sym q3.1) j2 })
      (λ k. absurd (both_ways (is_gt (last_id_cmp cmp (Some x) cut.state.purged)) k f.newer))

  -- a core whose log ends at or below an index, or before it
  record CutPart (t : Store NID N E) (c : Core C NID N E D R S) (i n : ℕ) (meta : SnapshotMeta NID N) (purged : Option (LogId NID)) : Type 0 where
    pub stored : Stored cmp entry entries_in t c n
    pub end : next (last c.state.ids) ≤ i
    pub snap_is : c.state.snap ≡ meta
    pub purged_is : c.state.purged ≡ purged

  role_part : (t : Store NID N E) (c : Core C NID N E D R S) (i n : ℕ) (meta : SnapshotMeta NID N) (purged : Option (LogId NID)) → CutPart t c i n meta purged → CutPart t (update_role cmp config c) i n meta purged
  unfolding update_role
  role_part t c i n meta purged h =
      let r : ServerState = server_state cmp c.state config.id in
      let T : Store NID N E = after cmp entry entries_in t c in
      let d : Idle cmp entry entries_in T (role_commands c.state.role r) = role_idle C D R cmp entry entries_in T c.state.role r in
      let e : exec_all entry entries_in t (c.output.items ++ role_commands c.state.role r) ≡ T = exec_all-append cmp entry entries_in t c.output.items (role_commands c.state.role r) ∙ idle_same cmp entry entries_in T (role_commands c.state.role r) d in
      record {
        stored = record {
          ready = ready_idle cmp entry entries_in t c.output.items (role_commands c.state.role r) h.stored.ready d;
          holds = subst (λ u. Holds entry u c.state.vote c.state.ids c.state.purged) (sym e) h.stored.holds;
          run = subst (λ u. Run (index_of entry) (next u.front) (values_of u.log)) (sym e) h.stored.run;
          applied = subst (λ u. length u.applied ≤ n) (sym e) h.stored.applied;
        };
        end = h.end;
        snap_is = h.snap_is;
        purged_is = h.purged_is;
      }

  cut_part : (t : Store NID N E) (i : ℕ) (c : Core C NID N E D R S) (meta : SnapshotMeta NID N) → Pending cmp entry entries_in t c → next c.state.committed ≤ i
      → CutPart t (truncate_logs cmp config i (with_state c (record c.state { snap = meta }))) i (next c.state.committed) meta c.state.purged
  unfolding truncate_logs
  cut_part t i c meta p l = go (at c.state.ids i) refl where
    T : Store NID N E
    T = after cmp entry entries_in t c

    k : Marks c.state
    k = p.in_step.marks

    h : Shape entry T c.state
    h = shape_of entry T c.state p.in_step.mirrors k

    low : next c.state.purged ≤ i
    low = omega (arith, k.purged, k.target, k.snapshot, l)

    w : Core C NID N E D R S
    w = with_state c (record c.state { snap = meta })

    go : (o : Option (LogId NID)) → at c.state.ids i ≡ o → CutPart t (elim o [
      | None ↦ w
      | Some first ↦
          let cut : Core C NID N E D R S = record { state = truncate w.state i; output = with_command c.output (command.DeleteConflictLog first) } in
          if not (undoes_membership w.state i) then cut else update_role cmp config cut
    ]) i (next c.state.committed) meta c.state.purged
    go None e =
        let q : first_index c.state.purged + length c.state.ids ≤ i = end_at_none (first_index c.state.purged) i c.state.ids k.run (first_below c.state.purged i low) e in
        record {
          stored = record { ready = p.ready; holds = p.in_step.mirrors.log; run = h.run; applied = applied_upto entry T c.state p.in_step };
          end = omega (arith, q, next_last_le (first_index c.state.purged) c.state.ids k.run);
          snap_is = refl;
          purged_is = refl;
        }
    go (Some since) e =
        let cut : Core C NID N E D R S = record { state = truncate w.state i; output = with_command c.output (command.DeleteConflictLog since) } in
        let n : since.index ≡ i = at_index i c.state.ids since e in
        let after_cut : Store NID N E = record T { log = filter (λ p. nat_lt p.0 i) T.log } in
        let f : exec {C = C} {D = D} {R = R} entry entries_in (command.DeleteConflictLog since) T ≡ after_cut = ap (λ j. let r : Store NID N E = record T { log = filter (λ p. nat_lt p.0 j) T.log } in r) n in
        let st : IsStored entry T since = ap (λ ids. at ids since.index) (sym p.in_step.mirrors.log.ids_are) ∙ (ap (at c.state.ids) n ∙ e) in
        let q : Ready cmp entry entries_in t (c.output.items ++ command.DeleteConflictLog since ∷ []) × (exec_all entry entries_in t (c.output.items ++ command.DeleteConflictLog since ∷ []) ≡ after_cut) =
        ready_one cmp entry entries_in t T after_cut c.output.items (command.DeleteConflictLog since) p.ready refl f (st, omega (arith, n, l, applied_upto entry T c.state p.in_step)) (shaped_cut entry T c.state i p.in_step l) in
        let g : Holds entry after_cut c.state.vote (below i c.state.ids) c.state.purged = cut_holds entry T c.state.vote c.state.ids c.state.purged i p.in_step.mirrors.log low in
        let r : Run (index_of entry) (next T.front) (values_of after_cut.log) = subst (Run (index_of entry) (next T.front)) (sym (cut_values entry T i p.in_step.mirrors.log.keys)) (run_under (index_of entry) (next T.front) i (values_of T.log) h.run) in
        let d : next (last (below i c.state.ids)) ≤ i = cut_below c since e g r in
        let part : (em : StoredMembership NID N) → CutPart t (record { state = record w.state { ids = below i c.state.ids; em = em }; output = with_command c.output (command.DeleteConflictLog since) }) i (next c.state.committed) meta c.state.purged =
        λ em. record {
          stored = record {
            ready = q.0;
            holds = subst (λ u. Holds entry u c.state.vote (below i c.state.ids) c.state.purged) (sym q.1) g;
            run = subst (λ u. Run (index_of entry) (next u.front) (values_of u.log)) (sym q.1) r;
            applied = subst (λ u. length u.applied ≤ next c.state.committed) (sym q.1) (applied_upto entry T c.state p.in_step);
          };
          end = d;
          snap_is = refl;
          purged_is = refl;
        } in
        let z : CutPart t cut i (next c.state.committed) meta c.state.purged =
        cut_parts entry (λ s2. CutPart t (record { state = s2; output = with_command c.output (command.DeleteConflictLog since) }) i (next c.state.committed) meta c.state.purged) w.state i part in
        cond_both (not (undoes_membership w.state i)) cut (update_role cmp config cut) (λ y. CutPart t y i (next c.state.committed) meta c.state.purged) (λ _. z) (λ _. role_part t cut i (next c.state.committed) meta c.state.purged z)
      where
        cut_below : (c2 : Core C NID N E D R S) (since : LogId NID) → at c.state.ids i ≡ Some since → Holds entry (record T { log = filter (λ p. nat_lt p.0 i) T.log }) c.state.vote (below i c.state.ids) c.state.purged
            → Run (index_of entry) (next T.front) (values_of (filter (λ p. nat_lt p.0 i) T.log)) → next (last (below i c.state.ids)) ≤ i
        cut_below c2 since e g r =
            let u : i ≤ next (last c.state.ids) = let v : i + 1 ≤ next (last c.state.ids) = at_reaches (first_index c.state.purged) i c.state.ids since k.run e in omega (arith, v) in
            let q : next (last (below i c.state.ids)) ≡ i = cut_end entry T c.state i p.in_step.mirrors.log h.run low u in omega (arith, q)

module _ {NID N E : Type 0} (entry : RaftEntry.Ghosts E NID N) where
  split_memberships : (t : Store NID N E) (s : RaftState NID N) (i : ℕ) → Shape entry t s → memberships_in entry (whole t) ≡ memberships_in entry (under (index_of entry) i (whole t)) ++ memberships_in entry (onward (index_of entry) i (whole t))
  split_memberships t s i h =
      ap (memberships_in entry) (sym (split (index_of entry) 0 i (whole t) (whole_run entry t s h))) ∙ memberships-append entry (under (index_of entry) i (whole t)) (onward (index_of entry) i (whole t))

module _ {C NID N E D R S : Type 0} (cmp : NID → NID → Ordering) (same : (a b : NID) → cmp a b ≡ Equal → a ≡ b) (entry : RaftEntry.Ghosts E NID N) (entries_in : S → List E) (config : EngineConfig NID)
    (t : Store NID N E) (x : LogId NID) (snapshot : Snapshot C NID N E D R S) (c : Core C NID N E D R S)
    (p : Pending cmp entry entries_in t c) (f : InstallFits cmp entry c.state snapshot.meta (entries_in snapshot.snapshot) x) where
  abbrev T : Store NID N E
  T = after cmp entry entries_in t c

  abbrev L : List E
  L = entries_in snapshot.snapshot

  abbrev recorded : Core C NID N E D R S
  recorded = with_state c (record c.state { snap = snapshot.meta })

  abbrev finished : Core C NID N E D R S → Bool → Core C NID N E D R S
  finished cut gone = ended cmp entry entries_in config snapshot x cut (with_memberships_of snapshot.meta.last_membership x gone (held_upto cmp x cut.state))

  k : Marks c.state
  k = p.in_step.marks

  h : Shape entry T c.state
  h = shape_of entry T c.state p.in_step.mirrors k

  low : next c.state.purged ≤ x.index + 1
  low = omega (arith, k.purged, k.target, k.snapshot, f.above)

  stored : Stored cmp entry entries_in t recorded (next c.state.committed)
  stored = record { ready = p.ready; holds = p.in_step.mirrors.log; run = h.run; applied = applied_upto entry T c.state p.in_step }

  -- where nothing is left past the snapshot
  gone_two : (cut : Core C NID N E D R S) → Stored cmp entry entries_in t cut (next c.state.committed) → next (last cut.state.ids) ≤ x.index
      → Two snapshot.meta.last_membership snapshot.meta.last_membership (memberships_in entry (L ++ onward (index_of entry) (x.index + 1) (values_of (after cmp entry entries_in t cut).log)))
  gone_two cut g l =
      let u : Store NID N E = after cmp entry entries_in t cut in
      let e : onward (index_of entry) (x.index + 1) (values_of u.log) ≡ [] = onward_none (index_of entry) (next u.front) (x.index + 1) (values_of u.log) (omega (arith, l, held_end entry u cut.state.vote cut.state.ids cut.state.purged g.holds g.run)) g.run in
      let w : L ≡ L ++ onward (index_of entry) (x.index + 1) (values_of u.log) = sym (ap (λ ys. L ++ ys) e ∙ append-nil L) in
      record { em_is = f.tells.membership ∙ ap (λ es. (last_two (memberships_in entry es)).1) w; cm_is = inl refl }

  all_gone : (cut : Core C NID N E D R S) → Stored cmp entry entries_in t cut (next c.state.committed) → next (last cut.state.ids) ≤ x.index → cut.state.snap ≡ snapshot.meta → cut.state.purged ≡ c.state.purged → cut.state.vote ≡ c.state.vote → Pending cmp entry entries_in t (finished cut true)
  all_gone cut g l es ep ev =
      subst (λ z. Pending cmp entry entries_in t (ended cmp entry entries_in config snapshot x cut z)) (begun_is cmp snapshot.meta x true cut.state)
      (install_end cmp entry entries_in config t snapshot x cut true (next c.state.committed) g (omega (arith, f.above)) es
      (record { above = omega arith; last_is = f.last_is; tells = f.tells; order = subst (λ (v : Vote NID). LogOrder cmp v.leader_id (map entry.id_of L) None) (sym ev) f.order; newer = subst (λ y. is_gt (last_id_cmp cmp (Some x) y) ≡ true) (sym ep) f.newer })
      (let q : next cut.state.purged ≡ next c.state.purged = ap next ep in omega (arith, q, low))
      (λ o. absurd (omega (arith, o, l)))
      (gone_two cut g l))

  held : has_other_at cmp c.state x ≡ false → x.index < next (last c.state.ids) → at c.state.ids x.index ≡ Some x
  held e o = by (at c.state.ids x.index) refl where
    by : (y : Option (LogId NID)) → at c.state.ids x.index ≡ y → at c.state.ids x.index ≡ Some x
    by None q =
        let r : first_index c.state.purged + length c.state.ids ≤ x.index = end_at_none (first_index c.state.purged) x.index c.state.ids k.run (first_below c.state.purged x.index (omega (arith, k.purged, k.target, k.snapshot, f.above))) q in
        absurd (omega (arith, r, o, next_last_le (first_index c.state.purged) c.state.ids k.run))
    by (Some y) q =
        let n : not (is_eq (log_id_cmp cmp y x)) ≡ false = sym (ap (λ (z : Option (LogId NID)). elim z as (λ _. Bool) [ None ↦ false | Some y ↦ not (is_eq (log_id_cmp cmp y x)) ]) q) ∙ e in
        q ∙ found_is cmp same (Some y) x (not-false (is_eq (log_id_cmp cmp y x)) n)

  stays : has_other_at cmp c.state x ≡ false → Pending cmp entry entries_in t (finished recorded false)
  stays e =
      let i : ℕ = x.index + 1 in
      let W : List E = whole T in
      let q : memberships_in entry W ≡ memberships_in entry (under (index_of entry) i W) ++ memberships_in entry (onward (index_of entry) i W) = split_memberships entry T c.state i h in
      let j : Two (kept_or i c.state.cm snapshot.meta.last_membership) (kept_or i c.state.em snapshot.meta.last_membership) (memberships_in entry L ++ memberships_in entry (onward (index_of entry) i W)) =
      join_two c.state.cm c.state.em snapshot.meta.last_membership i (memberships_in entry (under (index_of entry) i W)) (memberships_in entry (onward (index_of entry) i W)) (memberships_in entry L)
      (under_each entry i W) (onward_each entry i i (onward (index_of entry) i W) (run_onward (index_of entry) 0 i W (omega arith) (whole_run entry T c.state h)) (omega arith))
      (subst (Two c.state.cm c.state.em) q h.two) f.tells.membership in
      let w : memberships_in entry L ++ memberships_in entry (onward (index_of entry) i W) ≡ memberships_in entry (L ++ onward (index_of entry) i (values_of T.log)) =
      sym (memberships-append entry L (onward (index_of entry) i W)) ∙ ap (λ ys. memberships_in entry (L ++ ys)) (onward_whole entry T c.state i h (omega (arith, h.settled, f.above))) in
      subst (λ z. Pending cmp entry entries_in t (ended cmp entry entries_in config snapshot x recorded z)) (begun_is cmp snapshot.meta x false recorded.state)
      (install_end cmp entry entries_in config t snapshot x recorded false (next c.state.committed) stored (omega (arith, f.above)) refl
      (record { above = omega arith; last_is = f.last_is; tells = f.tells; order = f.order; newer = f.newer })
      low (held e)
      (subst (Two (kept_or i c.state.cm snapshot.meta.last_membership) (kept_or i c.state.em snapshot.meta.last_membership)) w j))

  by_end : has_other_at cmp c.state x ≡ false → (g : Bool) → nat_le (next (last c.state.ids)) x.index ≡ g → Pending cmp entry entries_in t (finished recorded g)
  by_end e true q = all_gone recorded stored (leb-true (next (last c.state.ids)) x.index q) refl refl refl
  by_end e false q = stays e

  by_other : (b : Bool) → has_other_at cmp c.state x ≡ b → Pending cmp entry entries_in t (finished (if b then truncate_logs cmp config x.index recorded else recorded) (b || nat_le (next (last c.state.ids)) x.index))
  by_other true e =
      let g : CutPart cmp entry entries_in config t (truncate_logs cmp config x.index recorded) x.index (next c.state.committed) snapshot.meta c.state.purged = cut_part cmp entry entries_in config t x.index c snapshot.meta p f.above in
      all_gone (truncate_logs cmp config x.index recorded) g.stored (omega (arith, g.end)) g.snap_is g.purged_is (truncate_marks cmp config x.index recorded).vote
  by_other false e = by_end e (nat_le (next (last c.state.ids)) x.index) refl

  -- an install
  pub pending_install : Pending cmp entry entries_in t (install_upto cmp config x snapshot c)
  unfolding install_upto
  pending_install = by_other (has_other_at cmp c.state x) refl
