-- A restart, done by deeds: what the map lacks of the snapshot is purged, and the store is taken up again.
use Rattle.std.proofs.Common.{ℕ, zero, suc, ◌+◌, ◌-◌, ◌<◌, ◌≤◌, ◌≡◌, inr, ⊎_elim, Bool, true, false, not, List, [], ◌∷◌, ◌++◌, length, map, drop, cond, arith, refl, sym, ap, ◌∙◌, subst, true≢false, Option, None, Some}
use Rattle.std.specs.Prelude.{nat_lt, filter, slice_get, ◌&&◌}
use Rattle.std.specs.List.{AllByRecursion}
use Rattle.std.specs.Map.{values_of}
use Rattle.std.specs.Ordering.{is_lt, nat_cmp}
use Rattle.std.proofs.lemmas.Bool.{and_parts, cases_lt, cond_both, ltb-true, not-true}
use Rattle.std.proofs.lemmas.Cmp.{nat_cmp_total}
use Rattle.std.proofs.lemmas.List.{length-map, get_or-drop}
use Rattle.std.proofs.lemmas.Option.{slice_get_within}
use Rattle.raft_node.specs.raft_state.declared.ids.LogId.{LogId}
use Rattle.raft_node.specs.raft_state.declared.state.RaftState.{RaftState}
use Rattle.raft_node.specs.raft_state.Log.{last, at}
use Rattle.raft_node.specs.raft_state.LogLaws.{IsRun, at-run}
use Rattle.raft_node.specs.raft_state.Order.{next, last_id_cmp}
use Rattle.raft_node.specs.raft_state.Same.{nat_same, found_is}
use Rattle.raft_node.specs.raft_state.State.{is_found}
use Rattle.raft_node.proofs.raft_state_proofs.StateLaws.{is_found_at}
use Rattle.raft_node.specs.raft_steps.Parts.{idle}
use Rattle.proof_agreement.specs.Machine.{Setup}
use Rattle.proof_agreement.specs.Stores.{whole, entry_at, first_entry, no_session}
use Rattle.proof_agreement.specs.Deeds.{Purge, Restart, RestartSaved, Reaches, AllMayDo, put, does, run_all}
use Rattle.proof_agreement.proofs.StoresTheorems.{run_all-append, all_join}
use Rattle.proof_agreement.proofs.WholeLogs.{get_left}
use Rattle.raft_node.specs.raft_store.declared.entry.Entry.{Entry}
use Rattle.raft_node.specs.raft_store.Entries.{entry_meaning}
use Rattle.raft_node.specs.raft_store.Mirror.{ids_of, map_ids}
use Rattle.raft_node.specs.raft_store.Store as store
use Rattle.raft_node.specs.raft_store.Types.{WorldStore}
use Rattle.raft_node.proofs.raft_store_proofs.Lists.{Run, onward_none}
use Rattle.proof_mirror.specs.Ready.{Shaped, Ordered, InStep, MayPurge}
use Rattle.raft_node.specs.raft_store.Restart.{is_outrun, settled_by, settled, greater_id, holds_some, restarted, started}
use Rattle.proof_mirror.proofs.Purges.{purged_map}
use Rattle.proof_mirror.proofs.Restarting.{restart_in_step}
use Rattle.proof_mirror.proofs.Shape.{run_of_ids, shaped_of, applied_length, front_end, behind_run, whole_run, shape_of, ids_of_run}
use Rattle.proof_deeds.specs.Chains.{AllClaimed, IsQuiet, SavesClaimed, doer, Does, Reached}
use Rattle.proof_deeds.specs.Follows.{StoreIs}
use Rattle.proof_deeds.specs.Images.{Ideal, IdealStore, IdealEntry, IdealDeed, last_number, image, images}
use Rattle.proof_deeds.specs.Knows.{Knows}
use Rattle.proof_deeds.proofs.Keeps.{known_none}
use Rattle.proof_deeds.proofs.Overlap.{Laps, laps}
use Rattle.proof_deeds.proofs.SnapshotPushes.{snap_length, snap_last, store_purged, may_purge}
use Rattle.proof_deeds.proofs.Stored.{from_front}
use Rattle.proof_deeds.proofs.Tails.{index, whole_is, entry_of_id}
use Rattle.proof_deeds.proofs.Worlds.{at_put, claims_join}

-- the id of an ideal entry
abbrev id_in : IdealEntry → LogId ℕ
id_in y = y.payload.log_id

module _ (s : Setup Entry) where
  id_of_slot : (es : List Entry) (k : ℕ) (x : LogId ℕ) → slice_get (map (λ (e : Entry). e.log_id) es) k ≡ Some x → id_in (entry_at s (images es) k) ≡ x
  id_of_slot [] k x e = cc
  id_of_slot (y ∷ ys) zero x e = cc
  id_of_slot (y ∷ ys) (suc k) x e = id_of_slot ys k x e

  slot_of_id : (es : List Entry) (k : ℕ) → k < length es → slice_get (map (λ (e : Entry). e.log_id) es) k ≡ Some (id_in (entry_at s (images es) k))
  slot_of_id [] k l = absurd (omega (arith, l))
  slot_of_id (y ∷ ys) zero l = refl
  slot_of_id (y ∷ ys) (suc k) l = slot_of_id ys k (omega (arith, l))

  -- where the stored entries reach the snapshot's end, they hold its last id
  pub end_found : (u : WorldStore) (S : IdealStore) (x : LogId ℕ) → StoreIs s u S → Shaped entry_meaning u → Laps S → Reaches S → u.meta.last_log_id ≡ Some x → next u.front ≤ x.index → at (map_ids entry_meaning u) x.index ≡ Some x
  end_found u S x h z laps r e l =
      let p : (x.index + 1 ≡ length u.snap) × (slice_get (map (λ (e : Entry). e.log_id) u.snap) x.index ≡ Some x) = snap_last s u S h z x e in
      let k : ℕ = x.index - next u.front in
      let q : next u.front + k ≡ x.index = omega (arith, l) in
      let n : length S.entries ≡ length (values_of u.log) = ap (λ xs. length xs) h.entries ∙ length-map (values_of u.log) image in
      let m : length S.snapshot ≡ length u.snap = snap_length s u S h z in
      let a : entry_at s (whole S) x.index ≡ entry_at s (images u.snap) x.index = get_left s S.snapshot (drop (length S.snapshot - S.front) S.entries) x.index (omega (arith, p.0, m)) ∙ ap (λ xs. entry_at s xs x.index) h.snapshot in
      let b : entry_at s (whole S) x.index ≡ entry_at s (images (values_of u.log)) k =
      ap (entry_at s (whole S)) (sym q) ∙ (sym (get_or-drop (next u.front) (whole S) k (first_entry s)) ∙ ap (λ xs. entry_at s xs k) (from_front s u S h z laps r)) in
      let c : id_in (entry_at s (images (values_of u.log)) k) ≡ x = ap id_in (sym b ∙ a) ∙ id_of_slot u.snap x.index x p.1 in
      ap (at (map_ids entry_meaning u)) (sym q) ∙ (at-run (next u.front) k (map_ids entry_meaning u) z.run
      ∙ (slot_of_id (values_of u.log) k (omega (arith, q, n, m, p.0, h.front, r)) ∙ ap Some c))

  -- a map that the snapshot outruns ends before the snapshot's end
  outrun_short : (u : WorldStore) (S : IdealStore) (x : LogId ℕ) → StoreIs s u S → Shaped entry_meaning u → Laps S → u.meta.last_log_id ≡ Some x → is_outrun nat_cmp entry_meaning u x ≡ true → (next u.front ≤ x.index) × (next u.front + length (values_of u.log) ≤ x.index)
  outrun_short u S x h z laps e o =
      let p = and_parts (not (is_found nat_cmp (at (map_ids entry_meaning u) x.index) x)) (nat_lt (next u.front) (x.index + 1)) o in
      let l : next u.front < x.index + 1 = ltb-true (next u.front) (x.index + 1) p.1 in
      let low : next u.front ≤ x.index = omega (arith, l) in
      let g : x.index + 1 ≡ length u.snap = (snap_last s u S h z x e).0 in
      let n : length S.entries ≡ length (values_of u.log) = ap (λ xs. length xs) h.entries ∙ length-map (values_of u.log) image in
      let m : length S.snapshot ≡ length u.snap = snap_length s u S h z in (
        low,
        ⊎_elim
            (λ k.
            let r : Reaches S = omega (arith, k, n, m, g, h.front) in
            let f : is_found nat_cmp (at (map_ids entry_meaning u) x.index) x ≡ true = is_found_at nat_cmp nat_cmp_total nat_same (map_ids entry_meaning u) x (at (map_ids entry_meaning u) x.index) (end_found u S x h z laps r e low) in
            absurd (true≢false (sym f ∙ not-true _ p.0)))
            (λ k. k) (cases_lt x.index (next u.front + length (values_of u.log))),
      )

  -- a world that comes of another by one node's deeds
  pub record DoesAs (n : ℕ) (W V : Ideal) : Type 0 where
    pub deeds : List IdealDeed
    pub by : AllByRecursion (λ e. doer e ≡ n) deeds
    pub allowed : AllMayDo s deeds W
    pub claimed : AllClaimed s deeds W
    pub result : run_all s deeds W ≡ V
    pub quiet : IsQuiet W V

  pub as_does : (n : ℕ) (W V : Ideal) → DoesAs n W V → Does s W V
  as_does n W V h = record { deeds = h.deeds; allowed = h.allowed; claimed = h.claimed; result = h.result }

  by_both : (n : ℕ) (es fs : List IdealDeed) → AllByRecursion (λ e. doer e ≡ n) es → AllByRecursion (λ e. doer e ≡ n) fs → AllByRecursion (λ e. doer e ≡ n) (es ++ fs)
  by_both n [] fs a b = b
  by_both n (e ∷ es) fs a b = (a.0, by_both n es fs a.1 b)

  as_then : (n : ℕ) (U V W : Ideal) → DoesAs n U V → DoesAs n V W → DoesAs n U W
  as_then n U V W a b = record {
    deeds = a.deeds ++ b.deeds;
    by = by_both n a.deeds b.deeds a.by b.by;
    allowed = all_join s a.deeds b.deeds U a.allowed (subst (AllMayDo s b.deeds) (sym a.result) b.allowed);
    claimed = claims_join s a.deeds b.deeds U a.claimed (subst (AllClaimed s b.deeds) (sym a.result) b.claimed);
    result = run_all-append s a.deeds b.deeds U ∙ (ap (run_all s b.deeds) a.result ∙ b.result);
    quiet = record { messages = b.quiet.messages ∙ a.quiet.messages; decided = b.quiet.decided ∙ a.quiet.decided };
  }

  -- a store is another one's after deeds of its node
  pub record Followed (n : ℕ) (W : Ideal) (u : WorldStore) : Type 0 where
    pub end : Ideal
    pub did : DoesAs n W end
    pub store : StoreIs s u (end.store n)

  -- the map is emptied where the snapshot outruns it: a purge
  settled_followed : (n : ℕ) (u : WorldStore) (W : Ideal) → StoreIs s u (W.store n) → Shaped entry_meaning u → Laps (W.store n) → Followed n W (settled nat_cmp entry_meaning u)
  settled_followed n u W h z laps = go u.meta.last_log_id refl where
    same : Followed n W u
    same = record { end = W; did = record { deeds = []; by = tt; allowed = tt; claimed = tt; result = refl; quiet = record { messages = refl; decided = refl } }; store = h }

    go : (o : Option (LogId ℕ)) → u.meta.last_log_id ≡ o → Followed n W (settled_by nat_cmp entry_meaning u o)
    go None e = same
    go (Some x) e = cond_both (is_outrun nat_cmp entry_meaning u x) (record u { log = []; front = Some x }) u (Followed n W) outrun (λ _. same) where
      outrun : is_outrun nat_cmp entry_meaning u x ≡ true → Followed n W (record u { log = []; front = Some x })
      outrun o =
          let l : (next u.front ≤ x.index) × (next u.front + length (values_of u.log) ≤ x.index) = outrun_short u (W.store n) x h z laps e o in
          let g : x.index + 1 ≡ length u.snap = (snap_last s u (W.store n) h z x e).0 in
          let r : Run index (next u.front) (values_of u.log) = run_of_ids entry_meaning (next u.front) (values_of u.log) z.run in
          let m : MayPurge entry_meaning u x = record {
            above = omega (arith, l.0);
            within = omega (arith, g);
            end = λ _. e;
            held = inr (e, let q : next (last (ids_of entry_meaning u)) ≡ next u.front + length (values_of u.log) = front_end entry_meaning u.front (values_of u.log) (behind_run entry_meaning u.front (values_of u.log) r) in omega (arith, q, l.1));
          } in
          let f : filter (λ (p : ℕ × Entry). nat_lt x.index p.0) u.log ≡ [] =
          purged_map entry_meaning u x.index z.keys ∙ ap (λ (es : List Entry). map (λ e. (index e, e)) es) (onward_none index (next u.front) (x.index + 1) (values_of u.log) (omega (arith, l.1)) r) in
          let S : IdealStore = record (W.store n) { front = suc x.index; entries = drop (suc x.index - (W.store n).front) (W.store n).entries } in
          let k : ((W.store n).front ≤ suc x.index) × (suc x.index ≤ length (W.store n).snapshot) = may_purge s u x (W.store n) h z m in
          record {
            end = put W n S;
            did = record { deeds = Purge n (suc x.index) ∷ []; by = (refl, tt); allowed = (record { past = k.0; covered = k.1 }, tt); claimed = (tt, tt); result = refl; quiet = record { messages = refl; decided = refl } };
            store = subst (StoreIs s (record u { log = []; front = Some x })) (sym (at_put W n S))
                (subst (λ (log : List (ℕ × Entry)). StoreIs s (record u { log = log; front = Some x }) S) f (store_purged s u x (W.store n) h z m laps (λ b. absurd (omega (arith, b, g)))));
          }

-- An engine that starts on a store
module _ (s : Setup Entry) (n : ℕ) (saved : Bool) (u : WorldStore) (W : Ideal) where
  -- the store that a start makes is followed, and the state that it begins with knows nothing
  pub record Restarted : Type 0 where
    pub end : Ideal
    pub did : DoesAs s n W end
    pub store : StoreIs s (restarted nat_cmp entry_meaning saved u) (end.store n)
    pub session : (end.store n).session.leader ≡ 0
    pub knows : Knows s n (idle (started nat_cmp entry_meaning saved u)) end

  module _ (h : StoreIs s u (W.store n)) (z : Shaped entry_meaning u) (o : Ordered nat_cmp entry_meaning u) (reached : Reached s W) where
    abbrev fit : WorldStore
    fit = settled nat_cmp entry_meaning u

    abbrev taken : WorldStore
    taken = restarted nat_cmp entry_meaning saved u

    abbrev st : RaftState ℕ (Unit {0})
    st = started nat_cmp entry_meaning saved u

    i : InStep entry_meaning taken st
    i = (restart_in_step nat_cmp nat_cmp_total nat_same entry_meaning saved u z o).0

    f : Followed s n W fit
    f = settled_followed s n u W h z (laps s W reached n)

    abbrev V : Ideal
    V = f.end

    shaped : Shaped entry_meaning taken
    shaped = shaped_of entry_meaning taken st i

    -- the ideal store with as much committed
    committed_is : (k : ℕ) → k ≡ next st.committed → StoreIs s taken (record (V.store n) { committed = k; noted = []; session = no_session })
    committed_is k e = record {
      vote = f.store.vote;
      vote_committed = f.store.vote_committed;
      front = f.store.front;
      entries = f.store.entries;
      snapshot = f.store.snapshot;
      saved = f.store.saved;
      saved_leader = f.store.saved_leader;
      applied = e ∙ sym (applied_length entry_meaning taken st i);
      vote_named = f.store.vote_named;
      entries_fit = f.store.entries_fit;
      snapshot_fit = f.store.snapshot_fit;
      front_is = f.store.front_is;
      saved_named = f.store.saved_named;
    }

    finished : (S : IdealStore) (d : IdealDeed) → doer d ≡ n → AllMayDo s (d ∷ []) V → SavesClaimed s V d → does s V d ≡ put V n S → StoreIs s taken S → S.session.leader ≡ 0 → Restarted
    finished S d b m c e k none = record {
      end = put V n S;
      did = as_then s n W V (put V n S) f.did (record { deeds = d ∷ []; by = (b, tt); allowed = m; claimed = (c, tt); result = e; quiet = record { messages = refl; decided = refl } });
      store = subst (StoreIs s taken) (sym (at_put V n S)) k;
      session = ap (λ (T : IdealStore). T.session.leader) (at_put V n S) ∙ none;
      knows = record { state = known_none s n st (put V n S) refl; leader = tt; candidate = tt; alone = tt };
    }

    snap_is : length (V.store n).snapshot ≡ length fit.snap
    snap_is = ap (λ xs. length xs) f.store.snapshot ∙ length-map fit.snap image

    -- by the snapshot
    by_snapshot : next st.committed ≡ length fit.snap → Restarted
    by_snapshot e =
        let k : length (V.store n).snapshot ≡ next st.committed = snap_is ∙ sym e in
        let l : length fit.snap ≤ length fit.applied = kept u.meta.last_log_id in
        finished (record (V.store n) { committed = length (V.store n).snapshot; noted = []; session = no_session }) (Restart n (length (V.store n).snapshot)) refl
        (record { snapshot = omega arith; lower = omega (arith, snap_is, f.store.applied, l) }, tt) tt refl (committed_is (length (V.store n).snapshot) k) refl
      where
        kept : (p : Option (LogId ℕ)) → length (settled_by nat_cmp entry_meaning u p).snap ≤ length (settled_by nat_cmp entry_meaning u p).applied
        kept None = z.recorded
        kept (Some x) = cond_both (is_outrun nat_cmp entry_meaning u x) (record u { log = []; front = Some x }) u (λ (w : WorldStore). length w.snap ≤ length w.applied) (λ _. z.recorded) (λ _. z.recorded)

    -- by the saved id
    by_saved : (x : LogId ℕ) → fit.saved ≡ Some x → next st.committed ≡ x.index + 1 → is_found nat_cmp (at (map (λ (e : Entry). e.log_id) (store.whole fit)) x.index) x ≡ true → Restarted
    by_saved x e c g =
        let a : at (map (λ (e : Entry). e.log_id) (store.whole fit)) x.index ≡ Some x = found_is nat_cmp nat_same (at (map (λ (e : Entry). e.log_id) (store.whole fit)) x.index) x g in
        let r : IsRun 0 (map (λ (e : Entry). e.log_id) (store.whole taken)) = ids_of_run entry_meaning 0 (store.whole taken) (whole_run entry_meaning taken st (shape_of entry_meaning taken st i.mirrors i.marks)) in
        let p : slice_get (map (λ (e : Entry). e.log_id) (store.whole fit)) x.index ≡ Some x =
        sym (at-run 0 x.index (map (λ (e : Entry). e.log_id) (store.whole taken)) r) ∙ (let q : 0 + x.index ≡ x.index = omega arith in ap (at (map (λ (e : Entry). e.log_id) (store.whole taken))) q ∙ a) in
        let S : IdealStore = record (V.store n) { committed = (V.store n).saved; noted = []; session = no_session } in
        let m : (V.store n).saved ≡ x.index + 1 = f.store.saved ∙ ap next e in
        let k : StoreIs s taken S = committed_is (V.store n).saved (m ∙ sym c) in
        let w : whole (V.store n) ≡ images (store.whole fit) = whole_is s taken S k shaped in
        let b : x.index < length (map (λ (e : Entry). e.log_id) (store.whole fit)) = slice_get_within (map (λ (e : Entry). e.log_id) (store.whole fit)) x.index x p in
        let wl : length (whole (V.store n)) ≡ length (store.whole fit) = ap (λ ys. length ys) w ∙ length-map (store.whole fit) image in
        let marks : next st.snap.last_log_id ≤ next st.committed = i.marks.snapshot in
        let sn : length fit.snap ≡ next st.snap.last_log_id = (shape_of entry_meaning taken st i.mirrors i.marks).snap_end in
        finished S (RestartSaved n x.index) refl (
          record {
            saved = m ∙ omega arith;
            snapshot = omega (arith, m, snap_is, sn, marks, c);
            inside = omega (arith, wl, b, length-map (store.whole fit) (λ (e : Entry). e.log_id));
            held = ap (λ ys. (entry_at s ys x.index).leader) w ∙ (entry_of_id s (store.whole fit) x.index x p ∙ (ap last_number (sym e) ∙ sym f.store.saved_leader));
          },
          tt,
        ) tt refl k refl

    -- a start
    pub restart_done : Restarted
    restart_done = go (saved && holds_some nat_cmp entry_meaning fit fit.saved) refl refl where
      snapped : next fit.meta.last_log_id ≡ length fit.snap
      snapped = sym (shape_of entry_meaning taken st i.mirrors i.marks).snap_end

      of : (p : Option (LogId ℕ)) → fit.saved ≡ p → holds_some nat_cmp entry_meaning fit p ≡ true → next st.committed ≡ next p → Restarted
      of None e g c = cc
      of (Some x) e g c = by_saved x e c g

      go : (b : Bool) → (saved && holds_some nat_cmp entry_meaning fit fit.saved) ≡ b → next st.committed ≡ next (cond b (greater_id nat_cmp fit.meta.last_log_id fit.saved) fit.meta.last_log_id) → Restarted
      go false e c = by_snapshot (c ∙ snapped)
      go true e c = lt (is_lt (last_id_cmp nat_cmp fit.meta.last_log_id fit.saved)) c where
        lt : (b : Bool) → next st.committed ≡ next (cond b fit.saved fit.meta.last_log_id) → Restarted
        lt false c = by_snapshot (c ∙ snapped)
        lt true c = of fit.saved refl (and_parts saved (holds_some nat_cmp entry_meaning fit fit.saved) e).1 c
