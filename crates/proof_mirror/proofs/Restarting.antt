-- Starts, and built snapshots: stores that change beside the queue.
use Rattle.std.proofs.Common.{ℕ, zero, suc, ◌+◌, ◌<◌, ◌≤◌, ◌≡◌, ◌⊎◌, inl, inr, ⊎_elim, Bool, true, false, cond, not, List, [], ◌∷◌, ◌++◌, length, take, drop, arith, refl, sym, ap, ◌∙◌, subst, Option, Some, None}
use Rattle.std.specs.Prelude.{nat_lt, nat_le, ◌&&◌, map}
use Rattle.std.specs.Option.{option_or}
use Rattle.std.specs.Cmp.{IsTotalOrder}
use Rattle.std.specs.Map.{values_of}
use Rattle.std.specs.declared.cmp.Ordering.{Ordering}
use Rattle.std.specs.declared.cmp.Ordering.TheVariants.{Equal}
use Rattle.std.specs.Ordering.{is_le, is_lt}
use Rattle.std.proofs.lemmas.Bool.{both_ways, cases_lt, cond_both, and_cases, and_parts, eq-eqb, ltb-false, not-false}
use Rattle.raft_state.specs.declared.config.RaftEntry
use Rattle.raft_state.specs.declared.ids.LogId.{LogId}
use Rattle.raft_state.specs.declared.membership.SnapshotMeta.{SnapshotMeta}
use Rattle.raft_state.specs.declared.state.RaftState.{RaftState}
use Rattle.raft_state.specs.Fits.{fits, is_within}
use Rattle.raft_state.specs.Invariants.{IsBelowEnd, IsSoundState, IsUnder, LogOrder, Rises, first_index}
use Rattle.raft_state.specs.Log.{last, at, from}
use Rattle.raft_state.specs.LogLaws.{IsRun, at-append}
use Rattle.raft_state.specs.Order.{next, last_id_cmp}
use Rattle.raft_state.specs.Same.{found_is}
use Rattle.raft_state.specs.State.{empty, is_found}
use Rattle.raft_command.specs.declared.command.Command.{Command}
use Rattle.raft_steps.specs.FollowingHandler.{memberships_in}
use Rattle.raft_state.proofs.LogLists.{at_has, each_append, each_filter, fits_has, last_is, rises_append, run_low}
use Rattle.raft_state.proofs.Orders.{last_total, lt_not_ge, within_le, within_refl, within_trans}
use Rattle.raft_state.proofs.Places.{at_low, from_all}
use Rattle.raft_state.proofs.Purges.{purged_to}
use Rattle.raft_store.specs.Store.{Store, past, whole, holds, index_of, exec, exec_all, no_store}
use Rattle.raft_store.specs.Mirror.{Mirrors, Tells, keyed, last_two, map_ids, ids_of}
use Rattle.proof_mirror.specs.Ready.{Shaped, Ordered, Ready, Marks, InStep}
use Rattle.raft_store.specs.Restart.{is_outrun, settled_by, settled, greater_id, start_committed, holds_some, restarted, started}
use Rattle.raft_store.proofs.Lists.{Run, under, onward, split, run_under, run_onward, length_under, next_last_0}
use Rattle.proof_mirror.proofs.Commits.{behind_at, whole_behind}
use Rattle.proof_mirror.proofs.Orders.{InOrder, Stands, first_behind, first_stands, last_alone, order_begin, order_fits, stands_last}
use Rattle.proof_mirror.proofs.Purges.{from_at, from_behind}
use Rattle.proof_mirror.proofs.Puts.{map_more}
use Rattle.proof_mirror.proofs.Shape.{Shape, shape_of, whole_run, whole_end, take_all, take_append, take_under, length_ids, marks_of, run_of_ids, ids_of_run, past_keyed, onward_whole}

module _ {NID N E : Type 0} (cmp : NID → NID → Ordering) (total : IsTotalOrder cmp) (same : (a b : NID) → cmp a b ≡ Equal → a ≡ b) (entry : RaftEntry.Ghosts E NID N) where
  snap_next : (t : Store NID N E) → Tells entry t.meta t.snap → IsRun 0 (map entry.id_of t.snap) → next t.meta.last_log_id ≡ length t.snap
  snap_next t tells r = ap next tells.last_id ∙ (next_last_0 (map entry.id_of t.snap) r ∙ length_ids entry t.snap)

  -- what a start keeps of a store, whose log has the snapshot's last id
  record Fitting (t : Store NID N E) : Type 0 where
    pub keys : t.log ≡ keyed entry (values_of t.log)
    pub run : IsRun (next t.front) (map_ids entry t)
    pub front : next t.front ≤ length t.snap
    pub tells : Tells entry t.meta t.snap
    pub snap_run : IsRun 0 (map entry.id_of t.snap)
    pub order : Ordered cmp entry t
    pub stands : Stands (ids_of entry t) t.meta.last_log_id

  at_self : (x : LogId NID) → at (x ∷ []) x.index ≡ Some x
  at_self x = ap (λ b. cond b (Some x) None) (eq-eqb x.index x.index refl)

  settled_fits : (t : Store NID N E) → Shaped entry t → Ordered cmp entry t → Fitting (settled cmp entry t)
  settled_fits t h o = go t.meta.last_log_id refl where
    kept : (p : Option (LogId NID)) → t.meta.last_log_id ≡ p → Stands (ids_of entry t) p → Fitting t
    kept p e s = record { keys = h.keys; run = h.run; front = h.front; tells = h.tells; snap_run = h.snap_run; order = o; stands = subst (Stands (ids_of entry t)) (sym e) s }

    in_map : (x : LogId NID) → at (map_ids entry t) x.index ≡ Some x → at (ids_of entry t) x.index ≡ Some x
    in_map x r = behind_at entry t.front (values_of t.log) x.index (run_low (next t.front) x (map_ids entry t) h.run (at_has x.index x (map_ids entry t) r)) ∙ r

    in_front : (x : LogId NID) → t.front ≡ Some x → at (ids_of entry t) x.index ≡ Some x
    in_front x e = subst (Stands (ids_of entry t)) e (first_stands cmp total same (ids_of entry t) t.front (first_behind t.front (map_ids entry t)))

    go : (p : Option (LogId NID)) → t.meta.last_log_id ≡ p → Fitting (settled_by cmp entry t p)
    go None e = kept None e tt
    go (Some x) e =
        let n : length t.snap ≡ x.index + 1 = sym (snap_next t h.tells h.snap_run) ∙ ap next e in
        cond_both (is_outrun cmp entry t x) (record t { log = []; front = Some x }) t Fitting
        (λ _. record {
          keys = refl;
          run = tt;
          front = omega (arith, n);
          tells = h.tells;
          snap_run = h.snap_run;
          order = record { log = last_alone cmp total same entry t x h o e; snapshot = o.snapshot; front = λ _. sym e };
          stands = subst (Stands (x ∷ [])) (sym e) (at_self x);
        })
        (λ q. kept (Some x) e
        (⊎_elim
        (λ a. in_map x (found_is cmp same (at (map_ids entry t) x.index) x (not-false (is_found cmp (at (map_ids entry t) x.index) x) a)))
        (λ b. let l : x.index + 1 ≤ next t.front = ltb-false (next t.front) (x.index + 1) b in in_front x (o.front (omega (arith, l, n, h.front)) ∙ e))
        (and_cases (not (is_found cmp (at (map_ids entry t) x.index) x)) (nat_lt (next t.front) (x.index + 1)) q)))

  -- a held id above the snapshot's last one stands in the log, past it
  saved_stands : (t : Store NID N E) → Fitting t → (x : LogId NID) → holds cmp entry t x ≡ true → is_lt (last_id_cmp cmp t.meta.last_log_id (Some x)) ≡ true → (at (ids_of entry t) x.index ≡ Some x) × (length t.snap ≤ x.index)
  saved_stands t f x held above = ⊎_elim (λ l. absurd (both_ways (is_le (last_id_cmp cmp (Some x) t.meta.last_log_id)) not_below (within_le cmp total (Some x) t.meta.last_log_id (below l)))) (λ l. (sym (whole_behind entry t x.index f.keys f.snap_run f.front l) ∙ a, l)) (cases_lt x.index (length t.snap)) where
    a : at (map entry.id_of (whole t)) x.index ≡ Some x
    a = found_is cmp same (at (map entry.id_of (whole t)) x.index) x held

    not_below : is_le (last_id_cmp cmp (Some x) t.meta.last_log_id) ≡ false
    not_below = lt_not_ge (last_total cmp total) t.meta.last_log_id (Some x) above

    rest : List E
    rest = past (length t.snap) t.log

    rest_run : Run (index_of entry) (length t.snap) rest
    rest_run =
        subst (Run (index_of entry) (length t.snap)) (sym (ap (past (length t.snap)) f.keys ∙ past_keyed entry (length t.snap) (values_of t.log)))
        (run_onward (index_of entry) (next t.front) (length t.snap) (values_of t.log) f.front (run_of_ids entry (next t.front) (values_of t.log) f.run))

    only : (p : Option (LogId NID)) → option_or p None ≡ Some x → p ≡ Some x
    only None e = cc
    only (Some y) e = e

    below : x.index < length t.snap → is_within cmp (Some x) t.meta.last_log_id ≡ true
    below l =
        let z : at (map entry.id_of rest) x.index ≡ None = at_low (length t.snap) x.index (map entry.id_of rest) (ids_of_run entry (length t.snap) rest rest_run) l in
        let q : at (map entry.id_of t.snap) x.index ≡ Some x =
        only (at (map entry.id_of t.snap) x.index)
        (sym (ap (option_or (at (map entry.id_of t.snap) x.index)) z) ∙ (sym (at-append (map entry.id_of t.snap) (map entry.id_of rest) x.index) ∙ (ap (λ ids. at ids x.index) (map_more entry t.snap rest) ∙ a))) in
        subst (λ p. is_within cmp (Some x) p ≡ true) (sym f.tells.last_id) (stands_last cmp total same t.vote.leader_id (map entry.id_of t.snap) None f.order.snapshot (Some x) q)

  -- the committed id of a start stands in the log, at or past the snapshot's last
  committed_stands : (saved : Bool) (t : Store NID N E) → Fitting t → Stands (ids_of entry t) (start_committed cmp entry saved t) × (next t.meta.last_log_id ≤ next (start_committed cmp entry saved t))
  committed_stands saved t f = cond_both (saved && holds_some cmp entry t t.saved) (greater_id cmp t.meta.last_log_id t.saved) t.meta.last_log_id Within by_saved (λ _. snapshots) where
    Within : Option (LogId NID) → Type 0
    Within c = Stands (ids_of entry t) c × (next t.meta.last_log_id ≤ next c)

    snapshots : Stands (ids_of entry t) t.meta.last_log_id × (next t.meta.last_log_id ≤ next t.meta.last_log_id)
    snapshots = (f.stands, omega arith)

    go : (o : Option (LogId NID)) → holds_some cmp entry t o ≡ true → is_lt (last_id_cmp cmp t.meta.last_log_id o) ≡ true → Stands (ids_of entry t) o × (next t.meta.last_log_id ≤ next o)
    go None q l = cc
    go (Some x) q l =
        let p : (at (ids_of entry t) x.index ≡ Some x) × (length t.snap ≤ x.index) = saved_stands t f x q l in
        (p.0, omega (arith, snap_next t f.tells f.snap_run, p.1))

    by_saved : (saved && holds_some cmp entry t t.saved) ≡ true → Within (greater_id cmp t.meta.last_log_id t.saved)
    by_saved q =
        cond_both (is_lt (last_id_cmp cmp t.meta.last_log_id t.saved)) t.saved t.meta.last_log_id Within
        (λ l. go t.saved (and_parts saved (holds_some cmp entry t t.saved) q).1 l) (λ _. snapshots)

  -- a start on a store that is shaped and in order: the state is in step with it, and meets what a new engine asks
  pub restart_in_step : (saved : Bool) (t : Store NID N E) → Shaped entry t → Ordered cmp entry t
      → InStep entry (restarted cmp entry saved t) (started cmp entry saved t) × Ordered cmp entry (restarted cmp entry saved t) × IsSoundState cmp (started cmp entry saved t)
  restart_in_step saved t h o =
      let fit : Store NID N E = settled cmp entry t in
      let f : Fitting fit = settled_fits t h o in
      let c : Option (LogId NID) = start_committed cmp entry saved fit in
      let w : Stands (ids_of entry fit) c × (next fit.meta.last_log_id ≤ next c) = committed_stands saved fit f in
      let sound : IsSoundState cmp (started cmp entry saved t) =
      order_fits cmp total same fit.vote.leader_id (ids_of entry fit) fit.front fit.front fit.meta.last_log_id c f.order.log
      (first_stands cmp total same (ids_of entry fit) fit.front (first_behind fit.front (map_ids entry fit))) f.stands w.0 (omega arith) (omega (arith, snap_next fit f.tells f.snap_run, f.front)) w.1 in (
        record {
          mirrors = record {
            log = record { vote_is = refl; ids_are = refl; purged_is = refl; keys = f.keys };
            meta = refl;
            tells = f.tells;
            snap_run = f.snap_run;
            em = refl;
            cm = cond_both (nat_le 2 (length (memberships_in entry (whole fit)))) (last_two (memberships_in entry (whole fit))).0 (last_two (memberships_in entry (whole fit))).1
                (λ m. (m ≡ (last_two (memberships_in entry (whole fit))).1) ⊎ (m ≡ (last_two (memberships_in entry (whole fit))).0)) (λ _. inr refl) (λ _. inl refl);
          };
          applied = refl;
          marks = marks_of cmp (started cmp entry saved t) sound;
        },
        record { log = f.order.log; snapshot = f.order.snapshot; front = f.order.front },
        sound,
      )

module _ {C NID N E D R S : Type 0} (cmp : NID → NID → Ordering) (entry : RaftEntry.Ghosts E NID N) (entries_in : S → List E) where
  -- wherever a stop comes among ready commands, the store is shaped
  pub shaped_at_stop : (t : Store NID N E) (cs : List (Command C NID N E D R S)) (j : ℕ) → Ready cmp entry entries_in t cs → Shaped entry (exec_all entry entries_in t (take j cs))
  shaped_at_stop t [] zero h = h
  shaped_at_stop t [] (suc j) h = h
  shaped_at_stop t (c ∷ cs) zero h = h.0
  shaped_at_stop t (c ∷ cs) (suc j) h = shaped_at_stop (exec entry entries_in c t) cs j h.2

module _ {NID N E : Type 0} (cmp : NID → NID → Ordering) (entry : RaftEntry.Ghosts E NID N) where
  pub new_ordered : (first : NID) → Ordered cmp entry (no_store {N = N} first)
  new_ordered first = record {
    log = record { by_vote = tt; rising = tt; run = tt; below_end = tt; first = tt };
    snapshot = record { by_vote = tt; rising = tt; run = tt; below_end = tt; first = tt };
    front = λ _. refl;
  }

module _ {NID N E : Type 0} (cmp : NID → NID → Ordering) (total : IsTotalOrder cmp) (same : (a b : NID) → cmp a b ≡ Equal → a ≡ b) (entry : RaftEntry.Ghosts E NID N) where
  -- the ids past one that stands in a log rise from it
  rises_past : (t : Store NID N E) (x : LogId NID) → LogOrder cmp t.vote.leader_id (ids_of entry t) t.front → at (ids_of entry t) x.index ≡ Some x → next t.front ≤ x.index + 1 → Rises cmp (Some x) (from (x.index + 1) (ids_of entry t))
  rises_past t x o a l =
      let ids : List (LogId NID) = ids_of entry t in
      let h = order_fits cmp total same t.vote.leader_id ids t.front (Some x) (Some x) (Some x) o a a a l (omega arith) (omega arith) in
      let q : from x.index ids ≡ x ∷ from (x.index + 1) ids = from_at (first_index t.front) x.index ids x (low t.front l) o.run a in
      let r : Rises cmp None (from x.index ids) = (purged_to cmp total same t.vote.leader_id ids t.front (Some x) (Some x) (Some x) None h x a h.marks.at_purged (within_refl cmp total (Some x))).log.rising in
      (subst (Rises cmp None) q r).1 where
        low : (f : Option (LogId NID)) → next f ≤ x.index + 1 → first_index f ≤ x.index
        low None l = omega arith
        low (Some y) l = omega (arith, l)

  -- the whole log of a store in step with a sound state is in order
  whole_order : (t : Store NID N E) (s : RaftState NID N) → InStep entry t s → Ordered cmp entry t → IsSoundState cmp s → InOrder cmp t.vote.leader_id (map entry.id_of (whole t))
  whole_order t s i o z =
      let h : Shape entry t s = shape_of entry t s i.mirrors i.marks in
      let xs : List E = values_of t.log in
      let n : ℕ = length t.snap in
      let ids : List (LogId NID) = ids_of entry t in
      let b : from n ids ≡ map entry.id_of (onward (index_of entry) n xs) = from_behind entry t.front n xs h.front in
      let e : map entry.id_of t.snap ++ from n ids ≡ map entry.id_of (whole t) =
      ap (λ ys. map entry.id_of t.snap ++ ys) b ∙ (map_more entry t.snap (onward (index_of entry) n xs) ∙ ap (map entry.id_of) (sym h.whole_is)) in
      subst (InOrder cmp t.vote.leader_id) e (record {
        by_vote = each_append (IsUnder cmp t.vote.leader_id) (map entry.id_of t.snap) (from n ids) o.snapshot.by_vote (each_filter (IsUnder cmp t.vote.leader_id) (λ x. not (nat_lt x.index n)) ids o.log.by_vote);
        rising = rises_append cmp None (map entry.id_of t.snap) (from n ids) o.snapshot.rising
            (subst (λ d. Rises cmp d (from n ids)) (i.mirrors.tells.last_id ∙ last_is (map entry.id_of t.snap)) (behind t.meta.last_log_id refl));
        below_end = each_append IsBelowEnd (map entry.id_of t.snap) (from n ids) o.snapshot.below_end (each_filter IsBelowEnd (λ x. not (nat_lt x.index n)) ids o.log.below_end);
      })
    where
      h : Shape entry t s
      h = shape_of entry t s i.mirrors i.marks

      stands : (x : LogId NID) → t.meta.last_log_id ≡ Some x → at (ids_of entry t) x.index ≡ Some x
      stands x e =
          let q : s.snap.last_log_id ≡ Some x = ap (λ (m : SnapshotMeta NID N). m.last_log_id) i.mirrors.meta ∙ e in
          subst (λ ids. at ids x.index ≡ Some x) i.mirrors.log.ids_are
          (fits_has cmp total same s.ids s.purged x (subst (λ p. fits cmp s.ids s.purged p ≡ true) q z.marks.snapshot_fits)
          (subst (λ p. is_within cmp s.purged p ≡ true) q (within_trans cmp total s.purged s.purge_to s.snap.last_log_id z.marks.at_purged z.marks.at_target)))

      behind : (p : Option (LogId NID)) → t.meta.last_log_id ≡ p → Rises cmp p (from (length t.snap) (ids_of entry t))
      behind None e =
          let n : length t.snap ≡ 0 = sym (snap_next cmp total same entry t i.mirrors.tells i.mirrors.snap_run) ∙ ap next e in
          subst (Rises cmp None) (sym (from_all (first_index t.front) (length t.snap) (ids_of entry t) o.log.run (omega (arith, n)))) o.log.rising
      behind (Some x) e =
          let n : length t.snap ≡ x.index + 1 = sym (snap_next cmp total same entry t i.mirrors.tells i.mirrors.snap_run) ∙ ap next e in
          subst (λ k. Rises cmp (Some x) (from k (ids_of entry t))) (sym n) (rises_past t x o.log (stands x e) (omega (arith, n, h.front)))

  take_map : (f : E → LogId NID) (j : ℕ) (es : List E) → map f (take j es) ++ map f (drop j es) ≡ map f es
  take_map f zero [] = refl
  take_map f (suc j) [] = refl
  take_map f zero (e ∷ es) = refl
  take_map f (suc j) (e ∷ es) = ap (λ ys. f e ∷ ys) (take_map f j es)

  -- the order of a store with a snapshot that was built
  pub built_ordered : (t : Store NID N E) (s : RaftState NID N) (meta : SnapshotMeta NID N) (j : ℕ) → InStep entry t s → Ordered cmp entry t → IsSoundState cmp s → length t.snap ≤ j → j ≤ next s.committed → Tells entry meta (take j (whole t))
      → Ordered cmp entry (record t { meta = meta; snap = take j (whole t) })
  built_ordered t s meta j i o z lo hi tells =
      let h : Shape entry t s = shape_of entry t s i.mirrors i.marks in
      let W : List E = whole t in
      let r : Run (index_of entry) 0 W = whole_run entry t s h in
      let u : take j W ≡ under (index_of entry) j W = take_under (index_of entry) j W r in
      let l : length (take j W) ≡ j = ap (λ ys. length ys) u ∙ (let q : 0 + length (under (index_of entry) j W) ≡ j = length_under (index_of entry) 0 j W r (omega arith) (omega (arith, hi, i.marks.committed, whole_end entry t s h)) in omega (arith, q)) in
      let w : InOrder cmp t.vote.leader_id (map entry.id_of (take j W)) = order_begin cmp t.vote.leader_id (map entry.id_of (take j W)) (map entry.id_of (drop j W)) (subst (InOrder cmp t.vote.leader_id) (sym (take_map entry.id_of j W)) (whole_order t s i o z)) in
      record {
        log = o.log;
        snapshot = record { by_vote = w.by_vote; rising = w.rising; run = ids_of_run entry 0 (take j W) (subst (Run (index_of entry) 0) (sym u) (run_under (index_of entry) 0 j W r)); below_end = w.below_end; first = tt };
        front = λ q.
            let n : j ≡ length t.snap = omega (arith, q, l, lo, h.front) in
            let e : take j W ≡ t.snap = ap (λ k. take k W) n ∙ (take_append (length t.snap) t.snap (past (length t.snap) t.log) (omega arith) ∙ take_all t.snap) in
            o.front (omega (arith, q, l, n)) ∙ (i.mirrors.tells.last_id ∙ (ap (λ es. last (map entry.id_of es)) (sym e) ∙ sym tells.last_id));
      }

module _ {NID N E : Type 0} (entry : RaftEntry.Ghosts E NID N) where
  -- a new node
  pub new_in_step : (first : NID) → InStep entry (no_store first) (empty first)
  new_in_step first = record {
    mirrors = record {
      log = record { vote_is = refl; ids_are = refl; purged_is = refl; keys = refl };
      meta = refl;
      tells = record { last_id = refl; membership = refl };
      snap_run = tt;
      em = refl;
      cm = inl refl;
    };
    applied = refl;
    marks = record { run = tt; purged = omega arith; target = omega arith; snapshot = omega arith; committed = omega arith };
  }

  -- a snapshot of the first entries that were applied, no fewer than the last one has, takes its place: the whole log
  -- stays
  pub step_built : (t : Store NID N E) (s : RaftState NID N) (meta : SnapshotMeta NID N) (j : ℕ) → InStep entry t s → length t.snap ≤ j → j ≤ next s.committed → Tells entry meta (take j (whole t))
      → InStep entry (record t { meta = meta; snap = take j (whole t) }) (record s { snap = meta })
  step_built t s meta j i lo hi tells =
      let m : Mirrors entry t s = i.mirrors in
      let k : Marks s = i.marks in
      let h : Shape entry t s = shape_of entry t s m k in
      let W : List E = whole t in
      let r : Run (index_of entry) 0 W = whole_run entry t s h in
      let u : take j W ≡ under (index_of entry) j W = take_under (index_of entry) j W r in
      let l : length (take j W) ≡ j = ap (λ ys. length ys) u ∙ (let q : 0 + length (under (index_of entry) j W) ≡ j = length_under (index_of entry) 0 j W r (omega arith) (omega (arith, hi, k.committed, whole_end entry t s h)) in omega (arith, q)) in
      let p : past (length (take j W)) t.log ≡ onward (index_of entry) j W =
      ap (λ n. past n t.log) l ∙ (ap (past j) m.log.keys ∙ (past_keyed entry j (values_of t.log) ∙ sym (onward_whole entry t s j h lo))) in
      let w : take j W ++ past (length (take j W)) t.log ≡ W = ap (λ ys. take j W ++ ys) p ∙ (ap (λ ys. ys ++ onward (index_of entry) j W) u ∙ split (index_of entry) 0 j W r) in
      let v : IsRun 0 (map entry.id_of (take j W)) = ids_of_run entry 0 (take j W) (subst (Run (index_of entry) 0) (sym u) (run_under (index_of entry) 0 j W r)) in
      let n : next meta.last_log_id ≡ j = ap next tells.last_id ∙ (next_last_0 (map entry.id_of (take j W)) v ∙ (length_ids entry (take j W) ∙ l)) in
      record {
        mirrors = record {
          log = record { vote_is = m.log.vote_is; ids_are = m.log.ids_are; purged_is = m.log.purged_is; keys = m.log.keys };
          meta = refl;
          tells = tells;
          snap_run = v;
          em = m.em ∙ ap (λ es. (last_two (memberships_in entry es)).1) (sym w);
          cm = ⊎_elim (λ e. inl e) (λ e. inr (e ∙ ap (λ es. (last_two (memberships_in entry es)).0) (sym w))) m.cm;
        };
        applied = i.applied ∙ ap (take (next s.committed)) (sym w);
        marks = record { run = k.run; purged = k.purged; target = omega (arith, n, lo, k.target, h.snap_end); snapshot = omega (arith, n, hi); committed = k.committed };
      }
