-- A start leaves a node's whole log: stored entries that its snapshot outruns end before the snapshot does.
use Rattle.std.proofs.Common.{ℕ, ◌+◌, ◌-◌, ◌<◌, ◌≤◌, ◌≡◌, ⊎_elim, true, not, List, [], ◌++◌, length, arith, refl, sym, ap, ◌∙◌, true≢false, Option, None, Some}
use Rattle.std.specs.Prelude.{nat_lt}
use Rattle.std.specs.Map.{values_of}
use Rattle.std.specs.Ordering.{nat_cmp}
use Rattle.std.proofs.lemmas.Bool.{and_parts, cases_lt, cond_both, ltb-true, not-true}
use Rattle.std.proofs.lemmas.Cmp.{nat_cmp_total}
use Rattle.std.proofs.lemmas.List.{length-map}
use Rattle.proof_deeds.specs.raft_state.declared.ids.LogId.{LogId}
use Rattle.proof_deeds.specs.raft_state.Log.{at}
use Rattle.proof_deeds.specs.raft_state.Order.{next}
use Rattle.proof_deeds.specs.raft_state.Same.{nat_same}
use Rattle.proof_deeds.specs.raft_state.State.{is_found}
use Rattle.proof_deeds.proofs.raft_state_proofs.StateLaws.{is_found_at}
use Rattle.proof_deeds.specs.raft_store.declared.entry.Entry.{Entry}
use Rattle.proof_deeds.specs.raft_store.Entries.{entry_meaning}
use Rattle.proof_deeds.specs.raft_store.Mirror.{map_ids}
use Rattle.proof_deeds.specs.raft_store.Restart.{is_outrun, settled, settled_by}
use Rattle.proof_deeds.specs.raft_store.Store.{past, whole}
use Rattle.proof_deeds.specs.raft_store.Types.{WorldStore}
use Rattle.proof_deeds.proofs.raft_store_proofs.Lists.{onward_none}
use Rattle.proof_deeds.specs.proof_agreement.Machine.{Setup}
use Rattle.proof_deeds.specs.proof_agreement.Deeds.{Reaches}
use Rattle.proof_deeds.specs.proof_mirror.Ready.{Shaped}
use Rattle.proof_deeds.proofs.proof_mirror_proofs.Shape.{past_keyed, run_of_ids}
use Rattle.proof_deeds.specs.Follows.{StoreIs}
use Rattle.proof_deeds.specs.Images.{IdealStore, image}
use Rattle.proof_deeds.proofs.Overlap.{Laps}
use Rattle.proof_deeds.proofs.Restarts.{end_found}
use Rattle.proof_deeds.proofs.SnapshotPushes.{snap_last, snap_length}
use Rattle.proof_deeds.proofs.Tails.{index}

module _ (s : Setup Entry) (u : WorldStore) (S : IdealStore) (h : StoreIs s u S) (z : Shaped entry_meaning u) (laps : Laps S) where
  -- these stored entries end before the snapshot's end
  outrun_ends : (x : LogId ℕ) → u.meta.last_log_id ≡ Some x → is_outrun nat_cmp entry_meaning u x ≡ true
      → next u.front + length (values_of u.log) ≤ length u.snap
  outrun_ends x e o =
      let p = and_parts (not (is_found nat_cmp (at (map_ids entry_meaning u) x.index) x)) (nat_lt (next u.front) (x.index + 1)) o in
      let l : next u.front < x.index + 1 = ltb-true (next u.front) (x.index + 1) p.1 in
      let low : next u.front ≤ x.index = omega (arith, l) in
      let g : x.index + 1 ≡ length u.snap = (snap_last s u S h z x e).0 in
      let n : length S.entries ≡ length (values_of u.log) = ap (λ xs. length xs) h.entries ∙ length-map (values_of u.log) image in
      let m : length S.snapshot ≡ length u.snap = snap_length s u S h z in
      ⊎_elim
      (λ k.
      let r : Reaches S = omega (arith, k, n, m, g, h.front) in
      let f : is_found nat_cmp (at (map_ids entry_meaning u) x.index) x ≡ true =
      is_found_at nat_cmp nat_cmp_total nat_same (map_ids entry_meaning u) x (at (map_ids entry_meaning u) x.index) (end_found s u S x h z laps r e low) in
      absurd (true≢false (sym f ∙ not-true _ p.0)))
      (λ k. omega (arith, k, g)) (cases_lt x.index (next u.front + length (values_of u.log)))

  pub settled_whole : whole (settled nat_cmp entry_meaning u) ≡ whole u
  settled_whole = by u.meta.last_log_id refl
    where
      by : (o : Option (LogId ℕ)) → u.meta.last_log_id ≡ o → whole (settled_by nat_cmp entry_meaning u o) ≡ whole u
      by None e = refl
      by (Some x) e =
          cond_both (is_outrun nat_cmp entry_meaning u x) (record u { log = []; front = Some x }) u (λ (t : WorldStore). whole t ≡ whole u)
          (λ o.
          let none : past (length u.snap) u.log ≡ [] =
          ap (past (length u.snap)) z.keys ∙ (past_keyed entry_meaning (length u.snap) (values_of u.log)
          ∙ onward_none index (next u.front) (length u.snap) (values_of u.log) (outrun_ends x e o) (run_of_ids entry_meaning (next u.front) (values_of u.log) z.run)) in
          ap (λ (es : List Entry). u.snap ++ es) (sym none)) (λ _. refl)
