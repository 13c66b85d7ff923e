-- Purges, installs and cuts before them, done by deeds.
use Rattle.std.proofs.Common.{ℕ, suc, ◌+◌, ◌-◌, ◌<◌, ◌≤◌, ◌≡◌, ⊎_elim, List, length, map, drop, arith, refl, sym, ap, ap₂, ◌∙◌, subst, Some}
use Rattle.std.specs.Prelude.{nat_lt, filter, slice_get}
use Rattle.std.specs.Map.{values_of}
use Rattle.std.proofs.lemmas.Bool.{cases_lt}
use Rattle.std.proofs.lemmas.List.{length-map, drop-map}
use Rattle.raft_node.specs.raft_state.declared.ids.LeaderId.{LeaderId}
use Rattle.raft_node.specs.raft_state.declared.ids.LogId.{LogId}
use Rattle.raft_node.specs.raft_state.Log.{last, at}
use Rattle.raft_node.specs.raft_state.LogLaws.{at-run}
use Rattle.raft_node.specs.raft_state.Order.{next}
use Rattle.raft_node.specs.raft_command.declared.command.Command.TheVariants as command
use Rattle.proof_agreement.specs.Machine.{Setup, last_leader}
use Rattle.proof_agreement.specs.Stores.{whole, entry_at}
use Rattle.proof_agreement.specs.Deeds.{Purge, Reaches, put, does}
use Rattle.proof_agreement.proofs.WholeLogs.{whole_purge, get_left}
use Rattle.raft_node.specs.raft_store.declared.entry.Entry.{Entry}
use Rattle.raft_node.specs.raft_store.Entries.{entry_meaning}
use Rattle.raft_node.specs.raft_store.Types.{WorldStore}
use Rattle.raft_node.proofs.raft_store_proofs.Lists.{Run, onward, next_last_0}
use Rattle.proof_mirror.specs.Ready.{Shaped, MayPurge}
use Rattle.proof_mirror.proofs.Purges.{purged_values}
use Rattle.proof_mirror.proofs.Shape.{run_of_ids, length_ids}
use Rattle.raft_node.specs.declared.node.Turn.{Turn}
use Rattle.proof_deeds.specs.Chains.{stored, Done}
use Rattle.proof_deeds.specs.Follows.{StoreIs}
use Rattle.proof_deeds.specs.Images.{Ideal, IdealStore, IdealEntry, IsNamed, EntriesFit, number, image, images}
use Rattle.proof_deeds.proofs.Overlap.{Laps}
use Rattle.proof_deeds.proofs.Stored.{stored_ends, each_drop}
use Rattle.proof_deeds.proofs.Tails.{index, onward_drop, last_stands, entry_of_id, named_of_id}
use Rattle.proof_deeds.proofs.VotePushes.{put_done, same_rest}

-- a command by one deed that puts a store, whose session and note stay
-- A purge

module _ (s : Setup Entry) (u : WorldStore) (S : IdealStore) (h : StoreIs s u S) (z : Shaped entry_meaning u) where
  run : Run index (next u.front) (values_of u.log)
  run = run_of_ids entry_meaning (next u.front) (values_of u.log) z.run

  pub snap_length : length S.snapshot ≡ length u.snap
  snap_length = ap (λ xs. length xs) h.snapshot ∙ length-map u.snap image

  -- the snapshot's last entry
  pub snap_last : (x : LogId ℕ) → u.meta.last_log_id ≡ Some x → (x.index + 1 ≡ length u.snap) × (slice_get (map (λ (e : Entry). e.log_id) u.snap) x.index ≡ Some x)
  snap_last x e =
      let ids : List (LogId ℕ) = map (λ (e : Entry). e.log_id) u.snap in
      let l : last (map (λ (e : Entry). e.log_id) u.snap) ≡ Some x = sym z.tells.last_id ∙ e in
      let n : x.index + 1 ≡ length u.snap = sym (ap next l) ∙ (next_last_0 (map (λ (e : Entry). e.log_id) u.snap) z.snap_run ∙ length_ids entry_meaning u.snap) in
      (n, sym (at-run 0 x.index (map (λ (e : Entry). e.log_id) u.snap) z.snap_run) ∙ (let q : 0 + x.index ≡ x.index = omega arith in ap (at (map (λ (e : Entry). e.log_id) u.snap)) q ∙ last_stands 0 (map (λ (e : Entry). e.log_id) u.snap) x z.snap_run l))

  -- what is left of the stored entries
  pub purged_entries : (x : LogId ℕ) → next u.front ≤ x.index + 1 → drop (suc x.index - S.front) S.entries ≡ images (values_of (filter (λ (p : ℕ × Entry). nat_lt x.index p.0) u.log))
  purged_entries x l =
      let k : ℕ = (x.index + 1) - next u.front in
      let n : next u.front + k ≡ x.index + 1 = omega (arith, l) in
      let i : suc x.index - S.front ≡ k = omega (arith, h.front) in
      let p : values_of (filter (λ (p : ℕ × Entry). nat_lt x.index p.0) u.log) ≡ drop k (values_of u.log) =
      purged_values entry_meaning u x.index z.keys ∙ (ap (λ i. onward index i (values_of u.log)) (sym n) ∙ onward_drop k (next u.front) (values_of u.log) run) in
      ap₂ drop i h.entries ∙ (drop-map image k (values_of u.log) ∙ ap images (sym p))

  pub purged_fit : (x : LogId ℕ) → next u.front ≤ x.index + 1 → EntriesFit s (values_of (filter (λ (p : ℕ × Entry). nat_lt x.index p.0) u.log))
  purged_fit x l =
      let k : ℕ = (x.index + 1) - next u.front in
      let n : next u.front + k ≡ x.index + 1 = omega (arith, l) in
      let p : values_of (filter (λ (p : ℕ × Entry). nat_lt x.index p.0) u.log) ≡ drop k (values_of u.log) =
      purged_values entry_meaning u x.index z.keys ∙ (ap (λ i. onward index i (values_of u.log)) (sym n) ∙ onward_drop k (next u.front) (values_of u.log) run) in
      subst (EntriesFit s) (sym p) (each_drop _ k (values_of u.log) h.entries_fit)

  -- the leader of the last purged entry: the snapshot's last, or a stored one
  pub purged_end : (x : LogId ℕ) → MayPurge entry_meaning u x → Laps S → (x.index + 1 < length u.snap → Reaches S) → (last_leader (entry_at s (whole S)) (suc x.index) ≡ number x.leader_id) × IsNamed x.leader_id
  purged_end x m laps r = ⊎_elim inside end (cases_lt (x.index + 1) (length u.snap)) where
    one : x.index + 1 ≡ suc x.index
    one = omega arith

    end : length u.snap ≤ x.index + 1 → (last_leader (entry_at s (whole S)) (suc x.index) ≡ number x.leader_id) × IsNamed x.leader_id
    end l =
        let e : x.index + 1 ≡ length u.snap = omega (arith, l, m.within) in
        let g : slice_get (map (λ (e : Entry). e.log_id) u.snap) x.index ≡ Some x = (snap_last x (m.end e)).1 in (
          ap (λ (y : IdealEntry). y.leader) (get_left s S.snapshot (drop (length S.snapshot - S.front) S.entries) x.index (omega (arith, e, snap_length)) ∙ ap (λ xs. entry_at s xs x.index) h.snapshot) ∙ entry_of_id s u.snap x.index x g,
          named_of_id s u.snap x.index x h.snapshot_fit g,
        )

    inside : x.index + 1 < length u.snap → (last_leader (entry_at s (whole S)) (suc x.index) ≡ number x.leader_id) × IsNamed x.leader_id
    inside l =
        ⊎_elim
        (λ e. let p : (last_leader (entry_at s (whole S)) (x.index + 1) ≡ number x.leader_id) × IsNamed x.leader_id = stored_ends s u S h z laps (r l) x e m.above in (ap (last_leader (entry_at s (whole S))) (sym one) ∙ p.0, p.1))
        (λ e. absurd (omega (arith, l, (snap_last x e.0).0))) m.held

module _ (s : Setup Entry) where
  -- a store once it is purged within its snapshot
  pub store_purged : (u : WorldStore) (x : LogId ℕ) (S : IdealStore) → StoreIs s u S → Shaped entry_meaning u → MayPurge entry_meaning u x → Laps S → (x.index + 1 < length u.snap → Reaches S)
      → StoreIs s (record u { log = filter (λ (p : ℕ × Entry). nat_lt x.index p.0) u.log; front = Some x }) (record S { front = suc x.index; entries = drop (suc x.index - S.front) S.entries })
  store_purged u x S h z m laps r =
      let n : length S.snapshot ≡ length u.snap = snap_length s u S h z in
      let past : S.front ≤ suc x.index = omega (arith, h.front, m.above) in
      let covered : suc x.index ≤ length S.snapshot = omega (arith, n, m.within) in
      let low : S.front ≤ length S.snapshot = omega (arith, h.front, n, z.front) in
      let T : IdealStore = record S { front = suc x.index; entries = drop (suc x.index - S.front) S.entries } in
      let w : whole T ≡ whole S = whole_purge S low (suc x.index) past covered in
      let p : (last_leader (entry_at s (whole S)) (suc x.index) ≡ number x.leader_id) × IsNamed x.leader_id = purged_end s u S h z x m laps r in
      let one : suc x.index ≡ x.index + 1 = omega arith in
      record {
        vote = h.vote;
        vote_committed = h.vote_committed;
        front = one;
        entries = purged_entries s u S h z x m.above;
        snapshot = h.snapshot;
        saved = h.saved;
        saved_leader = h.saved_leader;
        applied = h.applied;
        vote_named = h.vote_named;
        entries_fit = purged_fit s u S h z x m.above;
        snapshot_fit = h.snapshot_fit;
        front_is = (p.1, ap (λ (y : IdealEntry). y.leader) (sym (get_left s S.snapshot (drop (length S.snapshot - S.front) S.entries) x.index (omega (arith, n, m.within)))) ∙ p.0);
        saved_named = h.saved_named;
      }

  pub may_purge : (u : WorldStore) (x : LogId ℕ) (S : IdealStore) → StoreIs s u S → Shaped entry_meaning u → MayPurge entry_meaning u x → (S.front ≤ suc x.index) × (suc x.index ≤ length S.snapshot)
  may_purge u x S h z m = (omega (arith, h.front, m.above), omega (arith, snap_length s u S h z, m.within))

module _ (s : Setup Entry) (t : Turn) (v : LeaderId ℕ) where
  -- entries that the snapshot stands for are purged
  pub done_purge : (u : WorldStore) (x : LogId ℕ) (W : Ideal) → StoreIs s u (W.store t.id) → Shaped entry_meaning u → MayPurge entry_meaning u x → Laps (W.store t.id) → (x.index + 1 < length u.snap → Reaches (W.store t.id))
      → Done s t v u (command.PurgeLog x) W (does s W (Purge t.id (suc x.index)))
  done_purge u x W h z m laps r =
      let S : IdealStore = record (W.store t.id) { front = suc x.index; entries = drop (suc x.index - (W.store t.id).front) (W.store t.id).entries } in
      let k : ((W.store t.id).front ≤ suc x.index) × (suc x.index ≤ length (W.store t.id).snapshot) = may_purge s u x (W.store t.id) h z m in
      put_done s t v u (command.PurgeLog x) W S (Purge t.id (suc x.index)) refl (record { past = k.0; covered = k.1 }) tt tt refl refl
      (store_purged s u x (W.store t.id) h z m laps r)
      refl refl (omega arith) (λ y g o k. same_rest s t v y (stored (command.PurgeLog x) y.store) (put W t.id S) k)
