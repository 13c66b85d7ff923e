-- What a bare start finds at a node is what is stored there: the last membership of the whole log, and its last id.
use Rattle.std.proofs.Common.{ℕ, ◌+◌, ◌<◌, ◌≤◌, ◌≡◌, ⊎_elim, true, false, List, length, map, arith, refl, sym, ap, ◌∙◌, subst, Option, None, Some}
use Rattle.std.specs.Ordering.{nat_cmp}
use Rattle.std.specs.Map.{values_of}
use Rattle.std.specs.Option.{option_or}
use Rattle.std.proofs.lemmas.Bool.{cases_lt}
use Rattle.std.proofs.lemmas.Cmp.{nat_cmp_total}
use Rattle.proof_deeds.specs.raft_state.declared.ids.LogId.{LogId}
use Rattle.proof_deeds.specs.raft_state.declared.state.RaftState.{RaftState}
use Rattle.proof_deeds.specs.raft_state.Fits.{fits, is_within}
use Rattle.proof_deeds.specs.raft_state.Invariants.{IsSoundState, first_index}
use Rattle.proof_deeds.specs.raft_state.Log.{at, last}
use Rattle.proof_deeds.specs.raft_state.LogLaws.{IsRun, at-append}
use Rattle.proof_deeds.specs.raft_state.Order.{next}
use Rattle.proof_deeds.specs.raft_state.Same.{nat_same}
use Rattle.proof_deeds.proofs.raft_state_proofs.LogLists.{fits_has}
use Rattle.proof_deeds.proofs.raft_state_proofs.Orders.{within_trans}
use Rattle.proof_deeds.specs.raft_store.declared.entry.Entry.{Entry}
use Rattle.proof_deeds.specs.raft_store.Built.{last_membership}
use Rattle.proof_deeds.specs.raft_store.Entries.{entry_meaning}
use Rattle.proof_deeds.specs.raft_store.Restart.{restarted, settled, started}
use Rattle.proof_deeds.specs.raft_store.Store.{index_of, whole}
use Rattle.proof_deeds.specs.raft_store.Types.{WorldStore}
use Rattle.proof_deeds.proofs.raft_store_proofs.Lists.{next_last_0, onward}
use Rattle.proof_deeds.specs.raft_schedule.declared.event.Event.{Event}
use Rattle.proof_deeds.specs.raft_node.declared.given.Given.{Given}
use Rattle.proof_deeds.specs.raft_node.Net.{NodeView}
use Rattle.proof_deeds.specs.raft_node.Runs.{world_after}
use Rattle.proof_deeds.specs.raft_node.WellFormed.{IsWellFormed}
use Rattle.proof_deeds.specs.proof_mirror.Ready.{InStep}
use Rattle.proof_deeds.proofs.proof_mirror_proofs.Commits.{whole_at}
use Rattle.proof_deeds.proofs.proof_mirror_proofs.Puts.{map_more}
use Rattle.proof_deeds.proofs.proof_mirror_proofs.Restarting.{restart_in_step}
use Rattle.proof_deeds.proofs.proof_mirror_proofs.Shape.{Shape, ids_of_run, length_ids, shape_of, whole_end, whole_run}
use Rattle.proof_deeds.specs.proof_agreement.Stores as stores
use Rattle.proof_deeds.specs.Images.{setup_of}
use Rattle.proof_deeds.specs.Nets.{NodeFollows}
use Rattle.proof_deeds.proofs.AppendFitting.{Settled}
use Rattle.proof_deeds.proofs.Joined.{Followed}
use Rattle.proof_deeds.proofs.Overlap.{laps}
use Rattle.proof_deeds.proofs.Proved.{followed}
use Rattle.proof_deeds.proofs.Tails.{last_stands}
use Rattle.proof_deeds.proofs.Worlds.{each_on}
use Rattle.proof_progress.specs.Changes.{FindsStored, StartsFindStored}
use Rattle.proof_progress.proofs.FoundWhole.{settled_whole}

abbrev ids : List Entry → List (LogId ℕ)
ids es = map (λ (e : Entry). e.log_id) es

-- an engine in step with its store has the whole log's last id as its own
module _ (t : WorldStore) (s : RaftState ℕ (Unit {0})) (j : InStep entry_meaning t s) (sound : IsSoundState nat_cmp s) where
  h : Shape entry_meaning t s
  h = shape_of entry_meaning t s j.mirrors j.marks

  run : IsRun 0 (ids (whole t))
  run = ids_of_run entry_meaning 0 (whole t) (whole_run entry_meaning t s h)

  same_next : next (last (ids (whole t))) ≡ next (last s.ids)
  same_next = next_last_0 (ids (whole t)) run ∙ (length_ids entry_meaning (whole t) ∙ whole_end entry_meaning t s h)

  abbrev rest : List Entry
  rest = onward (index_of entry_meaning) (length t.snap) (values_of t.log)

  -- where the log ends with the snapshot, both have its last id
  ends_with_snapshot : (x y : LogId ℕ) → at (ids (whole t)) x.index ≡ Some x → at s.ids y.index ≡ Some y → x.index ≡ y.index → x.index + 1 ≡ length t.snap
      → (o : Option (LogId ℕ)) → s.snap.last_log_id ≡ o → Some x ≡ Some y
  ends_with_snapshot x y a b e n None q = let z : length t.snap ≡ 0 = h.snap_end ∙ ap next q in absurd (omega (arith, n, z))
  ends_with_snapshot x y a b e n (Some z) q =
      let size : length t.snap ≡ z.index + 1 = h.snap_end ∙ ap next q in
      let zx : x.index ≡ z.index = omega (arith, size, n) in
      let ends : last (ids t.snap) ≡ Some z = sym (ap (λ m. m.last_log_id) j.mirrors.meta ∙ j.mirrors.tells.last_id) ∙ q in
      let c : at (ids t.snap) z.index ≡ Some z = last_stands 0 (ids t.snap) z j.mirrors.snap_run ends in
      let f : at s.ids z.index ≡ Some z =
      fits_has nat_cmp nat_cmp_total nat_same s.ids s.purged z (subst (λ p. fits nat_cmp s.ids s.purged p ≡ true) q sound.marks.snapshot_fits)
      (subst (λ p. is_within nat_cmp s.purged p ≡ true) q (within_trans nat_cmp nat_cmp_total s.purged s.purge_to s.snap.last_log_id sound.marks.at_purged sound.marks.at_target)) in
      let split : at (ids (whole t)) x.index ≡ option_or (at (ids t.snap) x.index) (at (ids rest) x.index) =
      ap (λ es. at (ids es) x.index) h.whole_is ∙ (ap (λ xs. at xs x.index) (sym (map_more entry_meaning t.snap rest)) ∙ at-append (ids t.snap) (ids rest) x.index) in
      sym a ∙ (split ∙ (ap (λ o. option_or o (at (ids rest) x.index)) (ap (at (ids t.snap)) zx ∙ c) ∙ (sym f ∙ (ap (at s.ids) (sym zx ∙ e) ∙ b))))

  pub end_stored : last (ids (whole t)) ≡ last s.ids
  end_stored = go (last (ids (whole t))) (last s.ids) refl refl where
    go : (a b : Option (LogId ℕ)) → last (ids (whole t)) ≡ a → last s.ids ≡ b → last (ids (whole t)) ≡ last s.ids
    go None None p q = p ∙ sym q
    go None (Some y) p q = let n : 0 ≡ y.index + 1 = sym (ap next p) ∙ (same_next ∙ ap next q) in absurd (omega (arith, n))
    go (Some x) None p q = let n : x.index + 1 ≡ 0 = sym (ap next p) ∙ (same_next ∙ ap next q) in absurd (omega (arith, n))
    go (Some x) (Some y) p q =
        let n : x.index + 1 ≡ y.index + 1 = sym (ap next p) ∙ (same_next ∙ ap next q) in
        let e : x.index ≡ y.index = omega (arith, n) in
        let a : at (ids (whole t)) x.index ≡ Some x = last_stands 0 (ids (whole t)) x run p in
        let b : at s.ids y.index ≡ Some y = last_stands (first_index s.purged) s.ids y j.marks.run q in
        let top : next (last s.ids) ≡ y.index + 1 = ap next q in
        p ∙ (⊎_elim
        (λ (k : x.index < length t.snap). ends_with_snapshot x y a b e (omega (arith, k, h.settled, h.top, top, n)) s.snap.last_log_id refl)
        (λ (l : length t.snap ≤ x.index). sym a ∙ (whole_at entry_meaning t s x.index j.mirrors h l ∙ (ap (at s.ids) e ∙ b)))
        (cases_lt x.index (length t.snap)) ∙ sym q)

module _ (given : Given) (wf : IsWellFormed given) (past : List Event) where
  f : Followed given (Settled (setup_of given.membership)) (stores.empty (setup_of given.membership)) (world_after given past)
  f = followed given wf past

  as_stored : (n : NodeView) → NodeFollows (setup_of given.membership) f.world (world_after given past).records n → FindsStored given n
  as_stored n node =
      let w : whole (settled nat_cmp entry_meaning n.store) ≡ whole n.store =
      settled_whole (setup_of given.membership) n.store (f.world.store n.id) node.store node.shaped (laps (setup_of given.membership) f.world f.follows.reached n.id) in
      let r = restart_in_step nat_cmp nat_cmp_total nat_same entry_meaning false n.store node.shaped node.ordered in (
        ap (λ (es : List Entry). (last_membership entry_meaning es).membership) w,
        sym (end_stored (restarted nat_cmp entry_meaning false n.store) (started nat_cmp entry_meaning false n.store) r.0 r.2) ∙ ap (λ es. last (ids es)) w,
      )

pub starts_find_stored : StartsFindStored
starts_find_stored given wf past =
    each_on (NodeFollows (setup_of given.membership) (f given wf past).world (world_after given past).records) (FindsStored given) (as_stored given wf past) (world_after given past).nodes (f given wf past).follows.nodes
