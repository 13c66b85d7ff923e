-- What a store that is in step with an engine's state tells of the ideal store.
use Rattle.std.proofs.Common.{ℕ, zero, suc, ◌+◌, ◌-◌, ◌<◌, ◌≤◌, ◌≡◌, ⊎_elim, true, List, [], ◌∷◌, ◌++◌, length, map, drop, arith, refl, sym, ap, ap₂, ◌∙◌, subst, Option, None, Some}
use Rattle.std.specs.Prelude.{slice_get}
use Rattle.std.specs.Map.{values_of}
use Rattle.std.specs.Option.{option_or}
use Rattle.std.specs.Ordering.{nat_cmp}
use Rattle.std.proofs.lemmas.Bool.{cases_lt, lt-ltb}
use Rattle.std.proofs.lemmas.Cmp.{nat_cmp_total}
use Rattle.std.proofs.lemmas.List.{map-append, length-map, drop-map}
use Rattle.raft_node.specs.raft_state.declared.ids.LogId.{LogId}
use Rattle.raft_node.specs.raft_state.declared.state.RaftState.{RaftState}
use Rattle.raft_node.specs.raft_state.Fits.{fits, is_within}
use Rattle.raft_node.specs.raft_state.Invariants.{IsSoundState}
use Rattle.raft_node.specs.raft_state.Log.{last, at}
use Rattle.raft_node.specs.raft_state.LogLaws.{IsRun, at-run, at-append}
use Rattle.raft_node.specs.raft_state.Order.{next}
use Rattle.raft_node.specs.raft_state.Same.{nat_same}
use Rattle.raft_node.proofs.raft_state_proofs.LogLists.{fits_has, each_append}
use Rattle.raft_node.proofs.raft_state_proofs.Orders.{within_trans}
use Rattle.proof_agreement.specs.Machine.{Setup, last_leader}
use Rattle.proof_agreement.specs.Stores.{whole, entry_at, last_leader_of}
use Rattle.proof_agreement.specs.Deeds.{Reaches}
use Rattle.raft_node.specs.raft_store.declared.entry.Entry.{Entry}
use Rattle.raft_node.specs.raft_store.Entries.{entry_meaning}
use Rattle.raft_node.specs.raft_store.Store as store
use Rattle.raft_node.specs.raft_store.Types.{WorldStore}
use Rattle.raft_node.proofs.raft_store_proofs.Lists.{Run, onward, onward_all, next_last}
use Rattle.proof_mirror.specs.Ready.{Shaped, InStep}
use Rattle.proof_mirror.proofs.Commits.{whole_at}
use Rattle.proof_mirror.proofs.Shape.{Shape, shape_of, run_of_ids, past_keyed, whole_end, whole_run, ids_of_run, applied_length, shaped_of}
use Rattle.proof_deeds.specs.Follows.{StoreIs}
use Rattle.proof_deeds.specs.Images.{IdealStore, IsNamed, IdNamed, IsWellFormedEntry, EntriesFit, number, last_number, image, images, IdealEntry}

abbrev pub index : Entry → ℕ
index = store.index_of entry_meaning

-- entries are known again by their images
pub images_same : (xs ys : List Entry) → images xs ≡ images ys → xs ≡ ys
images_same [] [] e = refl
images_same [] (y ∷ ys) e = cc
images_same (x ∷ xs) [] e = cc
images_same (x ∷ xs) (y ∷ ys) e =
    let a : image x ≡ image y = cc in
    let b : images xs ≡ images ys = cc in
    ap₂ (λ z zs. z ∷ zs) (ap (λ (z : IdealEntry). z.payload) a) (images_same xs ys b)

-- what stands from an index on in a run
pub onward_drop : (k n : ℕ) (xs : List Entry) → Run index n xs → onward index (n + k) xs ≡ drop k xs
onward_drop zero n xs r = onward_all index n (n + 0) xs (omega arith) r
onward_drop (suc k) n [] r = refl
onward_drop (suc k) n (x ∷ xs) r =
    rw (lt-ltb (index x) (n + suc k) (omega (arith, r.0)))
    (ap (λ i. onward index i xs) (let e : n + suc k ≡ (n + 1) + k = omega arith in e) ∙ onward_drop k (n + 1) xs r.1)

module _ (s : Setup Entry) where
  -- the ideal whole log is that of the store
  pub whole_is : (u : WorldStore) (S : IdealStore) → StoreIs s u S → Shaped entry_meaning u → whole S ≡ images (store.whole u)
  whole_is u S h z =
      let xs : List Entry = values_of u.log in
      let r : Run index (next u.front) xs = run_of_ids entry_meaning (next u.front) xs z.run in
      let k : ℕ = length u.snap - next u.front in
      let n : next u.front + k ≡ length u.snap = omega (arith, z.front) in
      let p : store.past (length u.snap) u.log ≡ drop k xs = ap (store.past (length u.snap)) z.keys ∙ (past_keyed entry_meaning (length u.snap) xs ∙ (ap (λ i. onward index i xs) (sym n) ∙ onward_drop k (next u.front) xs r)) in
      let e : length S.snapshot - S.front ≡ k = ap₂ ◌-◌ (ap (λ ys. length ys) h.snapshot ∙ length-map u.snap image) h.front in
      ap₂ ◌++◌ h.snapshot (ap₂ drop e h.entries ∙ (drop-map image k xs ∙ ap images (sym p))) ∙ sym (map-append image u.snap (store.past (length u.snap) u.log))

  each_drop : (k : ℕ) (es : List Entry) → EntriesFit s es → EntriesFit s (drop k es)
  each_drop zero [] a = tt
  each_drop zero (e ∷ es) a = a
  each_drop (suc k) [] a = tt
  each_drop (suc k) (e ∷ es) a = each_drop k es a.1

  -- its entries fit
  pub whole_fit : (u : WorldStore) (S : IdealStore) → StoreIs s u S → Shaped entry_meaning u → EntriesFit s (store.whole u)
  whole_fit u S h z =
      let xs : List Entry = values_of u.log in
      let r : Run index (next u.front) xs = run_of_ids entry_meaning (next u.front) xs z.run in
      let k : ℕ = length u.snap - next u.front in
      let n : next u.front + k ≡ length u.snap = omega (arith, z.front) in
      let p : store.past (length u.snap) u.log ≡ drop k xs = ap (store.past (length u.snap)) z.keys ∙ (past_keyed entry_meaning (length u.snap) xs ∙ (ap (λ i. onward index i xs) (sym n) ∙ onward_drop k (next u.front) xs r)) in
      each_append (IsWellFormedEntry s) u.snap (store.past (length u.snap) u.log) h.snapshot_fit (subst (EntriesFit s) (sym p) (each_drop k xs h.entries_fit))

  pub named_of_id : (es : List Entry) (k : ℕ) (x : LogId ℕ) → EntriesFit s es → slice_get (map (λ (e : Entry). e.log_id) es) k ≡ Some x → IsNamed x.leader_id
  named_of_id [] k x a e = cc
  named_of_id (y ∷ ys) zero x a e = let q : y.log_id ≡ x = cc in subst (λ (z : LogId ℕ). IsNamed z.leader_id) q a.0.named
  named_of_id (y ∷ ys) (suc k) x a e = named_of_id ys k x a.1 e

  -- the entry of an id
  pub entry_of_id : (es : List Entry) (k : ℕ) (x : LogId ℕ) → slice_get (map (λ (e : Entry). e.log_id) es) k ≡ Some x → (entry_at s (images es) k).leader ≡ number x.leader_id
  entry_of_id [] k x e = cc
  entry_of_id (y ∷ ys) zero x e = let q : y.log_id ≡ x = cc in ap (λ (z : LogId ℕ). number z.leader_id) q
  entry_of_id (y ∷ ys) (suc k) x e = entry_of_id ys k x e

-- the last id of a run stands at its index
pub last_stands : (n : ℕ) (ids : List (LogId ℕ)) (x : LogId ℕ) → IsRun n ids → last ids ≡ Some x → at ids x.index ≡ Some x
last_stands n [] x r e = cc
last_stands n (y ∷ ys) x r e =
    let q : next (last (y ∷ ys)) ≡ n + length (y ∷ ys) = next_last n y ys r in
    let i : x.index + 1 ≡ n + length (y ∷ ys) = sym (ap next e) ∙ q in
    let j : x.index ≡ n + (length (y ∷ ys) - 1) = omega (arith, i) in
    ap (at (y ∷ ys)) j ∙ (at-run n (length (y ∷ ys) - 1) (y ∷ ys) r ∙ e)

none_of_next : (o : Option (LogId ℕ)) → next o ≡ 0 → o ≡ None
none_of_next None e = refl
none_of_next (Some x) e = absurd (omega (arith, e))

module _ (s : Setup Entry) (u : WorldStore) (S : IdealStore) (st : RaftState ℕ (Unit {0})) (h : StoreIs s u S) (j : InStep entry_meaning u st) where
  shape : Shape entry_meaning u st
  shape = shape_of entry_meaning u st j.mirrors j.marks

  pub tail_whole : whole S ≡ images (store.whole u)
  tail_whole = whole_is s u S h (shaped_of entry_meaning u st j)

  pub tail_vote : S.vote ≡ number st.vote.leader_id
  tail_vote = h.vote ∙ ap (λ v. number v.leader_id) (sym j.mirrors.log.vote_is)

  pub tail_vote_committed : S.vote_committed ≡ st.vote.committed
  tail_vote_committed = h.vote_committed ∙ ap (λ v. v.committed) (sym j.mirrors.log.vote_is)

  pub tail_named : IsNamed st.vote.leader_id
  tail_named = subst (λ v. IsNamed v.leader_id) (sym j.mirrors.log.vote_is) h.vote_named

  pub tail_length : length (whole S) ≡ next (last st.ids)
  tail_length = ap (λ xs. length xs) tail_whole ∙ (length-map (store.whole u) image ∙ whole_end entry_meaning u st shape)

  pub tail_committed : S.committed ≡ next st.committed
  tail_committed = h.applied ∙ applied_length entry_meaning u st j

  pub tail_reaches : Reaches S
  tail_reaches =
      let a : length S.snapshot ≡ length u.snap = ap (λ xs. length xs) h.snapshot ∙ length-map u.snap image in
      let b : length S.entries ≡ length (values_of u.log) = ap (λ xs. length xs) h.entries ∙ length-map (values_of u.log) image in
      omega (arith, a, b, h.front, shape.end, shape.settled, shape.top)

  -- the last id of the log stands in the whole log
  module _ (sound : IsSoundState nat_cmp st) where
    whole_ids : List (LogId ℕ)
    whole_ids = map (λ (e : Entry). e.log_id) (store.whole u)

    ids_run : IsRun 0 (map (λ (e : Entry). e.log_id) (store.whole u))
    ids_run = ids_of_run entry_meaning 0 (store.whole u) (whole_run entry_meaning u st shape)

    last_in_whole : (x : LogId ℕ) → last st.ids ≡ Some x → at (map (λ (e : Entry). e.log_id) (store.whole u)) x.index ≡ Some x
    last_in_whole x e = ⊎_elim inside past (cases_lt x.index (length u.snap)) where
      stands : at st.ids x.index ≡ Some x
      stands = last_stands _ st.ids x j.marks.run e

      past : length u.snap ≤ x.index → at (map (λ (e : Entry). e.log_id) (store.whole u)) x.index ≡ Some x
      past l = whole_at entry_meaning u st x.index j.mirrors shape l ∙ stands

      -- the log ends with the snapshot's last id
      inside : x.index < length u.snap → at (map (λ (e : Entry). e.log_id) (store.whole u)) x.index ≡ Some x
      inside l = go st.snap.last_log_id refl where
        n : x.index + 1 ≡ length u.snap
        n = let q : next (last st.ids) ≡ x.index + 1 = ap next e in omega (arith, l, q, shape.settled, shape.top)

        go : (o : Option (LogId ℕ)) → st.snap.last_log_id ≡ o → at (map (λ (e : Entry). e.log_id) (store.whole u)) x.index ≡ Some x
        go None q = absurd (let z : next st.snap.last_log_id ≡ 0 = ap next q in omega (arith, shape.snap_end, z, n))
        go (Some y) q =
            let z : next st.snap.last_log_id ≡ y.index + 1 = ap next q in
            let i : y.index ≡ x.index = omega (arith, shape.snap_end, z, n) in
            let b : at st.ids y.index ≡ Some y =
            fits_has nat_cmp nat_cmp_total nat_same st.ids st.purged y (subst (λ o. fits nat_cmp st.ids st.purged o ≡ true) q sound.marks.snapshot_fits) (subst (λ o. is_within nat_cmp st.purged o ≡ true) q (snap_within)) in
            let f : Some y ≡ Some x = sym b ∙ (ap (at st.ids) i ∙ stands) in
            let g : last (map (λ (e : Entry). e.log_id) u.snap) ≡ Some y = sym j.mirrors.tells.last_id ∙ (ap (λ m. m.last_log_id) (sym j.mirrors.meta) ∙ q) in
            let k : at (map (λ (e : Entry). e.log_id) u.snap) y.index ≡ Some y = last_stands 0 (map (λ (e : Entry). e.log_id) u.snap) y j.mirrors.snap_run g in
            ap (λ es. at es x.index) (map-append (λ (e : Entry). e.log_id) u.snap (store.past (length u.snap) u.log))
            ∙ (at-append (map (λ (e : Entry). e.log_id) u.snap) (map (λ (e : Entry). e.log_id) (store.past (length u.snap) u.log)) x.index
            ∙ (ap (λ o. option_or o (at (map (λ (e : Entry). e.log_id) (store.past (length u.snap) u.log)) x.index)) (ap (at (map (λ (e : Entry). e.log_id) u.snap)) (sym i) ∙ k) ∙ f))
          where
            snap_within : is_within nat_cmp st.purged st.snap.last_log_id ≡ true
            snap_within = within_trans nat_cmp nat_cmp_total st.purged st.purge_to st.snap.last_log_id sound.marks.at_purged sound.marks.at_target

    slot : (x : LogId ℕ) → last st.ids ≡ Some x → slice_get (map (λ (e : Entry). e.log_id) (store.whole u)) x.index ≡ Some x
    slot x e = sym (at-run 0 x.index (map (λ (e : Entry). e.log_id) (store.whole u)) ids_run) ∙ (let q : 0 + x.index ≡ x.index = omega arith in ap (at (map (λ (e : Entry). e.log_id) (store.whole u))) q ∙ last_in_whole x e)

    -- the ideal whole log ends with the leader of the last id
    pub tail_end : last_leader_of s (whole S) ≡ last_number (last st.ids)
    tail_end = go (last st.ids) refl where
      go : (o : Option (LogId ℕ)) → last st.ids ≡ o → last_leader_of s (whole S) ≡ last_number o
      go None e = ap (last_leader (entry_at s (whole S))) (tail_length ∙ ap next e)
      go (Some x) e =
          let n : length (whole S) ≡ suc x.index = tail_length ∙ (ap next e ∙ omega arith) in
          ap (last_leader (entry_at s (whole S))) n ∙ (ap (λ xs. (entry_at s xs x.index).leader) tail_whole ∙ entry_of_id s (store.whole u) x.index x (slot x e))

    pub tail_last_named : IdNamed (last st.ids)
    tail_last_named = go (last st.ids) refl where
      go : (o : Option (LogId ℕ)) → last st.ids ≡ o → IdNamed o
      go None e = tt
      go (Some x) e = named_of_id s (store.whole u) x.index x (whole_fit s u S h (shaped_of entry_meaning u st j)) (slot x e)
