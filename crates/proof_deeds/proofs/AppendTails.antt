-- What a store in step tells a follower of its log and of a request, and what is held stays.
use Rattle.std.proofs.Common.{ℕ, zero, suc, ◌+◌, ◌-◌, ◌<◌, ◌≤◌, ◌≡◌, inl, inr, ⊎_elim, Bool, true, false, cond, List, [], ◌∷◌, ◌++◌, length, map, take, drop, arith, refl, sym, ap, ap₂, ◌∙◌, subst, Option, None, Some, length-append, get_or-take}
use Rattle.std.specs.Prelude.{nat_lt, filter, fold, slice_get}
use Rattle.std.specs.Map.{values_of}
use Rattle.std.specs.Ordering.{nat_cmp}
use Rattle.std.proofs.lemmas.Bool.{cases_lt, or_cases, or_parts, ltb-true, ltb-false, both_ways}
use Rattle.std.proofs.lemmas.Cmp.{nat_cmp_total}
use Rattle.std.proofs.lemmas.List.{length-map, get_or-drop, length-take-le, length-drop}
use Rattle.raft_node.specs.raft_state.declared.ids.LeaderId.{LeaderId}
use Rattle.raft_node.specs.raft_state.declared.ids.LogId.{LogId}
use Rattle.raft_node.specs.raft_state.Invariants.{first_index}
use Rattle.raft_node.specs.raft_state.Log.{last, at}
use Rattle.raft_node.specs.raft_state.LogLaws.{at-run}
use Rattle.raft_node.specs.raft_state.Order.{next}
use Rattle.raft_node.specs.raft_state.Same.{found_is, nat_same}
use Rattle.raft_node.specs.raft_state.State.{has_log_id, is_found}
use Rattle.raft_node.proofs.raft_state_proofs.StateLaws.{is_found_at}
use Rattle.proof_agreement.specs.Machine.{Setup}
use Rattle.proof_agreement.specs.Stores.{Append, whole, entry_at}
use Rattle.proof_agreement.specs.Deeds.{Holds, Names, Reaches, below}
use Rattle.proof_agreement.proofs.WholeLogs.{get_left, get_right, whole_append, whole_below}
use Rattle.raft_node.specs.raft_store.declared.entry.Entry.{Entry}
use Rattle.raft_node.specs.raft_store.Entries.{entry_meaning}
use Rattle.raft_node.specs.raft_store.Store as store
use Rattle.raft_node.specs.raft_store.Types.{WorldStore}
use Rattle.raft_node.proofs.raft_store_proofs.Lists.{Run, under, under_none, values_with}
use Rattle.proof_mirror.specs.Ready.{InStep}
use Rattle.proof_mirror.proofs.Commits.{whole_at}
use Rattle.proof_mirror.proofs.Cuts.{cut_values}
use Rattle.proof_mirror.proofs.Places.{at_index, at_reaches, first_below, found_below}
use Rattle.proof_mirror.proofs.Puts.{put_stored}
use Rattle.proof_mirror.proofs.Shape.{Shape, shape_of, ids_of_run, whole_run, shaped_of}
use Rattle.raft_node.specs.raft_calls.declared.message.Origin.{Origin}
use Rattle.proof_deeds.specs.Follows.{StoreIs, AppendIs}
use Rattle.proof_deeds.specs.Images.{IdealStore, IdealEntry, IsNamed, number, last_number, image}
use Rattle.proof_deeds.proofs.Numbers.{number_same}
use Rattle.proof_deeds.proofs.Roles.{WorldState}
use Rattle.proof_deeds.proofs.Tails.{index, whole_fit, named_of_id, entry_of_id, tail_whole, tail_length, tail_committed}

-- the ids of entries
abbrev pub log_ids : List Entry → List (LogId ℕ)
log_ids es = map (λ (e : Entry). e.log_id) es

-- what is taken of a run is what stands below an index
pub take_run : (n i k : ℕ) (xs : List Entry) → Run index n xs → n + k ≡ i → under index i xs ≡ take k xs
take_run n i zero [] r e = refl
take_run n i (suc k) [] r e = refl
take_run n i zero (x ∷ xs) r e = under_none index n i (x ∷ xs) (omega (arith, e)) r
take_run n i (suc k) (x ∷ xs) r e = go (nat_lt (index x) i) refl (take_run (n + 1) i k xs r.1 (omega (arith, e))) where
  go : (b : Bool) → nat_lt (index x) i ≡ b → under index i xs ≡ take k xs → cond b (x ∷ under index i xs) (under index i xs) ≡ x ∷ take k xs
  go true q h = ap (λ ys. x ∷ ys) h
  go false q h = absurd (let l : i ≤ index x = ltb-false (index x) i q in omega (arith, l, r.0, e))

-- places in a run of entries
pub slot_index : (n j : ℕ) (es : List Entry) (x : LogId ℕ) → Run index n es → slice_get (log_ids es) j ≡ Some x → x.index ≡ n + j
slot_index n j [] x r e = cc
slot_index n zero (y ∷ ys) x r e = let q : y.log_id ≡ x = cc in let p : index y ≡ x.index = ap (λ (z : LogId ℕ). z.index) q in omega (arith, p, r.0)
slot_index n (suc j) (y ∷ ys) x r e = let p : x.index ≡ (n + 1) + j = slot_index (n + 1) j ys x r.1 e in omega (arith, p)

pub slot_inside : (j : ℕ) (es : List Entry) (x : LogId ℕ) → slice_get (log_ids es) j ≡ Some x → j < length es
slot_inside j [] x e = cc
slot_inside zero (y ∷ ys) x e = omega arith
slot_inside (suc j) (y ∷ ys) x e = let p : j < length ys = slot_inside j ys x e in omega (arith, p)

pub slot_at : (j : ℕ) (es : List Entry) → j < length es → (e : Entry) × (slice_get (log_ids es) j ≡ Some e.log_id)
slot_at j [] l = absurd (omega (arith, l))
slot_at zero (y ∷ ys) l = (y, refl)
slot_at (suc j) (y ∷ ys) l = slot_at j ys (omega (arith, l))

pub slot_drop : (j : ℕ) (es : List Entry) (e : Entry) (rest : List Entry) → drop j es ≡ e ∷ rest → slice_get (log_ids es) j ≡ Some e.log_id
slot_drop zero [] e rest q = cc
slot_drop zero (y ∷ ys) e rest q = let p : y ≡ e = cc in ap (λ (z : Entry). Some z.log_id) p
slot_drop (suc j) [] e rest q = cc
slot_drop (suc j) (y ∷ ys) e rest q = slot_drop j ys e rest q

module _ (s : Setup Entry) where
  -- a request of the world names what its image names
  module _ (o : Origin) (prev : Option (LogId ℕ)) (es : List Entry) (told : Option (LogId ℕ)) (r : Append Entry) (a : AppendIs o prev es told r) where
    pub names_prev : (x : LogId ℕ) → prev ≡ Some x → Names s r x.index (number x.leader_id)
    names_prev x e = let p : r.from ≡ x.index + 1 = a.from ∙ ap next e in inl (omega (arith, p), sym (a.previous ∙ ap last_number e))

    pub names_slot : (j : ℕ) (x : LogId ℕ) → Run index (next prev) es → slice_get (log_ids es) j ≡ Some x → Names s r x.index (number x.leader_id)
    names_slot j x run e =
        let p : x.index ≡ next prev + j = slot_index (next prev) j es x run e in
        let n : length r.entries ≡ length es = ap (λ ys. length ys) a.entries ∙ length-map es image in
        inr (j, omega (arith, p, a.from), omega (arith, n, slot_inside j es x e), sym (ap (λ ys. (entry_at s ys j).leader) a.entries ∙ entry_of_id s es j x e))

    -- and nothing else
    pub named_cases : (P : ℕ → ℕ → Type 0) → ((x : LogId ℕ) → prev ≡ Some x → P x.index (number x.leader_id)) → ((j : ℕ) (e : Entry) → slice_get (log_ids es) j ≡ Some e.log_id → P (next prev + j) (number e.log_id.leader_id))
        → (k d : ℕ) → Names s r k d → P k d
    named_cases P f g k d nm =
        ⊎_elim
        (λ (q : (suc k ≡ r.from) × (d ≡ r.previous)). by_prev prev refl q.0 q.1)
        (λ (q : (j : ℕ) × (k ≡ r.from + j) × (j < length r.entries) × (d ≡ (entry_at s r.entries j).leader)).
        let n : length r.entries ≡ length es = ap (λ ys. length ys) a.entries ∙ length-map es image in
        let z : (e : Entry) × (slice_get (log_ids es) q.0 ≡ Some e.log_id) = slot_at q.0 es (omega (arith, n, q.2)) in
        let i : next prev + q.0 ≡ k = omega (arith, a.from, q.1) in
        let m : number z.0.log_id.leader_id ≡ d = sym (q.3 ∙ (ap (λ ys. (entry_at s ys q.0).leader) a.entries ∙ entry_of_id s es q.0 z.0.log_id z.1)) in
        subst (λ y. P y d) i (subst (P (next prev + q.0)) m (g q.0 z.0 z.1)))
        nm
      where
        by_prev : (p : Option (LogId ℕ)) → prev ≡ p → suc k ≡ r.from → d ≡ r.previous → P k d
        by_prev None e i m = absurd (let z : r.from ≡ 0 = a.from ∙ ap next e in omega (arith, z, i))
        by_prev (Some x) e i m =
            let z : r.from ≡ x.index + 1 = a.from ∙ ap next e in
            let y : x.index ≡ k = omega (arith, z, i) in
            let w : number x.leader_id ≡ d = sym (m ∙ (a.previous ∙ ap last_number e)) in
            subst (λ j. P j d) y (subst (P x.index) w (f x e))

  -- the state's log as the ideal one
  module _ (u : WorldStore) (S : IdealStore) (st : WorldState) (h : StoreIs s u S) (j : InStep entry_meaning u st) where
    shape : Shape entry_meaning u st
    shape = shape_of entry_meaning u st j.mirrors j.marks

    slot_of : (k : ℕ) (x : LogId ℕ) → length u.snap ≤ k → at st.ids k ≡ Some x → slice_get (log_ids (store.whole u)) k ≡ Some x
    slot_of k x l e =
        let q : 0 + k ≡ k = omega arith in
        sym (at-run 0 k (log_ids (store.whole u)) (ids_of_run entry_meaning 0 (store.whole u) (whole_run entry_meaning u st shape)))
        ∙ (ap (at (log_ids (store.whole u))) q ∙ (whole_at entry_meaning u st k j.mirrors shape l ∙ e))

    pub at_whole : (k : ℕ) (x : LogId ℕ) → length u.snap ≤ k → at st.ids k ≡ Some x → (k < length (whole S)) × ((entry_at s (whole S) k).leader ≡ number x.leader_id)
    at_whole k x l e =
        let b : k + 1 ≤ next (last st.ids) = at_reaches (first_index st.purged) k st.ids x j.marks.run e in
        (omega (arith, b, tail_length s u S st h j), ap (λ ys. (entry_at s ys k).leader) (tail_whole s u S st h j) ∙ entry_of_id s (store.whole u) k x (slot_of k x l e))

    pub named_at : (k : ℕ) (x : LogId ℕ) → length u.snap ≤ k → at st.ids k ≡ Some x → IsNamed x.leader_id
    named_at k x l e = named_of_id s (store.whole u) k x (whole_fit s u S h (shaped_of entry_meaning u st j)) (slot_of k x l e)

    pub holds_is : (x : LogId ℕ) → has_log_id nat_cmp st x ≡ true → Holds s S x.index (number x.leader_id)
    holds_is x e =
        ⊎_elim
        (λ q. let l : x.index < next st.committed = ltb-true x.index (next st.committed) q in inl (omega (arith, l, tail_committed s u S st h j)))
        (λ q. ⊎_elim
        (λ l. inl (omega (arith, l, shape.settled, tail_committed s u S st h j)))
        (λ l. inr (at_whole x.index x l (found_is nat_cmp nat_same (at st.ids x.index) x q)))
        (cases_lt x.index (length u.snap)))
        (or_cases (nat_lt x.index (next st.committed)) (is_found nat_cmp (at st.ids x.index) x) e)

    pub lacks_is : (x : LogId ℕ) → IsNamed x.leader_id → has_log_id nat_cmp st x ≡ false → Holds s S x.index (number x.leader_id) → ⊥
    lacks_is x n e held =
        let p : (nat_lt x.index (next st.committed) ≡ false) × (is_found nat_cmp (at st.ids x.index) x ≡ false) = or_parts (nat_lt x.index (next st.committed)) (is_found nat_cmp (at st.ids x.index) x) e in
        let low : next st.committed ≤ x.index = ltb-false x.index (next st.committed) p.0 in
        let snap : length u.snap ≤ x.index = omega (arith, low, shape.settled) in
        ⊎_elim
        (λ l. omega (arith, l, low, tail_committed s u S st h j))
        (λ q.
        both_ways (is_found nat_cmp (at st.ids x.index) x) p.1
        (found_below (λ o. is_found nat_cmp o x ≡ true) (first_index st.purged) x.index st.ids j.marks.run
        (first_below st.purged x.index (omega (arith, j.marks.purged, j.marks.target, j.marks.snapshot, low))) (omega (arith, q.0, tail_length s u S st h j))
        (λ y f.
        let i : y.index ≡ x.index = at_index x.index st.ids y f in
        let m : number y.leader_id ≡ number x.leader_id = sym (at_whole x.index y snap f).1 ∙ q.1 in
        let k : IsNamed y.leader_id = named_of_id s (store.whole u) x.index y (whole_fit s u S h (shaped_of entry_meaning u st j)) (slot_of x.index y snap f) in
        let b : y ≡ x = ap₂ (λ (d : LeaderId ℕ) (c : ℕ). let z : LogId ℕ = record { leader_id = d; index = c } in z) (number_same y.leader_id x.leader_id k n m) i in
        is_found_at nat_cmp nat_cmp_total nat_same st.ids x (Some y) (ap Some b))))
        held

    -- the map of a store that is cut, and of one that takes entries
    pub cut_stored : (i : ℕ) → next st.committed ≤ i → values_of (filter (λ p. nat_lt p.0 i) u.log) ≡ take (i - next u.front) (values_of u.log)
    cut_stored i l =
        cut_values entry_meaning u i j.mirrors.log.keys
        ∙ take_run (next u.front) i (i - next u.front) (values_of u.log) shape.run (omega (arith, l, shape.front, shape.settled))

    pub more_stored : (es : List Entry) → Run index (next (last st.ids)) es → values_of (fold (store.put entry_meaning) u.log es) ≡ values_of u.log ++ es
    more_stored es run =
        ap values_of (put_stored entry_meaning u (next (last st.ids)) es j.mirrors.log.keys shape.run shape.end run) ∙ values_with index (values_of u.log ++ es)

    pub front_low : S.front ≤ length S.snapshot
    front_low = let n : length S.snapshot ≡ length u.snap = ap (λ xs. length xs) h.snapshot ∙ length-map u.snap image in omega (arith, n, h.front, shape.front)

    pub snap_low : length S.snapshot ≤ next st.committed
    snap_low = let n : length S.snapshot ≡ length u.snap = ap (λ xs. length xs) h.snapshot ∙ length-map u.snap image in omega (arith, n, shape.settled)

  -- what is held stays held below a cut, and in a log that grows
  pub holds_below : (S T : IdealStore) (i k x : ℕ) → S.front ≤ length S.snapshot → T ≡ record S { entries = below S i } → length S.snapshot ≤ i → i ≤ length (whole S) → k < i → Holds s S k x → Holds s T k x
  holds_below S T i k x f e l b m h =
      let w : whole T ≡ take i (whole S) = ap (λ (Z : IdealStore). whole Z) e ∙ whole_below S f i l in
      let c : T.committed ≡ S.committed = ap (λ (Z : IdealStore). Z.committed) e in
      let n : length (whole T) ≡ i = ap (λ xs. length xs) w ∙ length-take-le i (whole S) b in
      ⊎_elim (λ p. inl (omega (arith, p, c))) (λ p. inr (omega (arith, m, n), ap (λ xs. (entry_at s xs k).leader) w ∙ (ap (λ (y : IdealEntry). y.leader) (get_or-take i (whole S) k _ m) ∙ p.1))) h

  pub holds_more : (S T : IdealStore) (es : List IdealEntry) (k x : ℕ) → S.front ≤ length S.snapshot → T ≡ record S { entries = S.entries ++ es } → Reaches S → Holds s S k x → Holds s T k x
  holds_more S T es k x f e l h =
      let w : whole T ≡ whole S ++ es = ap (λ (Z : IdealStore). whole Z) e ∙ whole_append S f es l in
      let c : T.committed ≡ S.committed = ap (λ (Z : IdealStore). Z.committed) e in
      let n : length (whole T) ≡ length (whole S) + length es = ap (λ xs. length xs) w ∙ length-append (whole S) es in
      ⊎_elim (λ p. inl (omega (arith, p, c))) (λ p. inr (omega (arith, p.0, n), ap (λ xs. (entry_at s xs k).leader) w ∙ (ap (λ (y : IdealEntry). y.leader) (get_left s (whole S) es k p.0) ∙ p.1))) h

  -- and what a log grew by is held
  pub holds_new : (S T : IdealStore) (es : List IdealEntry) (skip j : ℕ) → S.front ≤ length S.snapshot → T ≡ record S { entries = S.entries ++ drop skip es } → Reaches S → skip ≤ j → j < length es → Holds s T (length (whole S) + (j - skip)) ((entry_at s es j).leader)
  holds_new S T es skip j f e l m b =
      let w : whole T ≡ whole S ++ drop skip es = ap (λ (Z : IdealStore). whole Z) e ∙ whole_append S f (drop skip es) l in
      let n : length (whole T) ≡ length (whole S) + length (drop skip es) = ap (λ xs. length xs) w ∙ length-append (whole S) (drop skip es) in
      let q : skip + (j - skip) ≡ j = omega (arith, m) in
      inr (
        omega (arith, n, m, b, length-drop skip es),
        ap (λ xs. (entry_at s xs (length (whole S) + (j - skip))).leader) w
            ∙ (ap (λ (y : IdealEntry). y.leader) (get_right s (whole S) (drop skip es) (length (whole S) + (j - skip)) (j - skip) refl)
            ∙ (ap (λ (y : IdealEntry). y.leader) (get_or-drop skip es (j - skip) _) ∙ ap (λ i. (entry_at s es i).leader) q)),
      )
