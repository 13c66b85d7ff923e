-- What a node has noted for a snapshot begins its whole log, and fits its engine.
use Rattle.std.proofs.Common.{ℕ, zero, suc, ◌+◌, ◌-◌, ◌<◌, ◌≤◌, ◌≡◌, inl, ⊎_elim, Bool, true, false, List, [], ◌∷◌, ◌++◌, length, take, drop, arith, refl, sym, ap, ap₂, ◌∙◌, subst, Option, None, Some, length-take}
use Rattle.std.specs.Prelude.{◌&&◌, ◌||◌, Contains, nat_lt, slice_get}
use Rattle.std.specs.Map.{values_of}
use Rattle.std.specs.Option.{option_to_list}
use Rattle.std.specs.Ordering.{is_gt, is_lt, nat_cmp, ordering_reverse}
use Rattle.std.specs.declared.cmp.Ordering.{Ordering}
use Rattle.std.specs.declared.cmp.Ordering.TheVariants.{Less, Equal, Greater}
use Rattle.std.specs.Cmp.{tied_itself}
use Rattle.std.proofs.lemmas.Bool.{cases_lt, lt-ltb}
use Rattle.std.proofs.lemmas.Cmp.{nat_cmp_total}
use Rattle.std.proofs.lemmas.List.{drop-map, length-map, take-map}
use Rattle.std.proofs.lemmas.Option.{slice_get_within, get_or_from_slice_get}
use Rattle.std.proofs.Math.Seq.{take-append_seam}
use Rattle.raft_node.specs.raft_state.declared.ids.LogId.{LogId}
use Rattle.raft_node.specs.raft_state.Fits.{fits, is_below, is_within}
use Rattle.raft_node.specs.raft_state.Invariants.{IsSoundState}
use Rattle.raft_node.specs.raft_state.Log.{at, last}
use Rattle.raft_node.specs.raft_state.Order.{last_id_cmp, next}
use Rattle.raft_node.specs.raft_state.Same.{nat_same}
use Rattle.raft_node.specs.raft_state.State.{is_found}
use Rattle.raft_node.proofs.raft_state_proofs.Orders.{last_total}
use Rattle.raft_node.specs.raft_steps.SnapshotHandler.{is_newer_snapshot}
use Rattle.proof_agreement.specs.Machine.{Setup}
use Rattle.proof_agreement.specs.Machine as machine
use Rattle.proof_agreement.specs.Stores.{whole, entry_at}
use Rattle.proof_agreement.proofs.StoresBridge.{front_low, ids_rise}
use Rattle.proof_agreement.proofs.StoresFollow.{StoreOk, StoresFollow}
use Rattle.proof_agreement.proofs.WholeLogs.{get_left}
use Rattle.raft_node.specs.raft_store.declared.entry.Entry.{Entry}
use Rattle.raft_node.specs.raft_store.Built.{meta_of}
use Rattle.raft_node.specs.raft_store.Entries.{entry_meaning}
use Rattle.raft_node.specs.raft_store.Mirror.{map_ids}
use Rattle.raft_node.specs.raft_store.Store as store
use Rattle.raft_node.specs.raft_store.Types.{WorldStore}
use Rattle.raft_node.proofs.raft_store_proofs.Lists.{Run, last_more}
use Rattle.proof_mirror.specs.Ready.{InStep, Shaped}
use Rattle.proof_mirror.proofs.Shape.{shape_of, shaped_of, whole_run}
use Rattle.proof_mirror.proofs.Sound.{fits_within}
use Rattle.raft_node.proofs.raft_calls_proofs.Ready.{contained_fits}
use Rattle.proof_deeds.specs.Chains.{Reached}
use Rattle.proof_deeds.specs.Follows.{FrontIs, StoreIs}
use Rattle.proof_deeds.specs.Images.{Ideal, IsNamed, image, images, number}
use Rattle.proof_deeds.proofs.AppendCommits.{id_below}
use Rattle.proof_deeds.proofs.AppendTails.{log_ids, slot_index, slot_inside}
use Rattle.proof_deeds.proofs.Built.{built_begins, noted_length}
use Rattle.proof_deeds.proofs.Numbers.{number_same}
use Rattle.proof_deeds.proofs.Overlap.{laps}
use Rattle.proof_deeds.proofs.Roles.{WorldState}
use Rattle.proof_deeds.proofs.Tails.{index, entry_of_id, images_same, named_of_id, tail_reaches, tail_whole, whole_fit}
use Rattle.proof_deeds.proofs.Worlds.{stores_follow}

-- Places in lists of ids

-- an index within a list has an id, at which its beginning ends
id_at : (i : ℕ) (ids : List (LogId ℕ)) → i < length ids → (x : LogId ℕ) × (slice_get ids i ≡ Some x) × (last (take (suc i) ids) ≡ Some x)
id_at i [] l = absurd (omega (arith, l))
id_at zero (y ∷ []) l = (y, refl, refl)
id_at zero (y ∷ z ∷ zs) l = (y, refl, refl)
id_at (suc i) (y ∷ []) l = absurd (omega (arith, l))
id_at (suc i) (y ∷ z ∷ zs) l =
    let r : (x : LogId ℕ) × (slice_get (z ∷ zs) i ≡ Some x) × (last (take (suc i) (z ∷ zs)) ≡ Some x) = id_at i (z ∷ zs) (omega (arith, l)) in
    (r.0, r.1, last_more y z (take i zs) ∙ r.2)

slot_past : (k : ℕ) (es : List Entry) (j : ℕ) (x : LogId ℕ) → slice_get (log_ids es) (k + j) ≡ Some x → slice_get (log_ids (drop k es)) j ≡ Some x
slot_past zero [] j x e = let q : zero + j ≡ j = omega arith in subst (λ i. slice_get (log_ids []) i ≡ Some x) q e
slot_past zero (y ∷ ys) j x e = let q : zero + j ≡ j = omega arith in subst (λ i. slice_get (log_ids (y ∷ ys)) i ≡ Some x) q e
slot_past (suc k) [] j x e = cc
slot_past (suc k) (y ∷ ys) j x e = let q : suc k + j ≡ suc (k + j) = omega arith in slot_past k ys j x (subst (λ i. slice_get (log_ids (y ∷ ys)) i ≡ Some x) q e)

contains_at : (ids : List (LogId ℕ)) (i : ℕ) (x : LogId ℕ) → slice_get ids i ≡ Some x → Contains ids x
contains_at ids i x e = (i, slice_get_within ids i x e, get_or_from_slice_get ids i x x e)

or_true : (a b : Bool) → b ≡ true → (a || b) ≡ true
or_true true b e = refl
or_true false b e = e

and_true : (a b : Bool) → a ≡ true → b ≡ true → (a && b) ≡ true
and_true true b d e = e
and_true false b d e = cc

above_of : (r : Ordering) → is_lt r ≡ true → is_gt (ordering_reverse r) ≡ true
above_of Less h = refl
above_of Equal h = cc
above_of Greater h = cc

not_above : (r : Ordering) → is_lt r ≡ true → is_gt r ≡ false
not_above Less h = refl
not_above Equal h = cc
not_above Greater h = cc

module _ (s : Setup Entry) (n : ℕ) (u : WorldStore) (W : Ideal) (st : WorldState) (h : StoreIs s u (W.store n)) (j : InStep entry_meaning u st) (sound : IsSoundState nat_cmp st) (reached : Reached s W) where
  shaped : Shaped entry_meaning u
  shaped = shaped_of entry_meaning u st j

  run : Run index 0 (store.whole u)
  run = whole_run entry_meaning u st (shape_of entry_meaning u st j.mirrors j.marks)

  as_long : length (whole (W.store n)) ≡ length (store.whole u)
  as_long = ap (λ ys. length ys) (tail_whole s u (W.store n) st h j) ∙ length-map (store.whole u) image

  -- an id stands at an index of the ideal whole log
  record StandsAt (i : ℕ) (x : LogId ℕ) : Type 0 where
    pub index : x.index ≡ i
    pub inside : i < length (whole (W.store n))
    pub leader : (entry_at s (whole (W.store n)) i).leader ≡ number x.leader_id
    pub named : IsNamed x.leader_id

  stands_at : (i : ℕ) (x : LogId ℕ) → slice_get (log_ids (store.whole u)) i ≡ Some x → StandsAt i x
  stands_at i x e = record {
    index = let q : x.index ≡ 0 + i = slot_index 0 i (store.whole u) x run e in omega (arith, q);
    inside = omega (arith, as_long, slot_inside i (store.whole u) x e);
    leader = ap (λ ys. (entry_at s ys i).leader) (tail_whole s u (W.store n) st h j) ∙ entry_of_id s (store.whole u) i x e;
    named = named_of_id s (store.whole u) i x (whole_fit s u (W.store n) h shaped) e;
  }

  -- ids rise along it
  rises : (i k : ℕ) (x y : LogId ℕ) → StandsAt i x → StandsAt k y → i < k → is_lt (last_id_cmp nat_cmp (Some x) (Some y)) ≡ true
  rises i k x y a b l =
      let q : (entry_at s (whole (W.store n)) i).leader ≤ (entry_at s (whole (W.store n)) k).leader = ids_rise s (machine.start s) W (stores_follow s W reached) (whole (W.store n)) i k (inl (n, refl)) (omega (arith, l)) b.inside in
      id_below x y a.named b.named (omega (arith, q, a.leader, b.leader)) (omega (arith, a.index, b.index, l))

  -- the last id of the first entries
  abbrev end : ℕ → Option (LogId ℕ)
  end k = last (log_ids (take k (store.whole u)))

  ends_at : (i : ℕ) → i < length (store.whole u) → (x : LogId ℕ) × (end (suc i) ≡ Some x) × (slice_get (log_ids (store.whole u)) i ≡ Some x)
  ends_at i l =
      let r : (x : LogId ℕ) × (slice_get (log_ids (store.whole u)) i ≡ Some x) × (last (take (suc i) (log_ids (store.whole u))) ≡ Some x) = id_at i (log_ids (store.whole u)) (omega (arith, l, length-map (store.whole u) (λ (e : Entry). e.log_id))) in
      (r.0, ap last (sym (take-map (λ (e : Entry). e.log_id) (suc i) (store.whole u))) ∙ r.2, r.1)

  ends_rise : (k l : ℕ) → k < l → l ≤ length (store.whole u) → is_lt (last_id_cmp nat_cmp (end k) (end l)) ≡ true
  ends_rise k zero b m = absurd (omega (arith, b))
  ends_rise zero (suc l) b m = let r : (x : LogId ℕ) × (end (suc l) ≡ Some x) × (slice_get (log_ids (store.whole u)) l ≡ Some x) = ends_at l (omega (arith, m)) in first (store.whole u) (end (suc l)) r.0 r.1 where
    first : (es : List Entry) (o : Option (LogId ℕ)) (x : LogId ℕ) → o ≡ Some x → is_lt (last_id_cmp nat_cmp (last (log_ids (take zero es))) o) ≡ true
    first [] None x e = cc
    first [] (Some y) x e = refl
    first (e ∷ es) None x q = cc
    first (e ∷ es) (Some y) x q = refl
  ends_rise (suc k) (suc l) b m =
      let p : (x : LogId ℕ) × (end (suc k) ≡ Some x) × (slice_get (log_ids (store.whole u)) k ≡ Some x) = ends_at k (omega (arith, b, m)) in
      let q : (x : LogId ℕ) × (end (suc l) ≡ Some x) × (slice_get (log_ids (store.whole u)) l ≡ Some x) = ends_at l (omega (arith, m)) in
      ap₂ (λ a c. is_lt (last_id_cmp nat_cmp a c)) p.1 q.1 ∙ rises k l p.0 q.0 (stands_at k p.0 p.2) (stands_at l q.0 q.2) (omega (arith, b))

  -- the stored entries are the whole log from the front on
  values_are : values_of u.log ≡ drop (next u.front) (store.whole u)
  values_are =
      images_same (values_of u.log) (drop (next u.front) (store.whole u))
      (sym h.entries
      ∙ (sym (laps s W reached n (tail_reaches s u (W.store n) st h j))
      ∙ (ap₂ drop h.front (tail_whole s u (W.store n) st h j) ∙ drop-map image (next u.front) (store.whole u))))

  ids_are : st.ids ≡ option_to_list u.front ++ log_ids (drop (next u.front) (store.whole u))
  ids_are = j.mirrors.log.ids_are ∙ ap (λ es. option_to_list u.front ++ log_ids es) values_are

  -- an id past the front is stored
  past_front : (i : ℕ) (x : LogId ℕ) → slice_get (log_ids (store.whole u)) i ≡ Some x → next u.front ≤ i → Contains st.ids x
  past_front i x e l = subst (λ ids. Contains ids x) (sym ids_are) (go u.front l) where
    go : (o : Option (LogId ℕ)) → next o ≤ i → Contains (option_to_list o ++ log_ids (drop (next o) (store.whole u))) x
    go None m =
        let q : next {NID = ℕ} None + i ≡ i = omega arith in
        contains_at (log_ids (drop (next {NID = ℕ} None) (store.whole u))) i x (slot_past (next {NID = ℕ} None) (store.whole u) i x (ap (slice_get (log_ids (store.whole u))) q ∙ e))
    go (Some f) m =
        let q : (f.index + 1) + (i - (f.index + 1)) ≡ i = omega (arith, m) in
        contains_at (f ∷ log_ids (drop (f.index + 1) (store.whole u))) (suc (i - (f.index + 1))) x (slot_past (f.index + 1) (store.whole u) (i - (f.index + 1)) x (ap (slice_get (log_ids (store.whole u))) q ∙ e))

  -- an id before it was purged, or is the front itself
  before_front : (i : ℕ) (x : LogId ℕ) → StandsAt i x → i < next u.front → fits nat_cmp st.ids st.purged (Some x) ≡ true
  before_front i x a l = go u.front refl l h.front_is where
    go : (o : Option (LogId ℕ)) → u.front ≡ o → i < next o → FrontIs s o (W.store n).snapshot → fits nat_cmp st.ids st.purged (Some x) ≡ true
    go None is m k = absurd (omega (arith, m))
    go (Some f) is m k = ⊎_elim below here (cases_lt i f.index) where
      low : f.index < length (W.store n).snapshot
      low = let p : (W.store n).front ≤ length (W.store n).snapshot = front_low s (machine.start s) W (stores_follow s W reached) n in let q : next u.front ≡ f.index + 1 = ap next is in omega (arith, p, q, h.front)

      front_at : StandsAt f.index f
      front_at = record {
        index = refl;
        inside = omega (arith, low, length-whole);
        leader = ap (λ (y : machine.Entry Entry). y.leader) (get_left s (W.store n).snapshot (drop (length (W.store n).snapshot - (W.store n).front) (W.store n).entries) f.index low) ∙ k.1;
        named = k.0;
      } where
        length-whole : length (W.store n).snapshot ≤ length (whole (W.store n))
        length-whole = longer (W.store n).snapshot (drop (length (W.store n).snapshot - (W.store n).front) (W.store n).entries) where
          longer : (xs ys : List (machine.Entry Entry)) → length xs ≤ length (xs ++ ys)
          longer [] ys = omega arith
          longer (y ∷ xs) ys = let r : length xs ≤ length (xs ++ ys) = longer xs ys in omega (arith, r)

      below : i < f.index → fits nat_cmp st.ids st.purged (Some x) ≡ true
      below b =
          let q : is_below nat_cmp (Some x) (Some f) ≡ true = and_true (is_lt (last_id_cmp nat_cmp (Some x) (Some f))) (nat_lt (x.index + 1) (f.index + 1)) (rises i f.index x f a front_at b) (lt-ltb (x.index + 1) (f.index + 1) (omega (arith, a.index, b))) in
          or_true (is_found nat_cmp (at st.ids x.index) x) (is_below nat_cmp (Some x) st.purged) (subst (λ p. is_below nat_cmp (Some x) p ≡ true) (sym (j.mirrors.log.purged_is ∙ is)) q)

      here : f.index ≤ i → fits nat_cmp st.ids st.purged (Some x) ≡ true
      here b =
          let e : i ≡ f.index = omega (arith, b, m) in
          let q : number f.leader_id ≡ number x.leader_id = sym front_at.leader ∙ (ap (λ k. (entry_at s (whole (W.store n)) k).leader) (sym e) ∙ a.leader) in
          let v : f.leader_id ≡ x.leader_id = number_same f.leader_id x.leader_id k.0 a.named q in
          let w : f.index ≡ x.index = sym (a.index ∙ e) in
          let z : f ≡ x = λ p. record { leader_id = v p; index = w p } in
          contained_fits st x sound (subst (λ ids. Contains ids x) (sym (j.mirrors.log.ids_are ∙ ap (λ o. option_to_list o ++ map_ids entry_meaning u) is)) (contains_at (f ∷ map_ids entry_meaning u) 0 x (ap Some z)))

  -- each id of the whole log fits the engine's
  whole_fits : (i : ℕ) (x : LogId ℕ) → slice_get (log_ids (store.whole u)) i ≡ Some x → fits nat_cmp st.ids st.purged (Some x) ≡ true
  whole_fits i x e = ⊎_elim (λ l. before_front i x (stands_at i x e) l) (λ l. contained_fits st x sound (past_front i x e l)) (cases_lt i (next u.front))

  module _ (es : List Entry) (noted : (W.store n).noted ≡ images es) where
    pub noted_begins : es ≡ take (length es) (store.whole u)
    noted_begins = built_begins s n u W h shaped reached es noted

    -- no more is noted than is committed
    pub noted_committed : length es ≤ next st.committed
    noted_committed =
        let K : StoresFollow s (machine.start s) W = stores_follow s W reached in
        let S : StoreOk s (K.world.node n) (W.store n) = K.store n in
        let a : length u.applied ≡ length (take (next st.committed) (store.whole u)) = ap (λ xs. length xs) j.applied in
        omega (arith, S.note, noted_length s n u W h shaped reached es noted, h.applied, a, length-take (next st.committed) (store.whole u))

    noted_inside : length es ≤ length (store.whole u)
    noted_inside = let a : length es ≡ length (take (length es) (store.whole u)) = ap (λ xs. length xs) noted_begins in omega (arith, a, length-take (length es) (store.whole u))

    noted_end : last (log_ids es) ≡ end (length es)
    noted_end = ap (λ xs. last (log_ids xs)) noted_begins

    -- its last id fits
    pub noted_fits : fits nat_cmp st.ids st.purged (meta_of entry_meaning es).last_log_id ≡ true
    noted_fits = subst (λ o. fits nat_cmp st.ids st.purged o ≡ true) (sym noted_end) (go (length es) noted_inside) where
      none : (xs : List Entry) → fits nat_cmp st.ids st.purged (last (log_ids (take zero xs))) ≡ true
      none [] = refl
      none (y ∷ ys) = refl

      go : (k : ℕ) → k ≤ length (store.whole u) → fits nat_cmp st.ids st.purged (end k) ≡ true
      go zero l = none (store.whole u)
      go (suc k) l =
          let p : (x : LogId ℕ) × (end (suc k) ≡ Some x) × (slice_get (log_ids (store.whole u)) k ≡ Some x) = ends_at k (omega (arith, l)) in
          subst (λ o. fits nat_cmp st.ids st.purged o ≡ true) (sym p.1) (whole_fits k p.0 p.2)

    -- and is committed
    pub noted_within : is_within nat_cmp (meta_of entry_meaning es).last_log_id st.committed ≡ true
    noted_within = fits_within nat_cmp nat_cmp_total nat_same st sound (meta_of entry_meaning es).last_log_id noted_fits low where
      ended : (k : ℕ) → k ≤ length (store.whole u) → next (end k) ≤ k
      ended zero l = none (store.whole u) where
        none : (xs : List Entry) → next (last (log_ids (take zero xs))) ≤ zero
        none [] = omega arith
        none (y ∷ ys) = omega arith
      ended (suc k) l =
          let p : (x : LogId ℕ) × (end (suc k) ≡ Some x) × (slice_get (log_ids (store.whole u)) k ≡ Some x) = ends_at k (omega (arith, l)) in
          let a : StandsAt k p.0 = stands_at k p.0 p.2 in
          let q : next (end (suc k)) ≡ p.0.index + 1 = ap next p.1 in
          omega (arith, q, a.index)

      low : next (meta_of entry_meaning es).last_log_id ≤ next st.committed
      low = let q : next (last (log_ids es)) ≡ next (end (length es)) = ap next noted_end in omega (arith, q, ended (length es) noted_inside, noted_committed)

    -- the recorded snapshot's last id is that of the first entries
    recorded_end : st.snap.last_log_id ≡ end (length u.snap)
    recorded_end =
        ap (λ m. m.last_log_id) j.mirrors.meta
        ∙ (j.mirrors.tells.last_id ∙ ap (λ xs. last (log_ids xs)) (sym (take-append_seam u.snap _)))

    snap_inside : length u.snap ≤ length (store.whole u)
    snap_inside = let a : length (take (length u.snap) (store.whole u)) ≡ length u.snap = ap (λ xs. length xs) (take-append_seam u.snap _) in omega (arith, a, length-take (length u.snap) (store.whole u))

    -- so it is above the recorded snapshot where more is noted than that has, and only there
    pub noted_newer : length u.snap < length es → is_newer_snapshot nat_cmp st (meta_of entry_meaning es) ≡ true
    noted_newer l =
        ap₂ (λ a b. is_gt (last_id_cmp nat_cmp a b)) noted_end recorded_end
        ∙ (ap is_gt ((last_total nat_cmp nat_cmp_total).antisymm (end (length es)) (end (length u.snap)))
        ∙ above_of (last_id_cmp nat_cmp (end (length u.snap)) (end (length es))) (ends_rise (length u.snap) (length es) l noted_inside))

    pub noted_older : length es ≤ length u.snap → is_newer_snapshot nat_cmp st (meta_of entry_meaning es) ≡ false
    noted_older l = ap₂ (λ a b. is_gt (last_id_cmp nat_cmp a b)) noted_end recorded_end ∙ ⊎_elim
        (λ b. not_above (last_id_cmp nat_cmp (end (length es)) (end (length u.snap))) (ends_rise (length es) (length u.snap) b snap_inside))
        (λ b. let e : length es ≡ length u.snap = omega (arith, b, l) in ap (λ k. is_gt (last_id_cmp nat_cmp (end k) (end (length u.snap)))) e ∙ ap is_gt (tied_itself (last_total nat_cmp nat_cmp_total) (end (length u.snap))))
        (cases_lt (length es) (length u.snap))
