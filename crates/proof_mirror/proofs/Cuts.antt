-- Truncations.
use Rattle.std.proofs.Common.{ℕ, ◌+◌, ◌≤◌, ◌≡◌, inl, inr, ⊎_elim, Bool, true, false, not, List, ◌∷◌, ◌++◌, length, arith, refl, sym, ap, ◌∙◌, subst, take, Option, Some, None, append-nil}
use Rattle.std.specs.Prelude.{nat_lt, filter, if◌then◌else◌}
use Rattle.std.specs.Map.{values_of}
use Rattle.std.proofs.lemmas.Bool.{cases_lt, lt-ltb, le-ltb}
use Rattle.std.proofs.lemmas.List.Elements.{filter-append}
use Rattle.raft_state.specs.declared.config.RaftEntry
use Rattle.raft_state.specs.declared.ids.LogId.{LogId}
use Rattle.raft_state.specs.declared.ids.Vote.{Vote}
use Rattle.raft_state.specs.declared.state.RaftState.{RaftState}
use Rattle.raft_state.specs.declared.membership.StoredMembership.{StoredMembership}
use Rattle.raft_state.specs.Order.{next}
use Rattle.raft_state.specs.Log.{last, below}
use Rattle.raft_state.specs.State.{truncate, undoes_membership}
use Rattle.raft_steps.specs.FollowingHandler.{memberships_in}
use Rattle.raft_store.specs.Store.{Store, past, whole, index_of}
use Rattle.raft_store.specs.Mirror.{Holds, Mirrors, keyed, last_two}
use Rattle.raft_store.proofs.Lists.{Run, under, onward, length_under, under_all, split, run_under, run_onward, filter_map_with, values_with, filter_with, filter_both}
use Rattle.proof_mirror.proofs.Ends.{Two, Cut, cut_two, under_each, onward_each, memberships-append}
use Rattle.proof_mirror.specs.Ready.{Marks, InStep}
use Rattle.proof_mirror.proofs.Shape.{Shape, shape_of, whole_run, held_run, held_end, behind_run, take_under, take_take, ids_behind, past_keyed, front_end}

module _ {NID N E : Type 0} (entry : RaftEntry.Ghosts E NID N) where
  pub below_behind : (f : Option (LogId NID)) (i : ℕ) (xs : List E) → next f ≤ i → below i (ids_behind entry f xs) ≡ ids_behind entry f (under (index_of entry) i xs)
  below_behind None i xs h = filter_map_with entry.id_of (λ x. nat_lt x.index i) xs
  below_behind (Some x) i xs h = rw (lt-ltb x.index i (omega (arith, h))) (ap (λ ys. x ∷ ys) (filter_map_with entry.id_of (λ x. nat_lt x.index i) xs))

  -- a map that is cut
  pub cut_map : (t : Store NID N E) (i : ℕ) → t.log ≡ keyed entry (values_of t.log) → filter (λ p. nat_lt p.0 i) t.log ≡ keyed entry (under (index_of entry) i (values_of t.log))
  cut_map t i e = ap (λ log. filter (λ p. nat_lt p.0 i) log) e ∙ filter_with (index_of entry) (λ k. nat_lt k i) (values_of t.log)

  pub cut_values : (t : Store NID N E) (i : ℕ) → t.log ≡ keyed entry (values_of t.log) → values_of (filter (λ p. nat_lt p.0 i) t.log) ≡ under (index_of entry) i (values_of t.log)
  cut_values t i e = ap values_of (cut_map t i e) ∙ values_with (index_of entry) (under (index_of entry) i (values_of t.log))

  -- past the front, the ids are those of the map
  pub cut_holds : (t : Store NID N E) (v : Vote NID) (ids : List (LogId NID)) (f : Option (LogId NID)) (i : ℕ) → Holds entry t v ids f → next f ≤ i
      → Holds entry (record t { log = filter (λ p. nat_lt p.0 i) t.log }) v (below i ids) f
  cut_holds t v ids f i h l =
      let n : next f ≡ next t.front = ap next h.purged_is in
      record {
        vote_is = h.vote_is;
        ids_are = ap (below i) h.ids_are ∙ (below_behind t.front i (values_of t.log) (omega (arith, n, l)) ∙ ap (ids_behind entry t.front) (sym (cut_values t i h.keys)));
        purged_is = h.purged_is;
        keys = cut_map t i h.keys ∙ ap (keyed entry) (sym (cut_values t i h.keys));
      }

  -- the whole log is cut
  pub cut_whole : (t : Store NID N E) (s : RaftState NID N) (i : ℕ) → Mirrors entry t s → Shape entry t s → next s.committed ≤ i → whole (record t { log = filter (λ p. nat_lt p.0 i) t.log }) ≡ under (index_of entry) i (whole t)
  cut_whole t s i m h l =
      let xs : List E = values_of t.log in
      let n : ℕ = length t.snap in
      let p : past n (filter (λ p. nat_lt p.0 i) t.log) ≡ under (index_of entry) i (onward (index_of entry) n xs) =
      ap (past n) (cut_map t i m.log.keys) ∙ (past_keyed entry n (under (index_of entry) i xs)
      ∙ filter_both (λ e. not (nat_lt (index_of entry e) n)) (λ e. nat_lt (index_of entry e) i) xs) in
      ap (λ ys. t.snap ++ ys) p
      ∙ (ap (λ ys. ys ++ under (index_of entry) i (onward (index_of entry) n xs)) (sym (under_all (index_of entry) 0 i t.snap (omega (arith, h.settled, l)) h.snap_run))
      ∙ (sym (filter-append (λ e. nat_lt (index_of entry e) i) t.snap (onward (index_of entry) n xs)) ∙ ap (under (index_of entry) i) (sym h.whole_is)))

  -- above the committed id, and above the committed membership
  pub cut_mirrors : (t : Store NID N E) (s : RaftState NID N) (i : ℕ) → Mirrors entry t s → Marks s → next s.committed ≤ i → next s.cm.log_id ≤ i
      → Mirrors entry (record t { log = filter (λ p. nat_lt p.0 i) t.log }) (truncate s i)
  cut_mirrors t s i m k l u =
      let h : Shape entry t s = shape_of entry t s m k in
      let W : List E = whole t in
      let A : List (StoredMembership NID N) = memberships_in entry (under (index_of entry) i W) in
      let B : List (StoredMembership NID N) = memberships_in entry (onward (index_of entry) i W) in
      let w : whole (record t { log = filter (λ p. nat_lt p.0 i) t.log }) ≡ under (index_of entry) i W = cut_whole t s i m h l in
      let q : memberships_in entry W ≡ A ++ B =
      ap (memberships_in entry) (sym (split (index_of entry) 0 i W (whole_run entry t s h))) ∙ memberships-append entry (under (index_of entry) i W) (onward (index_of entry) i W) in
      let c : Cut s.cm s.em i A B =
      cut_two s.cm s.em i A B (under_each entry i W)
      (onward_each entry i i (onward (index_of entry) i W) (run_onward (index_of entry) 0 i W (omega arith) (whole_run entry t s h)) (omega arith))
      (subst (Two s.cm s.em) q h.two) u in
      let f : next s.purged ≤ i = omega (arith, k.purged, k.target, k.snapshot, l) in
      let kept : (cm em : StoredMembership NID N) → Two cm em A → Mirrors entry (record t { log = filter (λ p. nat_lt p.0 i) t.log }) (record s { ids = below i s.ids; cm = cm; em = em }) =
      λ cm em two. record {
        log = cut_holds t s.vote s.ids s.purged i m.log f;
        meta = m.meta;
        tells = m.tells;
        snap_run = m.snap_run;
        em = two.em_is ∙ ap (λ es. (last_two (memberships_in entry es)).1) (sym w);
        cm = ⊎_elim (λ e. inl e) (λ e. inr (e ∙ ap (λ es. (last_two (memberships_in entry es)).0) (sym w))) two.cm_is;
      } in
      ⊎_elim
      (λ o. subst (λ b. Mirrors entry (record t { log = filter (λ p. nat_lt p.0 i) t.log }) (if b then record s { ids = below i s.ids; em = s.cm } else record s { ids = below i s.ids }))
      (sym (lt-ltb i (next s.em.log_id) o)) (kept s.cm s.cm (record { em_is = c.undone o; cm_is = inl refl })))
      (λ o. subst (λ b. Mirrors entry (record t { log = filter (λ p. nat_lt p.0 i) t.log }) (if b then record s { ids = below i s.ids; em = s.cm } else record s { ids = below i s.ids }))
      (sym (le-ltb i (next s.em.log_id) o)) (kept s.cm s.em (subst (Two s.cm s.em) (q ∙ (ap (λ ys. A ++ ys) (c.whole o) ∙ append-nil A)) h.two)))
      (cases_lt i (next s.em.log_id))

  -- the state that a truncation leaves, in parts
  pub cut_parts : (P : RaftState NID N → Type 0) (s : RaftState NID N) (i : ℕ) → ((em : StoredMembership NID N) → P (record s { ids = below i s.ids; em = em })) → P (truncate s i)
  cut_parts P s i f = go (undoes_membership s i) where
    go : (b : Bool) → P (if b then record s { ids = below i s.ids; em = s.cm } else record s { ids = below i s.ids })
    go true = f s.cm
    go false = f s.em

  -- a log that reaches an index ends there once it is cut, and else where it did
  pub cut_end : (t : Store NID N E) (s : RaftState NID N) (i : ℕ) → Holds entry t s.vote s.ids s.purged → Run (index_of entry) (next t.front) (values_of t.log) → next s.purged ≤ i → i ≤ next (last s.ids) → next (last (below i s.ids)) ≡ i
  cut_end t s i h r l u =
      let xs : List E = values_of t.log in
      let n : next s.purged ≡ next t.front = ap next h.purged_is in
      let e : next (last s.ids) ≡ next t.front + length xs = held_end entry t s.vote s.ids s.purged h r in
      let b : below i s.ids ≡ ids_behind entry t.front (under (index_of entry) i xs) = ap (below i) h.ids_are ∙ below_behind t.front i xs (omega (arith, n, l)) in
      ap (λ ids. next (last ids)) b
      ∙ (front_end entry t.front (under (index_of entry) i xs) (behind_run entry t.front (under (index_of entry) i xs) (run_under (index_of entry) (next t.front) i xs r))
      ∙ length_under (index_of entry) (next t.front) i xs r (omega (arith, n, l)) (omega (arith, e, u)))

  -- a store in step is cut
  pub step_cut : (t : Store NID N E) (s : RaftState NID N) (i : ℕ) → InStep entry t s → next s.committed ≤ i → next s.cm.log_id ≤ i → i ≤ next (last s.ids)
      → InStep entry (record t { log = filter (λ p. nat_lt p.0 i) t.log }) (truncate s i)
  step_cut t s i j l u z =
      let h : Shape entry t s = shape_of entry t s j.mirrors j.marks in
      let k : Marks s = j.marks in
      let w : Store NID N E = record t { log = filter (λ p. nat_lt p.0 i) t.log } in
      let f : next s.purged ≤ i = omega (arith, k.purged, k.target, k.snapshot, l) in
      let g : Holds entry w s.vote (below i s.ids) s.purged = cut_holds t s.vote s.ids s.purged i j.mirrors.log f in
      let r : Run (index_of entry) (next t.front) (values_of w.log) = subst (Run (index_of entry) (next t.front)) (sym (cut_values t i j.mirrors.log.keys)) (run_under (index_of entry) (next t.front) i (values_of t.log) h.run) in
      let e : next (last (below i s.ids)) ≡ i = cut_end t s i j.mirrors.log h.run f z in
      let c : ℕ = next s.committed in
      let a : t.applied ≡ take c (whole w) =
      j.applied ∙ sym (ap (take c) (cut_whole t s i j.mirrors h l ∙ sym (take_under (index_of entry) i (whole t) (whole_run entry t s h))) ∙ take_take c i (whole t) l) in
      record {
        mirrors = cut_mirrors t s i j.mirrors k l u;
        applied = cut_parts (λ s2. t.applied ≡ take (next s2.committed) (whole w)) s i (λ em. a);
        marks = cut_parts Marks s i (λ em. record {
          run = held_run entry w s.vote (below i s.ids) s.purged g r;
          purged = k.purged;
          target = k.target;
          snapshot = k.snapshot;
          committed = omega (arith, e, l);
        });
      }
