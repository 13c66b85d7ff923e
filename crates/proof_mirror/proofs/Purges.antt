-- Purges.
use Rattle.std.proofs.Common.{ℕ, ◌+◌, ◌<◌, ◌≤◌, ◌≡◌, inl, inr, ⊎_elim, Bool, true, false, cond, not, List, [], ◌∷◌, ◌++◌, length, map, arith, refl, sym, ap, ◌∙◌, subst, take, Option, Some, None, length-append}
use Rattle.std.specs.Prelude.{nat_lt, filter, if◌then◌else◌}
use Rattle.std.specs.Map.{values_of}
use Rattle.std.specs.declared.cmp.Ordering.{Ordering}
use Rattle.std.proofs.lemmas.Bool.{cases_lt, lt-ltb, le-ltb, eq-eqb, ne_eqb}
use Rattle.raft_state.specs.declared.config.RaftEntry
use Rattle.raft_state.specs.declared.ids.LogId.{LogId}
use Rattle.raft_state.specs.declared.ids.Vote.{Vote}
use Rattle.raft_state.specs.declared.state.RaftState.{RaftState}
use Rattle.raft_state.specs.Order.{next}
use Rattle.raft_state.specs.Log.{last, at, from}
use Rattle.raft_state.specs.LogLaws.{IsRun}
use Rattle.raft_state.specs.State.{purge}
use Rattle.raft_state.specs.Invariants.{first_index}
use Rattle.raft_steps.specs.FollowingHandler.{memberships_in}
use Rattle.raft_store.specs.Store.{Store, past, whole, index_of}
use Rattle.raft_store.specs.Mirror.{Holds, Mirrors, keyed, last_two}
use Rattle.raft_store.proofs.Lists.{Run, under, onward, length_under, onward_none, split, run_onward, onward_all, onward_onward, filter_map_with, values_with, filter_with, filter_ext}
use Rattle.proof_mirror.specs.Ready.{Marks, InStep}
use Rattle.proof_mirror.proofs.Shape.{Shape, shape_of, held_run, held_end, ids_behind, past_keyed, front_run, front_end}

-- a front
module _ {NID : Type 0} where
  pub from_at : (n i : ℕ) (ids : List (LogId NID)) (x : LogId NID) → n ≤ i → IsRun n ids → at ids i ≡ Some x → from i ids ≡ x ∷ from (i + 1) ids
  from_at n i [] x h r e = cc
  from_at n i (y ∷ ys) x h r e =
      ⊎_elim
      (λ l. rw (lt-ltb y.index i (omega (arith, r.0)), lt-ltb y.index (i + 1) (omega (arith, r.0)))
      (from_at (n + 1) i ys x (omega arith) r.1 (sym (ap (λ b. cond b (Some y) (at ys i)) (ne_eqb y.index i (λ q. omega (arith, r.0, q)))) ∙ e)))
      (λ l.
      let q : Some y ≡ Some x = sym (ap (λ b. cond b (Some y) (at ys i)) (eq-eqb y.index i (omega (arith, r.0)))) ∙ e in
      rw (le-ltb y.index i (omega (arith, r.0)), lt-ltb y.index (i + 1) (omega (arith, r.0)))
      (ap (λ z. z ∷ from i ys) (some_same y x q) ∙ ap (λ zs. x ∷ zs)
      (onward_all (λ z. z.index) (n + 1) i ys (omega arith) (as_run (n + 1) ys r.1) ∙ sym (onward_all (λ z. z.index) (n + 1) (i + 1) ys (omega arith) (as_run (n + 1) ys r.1)))))
      (cases_lt n i)
    where
      some_same : (y x : LogId NID) → Some y ≡ Some x → y ≡ x
      some_same y x e = cc

      as_run : (n : ℕ) (ids : List (LogId NID)) → IsRun n ids → Run (λ z. z.index) n ids
      as_run n [] r = tt
      as_run n (x ∷ xs) r = (r.0, as_run (n + 1) xs r.1)

-- the ids that a purge leaves
abbrev pub purged_ids : {NID : Type 0} → List (LogId NID) → LogId NID → List (LogId NID)
purged_ids ids x = if nat_lt x.index (next (last ids)) then from x.index ids else x ∷ []

-- a purge of a state
pub purge_is : {NID N : Type 0} (cmp : NID → NID → Ordering) (s : RaftState NID N) (x : LogId NID) → ◌≡◌ {A = RaftState NID N} (record s { purged = Some x; ids = purged_ids s.ids x }) (purge cmp s x)
purge_is {NID} {N} cmp s x = same (nat_lt x.index (next (last s.ids))) where
  same : (b : Bool) → ◌≡◌ {A = RaftState NID N} (record s { purged = Some x; ids = if b then from x.index s.ids else x ∷ [] }) (if b then record s { purged = Some x; ids = from x.index s.ids } else record s { purged = Some x; ids = x ∷ [] })
  same true = refl
  same false = refl

module _ {NID N E : Type 0} (entry : RaftEntry.Ghosts E NID N) where
  pub from_behind : (f : Option (LogId NID)) (i : ℕ) (xs : List E) → next f ≤ i → from i (ids_behind entry f xs) ≡ map entry.id_of (onward (index_of entry) i xs)
  from_behind None i xs h = filter_map_with entry.id_of (λ x. not (nat_lt x.index i)) xs
  from_behind (Some x) i xs h = rw (lt-ltb x.index i (omega (arith, h))) (filter_map_with entry.id_of (λ x. not (nat_lt x.index i)) xs)

  above : (a k : ℕ) → nat_lt a k ≡ not (nat_lt k (a + 1))
  above a k = ⊎_elim (λ l. rw (lt-ltb a k l, le-ltb k (a + 1) (omega (arith, l))) refl) (λ l. rw (le-ltb a k l, lt-ltb k (a + 1) (omega (arith, l))) refl) (cases_lt a k)

  -- a map that is purged
  pub purged_map : (t : Store NID N E) (i : ℕ) → t.log ≡ keyed entry (values_of t.log) → filter (λ p. nat_lt i p.0) t.log ≡ keyed entry (onward (index_of entry) (i + 1) (values_of t.log))
  purged_map t i e =
      ap (λ log. filter (λ p. nat_lt i p.0) log) e
      ∙ (filter_with (index_of entry) (λ k. nat_lt i k) (values_of t.log)
      ∙ ap (keyed entry) (filter_ext (λ e. nat_lt i (index_of entry e)) (λ e. not (nat_lt (index_of entry e) (i + 1))) (values_of t.log) (λ e. above i (index_of entry e))))

  pub purged_values : (t : Store NID N E) (i : ℕ) → t.log ≡ keyed entry (values_of t.log) → values_of (filter (λ p. nat_lt i p.0) t.log) ≡ onward (index_of entry) (i + 1) (values_of t.log)
  purged_values t i e = ap values_of (purged_map t i e) ∙ values_with (index_of entry) (onward (index_of entry) (i + 1) (values_of t.log))

  -- the purged id is held, or is past the log
  pub purge_holds : (t : Store NID N E) (v : Vote NID) (ids : List (LogId NID)) (f : Option (LogId NID)) (x : LogId NID) → Holds entry t v ids f → IsRun (first_index f) ids → next f ≤ x.index + 1
      → (x.index < next (last ids) → at ids x.index ≡ Some x)
      → Holds entry (record t { log = filter (λ p. nat_lt x.index p.0) t.log; front = Some x }) v (purged_ids ids x) (Some x)
  purge_holds t v ids f x h r l a =
      let n : next f ≡ next t.front = ap next h.purged_is in
      let q : IsRun (first_index t.front) (ids_behind entry t.front (values_of t.log)) = subst (λ g. IsRun (first_index g) (ids_behind entry t.front (values_of t.log))) h.purged_is (subst (IsRun (first_index f)) h.ids_are r) in
      let b : from (x.index + 1) ids ≡ map entry.id_of (onward (index_of entry) (x.index + 1) (values_of t.log)) =
      ap (from (x.index + 1)) h.ids_are ∙ from_behind t.front (x.index + 1) (values_of t.log) (omega (arith, n, l)) in
      let e : next (last ids) ≡ next t.front + length (values_of t.log) = ap (λ ids. next (last ids)) h.ids_are ∙ front_end entry t.front (values_of t.log) q in
      let c : purged_ids ids x ≡ x ∷ map entry.id_of (onward (index_of entry) (x.index + 1) (values_of t.log)) =
      ⊎_elim
      (λ o. rw (lt-ltb x.index (next (last ids)) o) (from_at (first_index f) x.index ids x (first_low f (omega (arith, l))) r (a o) ∙ ap (λ ys. x ∷ ys) b))
      (λ o. rw (le-ltb x.index (next (last ids)) o, onward_none (index_of entry) (next t.front) (x.index + 1) (values_of t.log) (omega (arith, e, o)) (front_run entry t.front (values_of t.log) q)) refl)
      (cases_lt x.index (next (last ids))) in
      record {
        vote_is = h.vote_is;
        ids_are = c ∙ ap (λ ys. x ∷ map entry.id_of ys) (sym (purged_values t x.index h.keys));
        purged_is = refl;
        keys = purged_map t x.index h.keys ∙ ap (keyed entry) (sym (purged_values t x.index h.keys));
      }
    where
      first_low : (f : Option (LogId NID)) → next f ≤ x.index + 1 → first_index f ≤ x.index
      first_low None l = omega arith
      first_low (Some y) l = omega (arith, l)

  -- the whole log stays
  pub purge_whole : (t : Store NID N E) (s : RaftState NID N) (x : LogId NID) → Mirrors entry t s → Shape entry t s → x.index + 1 ≤ next s.snap.last_log_id → whole (record t { log = filter (λ p. nat_lt x.index p.0) t.log; front = Some x }) ≡ whole t
  purge_whole t s x m h u =
      let xs : List E = values_of t.log in
      let n : ℕ = length t.snap in
      let p : past n (filter (λ p. nat_lt x.index p.0) t.log) ≡ onward (index_of entry) n xs =
      ap (past n) (purged_map t x.index m.log.keys) ∙ (past_keyed entry n (onward (index_of entry) (x.index + 1) xs)
      ∙ onward_onward (index_of entry) (next t.front) (x.index + 1) n xs (omega (arith, u, h.snap_end)) h.run) in
      ap (λ ys. t.snap ++ ys) p ∙ sym h.whole_is

  -- up to the purge target, which is within the snapshot
  pub step_purge : (cmp : NID → NID → Ordering) (t : Store NID N E) (s : RaftState NID N) (x : LogId NID) → InStep entry t s → s.purge_to ≡ Some x → at s.ids x.index ≡ Some x
      → InStep entry (record t { log = filter (λ p. nat_lt x.index p.0) t.log; front = Some x }) (purge cmp s x)
  step_purge cmp t s x j target a =
      let m : Mirrors entry t s = j.mirrors in
      let k : Marks s = j.marks in
      let h : Shape entry t s = shape_of entry t s m k in
      let u : Store NID N E = record t { log = filter (λ p. nat_lt x.index p.0) t.log; front = Some x } in
      let z : next s.purge_to ≡ x.index + 1 = ap next target in
      let w : whole u ≡ whole t = purge_whole t s x m h (omega (arith, z, k.target)) in
      let g : Holds entry u s.vote (purged_ids s.ids x) (Some x) = purge_holds t s.vote s.ids s.purged x m.log k.run (omega (arith, z, k.purged)) (λ _. a) in
      let n : next s.purged ≡ next t.front = ap next m.log.purged_is in
      let xs : List E = values_of t.log in
      let v : values_of u.log ≡ onward (index_of entry) (x.index + 1) xs = purged_values t x.index m.log.keys in
      let r : Run (index_of entry) (x.index + 1) (values_of u.log) =
      subst (Run (index_of entry) (x.index + 1)) (sym v) (run_onward (index_of entry) (next t.front) (x.index + 1) xs (omega (arith, n, z, k.purged)) h.run) in
      let e : next (last (purged_ids s.ids x)) ≡ (x.index + 1) + length (values_of u.log) = held_end entry u s.vote (purged_ids s.ids x) (Some x) g r in
      let b1 : next t.front + length (under (index_of entry) (x.index + 1) xs) ≡ x.index + 1 =
      length_under (index_of entry) (next t.front) (x.index + 1) xs h.run (omega (arith, n, z, k.purged)) (omega (arith, z, h.end, k.target, k.snapshot, k.committed)) in
      let b2 : length (under (index_of entry) (x.index + 1) xs ++ onward (index_of entry) (x.index + 1) xs) ≡ length xs = ap (λ ys. length ys) (split (index_of entry) (next t.front) (x.index + 1) xs h.run) in
      let b3 : length (under (index_of entry) (x.index + 1) xs ++ onward (index_of entry) (x.index + 1) xs) ≡ length (under (index_of entry) (x.index + 1) xs) + length (onward (index_of entry) (x.index + 1) xs) = length-append (under (index_of entry) (x.index + 1) xs) (onward (index_of entry) (x.index + 1) xs) in
      let b4 : length (values_of u.log) ≡ length (onward (index_of entry) (x.index + 1) xs) = ap (λ ys. length ys) v in
      let d : InStep entry u (record s { purged = Some x; ids = purged_ids s.ids x }) =
      record {
        mirrors = record {
          log = g;
          meta = m.meta;
          tells = m.tells;
          snap_run = m.snap_run;
          em = m.em ∙ ap (λ es. (last_two (memberships_in entry es)).1) (sym w);
          cm = ⊎_elim (λ e. inl e) (λ e. inr (e ∙ ap (λ es. (last_two (memberships_in entry es)).0) (sym w))) m.cm;
        };
        applied = j.applied ∙ ap (take (next s.committed)) (sym w);
        marks = record {
          run = held_run entry u s.vote (purged_ids s.ids x) (Some x) g r;
          purged = omega (arith, z);
          target = k.target;
          snapshot = k.snapshot;
          committed = omega (arith, e, b1, b2, b3, b4, h.end, k.committed);
        };
      } in
      subst (InStep entry u) (purge_is cmp s x) d
