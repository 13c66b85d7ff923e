-- What the shape of a store and the order of an engine's marks give together.
use Rattle.std.proofs.Common.{ℕ, zero, suc, ◌+◌, ◌≤◌, ◌≡◌, true, not, List, [], ◌∷◌, ◌++◌, length, map, arith, refl, sym, ap, ◌∙◌, subst, take, Option, Some, None, length-append}
use Rattle.std.specs.Prelude.{nat_lt, nat_le}
use Rattle.std.specs.Map.{values_of}
use Rattle.std.specs.Option.{option_to_list}
use Rattle.std.specs.declared.cmp.Ordering.{Ordering}
use Rattle.std.proofs.lemmas.Bool.{and_parts, leb-true, lt-ltb}
use Rattle.std.proofs.lemmas.List.Elements.{filter-append}
use Rattle.raft_state.specs.declared.config.RaftEntry
use Rattle.raft_state.specs.declared.ids.LogId.{LogId}
use Rattle.raft_state.specs.declared.ids.Vote.{Vote}
use Rattle.raft_state.specs.declared.state.RaftState.{RaftState}
use Rattle.raft_state.specs.Order.{next, last_id_cmp}
use Rattle.raft_state.specs.Fits.{is_within}
use Rattle.raft_state.specs.Log.{last}
use Rattle.raft_state.specs.LogLaws.{IsRun}
use Rattle.std.specs.Ordering.{is_le}
use Rattle.raft_state.specs.Invariants.{IsSoundState, first_index}
use Rattle.raft_steps.specs.FollowingHandler.{memberships_in}
use Rattle.raft_store.specs.Store.{Store, past, whole, index_of}
use Rattle.raft_store.specs.Mirror.{Holds, Mirrors, keyed}
use Rattle.proof_mirror.specs.Ready.{Marks, Shaped, InStep}
use Rattle.raft_store.proofs.Lists.{onward_none, onward_onward, Run, under, onward, under_none, length_under, split, run_append, run_onward, values_with, filter_with, next_last, next_last_0}
use Rattle.proof_mirror.proofs.Ends.{Two}

module _ {NID : Type 0} (cmp : NID → NID → Ordering) where
  pub within_next : (a b : Option (LogId NID)) → is_within cmp a b ≡ true → next a ≤ next b
  within_next a b h = leb-true (next a) (next b) (and_parts (is_le (last_id_cmp cmp a b)) (nat_le (next a) (next b)) h).1

module _ {NID N : Type 0} (cmp : NID → NID → Ordering) where
  pub marks_of : (s : RaftState NID N) → IsSoundState cmp s → Marks s
  marks_of s h =
      record {
        run = h.log.run;
        purged = within_next cmp s.purged s.purge_to h.marks.at_purged;
        target = within_next cmp s.purge_to s.snap.last_log_id h.marks.at_target;
        snapshot = within_next cmp s.snap.last_log_id s.committed h.marks.at_snapshot;
        committed = within_next cmp s.committed (last s.ids) h.marks.at_committed;
      }

module _ {NID N E : Type 0} (entry : RaftEntry.Ghosts E NID N) where
  pub run_of_ids : (n : ℕ) (es : List E) → IsRun n (map entry.id_of es) → Run (index_of entry) n es
  run_of_ids n [] r = tt
  run_of_ids n (e ∷ es) r = (r.0, run_of_ids (n + 1) es r.1)

  pub ids_of_run : (n : ℕ) (es : List E) → Run (index_of entry) n es → IsRun n (map entry.id_of es)
  ids_of_run n [] r = tt
  ids_of_run n (e ∷ es) r = (r.0, ids_of_run (n + 1) es r.1)

  pub length_ids : (es : List E) → length (map entry.id_of es) ≡ length es
  length_ids [] = refl
  length_ids (e ∷ es) = let q : length (map entry.id_of es) ≡ length es = length_ids es in omega (arith, q)

  -- a log behind its front
  abbrev pub ids_behind : Option (LogId NID) → List E → List (LogId NID)
  ids_behind f es = option_to_list f ++ map entry.id_of es

  pub front_run : (f : Option (LogId NID)) (es : List E) → IsRun (first_index f) (ids_behind f es) → Run (index_of entry) (next f) es
  front_run None es r = run_of_ids 0 es r
  front_run (Some x) es r = run_of_ids (x.index + 1) es r.1

  pub front_end : (f : Option (LogId NID)) (es : List E) → IsRun (first_index f) (ids_behind f es) → next (last (ids_behind f es)) ≡ next f + length es
  front_end None es r = next_last_0 (map entry.id_of es) r ∙ (length_ids es ∙ omega arith)
  front_end (Some x) es r = next_last x.index x (map entry.id_of es) r ∙ omega (arith, length_ids es)

  pub past_keyed : (n : ℕ) (es : List E) → past n (keyed entry es) ≡ onward (index_of entry) n es
  past_keyed n es = ap values_of (filter_with (index_of entry) (λ k. not (nat_lt k n)) es) ∙ values_with (index_of entry) (onward (index_of entry) n es)

  -- what is stored, by the engine's marks
  pub record Shape (t : Store NID N E) (s : RaftState NID N) : Type 0 where
    pub run : Run (index_of entry) (next t.front) (values_of t.log)
    pub end : next (last s.ids) ≡ next t.front + length (values_of t.log)
    pub snap_end : length t.snap ≡ next s.snap.last_log_id
    pub snap_run : Run (index_of entry) 0 t.snap
    pub front : next t.front ≤ length t.snap
    pub settled : length t.snap ≤ next s.committed
    pub top : next s.committed ≤ next (last s.ids)
    pub whole_is : whole t ≡ t.snap ++ onward (index_of entry) (length t.snap) (values_of t.log)
    pub two : Two s.cm s.em (memberships_in entry (whole t))

  pub shape_of : (t : Store NID N E) (s : RaftState NID N) → Mirrors entry t s → Marks s → Shape t s
  shape_of t s m k =
      let r : IsRun (first_index t.front) (ids_behind t.front (values_of t.log)) = subst (λ f. IsRun (first_index f) (ids_behind t.front (values_of t.log))) m.log.purged_is (subst (IsRun (first_index s.purged)) m.log.ids_are k.run) in
      let n : length t.snap ≡ next s.snap.last_log_id = sym (ap next (ap (λ x. x.last_log_id) m.meta ∙ m.tells.last_id) ∙ (next_last_0 (map entry.id_of t.snap) m.snap_run ∙ length_ids t.snap)) in
      let f : next s.purged ≡ next t.front = ap next m.log.purged_is in
      record {
        run = front_run t.front (values_of t.log) r;
        end = ap (λ ids. next (last ids)) m.log.ids_are ∙ front_end t.front (values_of t.log) r;
        snap_end = n;
        snap_run = run_of_ids 0 t.snap m.snap_run;
        front = omega (arith, n, f, k.purged, k.target);
        settled = omega (arith, n, k.snapshot);
        top = k.committed;
        whole_is = ap (λ es. t.snap ++ es) (ap (past (length t.snap)) m.log.keys ∙ past_keyed (length t.snap) (values_of t.log));
        two = record { em_is = m.em; cm_is = m.cm };
      }

  -- a whole log is a run from 0
  pub whole_run : (t : Store NID N E) (s : RaftState NID N) → Shape t s → Run (index_of entry) 0 (whole t)
  whole_run t s h =
      subst (Run (index_of entry) 0) (sym h.whole_is)
      (run_append (index_of entry) 0 (length t.snap) t.snap (onward (index_of entry) (length t.snap) (values_of t.log)) (omega arith) h.snap_run
      (run_onward (index_of entry) (next t.front) (length t.snap) (values_of t.log) h.front h.run))

-- what is taken of a run is what stands below an index
module _ {X : Type 0} (index : X → ℕ) where
  take_run : (n i k : ℕ) (xs : List X) → Run index n xs → n + k ≡ i → take k xs ≡ under index i xs
  take_run n i zero [] r e = refl
  take_run n i (suc k) [] r e = refl
  take_run n i zero (x ∷ xs) r e = sym (under_none index n i (x ∷ xs) (omega (arith, e)) r)
  take_run n i (suc k) (x ∷ xs) r e = rw (lt-ltb (index x) i (omega (arith, r.0, e))) (ap (λ ys. x ∷ ys) (take_run (n + 1) i k xs r.1 (omega (arith, e))))

  pub take_under : (i : ℕ) (xs : List X) → Run index 0 xs → take i xs ≡ under index i xs
  take_under i xs r = take_run 0 i i xs r (omega arith)

module _ {X : Type 0} where
  pub take_again : (n : ℕ) (xs : List X) → take (length (take n xs)) xs ≡ take n xs
  take_again zero [] = refl
  take_again zero (x ∷ xs) = refl
  take_again (suc n) [] = refl
  take_again (suc n) (x ∷ xs) = ap (λ ys. x ∷ ys) (take_again n xs)

  pub take_at_most : (n : ℕ) (xs : List X) → length (take n xs) ≤ n
  take_at_most zero [] = omega arith
  take_at_most zero (x ∷ xs) = omega arith
  take_at_most (suc n) [] = omega arith
  take_at_most (suc n) (x ∷ xs) = let q : length (take n xs) ≤ n = take_at_most n xs in omega (arith, q)

  pub take_at_least : (n : ℕ) (xs ys : List X) → length xs ≤ n → length xs ≤ length (take n (xs ++ ys))
  take_at_least n [] ys h = omega arith
  take_at_least zero (x ∷ xs) ys h = absurd (omega (arith, h))
  take_at_least (suc n) (x ∷ xs) ys h = let q : length xs ≤ length (take n (xs ++ ys)) = take_at_least n xs ys (omega (arith, h)) in omega (arith, q)

module _ {NID N E : Type 0} (entry : RaftEntry.Ghosts E NID N) where
  -- no more is applied than is committed
  pub applied_upto : (t : Store NID N E) (s : RaftState NID N) → InStep entry t s → length t.applied ≤ next s.committed
  applied_upto t s j = let q : length (take (next s.committed) (whole t)) ≤ next s.committed = take_at_most (next s.committed) (whole t) in let e : length t.applied ≡ length (take (next s.committed) (whole t)) = ap (λ es. length es) j.applied in omega (arith, q, e)

  -- a store in step is shaped
  pub shaped_of : (t : Store NID N E) (s : RaftState NID N) → InStep entry t s → Shaped entry t
  shaped_of t s j =
      let h : Shape entry t s = shape_of entry t s j.mirrors j.marks in
      let l : length t.applied ≡ length (take (next s.committed) (whole t)) = ap (λ es. length es) j.applied in
      let r : length t.snap ≤ length (take (next s.committed) (whole t)) = take_at_least (next s.committed) t.snap (past (length t.snap) t.log) h.settled in
      record {
        keys = j.mirrors.log.keys;
        run = ids_of_run entry (next t.front) (values_of t.log) h.run;
        front = h.front;
        tells = j.mirrors.tells;
        snap_run = j.mirrors.snap_run;
        applied = j.applied ∙ (sym (take_again (next s.committed) (whole t)) ∙ ap (λ n. take n (whole t)) (sym l));
        recorded = omega (arith, l, r);
      }

  -- the whole log ends with the ids
  pub whole_end : (t : Store NID N E) (s : RaftState NID N) → Shape entry t s → length (whole t) ≡ next (last s.ids)
  whole_end t s h =
      let xs : List E = values_of t.log in
      let n : ℕ = length t.snap in
      let a : next t.front + length (under (index_of entry) n xs) ≡ n = length_under (index_of entry) (next t.front) n xs h.run h.front (omega (arith, h.end, h.settled, h.top)) in
      let b : length (under (index_of entry) n xs ++ onward (index_of entry) n xs) ≡ length xs = ap (λ ys. length ys) (split (index_of entry) (next t.front) n xs h.run) in
      let c : length (under (index_of entry) n xs ++ onward (index_of entry) n xs) ≡ length (under (index_of entry) n xs) + length (onward (index_of entry) n xs) = length-append (under (index_of entry) n xs) (onward (index_of entry) n xs) in
      let d : length (whole t) ≡ n + length (onward (index_of entry) n xs) = ap (λ ys. length ys) h.whole_is ∙ length-append t.snap (onward (index_of entry) n xs) in
      omega (arith, a, b, c, d, h.end)

  -- exactly what is committed is applied
  pub applied_length : (t : Store NID N E) (s : RaftState NID N) → InStep entry t s → length t.applied ≡ next s.committed
  applied_length t s j =
      let h : Shape entry t s = shape_of entry t s j.mirrors j.marks in
      let r : Run (index_of entry) 0 (whole t) = whole_run entry t s h in
      let c : ℕ = next s.committed in
      let q : 0 + length (under (index_of entry) c (whole t)) ≡ c = length_under (index_of entry) 0 c (whole t) r (omega arith) (omega (arith, h.top, whole_end t s h)) in
      ap (λ es. length es) (j.applied ∙ take_under (index_of entry) c (whole t) r) ∙ omega (arith, q)

-- a state by what is stored
module _ {NID N E : Type 0} (entry : RaftEntry.Ghosts E NID N) where
  pub behind_run : (f : Option (LogId NID)) (xs : List E) → Run (index_of entry) (next f) xs → IsRun (first_index f) (ids_behind entry f xs)
  behind_run None xs r = ids_of_run entry 0 xs r
  behind_run (Some x) xs r = (refl, ids_of_run entry (x.index + 1) xs r)

  pub held_run : (t : Store NID N E) (v : Vote NID) (ids : List (LogId NID)) (f : Option (LogId NID)) → Holds entry t v ids f → Run (index_of entry) (next t.front) (values_of t.log) → IsRun (first_index f) ids
  held_run t v ids f h r = subst (λ g. IsRun (first_index g) ids) (sym h.purged_is) (subst (IsRun (first_index t.front)) (sym h.ids_are) (behind_run t.front (values_of t.log) r))

  pub held_end : (t : Store NID N E) (v : Vote NID) (ids : List (LogId NID)) (f : Option (LogId NID)) → Holds entry t v ids f → Run (index_of entry) (next t.front) (values_of t.log) → next (last ids) ≡ next t.front + length (values_of t.log)
  held_end t v ids f h r = ap (λ ids. next (last ids)) h.ids_are ∙ front_end entry t.front (values_of t.log) (behind_run t.front (values_of t.log) r)

module _ {X : Type 0} where
  -- a whole list is taken
  pub take_all : (xs : List X) → take (length xs) xs ≡ xs
  take_all [] = refl
  take_all (x ∷ xs) = ap (λ ys. x ∷ ys) (take_all xs)

  pub take_append : (n : ℕ) (xs ys : List X) → n ≤ length xs → take n (xs ++ ys) ≡ take n xs
  take_append zero [] [] h = refl
  take_append zero [] (y ∷ ys) h = refl
  take_append zero (x ∷ xs) ys h = refl
  take_append (suc n) [] ys h = absurd (omega (arith, h))
  take_append (suc n) (x ∷ xs) ys h = ap (λ zs. x ∷ zs) (take_append n xs ys (omega (arith, h)))

  pub take_take : (n m : ℕ) (xs : List X) → n ≤ m → take n (take m xs) ≡ take n xs
  take_take zero zero [] h = refl
  take_take zero zero (x ∷ xs) h = refl
  take_take zero (suc m) [] h = refl
  take_take zero (suc m) (x ∷ xs) h = refl
  take_take (suc n) zero xs h = absurd (omega (arith, h))
  take_take (suc n) (suc m) [] h = refl
  take_take (suc n) (suc m) (x ∷ xs) h = ap (λ ys. x ∷ ys) (take_take n m xs (omega (arith, h)))

-- what a node has past an index is that of its map
module _ {NID N E : Type 0} (entry : RaftEntry.Ghosts E NID N) where
  pub onward_whole : (t : Store NID N E) (s : RaftState NID N) (i : ℕ) → Shape entry t s → length t.snap ≤ i → onward (index_of entry) i (whole t) ≡ onward (index_of entry) i (values_of t.log)
  onward_whole t s i h l =
      ap (onward (index_of entry) i) h.whole_is
      ∙ (filter-append (λ e. not (nat_lt (index_of entry e) i)) t.snap (onward (index_of entry) (length t.snap) (values_of t.log))
      ∙ (ap (λ ys. ys ++ onward (index_of entry) i (onward (index_of entry) (length t.snap) (values_of t.log))) (onward_none (index_of entry) 0 i t.snap (omega (arith, l)) h.snap_run)
      ∙ onward_onward (index_of entry) (next t.front) (length t.snap) i (values_of t.log) l h.run))
