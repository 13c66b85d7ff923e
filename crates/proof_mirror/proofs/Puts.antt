-- Votes, appends and commits.
use Rattle.std.proofs.Common.{ℕ, ◌+◌, ◌-◌, ◌≡◌, not, List, [], ◌∷◌, ◌++◌, length, map, drop, arith, refl, sym, ap, ◌∙◌, subst, take, Option, Some, None, append_assoc, length-append}
use Rattle.std.specs.Prelude.{nat_lt, fold}
use Rattle.std.specs.Map.{values_of}
use Rattle.std.proofs.lemmas.List.Elements.{filter-append}
use Rattle.raft_state.specs.declared.config.RaftEntry
use Rattle.raft_state.specs.declared.ids.LogId.{LogId}
use Rattle.raft_state.specs.declared.state.RaftState.{RaftState}
use Rattle.raft_state.specs.Order.{next}
use Rattle.raft_state.specs.Log.{last}
use Rattle.raft_state.specs.State.{extend}
use Rattle.raft_steps.specs.FollowingHandler.{memberships_in, with_entries}
use Rattle.raft_store.specs.Store.{Store, past, whole, index_of, put}
use Rattle.raft_store.specs.Mirror.{Mirrors, keyed, ends}
use Rattle.raft_store.proofs.Lists.{Run, onward, run_append, onward_all, values_with, put_all}
use Rattle.proof_mirror.proofs.Ends.{Two, fold_memberships, ends-drop, push_two, memberships-append}
use Rattle.proof_mirror.specs.Ready.{InStep}
use Rattle.proof_mirror.proofs.Shape.{Shape, shape_of, whole_end, held_run, held_end, take_append, ids_behind, past_keyed}

module _ {NID N E : Type 0} (entry : RaftEntry.Ghosts E NID N) where
  -- a state that took entries
  abbrev pub grown : RaftState NID N → List E → RaftState NID N
  grown s es = record s {
    ids = s.ids ++ map entry.id_of es;
    cm = (ends s.cm s.em (memberships_in entry es)).0;
    em = (ends s.cm s.em (memberships_in entry es)).1;
  }

  pub with_is : (s : RaftState NID N) (es : List E) → with_entries entry s es ≡ grown s es
  with_is s es =
      let ms = memberships_in entry es in
      fold_memberships (extend s (map entry.id_of es)) (drop (length ms - 2) ms)
      ∙ ap (λ p. let r : RaftState NID N = record s { ids = s.ids ++ map entry.id_of es; cm = p.0; em = p.1 } in r) (ends-drop s.cm s.em ms)

  -- entries that follow on the map's stand behind them
  pub put_stored : (t : Store NID N E) (n : ℕ) (es : List E) → t.log ≡ keyed entry (values_of t.log) → Run (index_of entry) (next t.front) (values_of t.log) → n ≡ next t.front + length (values_of t.log) → Run (index_of entry) n es
      → fold (put entry) t.log es ≡ keyed entry (values_of t.log ++ es)
  put_stored t n es k q e r = ap (λ log. fold (put entry) log es) k ∙ put_all (index_of entry) (next t.front) n (values_of t.log) es q e r

  put_log : (t : Store NID N E) (s : RaftState NID N) (es : List E) → Mirrors entry t s → Shape entry t s → Run (index_of entry) (next (last s.ids)) es → fold (put entry) t.log es ≡ keyed entry (values_of t.log ++ es)
  put_log t s es m h r = put_stored t (next (last s.ids)) es m.log.keys h.run h.end r

  pub map_more : (xs ys : List E) → map entry.id_of xs ++ map entry.id_of ys ≡ map entry.id_of (xs ++ ys)
  map_more [] ys = refl
  map_more (x ∷ xs) ys = ap (λ zs. entry.id_of x ∷ zs) (map_more xs ys)

  pub behind_more : (f : Option (LogId NID)) (xs ys : List E) → ids_behind entry f xs ++ map entry.id_of ys ≡ ids_behind entry f (xs ++ ys)
  behind_more None xs ys = map_more xs ys
  behind_more (Some x) xs ys = ap (λ zs. x ∷ zs) (map_more xs ys)

  -- the whole log grows by them
  pub put_whole : (t : Store NID N E) (s : RaftState NID N) (es : List E) → Mirrors entry t s → Shape entry t s → Run (index_of entry) (next (last s.ids)) es → whole (record t { log = fold (put entry) t.log es }) ≡ whole t ++ es
  put_whole t s es m h r =
      let xs : List E = values_of t.log in
      let n : ℕ = length t.snap in
      let p : past n (fold (put entry) t.log es) ≡ onward (index_of entry) n xs ++ es =
      ap (past n) (put_log t s es m h r) ∙ (past_keyed entry n (xs ++ es)
      ∙ (filter-append (λ e. not (nat_lt (index_of entry e) n)) xs es
      ∙ ap (λ ys. onward (index_of entry) n xs ++ ys) (onward_all (index_of entry) (next (last s.ids)) n es (omega (arith, h.settled, h.top)) r))) in
      ap (λ ys. t.snap ++ ys) p ∙ (sym (append_assoc t.snap (onward (index_of entry) n xs) es) ∙ ap (λ ys. ys ++ es) (sym h.whole_is))

  -- entries that follow on
  pub put_mirrors : (t : Store NID N E) (s : RaftState NID N) (es : List E) → Mirrors entry t s → Shape entry t s → Run (index_of entry) (next (last s.ids)) es
      → Mirrors entry (record t { log = fold (put entry) t.log es }) (grown s es)
  put_mirrors t s es m h r =
      let xs : List E = values_of t.log in
      let l : fold (put entry) t.log es ≡ keyed entry (xs ++ es) = put_log t s es m h r in
      let v : values_of (fold (put entry) t.log es) ≡ xs ++ es = ap values_of l ∙ values_with (index_of entry) (xs ++ es) in
      let U : List E = whole (record t { log = fold (put entry) t.log es }) in
      let q : memberships_in entry U ≡ memberships_in entry (whole t) ++ memberships_in entry es =
      ap (memberships_in entry) (put_whole t s es m h r) ∙ memberships-append entry (whole t) es in
      let two : Two (ends s.cm s.em (memberships_in entry es)).0 (ends s.cm s.em (memberships_in entry es)).1 (memberships_in entry U) =
      subst (Two (ends s.cm s.em (memberships_in entry es)).0 (ends s.cm s.em (memberships_in entry es)).1) (sym q) (push_two s.cm s.em (memberships_in entry (whole t)) (memberships_in entry es) h.two) in
      record {
        log = record {
          vote_is = m.log.vote_is;
          ids_are = ap (λ ids. ids ++ map entry.id_of es) m.log.ids_are ∙ (behind_more t.front xs es ∙ ap (λ ys. ids_behind entry t.front ys) (sym v));
          purged_is = m.log.purged_is;
          keys = l ∙ ap (keyed entry) (sym v);
        };
        meta = m.meta;
        tells = m.tells;
        snap_run = m.snap_run;
        em = two.em_is;
        cm = two.cm_is;
      }

  -- the log's end moves by as many
  pub grown_end : (t : Store NID N E) (s : RaftState NID N) (es : List E) → InStep entry t s → Run (index_of entry) (next (last s.ids)) es → next (last (s.ids ++ map entry.id_of es)) ≡ next (last s.ids) + length es
  grown_end t s es j r =
      let h : Shape entry t s = shape_of entry t s j.mirrors j.marks in
      let u : Store NID N E = record t { log = fold (put entry) t.log es } in
      let xs : List E = values_of t.log in
      let v : values_of (fold (put entry) t.log es) ≡ xs ++ es = ap values_of (put_log t s es j.mirrors h r) ∙ values_with (index_of entry) (xs ++ es) in
      let q : Run (index_of entry) (next t.front) (values_of u.log) = subst (Run (index_of entry) (next t.front)) (sym v) (run_append (index_of entry) (next t.front) (next (last s.ids)) xs es h.end h.run r) in
      let d : next (last (grown s es).ids) ≡ next t.front + length (values_of u.log) = held_end entry u s.vote (grown s es).ids s.purged (put_mirrors t s es j.mirrors h r).log q in
      let f : length (values_of u.log) ≡ length xs + length es = ap (λ ys. length ys) v ∙ length-append xs es in
      omega (arith, d, f, h.end)

  -- a store in step takes them
  pub step_grown : (t : Store NID N E) (s : RaftState NID N) (es : List E) → InStep entry t s → Run (index_of entry) (next (last s.ids)) es
      → InStep entry (record t { log = fold (put entry) t.log es }) (grown s es)
  step_grown t s es j r =
      let h : Shape entry t s = shape_of entry t s j.mirrors j.marks in
      let u : Store NID N E = record t { log = fold (put entry) t.log es } in
      let m : Mirrors entry u (grown s es) = put_mirrors t s es j.mirrors h r in
      let xs : List E = values_of t.log in
      let v : values_of (fold (put entry) t.log es) ≡ xs ++ es = ap values_of (put_log t s es j.mirrors h r) ∙ values_with (index_of entry) (xs ++ es) in
      let q : Run (index_of entry) (next t.front) (values_of u.log) = subst (Run (index_of entry) (next t.front)) (sym v) (run_append (index_of entry) (next t.front) (next (last s.ids)) xs es h.end h.run r) in
      let d : next (last (grown s es).ids) ≡ next (last s.ids) + length es = grown_end t s es j r in
      record {
        mirrors = m;
        applied = j.applied ∙ sym (ap (take (next s.committed)) (put_whole t s es j.mirrors h r) ∙ take_append (next s.committed) (whole t) es (omega (arith, h.top, whole_end entry t s h)));
        marks = record {
          run = held_run entry u s.vote (grown s es).ids s.purged m.log q;
          purged = j.marks.purged;
          target = j.marks.target;
          snapshot = j.marks.snapshot;
          committed = omega (arith, d, h.top);
        };
      }

  -- the same at the state that the step makes
  pub step_put : (t : Store NID N E) (s : RaftState NID N) (es : List E) → InStep entry t s → Run (index_of entry) (next (last s.ids)) es
      → InStep entry (record t { log = fold (put entry) t.log es }) (with_entries entry s es)
  step_put t s es j r = subst (InStep entry (record t { log = fold (put entry) t.log es })) (sym (with_is s es)) (step_grown t s es j r)
