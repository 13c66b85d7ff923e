-- Commits.
use Rattle.std.proofs.Common.{ℕ, ◌+◌, ◌≤◌, ◌≡◌, ◌⊎◌, inl, inr, ⊎_elim, Bool, true, false, cond, not, List, [], ◌∷◌, ◌++◌, length, map, arith, refl, sym, ap, ◌∙◌, take, Option, Some, None}
use Rattle.std.specs.Prelude.{nat_lt, nat_le, filter, ◌&&◌, if◌then◌else◌}
use Rattle.std.specs.Map.{values_of}
use Rattle.std.specs.declared.cmp.Ordering.{Ordering}
use Rattle.std.specs.Ordering.{is_le}
use Rattle.std.proofs.lemmas.Bool.{cases_lt, lt-ltb, le-ltb, le-leb, lt-leb, ne_eqb}
use Rattle.raft_state.specs.declared.config.RaftEntry
use Rattle.raft_state.specs.declared.ids.LogId.{LogId}
use Rattle.raft_state.specs.declared.state.RaftState.{RaftState}
use Rattle.raft_state.specs.declared.membership.StoredMembership.{StoredMembership}
use Rattle.raft_state.specs.Order.{next, last_id_cmp}
use Rattle.raft_state.specs.Log.{at}
use Rattle.raft_state.specs.LogLaws.{at-append, at-from}
use Rattle.raft_state.specs.State.{settle}
use Rattle.std.specs.Option.{option_or}
use Rattle.raft_state.specs.LogLaws.{IsRun}
use Rattle.raft_store.specs.Store.{Store, past, whole, between, due, index_of}
use Rattle.raft_store.specs.Mirror.{Mirrors, keyed, ids_of}
use Rattle.proof_mirror.specs.Ready.{Marks, InStep}
use Rattle.raft_store.proofs.Lists.{Run, under, onward, split, run_under, filter_map_with, filter_ext, filter_both, filter_with, values_with}
use Rattle.proof_mirror.proofs.Puts.{map_more}
use Rattle.proof_mirror.proofs.Shape.{Shape, shape_of, whole_run, take_under, applied_length, onward_whole, ids_behind, length_ids, past_keyed}
use Rattle.proof_mirror.proofs.Places.{at_reaches, none_past_end}

module _ {X : Type 0} where
  filter_and : (p q : X → Bool) (xs : List X) → filter (λ x. p x && q x) xs ≡ filter p (filter q xs)
  filter_and p q [] = refl
  filter_and p q (x ∷ xs) = go (p x) (q x) refl refl (filter_and p q xs) where
    go : (a b : Bool) → p x ≡ a → q x ≡ b → filter (λ x. p x && q x) xs ≡ filter p (filter q xs) → cond (a && b) (x ∷ filter (λ x. p x && q x) xs) (filter (λ x. p x && q x) xs) ≡ filter p (cond b (x ∷ filter q xs) (filter q xs))
    go true true e f h = rw e (ap (λ ys. x ∷ ys) h)
    go true false e f h = h
    go false true e f h = rw e h
    go false false e f h = h

module _ {X : Type 0} (index : X → ℕ) where
  under_again : (i k : ℕ) (xs : List X) → k ≤ i → under index k (under index i xs) ≡ under index k xs
  under_again i k [] h = refl
  under_again i k (x ∷ xs) h =
      ⊎_elim
      (λ l. rw (lt-ltb (index x) i l)
      (elim (nat_lt (index x) k) as (λ b. cond b (x ∷ under index k (under index i xs)) (under index k (under index i xs)) ≡ cond b (x ∷ under index k xs) (under index k xs)) [
        | true ↦ ap (λ ys. x ∷ ys) (under_again i k xs h)
        | false ↦ under_again i k xs h
      ]))
      (λ l. rw (le-ltb (index x) i l, le-ltb (index x) k (omega (arith, l, h))) (under_again i k xs h))
      (cases_lt (index x) i)

from_on : (n k : ℕ) → nat_le n k ≡ not (nat_lt k n)
from_on n k = ⊎_elim (λ l. rw (lt-ltb k n l, lt-leb n k (omega (arith, l))) refl) (λ l. rw (le-ltb k n l, le-leb n k (omega (arith, l))) refl) (cases_lt k n)

module _ {NID N E : Type 0} (entry : RaftEntry.Ghosts E NID N) where
  -- what a range of the map has
  between_is : (t : Store NID N E) (m n : ℕ) → t.log ≡ keyed entry (values_of t.log) → between m n t.log ≡ onward (index_of entry) m (under (index_of entry) n (values_of t.log))
  between_is t m n k =
      let xs : List E = values_of t.log in
      ap (between m n) k
      ∙ (ap values_of (filter_with (index_of entry) (λ i. nat_le m i && nat_lt i n) xs)
      ∙ (values_with (index_of entry) (filter (λ e. nat_le m (index_of entry e) && nat_lt (index_of entry e) n) xs)
      ∙ (filter_and (λ e. nat_le m (index_of entry e)) (λ e. nat_lt (index_of entry e) n) xs
      ∙ filter_ext (λ e. nat_le m (index_of entry e)) (λ e. not (nat_lt (index_of entry e) m)) (under (index_of entry) n xs) (λ e. from_on m (index_of entry e)))))

  -- what is due brings what was applied up to the committed id
  due_applies : (t : Store NID N E) (s : RaftState NID N) (x : LogId NID) → InStep entry t s → next s.committed ≤ x.index → t.applied ++ due t x ≡ take (x.index + 1) (whole t)
  due_applies t s x j l =
      let h : Shape entry t s = shape_of entry t s j.mirrors j.marks in
      let r : Run (index_of entry) 0 (whole t) = whole_run entry t s h in
      let c : ℕ = next s.committed in
      let W : List E = whole t in
      let V : List E = under (index_of entry) (x.index + 1) W in
      let d : due t x ≡ onward (index_of entry) c V =
      between_is t (length t.applied) (x.index + 1) j.mirrors.log.keys
      ∙ (ap (λ n. onward (index_of entry) n (under (index_of entry) (x.index + 1) (values_of t.log))) (applied_length entry t s j)
      ∙ (filter_both (λ e. not (nat_lt (index_of entry e) c)) (λ e. nat_lt (index_of entry e) (x.index + 1)) (values_of t.log)
      ∙ (ap (under (index_of entry) (x.index + 1)) (sym (onward_whole entry t s c h h.settled))
      ∙ filter_both (λ e. nat_lt (index_of entry e) (x.index + 1)) (λ e. not (nat_lt (index_of entry e) c)) W))) in
      let a : t.applied ≡ under (index_of entry) c V = j.applied ∙ (take_under (index_of entry) c W r ∙ sym (under_again (index_of entry) (x.index + 1) c W (omega (arith, l)))) in
      ap (λ ys. t.applied ++ ys) d
      ∙ (ap (λ ys. ys ++ onward (index_of entry) c V) a
      ∙ (split (index_of entry) 0 c V (run_under (index_of entry) 0 (x.index + 1) W r)
      ∙ sym (take_under (index_of entry) (x.index + 1) W r)))

  -- a state that committed x
  pub settled_parts : (cmp : NID → NID → Ordering) (P : RaftState NID N → Type 0) (s : RaftState NID N) (x : LogId NID) → P (record s { committed = Some x }) → P (record s { cm = s.em; committed = Some x }) → P (record (settle cmp s (Some x)) { committed = Some x })
  settled_parts cmp P s x p q = go (is_le (last_id_cmp cmp s.em.log_id (Some x))) where
    go : (b : Bool) → P (record (if b then record s { cm = s.em } else s) { committed = Some x })
    go true = q
    go false = p

  -- an id of the log past what is committed
  pub step_commit : (cmp : NID → NID → Ordering) (t : Store NID N E) (s : RaftState NID N) (x : LogId NID) → InStep entry t s → at s.ids x.index ≡ Some x → next s.committed ≤ x.index
      → InStep entry (record t { saved = Some x; applied = t.applied ++ due t x }) (record (settle cmp s (Some x)) { committed = Some x })
  step_commit cmp t s x j a l =
      let m : Mirrors entry t s = j.mirrors in
      let k : Marks s = j.marks in
      let u : Store NID N E = record t { saved = Some x; applied = t.applied ++ due t x } in
      let d : t.applied ++ due t x ≡ take (x.index + 1) (whole t) = due_applies t s x j l in
      let part : (cm : StoredMembership NID N) → ((cm ≡ s.em) ⊎ (cm ≡ s.cm)) → InStep entry u (record s { cm = cm; committed = Some x }) =
      λ cm o. record {
        mirrors = record {
          log = record { vote_is = m.log.vote_is; ids_are = m.log.ids_are; purged_is = m.log.purged_is; keys = m.log.keys };
          meta = m.meta;
          tells = m.tells;
          snap_run = m.snap_run;
          em = m.em;
          cm = ⊎_elim (λ e. inl e) (λ e. ⊎_elim (λ f. inl (e ∙ f)) (λ f. inr (e ∙ f)) m.cm) o;
        };
        applied = d;
        marks = record { run = k.run; purged = k.purged; target = k.target; snapshot = omega (arith, k.snapshot, l); committed = at_reaches _ x.index s.ids x k.run a };
      } in
      settled_parts cmp (InStep entry u) s x (part s.cm (inr refl)) (part s.em (inl refl))

  -- an id that is stored past the front stands in the map
  pub behind_at : (f : Option (LogId NID)) (xs : List E) (i : ℕ) → next f ≤ i → at (ids_behind entry f xs) i ≡ at (map entry.id_of xs) i
  behind_at None xs i h = refl
  behind_at (Some y) xs i h = rw (ne_eqb y.index i (λ e. omega (arith, e, h))) refl

  -- and past the snapshot in the whole log
  pub whole_behind : (t : Store NID N E) (i : ℕ) → t.log ≡ keyed entry (values_of t.log) → IsRun 0 (map entry.id_of t.snap) → next t.front ≤ length t.snap → length t.snap ≤ i → at (map entry.id_of (whole t)) i ≡ at (ids_of entry t) i
  whole_behind t i k r f l =
      let xs : List E = values_of t.log in
      let n : ℕ = length t.snap in
      ap (λ es. at (map entry.id_of es) i) (ap (λ es. t.snap ++ es) (ap (past n) k ∙ past_keyed entry n xs))
      ∙ (ap (λ ids. at ids i) (sym (map_more entry t.snap (onward (index_of entry) n xs)))
      ∙ (at-append (map entry.id_of t.snap) (map entry.id_of (onward (index_of entry) n xs)) i
      ∙ (ap (λ (o : Option (LogId NID)). option_or o (at (map entry.id_of (onward (index_of entry) n xs)) i)) (none_past_end 0 i (map entry.id_of t.snap) r (omega (arith, length_ids entry t.snap, l)))
      ∙ (ap (λ ids. at ids i) (sym (filter_map_with entry.id_of (λ y. not (nat_lt y.index n)) xs))
      ∙ (at-from n (map entry.id_of xs) i
      ∙ (ap (λ b. if not b then at (map entry.id_of xs) i else None) (le-ltb i n l)
      ∙ sym (behind_at t.front xs i (omega (arith, f, l)))))))))

  pub whole_at : (t : Store NID N E) (s : RaftState NID N) (i : ℕ) → Mirrors entry t s → Shape entry t s → length t.snap ≤ i → at (map entry.id_of (whole t)) i ≡ at s.ids i
  whole_at t s i m h l = whole_behind t i m.log.keys m.snap_run h.front l ∙ ap (λ ids. at ids i) (sym m.log.ids_are)
