-- What a leader proposes is what is executed: its store holds the values at their indexes, and so do state machines.
use Rattle.std.proofs.Common.{Equal, Greater, Less, ℕ, zero, suc, ◌+◌, ◌<◌, ◌≤◌, ◌≡◌, ◌∙◌, inl, inr, not, List, [], ◌∷◌, ◌++◌, filter, length, map, take, arith, refl, sym, ap, subst, Option, Some}
use Rattle.std.specs.Prelude.{fold, nat_lt, slice_get}
use Rattle.std.specs.BTreeMap.{insert_entry}
use Rattle.std.specs.List.{AllByRecursion}
use Rattle.std.specs.Map.{values_of}
use Rattle.std.specs.declared.cmp.Ordering.{Ordering}
use Rattle.std.specs.Ordering.{match_ordering, nat_cmp}
use Rattle.std.proofs.lemmas.Bool.Decides.{nat_tests}
use Rattle.std.proofs.lemmas.Cmp.{nat_cmp_total}
use Rattle.std.proofs.lemmas.List.{length-map}
use Rattle.proof_deeds.specs.raft_state.declared.ids.LeaderId.{LeaderId}
use Rattle.proof_deeds.specs.raft_state.declared.ids.LogId.{LogId}
use Rattle.proof_deeds.specs.raft_state.Log.{last}
use Rattle.proof_deeds.specs.raft_state.LogLaws.{IsRun}
use Rattle.proof_deeds.specs.raft_state.Order.{next}
use Rattle.proof_deeds.proofs.raft_state_proofs.Orders.{within_next}
use Rattle.proof_deeds.specs.raft_proposer.Leader.{numbered}
use Rattle.proof_deeds.specs.raft_store.declared.entry.Entry.{Entry}
use Rattle.proof_deeds.specs.raft_store.declared.entry.Payload.TheVariants as payload
use Rattle.proof_deeds.specs.raft_store.declared.entry.Value.{Value}
use Rattle.proof_deeds.specs.raft_store.Entries.{entry_meaning}
use Rattle.proof_deeds.specs.raft_store.Mirror.{Mirrors, keyed}
use Rattle.proof_deeds.specs.raft_store.Store.{past as past_of, put, whole}
use Rattle.proof_deeds.specs.raft_store.Types.{WorldStore}
use Rattle.proof_deeds.proofs.raft_store_proofs.Lists.{next_last_0}
use Rattle.proof_deeds.proofs.raft_store_proofs.Numbered.{run_at}
use Rattle.proof_deeds.specs.proof_mirror.Ready.{Shaped}
use Rattle.proof_deeds.proofs.proof_mirror_proofs.Shape.{behind_run, front_end, run_of_ids}
use Rattle.proof_deeds.specs.raft_schedule.declared.event.Event.{Event}
use Rattle.proof_deeds.specs.raft_calls.LeaderCalls.{value_entry}
use Rattle.proof_deeds.specs.raft_node.declared.given.Given.{Given}
use Rattle.proof_deeds.specs.raft_node.Net.{NodeView}
use Rattle.proof_deeds.specs.raft_node.Runs.{world_after}
use Rattle.proof_deeds.specs.raft_node.Safety.{AppliedAgree}
use Rattle.proof_deeds.specs.raft_node.WellFormed.{IsWellFormed}
use Rattle.proof_deeds.specs.Images.{setup_of}
use Rattle.proof_deeds.proofs.AppendFitting.{Settled}
use Rattle.proof_deeds.proofs.Moments.{Stood, stood_of}
use Rattle.proof_deeds.proofs.Promised.{applied_agree}
use Rattle.proof_deeds.proofs.Proved.{followed}
use Rattle.proof_deeds.proofs.Runs.{whole_runs}
use Rattle.proof_progress.specs.CatchUps.{log_len}
use Rattle.proof_progress.specs.Commits.{HasValueAt, HasValues, HoldsValues}
use Rattle.proof_progress.specs.Continuations.{At}
use Rattle.proof_progress.specs.Exchanges.{HasEntry, IsLeft, LeadsAt}
use Rattle.proof_progress.proofs.Chosen.{at_contains}
use Rattle.proof_progress.proofs.Exchanging.{engine_follows, node_follows}
use Rattle.proof_progress.proofs.LeadersKnow.{sound_led}
use Rattle.proof_progress.proofs.WorksOff.{filtered}

-- Entries of a log

each_has : (P : ℕ × Entry → Type 0) (log : List (ℕ × Entry)) (p : ℕ × Entry) → AllByRecursion P log → HasEntry log p → P p
each_has P [] p a h = absurd h
each_has P (x ∷ xs) p a (inl q) = subst P q a.0
each_has P (x ∷ xs) p a (inr q) = each_has P xs p a.1 q

all_have : (P : ℕ × Entry → Type 0) (log : List (ℕ × Entry)) → ((p : ℕ × Entry) → HasEntry log p → P p) → AllByRecursion P log
all_have P [] f = tt
all_have P (x ∷ xs) f = (f x (inl refl), all_have P xs (λ p h. f p (inr h)))

-- what is left of a store holds the values still
pub holds_left : {s t : WorldStore} (first : ℕ) (values : List Value) → IsLeft s t → HoldsValues s first values → HoldsValues t first values
holds_left {s} {t} first values l h = record {
  snap = subst (λ (es : List Entry). length es ≤ first) (sym l.snap) h.snap;
  log = all_have (HasValueAt first values) t.log (λ p k. each_has (HasValueAt first values) s.log p h.log (l.log p k));
}

module _ (P : ℕ × Entry → Type 0) where
  inserted : (log : List (ℕ × Entry)) (k : ℕ) (e : Entry) → AllByRecursion P log → P (k, e) → AllByRecursion P (insert_entry nat_cmp log k e)
  inserted [] k e h i = (i, tt)
  inserted (x ∷ xs) k e h i = go (nat_cmp k x.0) refl (inserted xs k e h.1 i)
    where
      same : (a b : ℕ) → nat_cmp a b ≡ Equal → a ≡ b
      same a b q = grind (arith, nat_tests)

      go : (r : Ordering) → nat_cmp k x.0 ≡ r → AllByRecursion P (insert_entry nat_cmp xs k e) → AllByRecursion P (match_ordering r ((k, e) ∷ x ∷ xs) ((x.0, e) ∷ xs) (x ∷ insert_entry nat_cmp xs k e))
      go Less q f = (i, h)
      go Equal q f = (subst (λ j. P (j, e)) (same k x.0 q) i, h.1)
      go Greater q f = (h.0, f)

  puts : (es : List Entry) (log : List (ℕ × Entry)) → AllByRecursion P log → AllByRecursion (λ (e : Entry). P (e.log_id.index, e)) es → AllByRecursion P (fold (put entry_meaning) log es)
  puts [] log h k = h
  puts (e ∷ es) log h k = puts es (put entry_meaning log e) (inserted log e.log_id.index e h k.0) k.1

-- The values

-- entries with the values, numbered from an index on
numbered_values : (d : LeaderId ℕ) (first : ℕ) (values : List Value) (j n : ℕ) (xs : List Value) → n ≡ first + j → ((i : ℕ) → slice_get values (j + i) ≡ slice_get xs i) → AllByRecursion (λ (e : Entry). HasValueAt first values (e.log_id.index, e)) (numbered entry_meaning d n (map value_entry xs))
numbered_values d first values j n [] q f = tt
numbered_values d first values j n (x ∷ xs) q f = (
  λ i y at is. ap (λ (v : Value). payload.Value v) (one x y (sym (f 0) ∙ (ap (slice_get values) (here first j n i q at) ∙ is))),
  numbered_values d first values (suc j) (n + 1) xs (plus n first j q) (λ i. ap (slice_get values) (moved j i) ∙ f (suc i)),
)
  where
    one : (a b : Value) → ◌≡◌ {A = Option Value} (Some a) (Some b) → a ≡ b
    one a b e = cc

    here : (first j n i : ℕ) → n ≡ first + j → n ≡ first + i → j + 0 ≡ i
    here first j n i p q = omega (arith, p, q)

    plus : (n first j : ℕ) → n ≡ first + j → n + 1 ≡ first + suc j
    plus n first j q = omega (arith, q)

    moved : (j i : ℕ) → suc j + i ≡ j + suc i
    moved j i = omega arith

-- entries below the first index needn't
below_keyed : (first : ℕ) (values : List Value) (n : ℕ) (es : List Entry) → IsRun n (map entry_meaning.id_of es) → n + length es ≤ first → AllByRecursion (HasValueAt first values) (keyed entry_meaning es)
below_keyed first values n [] r l = tt
below_keyed first values n (e ∷ es) r l = ((λ i x at is. absurd (low e.log_id.index n (length es) i r.0 l at)), below_keyed first values (n + 1) es r.1 (omega (arith, l)))
  where
    low : (k n c i : ℕ) → k ≡ n → n + suc c ≤ first → k ≡ first + i → ⊥
    low k n c i p l q = omega (arith, p, l, q)

-- A leader's store, once it has appended its proposal

module _ (given : Given) (wf : IsWellFormed given) (past : List Event) (now n : ℕ) (l : LeadsAt (world_after given past) now n) where
  shaped : Shaped entry_meaning l.node.store
  shaped = (node_follows given wf past n l.node l.at).shaped

  mirrors : Mirrors entry_meaning l.node.store l.engine.machine.core.state
  mirrors = (engine_follows given wf past n l.node l.at l.engine l.runs).in_step.mirrors

  end_is : log_len l ≡ next l.node.store.front + length (values_of l.node.store.log)
  end_is =
      ap (λ (xs : List (LogId ℕ)). next (last xs)) mirrors.log.ids_are
      ∙ front_end entry_meaning l.node.store.front (values_of l.node.store.log) (behind_run entry_meaning l.node.store.front (values_of l.node.store.log) (run_of_ids entry_meaning (next l.node.store.front) (values_of l.node.store.log) shaped.run))

  snap_low : length l.node.store.snap ≤ log_len l
  snap_low =
      let s = (sound_led given wf past now n l).sound in
      let a : next l.engine.machine.core.state.snap.last_log_id ≤ next l.engine.machine.core.state.committed = within_next nat_cmp nat_cmp_total l.engine.machine.core.state.snap.last_log_id l.engine.machine.core.state.committed s.marks.at_snapshot in
      let b : next l.engine.machine.core.state.committed ≤ log_len l = within_next nat_cmp nat_cmp_total l.engine.machine.core.state.committed (last l.engine.machine.core.state.ids) s.marks.at_committed in
      let c : next l.engine.machine.core.state.snap.last_log_id ≡ length l.node.store.snap =
      ap (λ m. next m.last_log_id) mirrors.meta
      ∙ (ap next shaped.tells.last_id ∙ (next_last_0 (map entry_meaning.id_of l.node.store.snap) shaped.snap_run ∙ length-map l.node.store.snap entry_meaning.id_of)) in
      omega (arith, a, b, c)

  -- it holds the values of the entries that it is given, behind what it had
  pub holds_given : (d : LeaderId ℕ) (first : ℕ) (values : List Value) → first ≡ log_len l
      → HoldsValues (record l.node.store { log = fold (put entry_meaning) l.node.store.log (numbered entry_meaning d first (map value_entry values)) }) (log_len l) values
  holds_given d first values q = record {
    snap = snap_low;
    log =
        puts (HasValueAt (log_len l) values) (numbered entry_meaning d first (map value_entry values)) l.node.store.log
        (subst (AllByRecursion (HasValueAt (log_len l) values)) (sym shaped.keys)
        (below_keyed (log_len l) values (next l.node.store.front) (values_of l.node.store.log) shaped.run (let e : log_len l ≡ next l.node.store.front + length (values_of l.node.store.log) = end_is in omega (arith, e))))
        (numbered_values d (log_len l) values 0 first values (let p : first ≡ log_len l = q in omega (arith, p)) (λ i. ap (slice_get values) (none i)));
  }
    where
      none : (i : ℕ) → 0 + i ≡ i
      none i = omega arith

-- What is executed

module _ {X : Type 0} where
  pub some_of : (xs : List X) (k : ℕ) → k < length xs → (x : X) × (slice_get xs k ≡ Some x)
  some_of [] k l = absurd (omega (arith, l))
  some_of (x ∷ xs) zero l = (x, refl)
  some_of (x ∷ xs) (suc k) l = some_of xs k (omega (arith, l))

  pub taken_of : (m k : ℕ) (xs : List X) (x : X) → slice_get (take m xs) k ≡ Some x → slice_get xs k ≡ Some x
  taken_of zero k [] x h = cc
  taken_of zero k (y ∷ ys) x h = cc
  taken_of (suc m) k [] x h = cc
  taken_of (suc m) zero (y ∷ ys) x h = h
  taken_of (suc m) (suc k) (y ∷ ys) x h = taken_of m k ys x h

  behind : (xs ys : List X) (k : ℕ) (x : X) → length xs ≤ k → slice_get (xs ++ ys) k ≡ Some x → (j : ℕ) × (slice_get ys j ≡ Some x)
  behind [] ys k x l h = (k, h)
  behind (y ∷ xs) ys zero x l h = absurd (omega (arith, l))
  behind (y ∷ xs) ys (suc k) x l h = behind xs ys k x (omega (arith, l)) h

from_values : (log : List (ℕ × Entry)) (j : ℕ) (e : Entry) → slice_get (values_of log) j ≡ Some e → (k : ℕ) × HasEntry log (k, e)
from_values [] j e h = cc
from_values (x ∷ xs) zero e h = let q : x.1 ≡ e = one x.1 e h in (x.0, inl (ap (λ (y : Entry). (x.0, y)) q))
  where
    one : (a b : Entry) → ◌≡◌ {A = Option Entry} (Some a) (Some b) → a ≡ b
    one a b e = cc
from_values (x ∷ xs) (suc j) e h = let r = from_values xs j e h in (r.0, inr r.1)

key_of : (es : List Entry) (p : ℕ × Entry) → HasEntry (keyed entry_meaning es) p → p.0 ≡ p.1.log_id.index
key_of [] p h = absurd h
key_of (e ∷ es) p (inl q) = sym (ap (λ (r : ℕ × Entry). r.0) q) ∙ ap (λ (r : ℕ × Entry). r.1.log_id.index) q
key_of (e ∷ es) p (inr q) = key_of es p q

all_values : (applied : List Entry) (first : ℕ) (values : List Value) → ((i : ℕ) (x : Value) → slice_get values i ≡ Some x → (e : Entry) × (slice_get applied (first + i) ≡ Some e) × (e.payload ≡ payload.Value x)) → HasValues applied first values
all_values applied first [] f = tt
all_values applied first (x ∷ xs) f = (
  (let r = f 0 x refl in (r.0, ap (slice_get applied) (none first) ∙ r.1, r.2)),
  all_values applied (first + 1) xs (λ i y h. let r = f (suc i) y h in (r.0, ap (slice_get applied) (plus first i) ∙ r.1, r.2)),
)
  where
    none : (a : ℕ) → a ≡ a + 0
    none a = omega arith

    plus : (a i : ℕ) → (a + 1) + i ≡ a + suc i
    plus a i = omega arith

-- longer lists of executed entries have the values, too
values_more : (xs ys : List Entry) → ((k : ℕ) (e : Entry) → slice_get xs k ≡ Some e → slice_get ys k ≡ Some e) → (first : ℕ) (values : List Value) → HasValues xs first values → HasValues ys first values
values_more xs ys f first [] h = tt
values_more xs ys f first (x ∷ values) h = ((h.0.0, f first h.0.0 h.0.1, h.0.2), values_more xs ys f (first + 1) values h.1)

module _ (given : Given) (wf : IsWellFormed given) (past : List Event) where
  -- a node that holds the values, and has executed so many entries, has executed the values
  pub executed_values : (n : ℕ) (N : NodeView) → At (world_after given past).nodes n N → (first : ℕ) (values : List Value) → HoldsValues N.store first values → first + length values ≤ length N.store.applied → HasValues N.store.applied first values
  executed_values n N at first values h l = all_values N.store.applied first values each
    where
      z : Shaped entry_meaning N.store
      z = (node_follows given wf past n N at).shaped

      within : (vs : List Value) (i : ℕ) (x : Value) → slice_get vs i ≡ Some x → i < length vs
      within [] i x q = cc
      within (y ∷ ys) zero x q = omega arith
      within (y ∷ ys) (suc i) x q = let k : i < length ys = within ys i x q in omega (arith, k)

      low : (a i c m : ℕ) → i < c → a + c ≤ m → a + i < m
      low a i c m p q = omega (arith, p, q)

      each : (i : ℕ) (x : Value) → slice_get values i ≡ Some x → (e : Entry) × (slice_get N.store.applied (first + i) ≡ Some e) × (e.payload ≡ payload.Value x)
      each i x is =
          let r : (e : Entry) × (slice_get N.store.applied (first + i) ≡ Some e) = some_of N.store.applied (first + i) (low first i (length values) (length N.store.applied) (within values i x is) l) in
          let w : slice_get (whole N.store) (first + i) ≡ Some r.0 = taken_of (length N.store.applied) (first + i) (whole N.store) r.0 (ap (λ (es : List Entry). slice_get es (first + i)) (sym z.applied) ∙ r.1) in
          let b : (j : ℕ) × (slice_get (past_of (length N.store.snap) N.store.log) j ≡ Some r.0) =
          behind N.store.snap (past_of (length N.store.snap) N.store.log) (first + i) r.0 (let s : length N.store.snap ≤ first = h.snap in omega (arith, s)) w in
          let k : (k : ℕ) × HasEntry (filter (λ p. not (nat_lt p.0 (length N.store.snap))) N.store.log) (k, r.0) = from_values (filter (λ p. not (nat_lt p.0 (length N.store.snap))) N.store.log) b.0 r.0 b.1 in
          let m : HasEntry N.store.log (k.0, r.0) = filtered (λ p. not (nat_lt p.0 (length N.store.snap))) N.store.log (k.0, r.0) k.1 in
          let key : k.0 ≡ r.0.log_id.index = key_of (values_of N.store.log) (k.0, r.0) (subst (λ log. HasEntry log (k.0, r.0)) z.keys m) in
          let spot : r.0.log_id.index ≡ 0 + (first + i) = run_at 0 (first + i) (whole N.store) r.0 w (whole_runs N.store z) in
          let here : k.0 ≡ first + i = omega (arith, key, spot) in
          (r.0, r.1, each_has (HasValueAt first values) N.store.log (k.0, r.0) h.log m i x here is)

  agree : AppliedAgree (world_after given past)
  agree =
      let h : Stood given (Settled (setup_of given.membership)) _ (world_after given past) = stood_of given (Settled (setup_of given.membership)) _ (world_after given past) (followed given wf past) in
      applied_agree (setup_of given.membership) (world_after given past) h.world h.stands

  -- and so has each node that has executed as many
  pub values_agree : (n t : ℕ) (N T : NodeView) → At (world_after given past).nodes n N → At (world_after given past).nodes t T → length N.store.applied ≤ length T.store.applied → (first : ℕ) (values : List Value) → HasValues N.store.applied first values
      → HasValues T.store.applied first values
  values_agree n t N T here there l =
      let q : take (length N.store.applied) T.store.applied ≡ N.store.applied = agree N T (at_contains (world_after given past).nodes n N here) (at_contains (world_after given past).nodes t T there) l in
      values_more N.store.applied T.store.applied (λ k e h. taken_of (length N.store.applied) k T.store.applied e (ap (λ (es : List Entry). slice_get es k) q ∙ h))
