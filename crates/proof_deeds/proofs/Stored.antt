-- What the ids and the entries that are stored tell of the ideal whole log, where the stored entries reach the
-- snapshot's end.
use Rattle.std.proofs.Common.{ℕ, zero, suc, ◌+◌, ◌-◌, ◌<◌, ◌≤◌, ◌≡◌, ⊎_elim, Bool, true, false, cond, not, List, [], ◌∷◌, length, map, take, drop, arith, refl, sym, ap, ap₂, ◌∙◌, subst, Option, None, Some}
use Rattle.std.specs.Prelude.{nat_lt, nat_le, slice_get, filter, ◌&&◌}
use Rattle.std.specs.List.{AllByRecursion}
use Rattle.std.specs.Map.{values_of}
use Rattle.std.proofs.lemmas.Bool.{cases_lt, lt-ltb, le-ltb, le-leb, lt-leb, eq-eqb}
use Rattle.std.proofs.lemmas.List.{length-map, drop-map, take-map, drop-drop, drop-take, get_or-drop}
use Rattle.raft_node.specs.raft_state.declared.ids.LogId.{LogId}
use Rattle.raft_node.specs.raft_state.Invariants.{first_index}
use Rattle.raft_node.specs.raft_state.Log.{last, at}
use Rattle.raft_node.specs.raft_state.LogLaws.{IsRun, at-run}
use Rattle.raft_node.specs.raft_state.Order.{next}
use Rattle.proof_agreement.specs.Machine.{Setup, last_leader}
use Rattle.proof_agreement.specs.Stores.{whole, entry_at, first_entry}
use Rattle.proof_agreement.specs.Deeds.{Reaches}
use Rattle.proof_agreement.proofs.WholeLogs.{get_left, whole_length}
use Rattle.raft_node.specs.raft_store.declared.entry.Entry.{Entry}
use Rattle.raft_node.specs.raft_store.Entries.{entry_meaning}
use Rattle.raft_node.specs.raft_store.Store.{between}
use Rattle.raft_node.specs.raft_store.Types.{WorldStore}
use Rattle.raft_node.proofs.raft_store_proofs.Lists.{Run, under, under_none, run_under, filter_with, values_with, filter_ext}
use Rattle.proof_mirror.specs.Ready.{Shaped, IsStored}
use Rattle.proof_mirror.proofs.Commits.{behind_at}
use Rattle.proof_mirror.proofs.Places.{at_reaches}
use Rattle.proof_mirror.proofs.Shape.{run_of_ids, ids_behind, behind_run, front_end, ids_of_run}
use Rattle.proof_deeds.specs.Follows.{FrontIs, StoreIs}
use Rattle.proof_deeds.specs.Images.{IdealStore, IsNamed, IsWellFormedEntry, EntriesFit, number, images}
use Rattle.proof_deeds.proofs.Overlap.{Laps}
use Rattle.proof_deeds.proofs.Tails.{index, onward_drop, named_of_id, entry_of_id}

module _ {X : Type 0} (P : X → Type 0) where
  pub each_take : (k : ℕ) (xs : List X) → AllByRecursion P xs → AllByRecursion P (take k xs)
  each_take zero xs a = tt
  each_take (suc k) [] a = tt
  each_take (suc k) (x ∷ xs) a = (a.0, each_take k xs a.1)

  pub each_drop : (k : ℕ) (xs : List X) → AllByRecursion P xs → AllByRecursion P (drop k xs)
  each_drop zero [] a = tt
  each_drop zero (x ∷ xs) a = a
  each_drop (suc k) [] a = tt
  each_drop (suc k) (x ∷ xs) a = each_drop k xs a.1

-- parts of a run
run_take : (n k : ℕ) (xs : List Entry) → Run index n xs → Run index n (take k xs)
run_take n zero xs r = tt
run_take n (suc k) [] r = tt
run_take n (suc k) (x ∷ xs) r = (r.0, run_take (n + 1) k xs r.1)

pub run_drop : (n k : ℕ) (xs : List Entry) → Run index n xs → Run index (n + k) (drop k xs)
run_drop n zero [] r = tt
run_drop n zero (x ∷ xs) r = let q : n ≡ n + 0 = omega arith in subst (λ m. Run index m (x ∷ xs)) q r
run_drop n (suc k) [] r = tt
run_drop n (suc k) (x ∷ xs) r = let q : (n + 1) + k ≡ n + suc k = omega arith in subst (λ m. Run index m (drop k xs)) q (run_drop (n + 1) k xs r.1)

-- what stands below an index in a run
pub under_take : (k n : ℕ) (xs : List Entry) → Run index n xs → under index (n + k) xs ≡ take k xs
under_take zero n [] r = refl
under_take zero n (x ∷ xs) r = under_none index n (n + 0) (x ∷ xs) (omega arith) r
under_take (suc k) n [] r = refl
under_take (suc k) n (x ∷ xs) r =
    rw (lt-ltb (index x) (n + suc k) (omega (arith, r.0)))
    (ap (λ ys. x ∷ ys) (ap (λ i. under index i xs) (let e : n + suc k ≡ (n + 1) + k = omega arith in e) ∙ under_take k (n + 1) xs r.1))

filter_and : {X : Type 0} (p q : X → Bool) (xs : List X) → filter (λ x. p x && q x) xs ≡ filter p (filter q xs)
filter_and p q [] = refl
filter_and p q (x ∷ xs) = go (p x) (q x) refl refl (filter_and p q xs) where
  go : (a b : Bool) → p x ≡ a → q x ≡ b → filter (λ x. p x && q x) xs ≡ filter p (filter q xs) → cond (a && b) (x ∷ filter (λ x. p x && q x) xs) (filter (λ x. p x && q x) xs) ≡ filter p (cond b (x ∷ filter q xs) (filter q xs))
  go true true e f h = rw e (ap (λ ys. x ∷ ys) h)
  go true false e f h = h
  go false true e f h = rw e h
  go false false e f h = h

from_on : (n k : ℕ) → nat_le n k ≡ not (nat_lt k n)
from_on n k = ⊎_elim (λ l. rw (lt-ltb k n l, lt-leb n k (omega (arith, l))) refl) (λ l. rw (le-ltb k n l, le-leb n k (omega (arith, l))) refl) (cases_lt k n)

-- a range of the map
pub between_drop : (u : WorldStore) (f a c : ℕ) → u.log ≡ map (λ e. (index e, e)) (values_of u.log) → Run index f (values_of u.log) → between (f + a) (f + (a + c)) u.log ≡ take c (drop a (values_of u.log))
between_drop u f a c k r =
    let xs : List Entry = values_of u.log in
    let m : ℕ = f + a in
    let n : ℕ = f + (a + c) in
    ap (between m n) k
    ∙ (ap values_of (filter_with index (λ i. nat_le m i && nat_lt i n) xs)
    ∙ (values_with index (filter (λ e. nat_le m (index e) && nat_lt (index e) n) xs)
    ∙ (filter_and (λ e. nat_le m (index e)) (λ e. nat_lt (index e) n) xs
    ∙ (filter_ext (λ e. nat_le m (index e)) (λ e. not (nat_lt (index e) m)) (under index n xs) (λ e. from_on m (index e))
    ∙ (onward_drop a f (under index n xs) (run_under index f n xs r)
    ∙ (ap (drop a) (under_take (a + c) f xs r)
    ∙ drop-take a c xs))))))

-- an empty one
pub filter_none : {X : Type 0} (p : X → Bool) (xs : List X) → ((x : X) → p x ≡ false) → filter p xs ≡ []
filter_none p [] h = refl
filter_none p (x ∷ xs) h = rw (h x) (filter_none p xs h)

outside : (i j k : ℕ) → j < i → (nat_le i k && nat_lt k j) ≡ false
outside i j k l = ⊎_elim (λ g. let e : nat_le i k ≡ false = from_on i k ∙ ap not (lt-ltb k i (omega (arith, g, l))) in rw e refl) (λ g. let e : nat_lt k j ≡ false = le-ltb k j g in rw e (off (nat_le i k))) (cases_lt k j) where
  off : (b : Bool) → (b && false) ≡ false
  off true = refl
  off false = refl

between_none : (u : WorldStore) (i j : ℕ) → j < i → between i j u.log ≡ []
between_none u i j l = ap values_of (filter_none (λ (p : ℕ × Entry). nat_le i p.0 && nat_lt p.0 j) u.log (λ p. outside i j p.0 l))

module _ (s : Setup Entry) (u : WorldStore) (S : IdealStore) (h : StoreIs s u S) (z : Shaped entry_meaning u) (laps : Laps S) (r : Reaches S) where
  values : List Entry
  values = values_of u.log

  run : Run index (next u.front) (values_of u.log)
  run = run_of_ids entry_meaning (next u.front) (values_of u.log) z.run

  ids_run : IsRun (first_index u.front) (ids_behind entry_meaning u.front (values_of u.log))
  ids_run = behind_run entry_meaning u.front (values_of u.log) run

  -- the ideal whole log from the front on
  pub from_front : drop (next u.front) (whole S) ≡ images (values_of u.log)
  from_front = ap (λ i. drop i (whole S)) (sym h.front) ∙ (laps r ∙ h.entries)

  pub from_past : (k : ℕ) → drop (next u.front + k) (whole S) ≡ images (drop k (values_of u.log))
  from_past k = sym (drop-drop k (next u.front) (whole S)) ∙ (ap (drop k) from_front ∙ drop-map (λ (e : Entry). _) k (values_of u.log))

  -- a range of it, whose entries fit
  range_on : (i j : ℕ) → next u.front ≤ i → i ≤ j → (take (j - i) (drop i (whole S)) ≡ images (between i j u.log)) × EntriesFit s (between i j u.log)
  range_on i j l g =
      let a : ℕ = i - next u.front in
      let c : ℕ = j - i in
      let e : next u.front + a ≡ i = omega (arith, l) in
      let f : next u.front + (a + c) ≡ j = omega (arith, l, g) in
      let b : take c (drop a (values_of u.log)) ≡ between i j u.log = sym (between_drop u (next u.front) a c z.keys run) ∙ ap₂ (λ m n. between m n u.log) e f in (
        ap (λ k. take c (drop k (whole S))) (sym e) ∙ (ap (take c) (from_past a) ∙ (take-map _ c (drop a (values_of u.log)) ∙ ap images b)),
        subst (EntriesFit s) b (each_take (IsWellFormedEntry s) c (drop a (values_of u.log)) (each_drop (IsWellFormedEntry s) a (values_of u.log) h.entries_fit)),
      )

  pub range_is : (i j : ℕ) → next u.front ≤ i → (take (j - i) (drop i (whole S)) ≡ images (between i j u.log)) × EntriesFit s (between i j u.log)
  range_is i j l = ⊎_elim
      (λ g. let e : j - i ≡ 0 = omega (arith, g) in let b : between i j u.log ≡ [] = between_none u i j g in
      (ap (λ k. take k (drop i (whole S))) e ∙ ap images (sym b), subst (EntriesFit s) (sym b) tt))
      (λ g. range_on i j l g) (cases_lt j i)

  -- whose ids run
  pub range_run : (i j : ℕ) → next u.front ≤ i → IsRun i (map (λ (e : Entry). e.log_id) (between i j u.log))
  range_run i j l =
      ids_of_run entry_meaning i (between i j u.log)
      (⊎_elim (λ g. let b : between i j u.log ≡ [] = between_none u i j g in subst (Run index i) (sym b) tt)
      (λ g.
      let a : ℕ = i - next u.front in
      let c : ℕ = j - i in
      let e : next u.front + a ≡ i = omega (arith, l) in
      let f : next u.front + (a + c) ≡ j = omega (arith, l, g) in
      let b : take c (drop a (values_of u.log)) ≡ between i j u.log = sym (between_drop u (next u.front) a c z.keys run) ∙ ap₂ (λ m n. between m n u.log) e f in
      subst (Run index i) b (run_take i c (drop a (values_of u.log)) (subst (λ n. Run index n (drop a (values_of u.log))) e (run_drop (next u.front) a (values_of u.log) run))))
      (cases_lt j i))

  -- what is stored ends within it
  pub stored_within : (x : LogId ℕ) → IsStored entry_meaning u x → x.index + 1 ≤ length (whole S)
  stored_within x e =
      let a : x.index + 1 ≤ next (last (ids_behind entry_meaning u.front (values_of u.log))) = at_reaches (first_index u.front) x.index (ids_behind entry_meaning u.front (values_of u.log)) x ids_run e in
      let b : next (last (ids_behind entry_meaning u.front (values_of u.log))) ≡ next u.front + length (values_of u.log) = front_end entry_meaning u.front (values_of u.log) ids_run in
      let c : length S.snapshot ≡ length u.snap = ap (λ xs. length xs) h.snapshot ∙ length-map u.snap _ in
      let d : length S.entries ≡ length (values_of u.log) = ap (λ xs. length xs) h.entries ∙ length-map (values_of u.log) _ in
      let low : S.front ≤ length S.snapshot = omega (arith, c, h.front, z.front) in
      omega (arith, a, b, c, d, h.front, whole_length S low)

  -- the id of the front, or one behind it
  pub stored_ends : (x : LogId ℕ) → IsStored entry_meaning u x → next u.front ≤ x.index + 1 → (last_leader (entry_at s (whole S)) (x.index + 1) ≡ number x.leader_id) × IsNamed x.leader_id
  stored_ends x e l = ⊎_elim (λ g. at_front u.front refl (omega (arith, l, g))) behind_it (cases_lt x.index (next u.front)) where
    one : x.index + 1 ≡ suc x.index
    one = omega arith

    behind_it : next u.front ≤ x.index → (last_leader (entry_at s (whole S)) (x.index + 1) ≡ number x.leader_id) × IsNamed x.leader_id
    behind_it g =
        let k : ℕ = x.index - next u.front in
        let q : next u.front + k ≡ x.index = omega (arith, g) in
        let b : slice_get (map (λ (e : Entry). e.log_id) (values_of u.log)) k ≡ Some x =
        sym (at-run (next u.front) k (map (λ (e : Entry). e.log_id) (values_of u.log)) z.run)
        ∙ (ap (at (map (λ (e : Entry). e.log_id) (values_of u.log))) q ∙ (sym (behind_at entry_meaning u.front (values_of u.log) x.index g) ∙ e)) in
        let w : entry_at s (whole S) x.index ≡ entry_at s (images (values_of u.log)) k =
        ap (entry_at s (whole S)) (sym q) ∙ (sym (get_or-drop (next u.front) (whole S) k (first_entry s)) ∙ ap (λ xs. entry_at s xs k) from_front) in
        (ap (last_leader (entry_at s (whole S))) one ∙ (ap (λ y. y.leader) w ∙ entry_of_id s (values_of u.log) k x b), named_of_id s (values_of u.log) k x h.entries_fit b)

    at_front : (f : Option (LogId ℕ)) → u.front ≡ f → next u.front ≡ x.index + 1 → (last_leader (entry_at s (whole S)) (x.index + 1) ≡ number x.leader_id) × IsNamed x.leader_id
    at_front None w n = let q : next u.front ≡ 0 = ap next w in absurd (omega (arith, q, n))
    at_front (Some y) w n =
        let q : next u.front ≡ y.index + 1 = ap next w in
        let i : y.index ≡ x.index = omega (arith, q, n) in
        let b : at (y ∷ map (λ (e : Entry). e.log_id) (values_of u.log)) x.index ≡ Some x = subst (λ f. at (ids_behind entry_meaning f (values_of u.log)) x.index ≡ Some x) w e in
        let c : Some y ≡ Some x = rw (eq-eqb y.index x.index i) at b in
        let d : y ≡ x = cc in
        let f : FrontIs s (Some x) S.snapshot = subst (λ o. FrontIs s o S.snapshot) (w ∙ c) h.front_is in
        let k : length S.snapshot ≡ length u.snap = ap (λ xs. length xs) h.snapshot ∙ length-map u.snap _ in
        (ap (last_leader (entry_at s (whole S))) one ∙ (ap (λ y. y.leader) (get_left s S.snapshot (drop (length S.snapshot - S.front) S.entries) x.index (omega (arith, k, n, z.front))) ∙ f.1), f.0)
