-- What a leader's request carries: the entries of the range that it is sent for, as its store has them.
use Rattle.std.proofs.Common.{ℕ, suc, ◌+◌, ◌-◌, ◌<◌, ◌≤◌, ◌≡◌, ⊎_elim, Bool, true, false, not, cond, List, [], ◌∷◌, ◌++◌, length, map, arith, refl, sym, ap, ◌∙◌, subst, Option, None, Some, Ok, Err}
use Rattle.std.specs.Prelude.{◌&&◌, ◌==◌, if◌then◌else◌, nat_le, nat_lt, slice_get}
use Rattle.std.specs.Map.{values_of}
use Rattle.std.specs.Option.{option_map, option_or, option_to_list}
use Rattle.std.specs.Ordering.{nat_cmp}
use Rattle.std.proofs.lemmas.Bool.Decides.{nat_tests}
use Rattle.std.proofs.lemmas.Bool.{cases_eq}
use Rattle.std.proofs.lemmas.Cmp.{nat_cmp_total}
use Rattle.proof_deeds.specs.raft_state.declared.ids.LogId.{LogId}
use Rattle.proof_deeds.specs.raft_state.declared.state.RaftState.{RaftState}
use Rattle.proof_deeds.specs.raft_state.Invariants.{IsSoundState, first_index}
use Rattle.proof_deeds.specs.raft_state.Log.{at, last}
use Rattle.proof_deeds.specs.raft_state.LogLaws.{IsRun}
use Rattle.proof_deeds.specs.raft_state.Order.{next}
use Rattle.proof_deeds.proofs.raft_state_proofs.StateLaws.{log_next}
use Rattle.proof_deeds.specs.raft_state.Same.{nat_same}
use Rattle.proof_deeds.specs.raft_progress_entry.declared.entry.Inflight.{Inflight}
use Rattle.proof_deeds.specs.raft_progress_entry.declared.entry.Inflight.TheVariants as inflight
use Rattle.proof_deeds.specs.raft_progress_entry.declared.entry.LogIdRange.{LogIdRange}
use Rattle.proof_deeds.specs.raft_progress_entry.declared.entry.ProgressEntry.{ProgressEntry}
use Rattle.proof_deeds.specs.raft_progress_entry.Entry.{before, is_idle, next_send, send_end, send_start, sent}
use Rattle.proof_deeds.specs.raft_store.declared.entry.Entry.{Entry}
use Rattle.proof_deeds.specs.raft_store.Entries.{entry_meaning}
use Rattle.proof_deeds.specs.raft_store.Mirror.{Holds, keyed}
use Rattle.proof_deeds.specs.raft_store.Store.{between}
use Rattle.proof_deeds.specs.raft_store.Types.{WorldStore}
use Rattle.proof_deeds.specs.raft_calls.Feeds.{last_sent}

-- The range

module _ {NID N : Type 0} (s : RaftState NID N) (payload : ℕ) (e : ProgressEntry NID) (free : e.inflight ≡ inflight.None) where
  -- entries that are sent next begin at the search, and end with the payload or the log; a snapshot is the leader's
  abbrev pub IsRange : Inflight NID → Type 0
  IsRange inflight.None = Unit {0}
  IsRange (inflight.Logs number range) = (range.prev ≡ before s.ids (send_start s e)) × (range.last ≡ before s.ids (send_end s payload (send_start s e)))
  IsRange (inflight.Snapshot number end) = end ≡ s.snap.last_log_id

  pub range_sent : IsRange (sent e (next_send s payload e)).inflight
  range_sent = go (not (is_idle e)) (nat_lt e.searching_end (next s.purge_to)) (send_start s e == send_end s payload (send_start s e))
    where
      none : IsRange e.inflight
      none = subst IsRange (sym free) tt

      go : (busy low same_end : Bool) → IsRange (sent e (
          if busy then Err e.inflight
          else if low then Ok (inflight.Snapshot (e.last_inflight_id + 1) s.snap.last_log_id)
          else if same_end then Err inflight.None
          else Ok (inflight.Logs (e.last_inflight_id + 1) (record { prev = before s.ids (send_start s e); last = before s.ids (send_end s payload (send_start s e)) })))).inflight
      go true low same_end = none
      go false true same_end = refl
      go false false true = none
      go false false false = (refl, refl)

-- The entries

some_end : (y : Entry) (ys : List Entry) → (z : Entry) × (slice_get (y ∷ ys) (length ys) ≡ Some z)
some_end y [] = (y, refl)
some_end y (x ∷ xs) = some_end x xs

pub last_then : (prev : Option (LogId ℕ)) (x : Entry) (xs : List Entry) → last_sent prev (x ∷ xs) ≡ last_sent (Some x.log_id) xs
last_then prev x [] = refl
last_then prev x (y ∷ ys) =
    let z = some_end y ys in
    let a : slice_get (x ∷ y ∷ ys) (length (x ∷ y ∷ ys) - 1) ≡ Some z.0 = ap (slice_get (x ∷ y ∷ ys)) (past (length ys)) ∙ z.1 in
    let b : slice_get (y ∷ ys) (length (y ∷ ys) - 1) ≡ Some z.0 = ap (slice_get (y ∷ ys)) (here (length ys)) ∙ z.1 in
    ap (λ o. option_or (option_map (λ (e : Entry). e.log_id) o) prev) a ∙ sym (ap (λ o. option_or (option_map (λ (e : Entry). e.log_id) o) (Some x.log_id)) b)
  where
    past : (k : ℕ) → suc (suc k) - 1 ≡ suc k
    past k = omega arith

    here : (k : ℕ) → suc k - 1 ≡ k
    here k = omega arith

abbrev run_ids : List Entry → List (LogId ℕ)
run_ids vs = map entry_meaning.id_of vs

test_below : (a i b : ℕ) → b ≤ i → (nat_le a i && nat_lt i b) ≡ false
test_below a i b h = grind (arith, nat_tests)

test_in : (a i b : ℕ) → a ≤ i → i < b → (nat_le a i && nat_lt i b) ≡ true
test_in a i b h k = grind (arith, nat_tests)

-- none stands at or past the end
none_between : (n a b : ℕ) (vs : List Entry) → IsRun n (run_ids vs) → b ≤ n → between a b (keyed entry_meaning vs) ≡ []
none_between n a b [] r h = refl
none_between n a b (v ∷ vs) r h = let q : b ≤ v.log_id.index = omega (arith, h, r.0) in rw (test_below a v.log_id.index b q) (none_between (n + 1) a b vs r.1 (omega (arith, h)))

same_index : (i j : ℕ) → i ≡ j → (i == j) ≡ true
same_index i j e = grind (arith, nat_tests)

other_index : (i j : ℕ) → (i ≡ j → ⊥) → (i == j) ≡ false
other_index i j e = grind (arith, nat_tests)

one_index : (i j : ℕ) → (i == j) ≡ true → i ≡ j
one_index i j e = grind (arith, nat_tests)

-- an id is found at its index
pub at_index : (i : ℕ) (x : LogId ℕ) (ids : List (LogId ℕ)) → at ids i ≡ Some x → x.index ≡ i
at_index i x [] h = cc
at_index i x (y ∷ ys) h = go (y.index == i) refl h (at_index i x ys)
  where
    go : (b : Bool) → (y.index == i) ≡ b → ◌≡◌ {A = Option (LogId ℕ)} (cond b (Some y) (at ys i)) (Some x) → (at ys i ≡ Some x → x.index ≡ i) → x.index ≡ i
    go true e h f = let z : y ≡ x = cc in subst (λ (k : LogId ℕ). k.index ≡ i) z (one_index y.index i e)
    go false e h f = f h

-- the last of those between two indexes has the id before the second
last_between : (n a b : ℕ) (vs : List Entry) (prev : Option (LogId ℕ)) → IsRun n (run_ids vs) → a ≤ b → n ≤ b → b < n + length vs → last_sent prev (between a (b + 1) (keyed entry_meaning vs)) ≡ at (run_ids vs) b
last_between n a b [] prev r ab l u = absurd (omega (arith, l, u))
last_between n a b (v ∷ vs) prev r ab l u = ⊎_elim here (later (λ p past end. last_between (n + 1) a b vs p r.1 ab past end)) (cases_eq v.log_id.index b)
  where
    here : v.log_id.index ≡ b → last_sent prev (between a (b + 1) (keyed entry_meaning (v ∷ vs))) ≡ at (run_ids (v ∷ vs)) b
    here e =
        let t : (nat_le a v.log_id.index && nat_lt v.log_id.index (b + 1)) ≡ true = test_in a v.log_id.index (b + 1) (omega (arith, e, ab)) (omega (arith, e)) in
        let z : between a (b + 1) (keyed entry_meaning vs) ≡ [] = none_between (n + 1) a (b + 1) vs r.1 (omega (arith, e, r.0)) in
        let f : (v.log_id.index == b) ≡ true = same_index v.log_id.index b e in
        rw t (rw z (rw f refl))

    differs : (i n b : ℕ) → i ≡ n → (i ≡ b → ⊥) → n ≤ b → n + 1 ≤ b
    differs i n b e d l = grind (arith, nat_tests)

    go : (t : Bool) → ((p : Option (LogId ℕ)) → last_sent p (between a (b + 1) (keyed entry_meaning vs)) ≡ at (run_ids vs) b) → last_sent prev (cond t (v ∷ between a (b + 1) (keyed entry_meaning vs)) (between a (b + 1) (keyed entry_meaning vs))) ≡ at (run_ids vs) b
    go true f = last_then prev v (between a (b + 1) (keyed entry_meaning vs)) ∙ f (Some v.log_id)
    go false f = f prev

    split : (t : Bool) → (nat_le a v.log_id.index && nat_lt v.log_id.index (b + 1)) ≡ t → between a (b + 1) (keyed entry_meaning (v ∷ vs)) ≡ cond t (v ∷ between a (b + 1) (keyed entry_meaning vs)) (between a (b + 1) (keyed entry_meaning vs))
    split true e = rw e refl
    split false e = rw e refl

    later : ((p : Option (LogId ℕ)) → n + 1 ≤ b → b < (n + 1) + length vs → last_sent p (between a (b + 1) (keyed entry_meaning vs)) ≡ at (run_ids vs) b) → (v.log_id.index ≡ b → ⊥)
        → last_sent prev (between a (b + 1) (keyed entry_meaning (v ∷ vs))) ≡ at (run_ids (v ∷ vs)) b
    later rec d =
        let f : (v.log_id.index == b) ≡ false = other_index v.log_id.index b d in
        let past : n + 1 ≤ b = differs v.log_id.index n b r.0 d l in
        let end : b < (n + 1) + length vs = omega (arith, u) in
        let k : at (run_ids (v ∷ vs)) b ≡ at (run_ids vs) b = rw f refl in
        ap (last_sent prev) (split (nat_le a v.log_id.index && nat_lt v.log_id.index (b + 1)) refl)
        ∙ (go (nat_le a v.log_id.index && nat_lt v.log_id.index (b + 1)) (λ p. rec p past end) ∙ sym k)

-- In a store that mirrors a state

ids_run : (o : Option (LogId ℕ)) (xs : List (LogId ℕ)) → IsRun (first_index o) (option_to_list o ++ xs) → IsRun (next o) xs
ids_run None xs r = r
ids_run (Some p) xs r = r.1

ids_at : (o : Option (LogId ℕ)) (xs : List (LogId ℕ)) (b : ℕ) → next o ≤ b → at (option_to_list o ++ xs) b ≡ at xs b
ids_at None xs b l = refl
ids_at (Some p) xs b l = let f : (p.index == b) ≡ false = other_index p.index b (λ e. omega (arith, e, l)) in rw f refl

ids_end : (o : Option (LogId ℕ)) (xs : List (LogId ℕ)) → first_index o + length (option_to_list o ++ xs) ≡ next o + length xs
ids_end None xs = refl
ids_end (Some p) xs = omega arith

length_ids : (vs : List Entry) → length (run_ids vs) ≡ length vs
length_ids [] = refl
length_ids (v ∷ vs) = ap suc (length_ids vs)

module _ (t : WorldStore) (s : RaftState ℕ (Unit {0})) (h : Holds entry_meaning t s.vote s.ids s.purged) (sound : IsSoundState nat_cmp s) where
  abbrev stored : List Entry
  stored = values_of t.log

  run_stored : IsRun (next t.front) (run_ids stored)
  run_stored = ids_run t.front (run_ids stored) (subst (λ o. IsRun (first_index o) (option_to_list t.front ++ run_ids stored)) h.purged_is (subst (IsRun (first_index s.purged)) h.ids_are sound.log.run))

  end_stored : next (last s.ids) ≡ next t.front + length stored
  end_stored =
      log_next nat_cmp nat_cmp_total nat_same s.vote.leader_id s.ids s.purged sound.log
      ∙ (ap (λ o. first_index o + length s.ids) h.purged_is
      ∙ (ap (λ (xs : List (LogId ℕ)). first_index t.front + length xs) h.ids_are ∙ (ids_end t.front (run_ids stored) ∙ ap (λ k. next t.front + k) (length_ids stored))))

  pub last_carried : (a b : ℕ) (prev : Option (LogId ℕ)) → a ≤ b → next s.purged ≤ b → b < next (last s.ids) → last_sent prev (between a (b + 1) t.log) ≡ at s.ids b
  last_carried a b prev ab l u =
      let m : next t.front ≤ b = subst (λ o. next o ≤ b) h.purged_is l in
      let e : next (last s.ids) ≡ next t.front + length stored = end_stored in
      ap (λ (xs : List (ℕ × Entry)). last_sent prev (between a (b + 1) xs)) h.keys
      ∙ (last_between (next t.front) a b stored prev run_stored ab m (omega (arith, u, e)) ∙ (sym (ids_at t.front (run_ids stored) b m) ∙ ap (λ (xs : List (LogId ℕ)). at xs b) (sym h.ids_are)))

-- an id before an index is at its own
pub before_at : (ids : List (LogId ℕ)) (end : ℕ) (x : LogId ℕ) → Some x ≡ before ids end → at ids x.index ≡ Some x
before_at ids end x q = by (end == 0) refl
  where
    past : (k : ℕ) → (k == 0) ≡ false → before ids k ≡ at ids (k - 1)
    past k e = rw e refl

    by : (b : Bool) → (end == 0) ≡ b → at ids x.index ≡ Some x
    by true e = let z : before ids end ≡ None = rw e refl in cc
    by false e =
        let a : at ids (end - 1) ≡ Some x = sym (past end e) ∙ sym q in
        subst (λ i. at ids i ≡ Some x) (sym (at_index (end - 1) x ids a)) a

-- a request for a range of the log ends with it
module _ (t : WorldStore) (s : RaftState ℕ (Unit {0})) (h : Holds entry_meaning t s.vote s.ids s.purged) (sound : IsSoundState nat_cmp s) (range : LogIdRange ℕ) (end : ℕ) where
  pub range_carried : range.last ≡ before s.ids end → next s.purged ≤ next range.prev → next range.prev < next range.last → next range.last ≤ next (last s.ids)
      → last_sent range.prev (between (next range.prev) (next range.last) t.log) ≡ range.last
  range_carried is l some within = go range.last is some within
    where
      go : (o : Option (LogId ℕ)) → o ≡ before s.ids end → next range.prev < next o → next o ≤ next (last s.ids) → last_sent range.prev (between (next range.prev) (next o) t.log) ≡ o
      go None q some within = absurd (omega (arith, some))
      go (Some x) q some within =
          last_carried t s h sound (next range.prev) x.index range.prev (omega (arith, some)) (omega (arith, l, some)) (omega (arith, within)) ∙ before_at s.ids end x q
