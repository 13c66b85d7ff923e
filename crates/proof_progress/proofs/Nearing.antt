-- What a leader knows of another node's log after each answer: the gap narrows.
use Rattle.std.proofs.Common.{ℕ, zero, suc, ◌+◌, ◌-◌, ◌*◌, ◌/◌, ◌<◌, ◌≤◌, ◌≡◌, ◌≢◌, ◌⊎◌, inl, inr, ⊎_elim, Bool, true, false, not, List, [], ◌∷◌, length, max, min, arith, refl, sym, ap, ◌∙◌, subst, Option, None, Some, Ok, Err}
use Rattle.std.specs.Prelude.{◌==◌, ◌^◌, if◌then◌else◌, is_none, nat_lt}
use Rattle.std.specs.Cmp.{IsTotalOrder}
use Rattle.std.specs.declared.cmp.Ordering.{Ordering}
use Rattle.std.specs.declared.cmp.Ordering.TheVariants.{Equal}
use Rattle.std.specs.Ordering.{is_le, is_lt}
use Rattle.std.proofs.lemmas.Bool.Decides.{nat_tests}
use Rattle.proof_deeds.specs.raft_state.declared.ids.LogId.{LogId}
use Rattle.proof_deeds.specs.raft_state.declared.state.RaftState.{RaftState}
use Rattle.proof_deeds.specs.raft_state.Fits.{fits, is_below, is_within}
use Rattle.proof_deeds.specs.raft_state.Invariants.{IsSoundState, first_index}
use Rattle.proof_deeds.specs.raft_state.Log.{at, last}
use Rattle.proof_deeds.specs.raft_state.LogLaws.{at-run}
use Rattle.proof_deeds.specs.raft_state.Order.{last_id_cmp, next}
use Rattle.proof_deeds.specs.raft_state.Policy.{saturating_add}
use Rattle.proof_deeds.specs.raft_state.Same.{found_is}
use Rattle.proof_deeds.specs.raft_state.State.{is_found}
use Rattle.proof_deeds.proofs.raft_state_proofs.LogLists.{at_has, has_within, last_is, run_low}
use Rattle.proof_deeds.proofs.raft_state_proofs.Orders.{and_both, last_total, lt_is_le, lt_le, nat_lt_is, or_cases, within_le, within_next, within_trans}
use Rattle.proof_deeds.proofs.raft_state_proofs.StateLaws.{log_next}
use Rattle.proof_deeds.specs.raft_progress_entry.declared.entry.Inflight.{Inflight}
use Rattle.proof_deeds.specs.raft_progress_entry.declared.entry.Inflight.TheVariants as inflight
use Rattle.proof_deeds.specs.raft_progress_entry.declared.entry.LogIdRange.{LogIdRange}
use Rattle.proof_deeds.specs.raft_progress_entry.declared.entry.ProgressEntry.{ProgressEntry}
use Rattle.proof_deeds.specs.raft_progress_entry.Entry.{before, conflicted, inflight_id, is_idle, matched, next_send, send_end, send_start, sent}
use Rattle.proof_deeds.specs.raft_steps.Invariants.{EntryFits}
use Rattle.proof_deeds.proofs.raft_steps_proofs.EntryLaws.{run_at}
use Rattle.proof_deeds.proofs.raft_steps_proofs.Room.{log_end}

-- the gap of a node's log: the indexes among which is searched, and the entries that aren't known to match
abbrev pub gap : {NID : Type 0} → ℕ → ProgressEntry NID → ℕ
gap n e = (e.searching_end - next e.matching) + (n - next e.matching)

pub gap_most : (m se n : ℕ) → se ≤ n → (se - m) + (n - m) ≤ 2 * n
gap_most m se n h = omega (arith, h)

-- entries are in flight to it that were sent by what is known of its log
pub record IsSent {NID : Type 0} (n : ℕ) (e : ProgressEntry NID) : Type 0 where
  pub prev : Option (LogId NID)
  pub upto : Option (LogId NID)
  pub low : next e.matching ≤ next prev
  pub high : next prev ≤ e.searching_end
  pub some : next prev < next upto
  pub within : next upto ≤ n
  pub number : ℕ
  pub is : e.inflight ≡ inflight.Logs number (record { prev = prev; last = upto })

-- a snapshot is, which ends past what is known to match
pub record IsShipped {NID : Type 0} (n : ℕ) (e : ProgressEntry NID) : Type 0 where
  pub upto : Option (LogId NID)
  pub low : next e.matching < next upto
  pub within : next upto ≤ n
  pub number : ℕ
  pub is : e.inflight ≡ inflight.Snapshot number upto

-- nothing is, as its log matches
pub record IsDone {NID : Type 0} (end : Option (LogId NID)) (e : ProgressEntry NID) : Type 0 where
  pub free : e.inflight ≡ inflight.None
  pub matching : e.matching ≡ end

abbrev pub IsServed : {NID : Type 0} → Option (LogId NID) → ProgressEntry NID → Type 0
IsServed end e = (IsSent (next end) e ⊎ IsShipped (next end) e) ⊎ IsDone end e

differ : (a b : ℕ) → (a == b) ≡ false → a ≢ b
differ a b e = grind (arith, nat_tests)

equal : (a b : ℕ) → (a == b) ≡ true → a ≡ b
equal a b e = grind (arith, nat_tests)

not_below : (a b : ℕ) → nat_lt a b ≡ false → b ≤ a
not_below a b e = grind (arith, nat_tests)

start_low : (m d p : ℕ) → m ≤ max (m + d / 16 * 8) p
start_low m d p = omega arith

start_past : (m d p : ℕ) → p ≤ max (m + d / 16 * 8) p
start_past m d p = omega arith

start_high : (m se p : ℕ) → m ≤ se → p ≤ se → max (m + (se - m) / 16 * 8) p ≤ se
start_high m se p h e = omega (arith, h, e)

end_within : (a n : ℕ) → min a n ≤ n
end_within a n = omega arith

past_start : (st pay n : ℕ) → st ≤ n → n < 2 ^ 64 → st ≢ min (min (st + pay) (2 ^ 64 - 1)) n → st < min (min (st + pay) (2 ^ 64 - 1)) n
past_start st pay n h k d = omega (arith, h, k, d)

full : (st pay n : ℕ) → st ≤ n → n < 2 ^ 64 → 1 ≤ pay → st ≡ min (min (st + pay) (2 ^ 64 - 1)) n → st ≡ n
full st pay n h k p e = omega (arith, h, k, p, e)

searched : (m se n p : ℕ) → m ≤ se → se ≤ n → p < n → max (m + (se - m) / 16 * 8) p ≡ n → m ≡ n
searched m se n p h k e q = omega (arith, h, k, e, q)

first_low : {NID : Type 0} (p : Option (LogId NID)) (k : ℕ) → next p ≤ suc k → first_index p ≤ k
first_low None k l = omega arith
first_low (Some y) k l = omega (arith, l)

some_long : {NID : Type 0} (ids : List (LogId NID)) (x : LogId NID) → last ids ≡ Some x → 1 ≤ length ids
some_long [] x e = cc
some_long (y ∷ ys) x e = omega arith

module _ {NID N : Type 0} (cmp : NID → NID → Ordering) (total : IsTotalOrder cmp) (same : (a b : NID) → cmp a b ≡ Equal → a ≡ b) (s : RaftState NID N) (sound : IsSoundState cmp s) where
  end_is : next (last s.ids) ≡ first_index s.purged + length s.ids
  end_is = log_next cmp total same s.vote.leader_id s.ids s.purged sound.log

  target_in : is_within cmp s.purge_to (last s.ids) ≡ true
  target_in = within_trans cmp total s.purge_to s.snap.last_log_id (last s.ids) sound.marks.at_target (within_trans cmp total s.snap.last_log_id s.committed (last s.ids) sound.marks.at_snapshot sound.marks.at_committed)

  pub target_low : next s.purge_to ≤ next (last s.ids)
  target_low = within_next cmp total s.purge_to (last s.ids) target_in

  purged_low : next s.purged ≤ next s.purge_to
  purged_low = within_next cmp total s.purged s.purge_to sound.marks.at_purged

  -- the id before an index of the log has the index before it
  next_before : (i : ℕ) → next s.purge_to ≤ i → i ≤ next (last s.ids) → next (before s.ids i) ≡ i
  next_before zero l h = refl
  next_before (suc k) l h =
      let e : next (last s.ids) ≡ first_index s.purged + length s.ids = end_is in
      let p : next s.purged ≤ next s.purge_to = purged_low in
      let z = run_at (first_index s.purged) k s.ids sound.log.run (first_low s.purged k (omega (arith, p, l))) (omega (arith, e, h)) in
      let i : z.0.index ≡ k = z.2 in
      ap next (before_is k ∙ z.1) ∙ omega (arith, i)
    where
      before_is : (k : ℕ) → before s.ids (suc k) ≡ at s.ids k
      before_is k = let q : (suc k == 0) ≡ false = grind (arith, nat_tests) in let r : suc k - 1 ≡ k = omega arith in rw (q, r) refl

  -- an id that fits, and ends with the log, is its last
  whole_matches : (x : Option (LogId NID)) → fits cmp s.ids s.purged x ≡ true → next x ≡ next (last s.ids) → x ≡ last s.ids
  whole_matches None f e = go (last s.ids) e
    where
      go : (o : Option (LogId NID)) → 0 ≡ next o → None ≡ o
      go None q = refl
      go (Some y) q = absurd (omega (arith, q))
  whole_matches (Some z) f e =
      ⊎_elim
      (λ (g : is_found cmp (at s.ids z.index) z ≡ true).
      let n : next (last s.ids) ≡ first_index s.purged + length s.ids = end_is in
      let low : first_index s.purged ≤ z.index = run_low (first_index s.purged) z s.ids sound.log.run (at_has z.index z s.ids (found_is cmp same _ z g)) in
      let i : z.index ≡ first_index s.purged + (length s.ids - 1) = omega (arith, n, e, low) in
      sym (found_is cmp same _ z g) ∙ ap (at s.ids) i ∙ at-run (first_index s.purged) (length s.ids - 1) s.ids sound.log.run)
      (λ (g : is_below cmp (Some z) s.purged ≡ true).
      let l : next (Some z) < next s.purged = nat_lt_is _ _ (and_both (is_lt (last_id_cmp cmp (Some z) s.purged)) _ g).1 in
      let p : next s.purged ≤ next s.purge_to = purged_low in
      let t : next s.purge_to ≤ next (last s.ids) = target_low in
      absurd (omega (arith, l, p, t, e)))
      (or_cases _ (is_below cmp (Some z) s.purged) f)

  -- the last id is at its index
  pub last_at : (x : LogId NID) → last s.ids ≡ Some x → at s.ids x.index ≡ Some x
  last_at x e =
      let n : next (last s.ids) ≡ first_index s.purged + length s.ids = end_is in
      let k : next (last s.ids) ≡ x.index + 1 = ap next e in
      let long : 1 ≤ length s.ids = some_long s.ids x e in
      let i : x.index ≡ first_index s.purged + (length s.ids - 1) = omega (arith, n, k, long) in
      ap (at s.ids) i ∙ (at-run (first_index s.purged) (length s.ids - 1) s.ids sound.log.run ∙ e)

  -- an id that fits isn't above it
  pub upto_last : (x : Option (LogId NID)) → fits cmp s.ids s.purged x ≡ true → is_le (last_id_cmp cmp x (last s.ids)) ≡ true
  upto_last None f = go (last s.ids)
    where
      go : (o : Option (LogId NID)) → is_le (last_id_cmp cmp None o) ≡ true
      go None = refl
      go (Some y) = refl
  upto_last (Some z) f =
      ⊎_elim
      (λ (g : is_found cmp (at s.ids z.index) z ≡ true).
      within_le cmp total (Some z) (last s.ids)
      (subst (λ o. is_within cmp (Some z) o ≡ true) (sym (last_is s.ids)) (has_within cmp total z None (first_index s.purged) s.ids sound.log.run sound.log.rising (at_has z.index z s.ids (found_is cmp same _ z g)))))
      (λ (g : is_below cmp (Some z) s.purged ≡ true).
      lt_is_le _ (lt_le (last_total cmp total) (Some z) s.purged (last s.ids) (and_both _ (nat_lt (next (Some z)) (next s.purged)) g).0
      (within_le cmp total s.purged (last s.ids) (within_trans cmp total s.purged s.purge_to (last s.ids) sound.marks.at_purged target_in))))
      (or_cases _ (is_below cmp (Some z) s.purged) f)

  module _ (payload : ℕ) (some : 1 ≤ payload) (unpurged : next s.purge_to < next (last s.ids)) (e : ProgressEntry NID) (f : EntryFits cmp s.ids s.purged e) (free : e.inflight ≡ inflight.None) where
    below_end : next (last s.ids) < 2 ^ 64
    below_end = log_end cmp s sound

    ships : nat_lt e.searching_end (next s.purge_to) ≡ true → IsShipped (next (last s.ids)) (sent e (Ok (inflight.Snapshot (e.last_inflight_id + 1) s.snap.last_log_id)))
    ships l =
        let q : e.searching_end < next s.purge_to = nat_lt_is _ _ l in
        let w : next s.purge_to ≤ next s.snap.last_log_id = within_next cmp total s.purge_to s.snap.last_log_id sound.marks.at_target in
        record {
          upto = s.snap.last_log_id;
          low = omega (arith, q, w, f.above);
          within = within_next cmp total s.snap.last_log_id (last s.ids) (within_trans cmp total s.snap.last_log_id s.committed (last s.ids) sound.marks.at_snapshot sound.marks.at_committed);
          number = e.last_inflight_id + 1;
          is = refl;
        }

    module _ (l : nat_lt e.searching_end (next s.purge_to) ≡ false) where
      start_in : send_start s e ≤ e.searching_end
      start_in = start_high (next e.matching) e.searching_end (next s.purge_to) f.above (not_below e.searching_end (next s.purge_to) l)

      start_log : send_start s e ≤ next (last s.ids)
      start_log = let a : send_start s e ≤ e.searching_end = start_in in omega (arith, a, f.below)

      start_after : next s.purge_to ≤ send_start s e
      start_after = start_past (next e.matching) (e.searching_end - next e.matching) (next s.purge_to)

      prev_next : next (before s.ids (send_start s e)) ≡ send_start s e
      prev_next = next_before (send_start s e) start_after start_log

      done : (send_start s e == send_end s payload (send_start s e)) ≡ true → IsDone (last s.ids) e
      done q =
          let z : send_start s e ≡ next (last s.ids) = full (send_start s e) payload (next (last s.ids)) start_log below_end some (equal (send_start s e) (send_end s payload (send_start s e)) q) in
          record { free = free; matching = whole_matches e.matching f.matching (searched (next e.matching) e.searching_end (next (last s.ids)) (next s.purge_to) f.above f.below unpurged z) }

      sends : (send_start s e == send_end s payload (send_start s e)) ≡ false
          → IsSent (next (last s.ids)) (sent e (Ok (inflight.Logs (e.last_inflight_id + 1) (record { prev = before s.ids (send_start s e); last = before s.ids (send_end s payload (send_start s e)) }))))
      sends q =
          let more : send_start s e < send_end s payload (send_start s e) = past_start (send_start s e) payload (next (last s.ids)) start_log below_end (differ (send_start s e) (send_end s payload (send_start s e)) q) in
          let in_log : send_end s payload (send_start s e) ≤ next (last s.ids) = end_within (saturating_add (send_start s e) payload) (next (last s.ids)) in
          let after : next s.purge_to ≤ send_start s e = start_after in
          let upto_next : next (before s.ids (send_end s payload (send_start s e))) ≡ send_end s payload (send_start s e) = next_before (send_end s payload (send_start s e)) (omega (arith, after, more)) in_log in
          let prev : next (before s.ids (send_start s e)) ≡ send_start s e = prev_next in
          let high : send_start s e ≤ e.searching_end = start_in in
          let low : next e.matching ≤ send_start s e = start_low (next e.matching) (e.searching_end - next e.matching) (next s.purge_to) in
          record {
            prev = before s.ids (send_start s e);
            upto = before s.ids (send_end s payload (send_start s e));
            low = omega (arith, low, prev);
            high = omega (arith, high, prev);
            some = omega (arith, more, prev, upto_next);
            within = omega (arith, in_log, upto_next);
            number = e.last_inflight_id + 1;
            is = refl;
          }

    -- it is sent what comes next, or its log matches
    pub serves : IsServed (last s.ids) (sent e (next_send s payload e))
    serves =
        go (not (is_idle e)) (nat_lt e.searching_end (next s.purge_to)) (ap (λ i. not (is_none (inflight_id i))) free) refl (send_start s e == send_end s payload (send_start s e)) refl
      where
        made : Bool → Bool → Bool → ProgressEntry NID
        made busy low same_end = sent e (
            if busy then Err e.inflight
            else if low then Ok (inflight.Snapshot (e.last_inflight_id + 1) s.snap.last_log_id)
            else if same_end then Err inflight.None
            else Ok (inflight.Logs (e.last_inflight_id + 1) (record { prev = before s.ids (send_start s e); last = before s.ids (send_end s payload (send_start s e)) })))

        go : (busy low : Bool) → busy ≡ false → nat_lt e.searching_end (next s.purge_to) ≡ low → (same_end : Bool) → (send_start s e == send_end s payload (send_start s e)) ≡ same_end → IsServed (last s.ids) (made busy low same_end)
        go true low b l same_end q = cc
        go false true b l same_end q = inl (inr (ships l))
        go false false b l true q = inr (done l q)
        go false false b l false q = inl (inl (sends l q))

    -- entries that are sent begin past what is to be purged
    pub past_purge : (number : ℕ) (range : LogIdRange NID) → (sent e (next_send s payload e)).inflight ≡ inflight.Logs number range → next s.purge_to ≤ next range.prev
    past_purge number range = go (not (is_idle e)) (nat_lt e.searching_end (next s.purge_to)) refl (send_start s e == send_end s payload (send_start s e))
      where
        go : (busy low : Bool) → nat_lt e.searching_end (next s.purge_to) ≡ low → (same_end : Bool)
            → (sent e (
            if busy then Err e.inflight
            else if low then Ok (inflight.Snapshot (e.last_inflight_id + 1) s.snap.last_log_id)
            else if same_end then Err inflight.None
            else Ok (inflight.Logs (e.last_inflight_id + 1) (record { prev = before s.ids (send_start s e); last = before s.ids (send_end s payload (send_start s e)) })))).inflight
            ≡ inflight.Logs number range → next s.purge_to ≤ next range.prev
        go true low l same_end q = cc
        go false true l same_end q = cc
        go false false l true q = cc
        go false false l false q =
            let z : ◌≡◌ {A = Option (LogId NID)} (before s.ids (send_start s e)) range.prev = ap (prev_in (before s.ids (send_start s e))) q in
            let p : next (before s.ids (send_start s e)) ≡ send_start s e = prev_next l in
            let after : next s.purge_to ≤ send_start s e = start_after l in
            subst (λ o. next s.purge_to ≤ next o) z (omega (arith, p, after))
          where
            prev_in : Option (LogId NID) → Inflight NID → Option (LogId NID)
            prev_in d inflight.None = d
            prev_in d (inflight.Logs number range) = range.prev
            prev_in d (inflight.Snapshot number end) = d

-- An answer

falls_matched : (m se st en n : ℕ) → m ≤ st → st ≤ se → st < en → en ≤ n → (max se en - en) + (n - en) < (se - m) + (n - m)
falls_matched m se st en n a b c d = omega (arith, a, b, c, d)

falls_shipped : (m se en n : ℕ) → m < en → en ≤ n → (max se en - en) + (n - en) < (se - m) + (n - m)
falls_shipped m se en n a b = omega (arith, a, b)

falls_conflicted : (m se st x n : ℕ) → m ≤ st → st ≤ se → st ≡ x + 1 → m ≤ min se x → (min se x - m) + (n - m) < (se - m) + (n - m)
falls_conflicted m se st x n a b c d = omega (arith, a, b, c, d)

module _ {NID : Type 0} (cmp : NID → NID → Ordering) (n : ℕ) (e : ProgressEntry NID) where
  pub matched_falls : (i : IsSent n e) (x : Option (LogId NID)) → x ≡ i.upto → gap n (matched cmp e x) < gap n e
  matched_falls i x q = subst (λ y. gap n (matched cmp e y) < gap n e) (sym q) (falls_matched (next e.matching) e.searching_end (next i.prev) (next i.upto) n i.low i.high i.some i.within)

  pub shipped_falls : (i : IsShipped n e) (x : Option (LogId NID)) → x ≡ i.upto → gap n (matched cmp e x) < gap n e
  shipped_falls i x q = subst (λ y. gap n (matched cmp e y) < gap n e) (sym q) (falls_shipped (next e.matching) e.searching_end (next i.upto) n i.low i.within)

  pub conflicted_falls : (i : IsSent n e) (number : ℕ) (x : LogId NID) → i.prev ≡ Some x → next e.matching ≤ min e.searching_end x.index → gap n (conflicted e (Some number) x.index) < gap n e
  conflicted_falls i number x q l = falls_conflicted (next e.matching) e.searching_end (next i.prev) x.index n i.low i.high (ap next q) l
