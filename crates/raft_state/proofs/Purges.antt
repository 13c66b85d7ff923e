-- What a purge leaves of a log, and what holds of a state after it.
use Rattle.std.proofs.Common.{ℕ, zero, suc, ◌+◌, ◌-◌, ◌<◌, ◌≤◌, ◌≡◌, ⊎_elim, Bool, true, false, cond, not, List, [], ◌∷◌, length, drop, arith, refl, sym, ap, ◌∙◌, subst, Option, Some, None}
use Rattle.std.specs.Prelude.{nat_lt, ◌==◌, slice_get, IfSome}
use Rattle.std.specs.List.{last_or}
use Rattle.std.proofs.lemmas.Bool.Decides.{nat_tests}
use Rattle.std.specs.declared.cmp.Ordering.{Ordering}
use Rattle.std.specs.declared.cmp.Ordering.TheVariants.{Equal}
use Rattle.std.specs.Ordering.{is_lt}
use Rattle.std.specs.Cmp.{IsTotalOrder}
use Rattle.raft_state.specs.declared.ids.LeaderId.{LeaderId}
use Rattle.raft_state.specs.declared.ids.LogId.{LogId}
use Rattle.raft_state.specs.Order.{last_id_cmp, next}
use Rattle.raft_state.specs.Log.{last, at, from}
use Rattle.raft_state.specs.LogLaws.{IsRun, at-from, at-run}
use Rattle.raft_state.specs.Same.{found_is}
use Rattle.raft_state.specs.State.{is_found}
use Rattle.raft_state.specs.Fits.{fits, is_within, is_below}
use Rattle.raft_state.specs.Invariants.{Rises, IsUnder, IsBelowEnd, first_index, AcceptedRecord, StateFits}
use Rattle.raft_state.proofs.Orders.{both_and, last_total, lt_le, nat_lt_of, or_cases, or_left, or_right, within_le, within_next, within_refl, within_trans, and_both, nat_lt_is}
use Rattle.raft_state.proofs.LogLists.{each_filter, last_is, at_has, run_low, has_lt, fits_has}
use Rattle.raft_state.proofs.Places.{drop_from}
use Rattle.raft_state.proofs.StateLaws.{is_found_at, purged_within}

module _ {NID : Type 0} where
  run_drop : (n k : ℕ) (ids : List (LogId NID)) → IsRun n ids → IsRun (n + k) (drop k ids)
  run_drop n zero [] r = tt
  run_drop n (suc k) [] r = tt
  run_drop n zero (x ∷ xs) r = let e : n ≡ n + 0 = omega arith in subst (λ m. IsRun m (x ∷ xs)) e r
  run_drop n (suc k) (x ∷ xs) r = let e : (n + 1) + k ≡ n + suc k = omega arith in subst (λ m. IsRun m (drop k xs)) e (run_drop (n + 1) k xs r.1)

  -- the last id stays where something is left
  last_drop : (d e : Option (LogId NID)) (k : ℕ) (ids : List (LogId NID)) → k < length ids → last_or d (drop k ids) ≡ last_or e ids
  last_drop d e k [] l = absurd (omega (arith, l))
  last_drop d e zero (x ∷ xs) l = refl
  last_drop d e (suc k) (x ∷ xs) l = last_drop d (Some x) k xs (omega (arith, l))

  first_drop : (k : ℕ) (ids : List (LogId NID)) → slice_get (drop k ids) 0 ≡ slice_get ids k
  first_drop zero [] = refl
  first_drop (suc k) [] = refl
  first_drop zero (x ∷ xs) = refl
  first_drop (suc k) (x ∷ xs) = first_drop k xs

  within_length : (k : ℕ) (x : LogId NID) (ids : List (LogId NID)) → slice_get ids k ≡ Some x → k < length ids
  within_length k x [] e = cc
  within_length zero x (y ∷ ys) e = omega arith
  within_length (suc k) x (y ∷ ys) e = let l : k < length ys = within_length k x ys e in omega (arith, l)

module _ {NID : Type 0} (cmp : NID → NID → Ordering) where
  rises_drop : (d : Option (LogId NID)) (k : ℕ) (ids : List (LogId NID)) → Rises cmp d ids → Rises cmp None (drop k ids)
  rises_drop d zero [] h = tt
  rises_drop d (suc k) [] h = tt
  rises_drop d zero (x ∷ xs) h = (refl, h.1)
  rises_drop d (suc k) (x ∷ xs) h = rises_drop (Some x) k xs h.1

-- a log that is cut off below an id of it
module _ {NID : Type 0} (cmp : NID → NID → Ordering) (total : IsTotalOrder cmp) (same : (a b : NID) → cmp a b ≡ Equal → a ≡ b)
    (leader : LeaderId NID) (ids : List (LogId NID)) (purged purge_to snapshot committed : Option (LogId NID)) (accepted_by : Option (LeaderId NID × LogId NID))
    (h : StateFits cmp leader ids purged purge_to snapshot committed accepted_by) (x : LogId NID) (held : at ids x.index ≡ Some x) where
  low : first_index purged ≤ x.index
  low = run_low (first_index purged) x ids h.log.run (at_has x.index x ids held)

  abbrev place : ℕ
  place = x.index - first_index purged

  there : first_index purged + place ≡ x.index
  there = omega (arith, low)

  is_drop : from x.index ids ≡ drop place ids
  is_drop = sym (drop_from (first_index purged) place ids h.log.run ∙ ap (λ k. from k ids) there)

  in_place : slice_get ids place ≡ Some x
  in_place = sym (at-run (first_index purged) place ids h.log.run) ∙ ap (at ids) there ∙ held

  rest_run : IsRun x.index (from x.index ids)
  rest_run = rw is_drop (subst (λ k. IsRun k (drop place ids)) there (run_drop (first_index purged) place ids h.log.run))

  rest_last : last (from x.index ids) ≡ last ids
  rest_last =
      last_is (from x.index ids)
      ∙ ap (last_or None) is_drop
      ∙ last_drop None None place ids (within_length place x ids in_place)
      ∙ sym (last_is ids)

  -- what stands at or past the id is still found
  still_at : (y : LogId NID) → x.index ≤ y.index → at ids y.index ≡ Some y → at (from x.index ids) y.index ≡ Some y
  still_at y l e = at-from x.index ids y.index ∙ rw (no_less y.index x.index l) e where
    no_less : (a b : ℕ) → b ≤ a → not (nat_lt a b) ≡ true
    no_less a b l = grind (arith, nat_tests)

  -- an id that the new purged one is within fits as before
  still_fits : (p : Option (LogId NID)) → is_within cmp (Some x) p ≡ true → is_within cmp purged p ≡ true → fits cmp ids purged p ≡ true → fits cmp (from x.index ids) (Some x) p ≡ true
  still_fits None w v f = refl
  still_fits (Some y) w v f =
      let e : at ids y.index ≡ Some y = fits_has cmp total same ids purged y f v in
      let n : x.index + 1 ≤ y.index + 1 = within_next cmp total (Some x) (Some y) w in
      or_left _ (is_below cmp (Some y) (Some x)) (is_found_at cmp total same (from x.index ids) y _ (still_at y (omega (arith, n)) e))

  -- an id that fits does so after the purge
  kept_fits : is_within cmp purged (Some x) ≡ true → (y : LogId NID) → fits cmp ids purged (Some y) ≡ true → fits cmp (from x.index ids) (Some x) (Some y) ≡ true
  kept_fits w y f =
      ⊎_elim
      (λ (e : is_found cmp (at ids y.index) y ≡ true). found (found_is cmp same _ y e) (nat_lt y.index x.index) refl)
      (λ (e : is_below cmp (Some y) purged ≡ true).
      let p = and_both (is_lt (last_id_cmp cmp (Some y) purged)) (nat_lt (next (Some y)) (next purged)) e in
      let n : y.index + 1 < next purged = nat_lt_is _ _ p.1 in
      let m : next purged ≤ x.index + 1 = within_next cmp total purged (Some x) w in
      or_right (is_found cmp (at (from x.index ids) y.index) y) _
      (both_and _ _ (lt_le (last_total cmp total) (Some y) purged (Some x) p.0 (within_le cmp total purged (Some x) w)) (nat_lt_of _ _ (omega (arith, n, m)))))
      (or_cases _ (is_below cmp (Some y) purged) f) where
        past_of : (a b : ℕ) → nat_lt a b ≡ true → nat_lt (a + 1) (b + 1) ≡ true
        past_of a b t = grind (arith, nat_tests)

        at_least : (a b : ℕ) → nat_lt a b ≡ false → b ≤ a
        at_least a b t = grind (arith, nat_tests)

        found : at ids y.index ≡ Some y → (b : Bool) → nat_lt y.index x.index ≡ b → fits cmp (from x.index ids) (Some x) (Some y) ≡ true
        found e true t =
            or_right (is_found cmp (at (from x.index ids) y.index) y) _
            (both_and _ _ (has_lt cmp total y x None (first_index purged) ids h.log.run h.log.rising (at_has y.index y ids e) (at_has x.index x ids held) (nat_lt_is _ _ t)) (past_of _ _ t))
        found e false t = or_left _ (is_below cmp (Some y) (Some x)) (is_found_at cmp total same (from x.index ids) y _ (still_at y (at_least _ _ t) e))

  -- a purge up to an id of the log, from the purged one to the purge target
  pub purged_to : is_within cmp purged (Some x) ≡ true → is_within cmp (Some x) purge_to ≡ true → StateFits cmp leader (from x.index ids) (Some x) purge_to snapshot committed accepted_by
  purged_to above below =
      let s : is_within cmp (Some x) snapshot ≡ true = within_trans cmp total (Some x) purge_to snapshot below h.marks.at_target in
      let c : is_within cmp (Some x) committed ≡ true = within_trans cmp total (Some x) snapshot committed s h.marks.at_snapshot in
      record {
        log = record {
          by_vote = each_filter (IsUnder cmp leader) (λ y. not (nat_lt y.index x.index)) ids h.log.by_vote;
          rising = rw is_drop (rises_drop cmp None place ids h.log.rising);
          run = rest_run;
          below_end = each_filter IsBelowEnd (λ y. not (nat_lt y.index x.index)) ids h.log.below_end;
          first = ap (λ l. slice_get l 0) is_drop ∙ (first_drop place ids ∙ in_place);
        };
        marks = record {
          at_purged = below;
          at_target = h.marks.at_target;
          at_snapshot = h.marks.at_snapshot;
          at_committed = subst (λ d. is_within cmp committed d ≡ true) (sym rest_last) h.marks.at_committed;
          target_fits = still_fits purge_to below h.marks.at_purged h.marks.target_fits;
          snapshot_fits = still_fits snapshot s (within_trans cmp total purged purge_to snapshot h.marks.at_purged h.marks.at_target) h.marks.snapshot_fits;
          committed_fits = still_fits committed c (purged_within cmp total same leader ids purged purge_to snapshot committed accepted_by h) h.marks.committed_fits;
        };
        accepted = kept_record accepted_by h.accepted;
      } where
        kept_record : (o : Option (LeaderId NID × LogId NID)) → IfSome o (λ r. AcceptedRecord cmp leader r.0 r.1 ids purged committed) → IfSome o (λ r. AcceptedRecord cmp leader r.0 r.1 (from x.index ids) (Some x) committed)
        kept_record None a = tt
        kept_record (Some r) a = record {
          by_vote = a.by_vote;
          held = λ e. ⊎_elim
              (λ (f : fits cmp ids purged (Some r.1) ≡ true). or_left (fits cmp (from x.index ids) (Some x) (Some r.1)) (is_within cmp (Some r.1) committed) (kept_fits above r.1 f))
              (λ (w : is_within cmp (Some r.1) committed ≡ true). or_right (fits cmp (from x.index ids) (Some x) (Some r.1)) _ w)
              (or_cases (fits cmp ids purged (Some r.1)) (is_within cmp (Some r.1) committed) (a.held e));
        }

-- a log of a snapshot's last id alone
module _ {NID : Type 0} (cmp : NID → NID → Ordering) (total : IsTotalOrder cmp) (same : (a b : NID) → cmp a b ≡ Equal → a ≡ b) where
  pub replaced : (leader : LeaderId NID) (x : LogId NID) (accepted_by : Option (LeaderId NID × LogId NID)) → IsUnder cmp leader x → IsBelowEnd x
      → IfSome accepted_by (λ r. AcceptedRecord cmp leader r.0 r.1 (x ∷ []) (Some x) (Some x))
      → StateFits cmp leader (x ∷ []) (Some x) (Some x) (Some x) (Some x) accepted_by
  replaced leader x accepted_by u e a =
      let w : is_within cmp (Some x) (Some x) ≡ true = within_refl cmp total (Some x) in
      let f : fits cmp (x ∷ []) (Some x) (Some x) ≡ true =
      or_left _ (is_below cmp (Some x) (Some x)) (is_found_at cmp total same (x ∷ []) x _ (ap (λ b. cond b (Some x) None) (itself x.index))) in
      record {
        log = record { by_vote = (u, tt); rising = (refl, tt); run = (refl, tt); below_end = (e, tt); first = refl };
        marks = record { at_purged = w; at_target = w; at_snapshot = w; at_committed = w; target_fits = f; snapshot_fits = f; committed_fits = f };
        accepted = a;
      } where
        itself : (n : ℕ) → (n == n) ≡ true
        itself n = grind (arith, nat_tests)
