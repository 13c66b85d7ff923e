-- What holds of a state's parts after each change of them.
use Rattle.std.specs.Prelude.{◌≡◌, ℕ, ◌+◌, ◌<◌, ◌≤◌, ◌⊎◌, nat_lt, true, List, [], ◌∷◌, ◌++◌, Option, None, Some, IfSome, refl, length, slice_get}
use Rattle.std.specs.List.{AllByRecursion, last_or}
use Rattle.std.specs.Option.{option_or}
use Rattle.std.proofs.Common.{ap, sym, ◌∙◌, rules, arith, ⊎_elim, subst}
use Rattle.std.specs.declared.cmp.Ordering.{Ordering}
use Rattle.std.specs.declared.cmp.Ordering.TheVariants.{Equal}
use Rattle.std.specs.Ordering.{is_eq, is_le, is_gt}
use Rattle.std.specs.Cmp.{IsTotalOrder}
use Rattle.std.proofs.lemmas.Cmp.{tied_itself}
use Rattle.raft_state.specs.declared.ids.LeaderId.{LeaderId}
use Rattle.raft_state.specs.declared.ids.LogId.{LogId}
use Rattle.raft_state.specs.Order.{leader_id_cmp, last_id_cmp, next}
use Rattle.raft_state.specs.Log.{last, at, below}
use Rattle.raft_state.specs.LogLaws.{IsRun, at-append, at-below}
use Rattle.raft_state.specs.State.{is_found}
use Rattle.raft_state.specs.Same.{found_is}
use Rattle.raft_state.specs.Fits.{fits, is_within, is_below}
use Rattle.raft_state.specs.Consecutive.{follows_on}
use Rattle.raft_state.specs.Invariants.{Rises, IsUnder, IsBelowEnd, first_index, LogOrder, AcceptedRecord, StateFits}
use Rattle.raft_state.proofs.Orders.{leader_total, log_id_total, last_total, le_refl, le_trans, le_antisymm, eq_swap, eq_is_le, lt_is_le, lt_of_gt, within_of, within_next, within_trans, nat_lt_of, or_cases, or_left, or_right}
use Rattle.raft_state.proofs.LogLists.{each_append, each_filter, each_map, last_is, last_append, run_append, run_next, at_has, below_run, rises_append, rises_below, follow_rise, follow_run, rise_within, has_within, has_le_index, fits_has}

module _ {NID : Type 0} (cmp : NID → NID → Ordering) (total : IsTotalOrder cmp) (same : (a b : NID) → cmp a b ≡ Equal → a ≡ b) where
  pub within_none : (b : Option (LogId NID)) → is_within cmp None b ≡ true
  within_none None = refl
  within_none (Some x) = within_of cmp total None (Some x) refl (omega arith)

  -- an id that an index finds is found
  pub is_found_at : (ids : List (LogId NID)) (x : LogId NID) (o : Option (LogId NID)) → o ≡ Some x → is_found cmp o x ≡ true
  is_found_at ids x o e = rw e (ap is_eq (tied_itself (log_id_total cmp total) x))

  -- the index after the last id of a log
  pub log_next : (leader : LeaderId NID) (ids : List (LogId NID)) (purged : Option (LogId NID)) → LogOrder cmp leader ids purged → next (last ids) ≡ first_index purged + length ids
  log_next leader [] None h = refl
  log_next leader [] (Some p) h = let e : None ≡ Some p = h.first in cc
  log_next leader (x ∷ xs) purged h =
      let i : next (Some x) ≡ first_index purged + 1 = ap (λ k. k + 1) h.run.0 in
      let r : next (last_or (Some x) xs) ≡ (first_index purged + 1) + length xs = run_next (Some x) (first_index purged + 1) xs i h.run.1 in
      ap next (last_is (x ∷ xs)) ∙ omega (arith, r)

  -- an id below k is found where the log is cut there
  pub at_below_is : (ids : List (LogId NID)) (k : ℕ) (x : LogId NID) → x.index + 1 ≤ k → at ids x.index ≡ Some x → at (below k ids) x.index ≡ Some x
  at_below_is ids k x l e = let t : nat_lt x.index k ≡ true = nat_lt_of _ _ (omega (arith, l)) in at-below k ids x.index ∙ rw t e

  module _ (purged : Option (LogId NID)) where
    -- what fits a log fits it once it has grown
    pub fits_append : (ids new : List (LogId NID)) (x : Option (LogId NID)) → fits cmp ids purged x ≡ true → fits cmp (ids ++ new) purged x ≡ true
    fits_append ids new None h = refl
    fits_append ids new (Some x) h =
        ⊎_elim
        (λ (e : is_found cmp (at ids x.index) x ≡ true). or_left _ (is_below cmp (Some x) purged)
        (is_found_at ids x _ (at-append ids new x.index ∙ ap (λ o. option_or o (at new x.index)) (found_is cmp same _ x e))))
        (λ (e : is_below cmp (Some x) purged ≡ true). or_right (is_found cmp (at (ids ++ new) x.index) x) _ e)
        (or_cases _ (is_below cmp (Some x) purged) h)

    -- and what lies below k fits it once it is cut there
    pub fits_below : (ids : List (LogId NID)) (k : ℕ) (x : Option (LogId NID)) → next x ≤ k → fits cmp ids purged x ≡ true → fits cmp (below k ids) purged x ≡ true
    fits_below ids k None l h = refl
    fits_below ids k (Some x) l h =
        ⊎_elim
        (λ (e : is_found cmp (at ids x.index) x ≡ true). or_left _ (is_below cmp (Some x) purged) (is_found_at ids x _ (at_below_is ids k x l (found_is cmp same _ x e))))
        (λ (e : is_below cmp (Some x) purged ≡ true). or_right (is_found cmp (at (below k ids) x.index) x) _ e)
        (or_cases _ (is_below cmp (Some x) purged) h)

  module _ (leader : LeaderId NID) (ids : List (LogId NID)) (purged purge_to snapshot committed : Option (LogId NID)) (accepted_by : Option (LeaderId NID × LogId NID)) (h : StateFits cmp leader ids purged purge_to snapshot committed accepted_by) where
    -- purged within committed
    pub purged_within : is_within cmp purged committed ≡ true
    purged_within =
        within_trans cmp total purged purge_to committed h.marks.at_purged
        (within_trans cmp total purge_to snapshot committed h.marks.at_target h.marks.at_snapshot)

    -- a committed id is in the log
    pub committed_has : (c : LogId NID) → committed ≡ Some c → at ids c.index ≡ Some c
    committed_has c e =
        fits_has cmp total same ids purged c (subst (λ o. fits cmp ids purged o ≡ true) e h.marks.committed_fits) (subst (λ o. is_within cmp purged o ≡ true) e purged_within)

    -- a vote that isn't below the old one
    pub raised : (new : LeaderId NID) → is_le (leader_id_cmp cmp leader new) ≡ true → StateFits cmp new ids purged purge_to snapshot committed accepted_by
    raised new le = record {
      log = record {
        by_vote = each_map (IsUnder cmp leader) (IsUnder cmp new) (λ x u. le_trans (leader_total cmp total) x.leader_id leader new u le) ids h.log.by_vote;
        rising = h.log.rising;
        run = h.log.run;
        below_end = h.log.below_end;
        first = h.log.first;
      };
      marks = h.marks;
      accepted = raised_record accepted_by h.accepted;
    } where
      raised_record : (o : Option (LeaderId NID × LogId NID)) → IfSome o (λ r. AcceptedRecord cmp leader r.0 r.1 ids purged committed) → IfSome o (λ r. AcceptedRecord cmp new r.0 r.1 ids purged committed)
      raised_record None a = tt
      raised_record (Some r) a = record {
        by_vote = le_trans (leader_total cmp total) r.0 leader new a.by_vote le;
        held = λ e. a.held (le_antisymm (leader_total cmp total) r.0 leader a.by_vote
            (le_trans (leader_total cmp total) leader new r.0 le (eq_is_le _ (eq_swap (leader_total cmp total) r.0 new e))));
      }

    -- ids that follow on the last one
    pub grown : (new : List (LogId NID)) → follows_on cmp (last ids) new ≡ true → AllByRecursion (IsUnder cmp leader) new → AllByRecursion IsBelowEnd new
        → StateFits cmp leader (ids ++ new) purged purge_to snapshot committed accepted_by
    grown new follow under end =
        let n : next (last ids) ≡ first_index purged + length ids = log_next leader ids purged h.log in
        let run : IsRun (first_index purged + length ids) new = follow_run cmp (last ids) _ new n follow in
        let rise : Rises cmp (last ids) new = follow_rise cmp (last ids) new follow in
        let ends : last (ids ++ new) ≡ last_or (last ids) new = last_is (ids ++ new) ∙ last_append None ids new ∙ ap (λ d. last_or d new) (sym (last_is ids)) in
        record {
          log = record {
            by_vote = each_append (IsUnder cmp leader) ids new h.log.by_vote under;
            rising = rises_append cmp None ids new h.log.rising (subst (λ d. Rises cmp d new) (last_is ids) rise);
            run = run_append _ ids new h.log.run run;
            below_end = each_append IsBelowEnd ids new h.log.below_end end;
            first = grown_first purged ids h.log.first new;
          };
          marks = record {
            at_purged = h.marks.at_purged;
            at_target = h.marks.at_target;
            at_snapshot = h.marks.at_snapshot;
            at_committed = subst (λ d. is_within cmp committed d ≡ true) (sym ends)
                (within_trans cmp total committed (last ids) _ h.marks.at_committed
                (rise_within cmp total (last ids) _ new (omega (arith, n)) run rise));
            target_fits = fits_append purged ids new purge_to h.marks.target_fits;
            snapshot_fits = fits_append purged ids new snapshot h.marks.snapshot_fits;
            committed_fits = fits_append purged ids new committed h.marks.committed_fits;
          };
          accepted = grown_record accepted_by new h.accepted;
        } where
          grown_first : (p : Option (LogId NID)) (xs : List (LogId NID)) → IfSome p (λ x. slice_get xs 0 ≡ Some x) → (ys : List (LogId NID)) → IfSome p (λ x. slice_get (xs ++ ys) 0 ≡ Some x)
          grown_first None xs f ys = tt
          grown_first (Some x) [] f ys = cc
          grown_first (Some x) (z ∷ zs) f ys = f

          grown_record : (o : Option (LeaderId NID × LogId NID)) (new : List (LogId NID)) → IfSome o (λ r. AcceptedRecord cmp leader r.0 r.1 ids purged committed) → IfSome o (λ r. AcceptedRecord cmp leader r.0 r.1 (ids ++ new) purged committed)
          grown_record None new a = tt
          grown_record (Some r) new a = record {
            by_vote = a.by_vote;
            held = λ e. ⊎_elim
                (λ (f : fits cmp ids purged (Some r.1) ≡ true). or_left (fits cmp (ids ++ new) purged (Some r.1)) (is_within cmp (Some r.1) committed) (fits_append purged ids new (Some r.1) f))
                (λ (w : is_within cmp (Some r.1) committed ≡ true). or_right (fits cmp (ids ++ new) purged (Some r.1)) _ w)
                (or_cases (fits cmp ids purged (Some r.1)) (is_within cmp (Some r.1) committed) (a.held e));
          }

    -- a commit of an id in the log, above the committed one
    pub settled : (x : LogId NID) → at ids x.index ≡ Some x → is_gt (last_id_cmp cmp (Some x) committed) ≡ true
        → StateFits cmp leader ids purged purge_to snapshot (Some x) accepted_by
    settled x e g =
        let le : is_le (last_id_cmp cmp committed (Some x)) ≡ true = lt_is_le _ (lt_of_gt (last_total cmp total) (Some x) committed g) in
        let w : is_within cmp committed (Some x) ≡ true = rises_to committed refl le in
        record {
          log = h.log;
          marks = record {
            at_purged = h.marks.at_purged;
            at_target = h.marks.at_target;
            at_snapshot = within_trans cmp total snapshot committed (Some x) h.marks.at_snapshot w;
            at_committed = subst (λ d. is_within cmp (Some x) d ≡ true) (sym (last_is ids)) (has_within cmp total x None _ ids h.log.run h.log.rising (at_has x.index x ids e));
            target_fits = h.marks.target_fits;
            snapshot_fits = h.marks.snapshot_fits;
            committed_fits = or_left _ (is_below cmp (Some x) purged) (is_found_at ids x _ e);
          };
          accepted = settled_record accepted_by x w h.accepted;
        } where
          rises_to : (c : Option (LogId NID)) → committed ≡ c → is_le (last_id_cmp cmp c (Some x)) ≡ true → is_within cmp c (Some x) ≡ true
          rises_to None ce le = within_none (Some x)
          rises_to (Some c) ce le =
              within_of cmp total (Some c) (Some x) le
              (let i : c.index ≤ x.index = has_le_index cmp total c x None (first_index purged) ids h.log.run h.log.rising (at_has c.index c ids (committed_has c ce)) (at_has x.index x ids e) le in omega (arith, i))

          settled_record : (o : Option (LeaderId NID × LogId NID)) (x : LogId NID) → is_within cmp committed (Some x) ≡ true → IfSome o (λ r. AcceptedRecord cmp leader r.0 r.1 ids purged committed) → IfSome o (λ r. AcceptedRecord cmp leader r.0 r.1 ids purged (Some x))
          settled_record None x w a = tt
          settled_record (Some r) x w a = record {
            by_vote = a.by_vote;
            held = λ e. ⊎_elim
                (λ (f : fits cmp ids purged (Some r.1) ≡ true). or_left (fits cmp ids purged (Some r.1)) (is_within cmp (Some r.1) (Some x)) f)
                (λ (v : is_within cmp (Some r.1) committed ≡ true). or_right (fits cmp ids purged (Some r.1)) _ (within_trans cmp total (Some r.1) committed (Some x) v w))
                (or_cases (fits cmp ids purged (Some r.1)) (is_within cmp (Some r.1) committed) (a.held e));
          }

    -- a cut past the committed ids, and past what was accepted of the vote's leader
    pub cut : (k : ℕ) → next committed ≤ k → IfSome accepted_by (λ r. is_eq (leader_id_cmp cmp r.0 leader) ≡ true → (r.1.index < k) ⊎ (is_within cmp (Some r.1) committed ≡ true))
        → StateFits cmp leader (below k ids) purged purge_to snapshot committed accepted_by
    cut k l acc =
        let pw : next purged ≤ next committed = within_next cmp total purged committed purged_within in
        let tw : next purge_to ≤ next committed = within_next cmp total purge_to committed (within_trans cmp total purge_to snapshot committed h.marks.at_target h.marks.at_snapshot) in
        let sw : next snapshot ≤ next committed = within_next cmp total snapshot committed h.marks.at_snapshot in
        let run : IsRun (first_index purged) (below k ids) = below_run _ k ids h.log.run in
        let rise : Rises cmp None (below k ids) = rises_below cmp None _ k ids h.log.run h.log.rising in
        record {
          log = record {
            by_vote = each_filter (IsUnder cmp leader) (λ x. nat_lt x.index k) ids h.log.by_vote;
            rising = rise;
            run = run;
            below_end = each_filter IsBelowEnd (λ x. nat_lt x.index k) ids h.log.below_end;
            first = cut_first purged ids h.log.first k (omega (arith, pw, l));
          };
          marks = record {
            at_purged = h.marks.at_purged;
            at_target = h.marks.at_target;
            at_snapshot = h.marks.at_snapshot;
            at_committed = cut_committed committed refl k l run rise;
            target_fits = fits_below purged ids k purge_to (omega (arith, tw, l)) h.marks.target_fits;
            snapshot_fits = fits_below purged ids k snapshot (omega (arith, sw, l)) h.marks.snapshot_fits;
            committed_fits = fits_below purged ids k committed l h.marks.committed_fits;
          };
          accepted = cut_record accepted_by k acc h.accepted;
        } where
          cut_first : (p : Option (LogId NID)) (xs : List (LogId NID)) → IfSome p (λ x. slice_get xs 0 ≡ Some x) → (k : ℕ) → next p ≤ k → IfSome p (λ x. slice_get (below k xs) 0 ≡ Some x)
          cut_first None xs f k l = tt
          cut_first (Some x) [] f k l = cc
          cut_first (Some x) (z ∷ zs) f k l =
              let e : z ≡ x = search (rules, f) in
              let t : nat_lt z.index k ≡ true = nat_lt_of _ _ (let q : z.index ≡ x.index = ap (λ y. y.index) e in omega (arith, q, l)) in
              rw t f

          cut_committed : (c : Option (LogId NID)) → committed ≡ c → (k : ℕ) → next c ≤ k → IsRun (first_index purged) (below k ids) → Rises cmp None (below k ids) → is_within cmp c (last (below k ids)) ≡ true
          cut_committed None ce k l run rise = within_none (last (below k ids))
          cut_committed (Some c) ce k l run rise =
              subst (λ d. is_within cmp (Some c) d ≡ true) (sym (last_is (below k ids)))
              (has_within cmp total c None (first_index purged) (below k ids) run rise (at_has c.index c (below k ids) (at_below_is ids k c l (committed_has c ce))))

          cut_record : (o : Option (LeaderId NID × LogId NID)) (k : ℕ) → IfSome o (λ r. is_eq (leader_id_cmp cmp r.0 leader) ≡ true → (r.1.index < k) ⊎ (is_within cmp (Some r.1) committed ≡ true))
              → IfSome o (λ r. AcceptedRecord cmp leader r.0 r.1 ids purged committed) → IfSome o (λ r. AcceptedRecord cmp leader r.0 r.1 (below k ids) purged committed)
          cut_record None k acc a = tt
          cut_record (Some r) k acc a = record {
            by_vote = a.by_vote;
            held = λ e. ⊎_elim
                (λ (i : r.1.index < k). ⊎_elim
                (λ (f : fits cmp ids purged (Some r.1) ≡ true). or_left (fits cmp (below k ids) purged (Some r.1)) (is_within cmp (Some r.1) committed) (fits_below purged ids k (Some r.1) (omega (arith, i)) f))
                (λ (w : is_within cmp (Some r.1) committed ≡ true). or_right (fits cmp (below k ids) purged (Some r.1)) _ w)
                (or_cases (fits cmp ids purged (Some r.1)) (is_within cmp (Some r.1) committed) (a.held e)))
                (λ (w : is_within cmp (Some r.1) committed ≡ true). or_right (fits cmp (below k ids) purged (Some r.1)) _ w)
                (acc e);
          }

    -- an id that fits is accepted
    pub noted : (x : LogId NID) → fits cmp ids purged (Some x) ≡ true → StateFits cmp leader ids purged purge_to snapshot committed (Some (leader, x))
    noted x f = record {
      log = h.log;
      marks = h.marks;
      accepted = record { by_vote = le_refl (leader_total cmp total) leader; held = λ e. or_left (fits cmp ids purged (Some x)) (is_within cmp (Some x) committed) f };
    }
