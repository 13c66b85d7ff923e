-- What a leader knows of a target fits its log after each change of the log or the entry.
use Rattle.std.specs.Prelude.{◌≡◌, ℕ, ◌+◌, ◌-◌, ◌*◌, ◌/◌, ◌<◌, ◌≤◌, ◌==◌, ◌⊎◌, nat_lt, max, not, Bool, true, false, List, [], ◌∷◌, ◌++◌, Option, None, Some, Ok, Err, IfSome, refl, length, slice_get, if◌then◌else◌}
use Rattle.std.specs.List.{AllByRecursion}
use Rattle.std.proofs.Common.{ap, sym, ◌∙◌, cond, rules, arith, inl, inr, ⊎_elim, suc, zero, subst}
use Rattle.std.proofs.lemmas.Bool.Decides.{nat_tests}
use Rattle.std.specs.declared.cmp.Ordering.{Ordering}
use Rattle.std.specs.declared.cmp.Ordering.TheVariants.{Less, Equal, Greater}
use Rattle.std.specs.Ordering.{is_eq, is_lt, is_le, is_gt, nat_cmp, ordering_then}
use Rattle.std.specs.Cmp.{IsTotalOrder}
use Rattle.raft_state.specs.declared.ids.LeaderId.{LeaderId}
use Rattle.raft_state.specs.declared.ids.LogId.{LogId}
use Rattle.raft_state.specs.declared.state.RaftState.{RaftState}
use Rattle.raft_state.specs.Order.{leader_id_cmp, last_id_cmp, next}
use Rattle.raft_state.specs.Log.{last, at}
use Rattle.raft_state.specs.LogLaws.{IsRun}
use Rattle.raft_state.specs.State.{is_found}
use Rattle.raft_state.specs.Same.{found_is}
use Rattle.raft_state.specs.Fits.{fits, is_within, is_below}
use Rattle.raft_progress_entry.specs.declared.entry.ProgressEntry.{ProgressEntry}
use Rattle.raft_progress_entry.specs.declared.entry.Inflight.TheVariants as inflight
use Rattle.raft_progress_entry.specs.Entry.{empty, silenced, sent, next_send, send_start, send_end, before, is_idle}
use Rattle.raft_state.specs.Invariants.{Rises, IsUnder, first_index, StateFits}
use Rattle.raft_steps.specs.Invariants.{EntryFits, inflight_from}
use Rattle.raft_steps.specs.ReplicationHandler.{own_matched}
use Rattle.raft_state.proofs.Orders.{and_both, leader_total, lt_of_gt, lt_not_ge, last_total, le_refl, le_trans, lt_is_le, lt_le, within_le, within_next, within_of, within_refl, within_trans, nat_lt_is, or_cases}
use Rattle.raft_state.proofs.LogLists.{Has, at_has, last_is, has_within, run_low, has_above, has_lt, fits_has}
use Rattle.raft_state.proofs.StateLaws.{within_none, fits_append, log_next, purged_within}

module _ {NID : Type 0} where
  -- an index within a run finds an id, with that index
  pub run_at : (n i : ℕ) (ids : List (LogId NID)) → IsRun n ids → n ≤ i → i < n + length ids → (z : LogId NID) × (at ids i ≡ Some z) × (z.index ≡ i)
  run_at n i [] r l u = absurd (omega (arith, l, u))
  run_at n i (y ∷ ys) r l u = go (y.index == i) refl (λ k. run_at (n + 1) i ys r.1 k (omega (arith, u))) where
    past : (a n i : ℕ) → (a == i) ≡ false → a ≡ n → n ≤ i → n + 1 ≤ i
    past a n i e q l = grind (arith, nat_tests)

    here : (a i : ℕ) → (a == i) ≡ true → a ≡ i
    here a i e = grind (arith, nat_tests)

    go : (b : Bool) → (y.index == i) ≡ b → (n + 1 ≤ i → (z : LogId NID) × (at ys i ≡ Some z) × (z.index ≡ i)) → (z : LogId NID) × (cond b (Some y) (at ys i) ≡ Some z) × (z.index ≡ i)
    go true e rest = (y, refl, here y.index i e)
    go false e rest = rest (past y.index n i e r.0 l)

then_le : (r s : Ordering) → is_le (ordering_then r s) ≡ true → is_le r ≡ true
then_le Less s h = refl
then_le Equal s h = refl
then_le Greater s h = cc

-- the order of log ids is first that of their leader ids
pub log_le_leader : {NID : Type 0} (cmp : NID → NID → Ordering) (x y : LogId NID) → is_le (last_id_cmp cmp (Some x) (Some y)) ≡ true → is_le (leader_id_cmp cmp x.leader_id y.leader_id) ≡ true
log_le_leader cmp x y h = then_le (leader_id_cmp cmp x.leader_id y.leader_id) (nat_cmp x.index y.index) h

module _ {NID : Type 0} (cmp : NID → NID → Ordering) (total : IsTotalOrder cmp) (same : (a b : NID) → cmp a b ≡ Equal → a ≡ b)
    (leader : LeaderId NID) (ids : List (LogId NID)) (purged purge_to snapshot committed : Option (LogId NID)) (accepted_by : Option (LeaderId NID × LogId NID))
    (h : StateFits cmp leader ids purged purge_to snapshot committed accepted_by) where
  -- each id of the log is at or past the purged one
  purged_first : (p : Option (LogId NID)) (xs : List (LogId NID)) (y : LogId NID) → IfSome p (λ x. slice_get xs 0 ≡ Some x) → IsRun (first_index p) xs → Rises cmp None xs → Has y xs → is_within cmp p (Some y) ≡ true
  purged_first None xs y f r q k = within_none cmp total same (Some y)
  purged_first (Some x) [] y f r q k = absurd k
  purged_first (Some x) (z ∷ zs) y f r q k =
      let e : z ≡ x = search (rules, f) in
      ⊎_elim
      (λ (g : z ≡ y). subst (λ o. is_within cmp (Some o) (Some y) ≡ true) e (subst (λ o. is_within cmp (Some z) (Some o) ≡ true) g (within_refl cmp total (Some z))))
      (λ (m : Has y zs). subst (λ o. is_within cmp (Some o) (Some y) ≡ true) e
      (within_of cmp total (Some z) (Some y) (lt_is_le _ (has_above cmp total y (Some z) zs q.1 m))
      (let low : x.index + 1 ≤ y.index = run_low (x.index + 1) y zs r.1 m in let i : z.index ≡ x.index = r.0 in omega (arith, low, i))))
      k

  -- an id that fits, with an index not above one of the log, is not above it
  pub fits_le : (x y : LogId NID) → fits cmp ids purged (Some x) ≡ true → at ids y.index ≡ Some y → x.index ≤ y.index → is_le (last_id_cmp cmp (Some x) (Some y)) ≡ true
  fits_le x y f e l =
      ⊎_elim
      (λ (g : is_found cmp (at ids x.index) x ≡ true). go (found_is cmp same _ x g) (cases_index x.index y.index l))
      (λ (p : is_below cmp (Some x) purged ≡ true).
      lt_is_le _ (lt_le (last_total cmp total) (Some x) purged (Some y) (and_both _ (nat_lt (next (Some x)) (next purged)) p).0
      (within_le cmp total purged (Some y) (purged_first purged ids y h.log.first h.log.run h.log.rising (at_has y.index y ids e)))))
      (or_cases _ (is_below cmp (Some x) purged) f) where
        cases_index : (a b : ℕ) → a ≤ b → (a < b) ⊎ (a ≡ b)
        cases_index a b l = go2 (nat_lt a b) refl where
          go2 : (t : Bool) → nat_lt a b ≡ t → (a < b) ⊎ (a ≡ b)
          go2 true q = inl (nat_lt_is a b q)
          go2 false q = inr (no_less a b q l) where
            no_less : (a b : ℕ) → nat_lt a b ≡ false → a ≤ b → a ≡ b
            no_less a b q l = grind (arith, nat_tests)

        go : at ids x.index ≡ Some x → (x.index < y.index) ⊎ (x.index ≡ y.index) → is_le (last_id_cmp cmp (Some x) (Some y)) ≡ true
        go g (inl lt) = lt_is_le _ (has_lt cmp total x y None (first_index purged) ids h.log.run h.log.rising (at_has x.index x ids g) (at_has y.index y ids e) lt)
        go g (inr q) =
            let both : Some x ≡ Some y = sym g ∙ ap (at ids) q ∙ e in
            subst (λ o. is_le (last_id_cmp cmp (Some x) o) ≡ true) both (le_refl (last_total cmp total) (Some x))

  -- what matches is not past the snapshot, where the search ends below the purge target
  pub snapshot_ahead : (m snap : Option (LogId NID)) → snapshot ≡ snap → fits cmp ids purged m ≡ true → next m < next purge_to → is_le (last_id_cmp cmp m snap) ≡ true
  snapshot_ahead None None es f l = refl
  snapshot_ahead None (Some y) es f l = refl
  snapshot_ahead (Some x) None es f l =
      absurd (let w : next purge_to ≤ next snapshot = within_next cmp total purge_to snapshot h.marks.at_target in let z : next snapshot ≡ 0 = ap next es in omega (arith, w, z, l))
  snapshot_ahead (Some x) (Some y) es f l =
      let pw : is_within cmp purged snapshot ≡ true = within_trans cmp total purged purge_to snapshot h.marks.at_purged h.marks.at_target in
      let pwy : is_within cmp purged (Some y) ≡ true = subst (λ o. is_within cmp purged o ≡ true) es pw in
      let w : next purge_to ≤ next snapshot = within_next cmp total purge_to snapshot h.marks.at_target in
      let z : next snapshot ≡ y.index + 1 = ap next es in
      fits_le x y f (fits_has cmp total same ids purged y (subst (λ o. fits cmp ids purged o ≡ true) es h.marks.snapshot_fits) pwy) (omega (arith, w, z, l))

  -- what matches is not past the id before a range's start
  pub before_ahead : (m : Option (LogId NID)) (start : ℕ) → fits cmp ids purged m ≡ true → next m ≤ start → next purge_to ≤ start → start ≤ next (last ids) → is_le (last_id_cmp cmp m (before ids start)) ≡ true
  before_ahead None start f l p u = none_le (before ids start) where
    none_le : (o : Option (LogId NID)) → is_le (last_id_cmp cmp None o) ≡ true
    none_le None = refl
    none_le (Some x) = refl
  before_ahead (Some x) zero f l p u = absurd (omega (arith, l))
  before_ahead (Some x) (suc k) f l p u =
      let n : next (last ids) ≡ first_index purged + length ids = log_next cmp total same leader ids purged h.log in
      let pw : next purged ≤ next purge_to = within_next cmp total purged purge_to h.marks.at_purged in
      let low : first_index purged ≤ k = first_low purged (omega (arith, pw, p)) in
      let z = run_at (first_index purged) k ids h.log.run low (omega (arith, n, u)) in
      let i : z.0.index ≡ k = z.2 in
      let e : at ids z.0.index ≡ Some z.0 = subst (λ j. at ids j ≡ Some z.0) (sym i) z.1 in
      rw (before_is k, z.1) (fits_le x z.0 f e (omega (arith, i, l))) where
        before_is : (k : ℕ) → before ids (suc k) ≡ at ids k
        before_is k = let q : (suc k == 0) ≡ false = grind (arith, nat_tests) in let r : suc k - 1 ≡ k = omega arith in rw (q, r) refl

        first_low : (p : Option (LogId NID)) → next p ≤ suc k → first_index p ≤ k
        first_low None l = omega arith
        first_low (Some y) l = omega (arith, l)

  -- the entry of a target that was sent what comes next
  pub sent_fits : {N : Type 0} → (s : RaftState NID N) (payload : ℕ) (e : ProgressEntry NID) → s.ids ≡ ids → s.purge_to ≡ purge_to → s.snap.last_log_id ≡ snapshot
      → EntryFits cmp ids purged e → EntryFits cmp ids purged (sent e (next_send s payload e))
  sent_fits s payload e si st ss f =
      go (not (is_idle e)) (nat_lt e.searching_end (next s.purge_to)) refl (send_start s e == send_end s payload (send_start s e)) where
        start_low : (m d p : ℕ) → m ≤ max (m + d / 16 * 8) p
        start_low m d p = omega arith

        start_purge : (m d p : ℕ) → p ≤ max (m + d / 16 * 8) p
        start_purge m d p = omega arith

        start_high : (m e p n : ℕ) → m ≤ e → e ≤ n → p ≤ n → max (m + (e - m) / 16 * 8) p ≤ n
        start_high m e p n a b c = omega (arith, a, b, c)

        below_target : nat_lt e.searching_end (next s.purge_to) ≡ true → next e.matching < next purge_to
        below_target l = let q : e.searching_end < next s.purge_to = nat_lt_is _ _ l in let w : next s.purge_to ≡ next purge_to = ap next st in omega (arith, q, w, f.above)

        go : (busy low : Bool) → nat_lt e.searching_end (next s.purge_to) ≡ low → (same_end : Bool)
            → EntryFits cmp ids purged (sent e (if busy then Err e.inflight
            else if low then Ok (inflight.Snapshot (e.last_inflight_id + 1) s.snap.last_log_id)
            else if same_end then Err inflight.None
            else Ok (inflight.Logs (e.last_inflight_id + 1) (record { prev = before s.ids (send_start s e); last = before s.ids (send_end s payload (send_start s e)) }))))
        go true low el se = f
        go false true el se = record { matching = f.matching; above = f.above; below = f.below; ahead = snapshot_ahead e.matching s.snap.last_log_id (sym ss) f.matching (below_target el) }
        go false false el true = f
        go false false el false = record {
          matching = f.matching;
          above = f.above;
          below = f.below;
          ahead = subst (λ xs. is_le (last_id_cmp cmp e.matching (before xs (send_start s e))) ≡ true) (sym si)
              (before_ahead e.matching (send_start s e) f.matching (start_low (next e.matching) (e.searching_end - next e.matching) (next s.purge_to))
              (subst (λ o. next o ≤ send_start s e) st (start_purge (next e.matching) (e.searching_end - next e.matching) (next s.purge_to)))
              (start_high (next e.matching) e.searching_end (next s.purge_to) (next (last ids)) f.above f.below
              (subst (λ o. next o ≤ next (last ids)) (sym st) (within_next cmp total purge_to (last ids) (within_trans cmp total purge_to committed (last ids) (within_trans cmp total purge_to snapshot committed h.marks.at_target h.marks.at_snapshot) h.marks.at_committed)))));
        }

  -- what fits ends within the log
  pub fits_end : (x : Option (LogId NID)) → fits cmp ids purged x ≡ true → next x ≤ next (last ids)
  fits_end None f = omega arith
  fits_end (Some x) f =
      ⊎_elim
      (λ (g : is_found cmp (at ids x.index) x ≡ true).
      within_next cmp total (Some x) (last ids) (subst (λ d. is_within cmp (Some x) d ≡ true) (sym (last_is ids))
      (has_within cmp total x None (first_index purged) ids h.log.run h.log.rising (at_has x.index x ids (found_is cmp same _ x g)))))
      (λ (p : is_below cmp (Some x) purged ≡ true).
      let l : next (Some x) < next purged = nat_lt_is _ _ (and_both (is_lt (last_id_cmp cmp (Some x) purged)) _ p).1 in
      let w : next purged ≤ next committed = within_next cmp total purged committed (purged_within cmp total same leader ids purged purge_to snapshot committed accepted_by h) in
      let e : next committed ≤ next (last ids) = within_next cmp total committed (last ids) h.marks.at_committed in
      omega (arith, l, w, e))
      (or_cases _ (is_below cmp (Some x) purged) f)

  -- what fits and is above the committed id is in the log
  pub newly_held : (x : LogId NID) → fits cmp ids purged (Some x) ≡ true → is_gt (last_id_cmp cmp (Some x) committed) ≡ true → at ids x.index ≡ Some x
  newly_held x f g =
      ⊎_elim
      (λ (e : is_found cmp (at ids x.index) x ≡ true). found_is cmp same _ x e)
      (λ (p : is_below cmp (Some x) purged ≡ true).
      let l = (and_both _ (nat_lt (next (Some x)) (next purged)) p).0 in
      let w = within_le cmp total purged committed (purged_within cmp total same leader ids purged purge_to snapshot committed accepted_by h) in
      let no : false ≡ true = sym (lt_not_ge (last_total cmp total) committed (Some x) (lt_of_gt (last_total cmp total) (Some x) committed g))
      ∙ lt_is_le _ (lt_le (last_total cmp total) (Some x) purged committed l w) in
      cc)
      (or_cases _ (is_below cmp (Some x) purged) f)

  each_has : (P : LogId NID → Type 0) (x : LogId NID) (xs : List (LogId NID)) → AllByRecursion P xs → Has x xs → P x
  each_has P x [] a k = absurd k
  each_has P x (y ∷ ys) a k = ⊎_elim (λ (e : y ≡ x). subst P e a.0) (λ (m : Has x ys). each_has P x ys a.1 m) k

  first_under : (p : LogId NID) (xs : List (LogId NID)) → slice_get xs 0 ≡ Some p → AllByRecursion (IsUnder cmp leader) xs → IsUnder cmp leader p
  first_under p [] e a = cc
  first_under p (y ∷ ys) e a = let q : y ≡ p = search (rules, e) in subst (IsUnder cmp leader) q a.0

  past_under : (x : LogId NID) (p : Option (LogId NID)) → IfSome p (λ q. slice_get ids 0 ≡ Some q) → is_lt (last_id_cmp cmp (Some x) p) ≡ true → IsUnder cmp leader x
  past_under x None f l = cc
  past_under x (Some p) f l =
      le_trans (leader_total cmp total) x.leader_id p.leader_id leader (log_le_leader cmp x p (lt_is_le _ l)) (first_under p ids f h.log.by_vote)

  -- what fits is of no leader above the vote's
  pub fits_under : (x : LogId NID) → fits cmp ids purged (Some x) ≡ true → IsUnder cmp leader x
  fits_under x f =
      ⊎_elim
      (λ (g : is_found cmp (at ids x.index) x ≡ true). each_has (IsUnder cmp leader) x ids h.log.by_vote (at_has x.index x ids (found_is cmp same _ x g)))
      (λ (p : is_below cmp (Some x) purged ≡ true). past_under x purged h.log.first (and_both _ (nat_lt (next (Some x)) (next purged)) p).0)
      (or_cases _ (is_below cmp (Some x) purged) f)

module _ {NID : Type 0} (cmp : NID → NID → Ordering) (total : IsTotalOrder cmp) (same : (a b : NID) → cmp a b ≡ Equal → a ≡ b) where
  -- the entry of a target of which nothing is known, and one with nothing in flight
  pub empty_fits : (ids : List (LogId NID)) (purged : Option (LogId NID)) (end : ℕ) → end ≤ next (last ids) → EntryFits cmp ids purged (empty end)
  empty_fits ids purged end l = record { matching = refl; above = omega arith; below = l; ahead = refl }

  pub silenced_fits : (ids : List (LogId NID)) (purged : Option (LogId NID)) (e : ProgressEntry NID) → EntryFits cmp ids purged e → EntryFits cmp ids purged (silenced e)
  silenced_fits ids purged e f = record { matching = f.matching; above = f.above; below = f.below; ahead = le_refl (last_total cmp total) e.matching }

  -- an entry fits the log once it has grown
  pub grown_fits : (ids new : List (LogId NID)) (purged : Option (LogId NID)) (e : ProgressEntry NID) → next (last ids) ≤ next (last (ids ++ new)) → EntryFits cmp ids purged e → EntryFits cmp (ids ++ new) purged e
  grown_fits ids new purged e l f = record { matching = fits_append cmp total same purged ids new e.matching f.matching; above = f.above; below = omega (arith, l, f.below); ahead = f.ahead }

  -- this node's own entry once its log holds x
  pub own_matched_fits : (ids : List (LogId NID)) (purged : Option (LogId NID)) (x : Option (LogId NID)) (e : ProgressEntry NID)
      → fits cmp ids purged x ≡ true → next x ≤ next (last ids) → EntryFits cmp ids purged e → EntryFits cmp ids purged (own_matched cmp x e)
  own_matched_fits ids purged x e f n k = record {
    matching = f;
    above = over e.searching_end (next x);
    below = bounded e.searching_end (next x) (next (last ids)) k.below n;
    ahead = either_inflight (is_eq (last_id_cmp cmp x x));
  } where
    over : (a b : ℕ) → b ≤ max a b
    over a b = omega arith

    bounded : (a b c : ℕ) → a ≤ c → b ≤ c → max a b ≤ c
    bounded a b c l m = omega (arith, l, m)

    either_inflight : (b : Bool) → is_le (last_id_cmp cmp x (inflight_from (if b then inflight.None else inflight.Logs 0 (record { prev = x; last = x })) x)) ≡ true
    either_inflight true = le_refl (last_total cmp total) x
    either_inflight false = le_refl (last_total cmp total) x
