-- What a purge up to an id of the log leaves of it.
use Rattle.std.proofs.Common.{ℕ, zero, suc, ◌+◌, ◌-◌, ◌<◌, ◌≤◌, ◌≡◌, ⊎_elim, Bool, true, false, not, List, [], ◌∷◌, length, drop, arith, refl, sym, ap, ◌∙◌, Option, Some, None}
use Rattle.std.specs.Prelude.{nat_lt, slice_get}
use Rattle.std.specs.List.{last_or}
use Rattle.std.proofs.lemmas.Bool.Decides.{nat_tests}
use Rattle.std.specs.declared.cmp.Ordering.{Ordering}
use Rattle.std.specs.declared.cmp.Ordering.TheVariants.{Equal}
use Rattle.std.specs.Ordering.{is_lt}
use Rattle.std.specs.Cmp.{IsTotalOrder}
use Rattle.raft_state.specs.declared.ids.LeaderId.{LeaderId}
use Rattle.raft_state.specs.declared.ids.LogId.{LogId}
use Rattle.raft_state.specs.Order.{last_id_cmp, next}
use Rattle.raft_state.specs.Log.{last, at, from}
use Rattle.raft_state.specs.LogLaws.{at-from, at-run}
use Rattle.raft_state.specs.Same.{found_is}
use Rattle.raft_state.specs.State.{is_found}
use Rattle.raft_state.specs.Fits.{fits, is_within, is_below}
use Rattle.raft_state.specs.Invariants.{first_index, StateFits}
use Rattle.raft_state.proofs.Orders.{both_and, last_total, lt_le, nat_lt_of, or_cases, or_left, or_right, within_le, within_next, and_both, nat_lt_is}
use Rattle.raft_state.proofs.LogLists.{last_is, at_has, run_low, has_lt}
use Rattle.raft_state.proofs.Places.{drop_from}
use Rattle.raft_state.proofs.StateLaws.{is_found_at}

module _ {NID : Type 0} where
  -- the last id stays where something is left
  last_drop : (d e : Option (LogId NID)) (k : ℕ) (ids : List (LogId NID)) → k < length ids → last_or d (drop k ids) ≡ last_or e ids
  last_drop d e k [] l = absurd (omega (arith, l))
  last_drop d e zero (x ∷ xs) l = refl
  last_drop d e (suc k) (x ∷ xs) l = last_drop d (Some x) k xs (omega (arith, l))

  within_length : (k : ℕ) (x : LogId NID) (ids : List (LogId NID)) → slice_get ids k ≡ Some x → k < length ids
  within_length k x [] e = cc
  within_length zero x (y ∷ ys) e = omega arith
  within_length (suc k) x (y ∷ ys) e = let l : k < length ys = within_length k x ys e in omega (arith, l)

module _ {NID : Type 0} (cmp : NID → NID → Ordering) (total : IsTotalOrder cmp) (same : (a b : NID) → cmp a b ≡ Equal → a ≡ b)
    (leader : LeaderId NID) (ids : List (LogId NID)) (purged purge_to snapshot committed : Option (LogId NID)) (accepted_by : Option (LeaderId NID × LogId NID))
    (h : StateFits cmp leader ids purged purge_to snapshot committed accepted_by) (x : LogId NID) (held : at ids x.index ≡ Some x) where
  low : first_index purged ≤ x.index
  low = run_low (first_index purged) x ids h.log.run (at_has x.index x ids held)

  abbrev place : ℕ
  place = x.index - first_index purged

  there : first_index purged + place ≡ x.index
  there = omega (arith, low)

  is_drop : from x.index ids ≡ drop place ids
  is_drop = sym (drop_from (first_index purged) place ids h.log.run ∙ ap (λ k. from k ids) there)

  in_place : slice_get ids place ≡ Some x
  in_place = sym (at-run (first_index purged) place ids h.log.run) ∙ ap (at ids) there ∙ held

  -- the last id stays
  pub rest_last : last (from x.index ids) ≡ last ids
  rest_last =
      last_is (from x.index ids)
      ∙ ap (last_or None) is_drop
      ∙ last_drop None None place ids (within_length place x ids in_place)
      ∙ sym (last_is ids)

  -- what stands at or past the id is still found
  still_at : (y : LogId NID) → x.index ≤ y.index → at ids y.index ≡ Some y → at (from x.index ids) y.index ≡ Some y
  still_at y l e = at-from x.index ids y.index ∙ rw (no_less y.index x.index l) e where
    no_less : (a b : ℕ) → b ≤ a → not (nat_lt a b) ≡ true
    no_less a b l = grind (arith, nat_tests)

  -- an id that fits does so after the purge
  pub kept_fits : is_within cmp purged (Some x) ≡ true → (y : LogId NID) → fits cmp ids purged (Some y) ≡ true → fits cmp (from x.index ids) (Some x) (Some y) ≡ true
  kept_fits w y f =
      ⊎_elim
      (λ (e : is_found cmp (at ids y.index) y ≡ true). found (found_is cmp same _ y e) (nat_lt y.index x.index) refl)
      (λ (e : is_below cmp (Some y) purged ≡ true).
      let p = and_both (is_lt (last_id_cmp cmp (Some y) purged)) (nat_lt (next (Some y)) (next purged)) e in
      let n : y.index + 1 < next purged = nat_lt_is _ _ p.1 in
      let m : next purged ≤ x.index + 1 = within_next cmp total purged (Some x) w in
      or_right (is_found cmp (at (from x.index ids) y.index) y) _
      (both_and _ _ (lt_le (last_total cmp total) (Some y) purged (Some x) p.0 (within_le cmp total purged (Some x) w)) (nat_lt_of _ _ (omega (arith, n, m)))))
      (or_cases _ (is_below cmp (Some y) purged) f) where
        past_of : (a b : ℕ) → nat_lt a b ≡ true → nat_lt (a + 1) (b + 1) ≡ true
        past_of a b t = grind (arith, nat_tests)

        at_least : (a b : ℕ) → nat_lt a b ≡ false → b ≤ a
        at_least a b t = grind (arith, nat_tests)

        found : at ids y.index ≡ Some y → (b : Bool) → nat_lt y.index x.index ≡ b → fits cmp (from x.index ids) (Some x) (Some y) ≡ true
        found e true t =
            or_right (is_found cmp (at (from x.index ids) y.index) y) _
            (both_and _ _ (has_lt cmp total y x None (first_index purged) ids h.log.run h.log.rising (at_has y.index y ids e) (at_has x.index x ids held) (nat_lt_is _ _ t)) (past_of _ _ t))
        found e false t = or_left _ (is_below cmp (Some y) (Some x)) (is_found_at cmp total same (from x.index ids) y _ (still_at y (at_least _ _ t) e))
