-- The tests of a start's state decide whether it is sound.
use Rattle.std.specs.Prelude.{ℕ, ◌≡◌, ◌+◌, ◌-◌, ◌^◌, ◌<◌, ◌&&◌, nat_eq, nat_lt, refl, Bool, true, false, List, [], ◌∷◌, Option, None, Some, IfSome, slice_get}
use Rattle.std.specs.List.{AllByRecursion}
use Rattle.std.specs.Ordering.{is_le, is_lt, nat_cmp}
use Rattle.std.proofs.Common.{◌∙◌, ap, arith, sym}
use Rattle.std.proofs.lemmas.Bool.{eq-eqb, eqb-true}
use Rattle.std.proofs.lemmas.Cmp.{nat_cmp_total}
use Rattle.raft_state.specs.declared.ids.LeaderId.{LeaderId}
use Rattle.raft_state.specs.declared.ids.LogId.{LogId}
use Rattle.raft_state.specs.declared.state.RaftState.{RaftState}
use Rattle.raft_state.specs.Fits.{fits, is_within}
use Rattle.raft_state.specs.Invariants.{AcceptedRecord, IsBelowEnd, IsSoundState, IsUnder, LogOrder, Rises, Watermarks, first_index}
use Rattle.raft_state.specs.Log.{at, last}
use Rattle.raft_state.specs.LogLaws.{IsRun, at-run}
use Rattle.raft_state.specs.Order.{last_id_cmp, leader_id_cmp}
use Rattle.raft_state.specs.Same.{found_is, nat_same}
use Rattle.raft_state.proofs.Orders.{and_both, both_and, nat_lt_is, nat_lt_of}
use Rattle.raft_state.proofs.StateLaws.{is_found_at}
use Rattle.raft_calls.specs.Trust.{continues, has_order, holds, in_order, rise}

-- the test of ids, one by one
pub order_goes_on : (leader : LeaderId ℕ) (prev : Option (LogId ℕ)) (n : ℕ) (x : LogId ℕ) (xs ys : List (LogId ℕ)) (b : Bool) → xs ≡ x ∷ ys → continues leader prev n x ≡ true → in_order leader prev n xs ≡ b
    → in_order leader (Some x) (n + 1) ys ≡ b
order_goes_on leader prev n x xs ys b is one all =
    let here : (continues leader prev n x && in_order leader (Some x) (n + 1) ys) ≡ b = sym (ap (in_order leader prev n) is) ∙ all in
    sym (ap (λ (t : Bool). t && in_order leader (Some x) (n + 1) ys) one) ∙ here

pub order_ends : (leader : LeaderId ℕ) (prev : Option (LogId ℕ)) (n : ℕ) (x : LogId ℕ) (xs ys : List (LogId ℕ)) (b : Bool) → xs ≡ x ∷ ys → continues leader prev n x ≡ false → in_order leader prev n xs ≡ b
    → false ≡ b
order_ends leader prev n x xs ys b is one all =
    let here : (continues leader prev n x && in_order leader (Some x) (n + 1) ys) ≡ b = sym (ap (in_order leader prev n) is) ∙ all in
    sym (ap (λ (t : Bool). t && in_order leader (Some x) (n + 1) ys) one) ∙ here

pub has_room : (leader : LeaderId ℕ) (prev : Option (LogId ℕ)) (n : ℕ) (x : LogId ℕ) → continues leader prev n x ≡ true → n < 2 ^ 64 - 1
has_room leader prev n x h =
    let above = and_both (nat_eq x.index n && nat_lt n (2 ^ 64 - 1) && is_le (leader_id_cmp nat_cmp x.leader_id leader)) (is_lt (last_id_cmp nat_cmp prev (Some x))) h in
    let under = and_both (nat_eq x.index n && nat_lt n (2 ^ 64 - 1)) (is_le (leader_id_cmp nat_cmp x.leader_id leader)) above.0 in
    nat_lt_is n (2 ^ 64 - 1) (and_both (nat_eq x.index n) (nat_lt n (2 ^ 64 - 1)) under.0).1

-- what a log's order says of its ids
record IsOrdered (leader : LeaderId ℕ) (prev : Option (LogId ℕ)) (n : ℕ) (xs : List (LogId ℕ)) : Type 0 where
  under : AllByRecursion (IsUnder nat_cmp leader) xs
  rising : Rises nat_cmp prev xs
  run : IsRun n xs
  below : AllByRecursion IsBelowEnd xs

ordered : (leader : LeaderId ℕ) (prev : Option (LogId ℕ)) (n : ℕ) (xs : List (LogId ℕ)) → in_order leader prev n xs ≡ true → IsOrdered leader prev n xs
ordered leader prev n [] h = record { under = tt; rising = tt; run = tt; below = tt }
ordered leader prev n (x ∷ xs) h =
    let b = and_both (continues leader prev n x) (in_order leader (Some x) (n + 1) xs) h in
    let above = and_both (nat_eq x.index n && nat_lt n (2 ^ 64 - 1) && is_le (leader_id_cmp nat_cmp x.leader_id leader)) (is_lt (last_id_cmp nat_cmp prev (Some x))) b.0 in
    let under = and_both (nat_eq x.index n && nat_lt n (2 ^ 64 - 1)) (is_le (leader_id_cmp nat_cmp x.leader_id leader)) above.0 in
    let place = and_both (nat_eq x.index n) (nat_lt n (2 ^ 64 - 1)) under.0 in
    let here : x.index ≡ n = eqb-true x.index n place.0 in
    let less : n < 2 ^ 64 - 1 = nat_lt_is n (2 ^ 64 - 1) place.1 in
    let rest : IsOrdered leader (Some x) (n + 1) xs = ordered leader (Some x) (n + 1) xs b.1 in
    record {
      under = (under.1, rest.under);
      rising = (above.1, rest.rising);
      run = (here, rest.run);
      below = (omega (arith, here, less), rest.below);
    }

by_order : (leader : LeaderId ℕ) (prev : Option (LogId ℕ)) (n : ℕ) (xs : List (LogId ℕ)) → IsOrdered leader prev n xs → in_order leader prev n xs ≡ true
by_order leader prev n [] h = refl
by_order leader prev n (x ∷ xs) h =
    let here : x.index ≡ n = h.run.0 in
    let end : x.index + 1 < 2 ^ 64 = h.below.0 in
    let place = both_and (nat_eq x.index n) (nat_lt n (2 ^ 64 - 1)) (eq-eqb x.index n here) (nat_lt_of n (2 ^ 64 - 1) (omega (arith, here, end))) in
    let under = both_and (nat_eq x.index n && nat_lt n (2 ^ 64 - 1)) (is_le (leader_id_cmp nat_cmp x.leader_id leader)) place h.under.0 in
    both_and (continues leader prev n x) (in_order leader (Some x) (n + 1) xs)
    (both_and (nat_eq x.index n && nat_lt n (2 ^ 64 - 1) && is_le (leader_id_cmp nat_cmp x.leader_id leader)) (is_lt (last_id_cmp nat_cmp prev (Some x))) under h.rising.0)
    (by_order leader (Some x) (n + 1) xs (record { under = h.under.1; rising = h.rising.1; run = h.run.1; below = h.below.1 }))

-- of a log in order the purged id is the first if it is there
first_at : (x : LogId ℕ) (ids : List (LogId ℕ)) → IsRun x.index ids → at ids x.index ≡ slice_get ids 0
first_at x ids run = let here : x.index ≡ x.index + 0 = omega arith in ap (at ids) here ∙ at-run x.index 0 ids run

held_first : (ids : List (LogId ℕ)) (purged : Option (LogId ℕ)) → IsRun (first_index purged) ids → holds ids purged ≡ true → IfSome purged (λ x. slice_get ids 0 ≡ Some x)
held_first ids None run h = tt
held_first ids (Some x) run h = sym (first_at x ids run) ∙ found_is nat_cmp nat_same (at ids x.index) x h

first_held : (ids : List (LogId ℕ)) (purged : Option (LogId ℕ)) → IsRun (first_index purged) ids → IfSome purged (λ x. slice_get ids 0 ≡ Some x) → holds ids purged ≡ true
first_held ids None run h = refl
first_held ids (Some x) run h = is_found_at nat_cmp nat_cmp_total nat_same ids x (at ids x.index) (first_at x ids run ∙ h)

module _ (s : RaftState ℕ (Unit {0})) where
  order_by : has_order s ≡ true → LogOrder nat_cmp s.vote.leader_id s.ids s.purged
  order_by h =
      let b = and_both (in_order s.vote.leader_id None (first_index s.purged) s.ids) (holds s.ids s.purged) h in
      let o : IsOrdered s.vote.leader_id None (first_index s.purged) s.ids = ordered s.vote.leader_id None (first_index s.purged) s.ids b.0 in
      record { by_vote = o.under; rising = o.rising; run = o.run; below_end = o.below; first = held_first s.ids s.purged o.run b.1 }

  has_order_by : LogOrder nat_cmp s.vote.leader_id s.ids s.purged → has_order s ≡ true
  has_order_by h =
      both_and (in_order s.vote.leader_id None (first_index s.purged) s.ids) (holds s.ids s.purged)
      (by_order s.vote.leader_id None (first_index s.purged) s.ids (record { under = h.by_vote; rising = h.rising; run = h.run; below = h.below_end }))
      (first_held s.ids s.purged h.run h.first)

  marks_by : rise s ≡ true → Watermarks nat_cmp s.ids s.purged s.purge_to s.snap.last_log_id s.committed
  marks_by h =
      let g = and_both _ (fits nat_cmp s.ids s.purged s.committed) h in
      let f = and_both _ (fits nat_cmp s.ids s.purged s.snap.last_log_id) g.0 in
      let e = and_both _ (fits nat_cmp s.ids s.purged s.purge_to) f.0 in
      let d = and_both _ (is_within nat_cmp s.committed (last s.ids)) e.0 in
      let c = and_both _ (is_within nat_cmp s.snap.last_log_id s.committed) d.0 in
      let b = and_both (is_within nat_cmp s.purged s.purge_to) (is_within nat_cmp s.purge_to s.snap.last_log_id) c.0 in
      record { at_purged = b.0; at_target = b.1; at_snapshot = c.1; at_committed = d.1; target_fits = e.1; snapshot_fits = f.1; committed_fits = g.1 }

  rise_by : Watermarks nat_cmp s.ids s.purged s.purge_to s.snap.last_log_id s.committed → rise s ≡ true
  rise_by h =
      both_and _ (fits nat_cmp s.ids s.purged s.committed)
      (both_and _ (fits nat_cmp s.ids s.purged s.snap.last_log_id)
      (both_and _ (fits nat_cmp s.ids s.purged s.purge_to)
      (both_and _ (is_within nat_cmp s.committed (last s.ids))
      (both_and _ (is_within nat_cmp s.snap.last_log_id s.committed)
      (both_and (is_within nat_cmp s.purged s.purge_to) (is_within nat_cmp s.purge_to s.snap.last_log_id) h.at_purged h.at_target)
      h.at_snapshot) h.at_committed) h.target_fits) h.snapshot_fits) h.committed_fits

-- a state that was accepted from no leader is sound if the tests say so
pub sound_by : (s : RaftState ℕ (Unit {0})) → s.accepted_by ≡ None → has_order s ≡ true → rise s ≡ true → IsSoundState nat_cmp s
sound_by s none order marks = record { log = order_by s order; marks = marks_by s marks; accepted = unaccepted s.accepted_by none }
  where
    unaccepted : (o : Option (LeaderId ℕ × LogId ℕ)) → o ≡ None → IfSome o (λ r. AcceptedRecord nat_cmp s.vote.leader_id r.0 r.1 s.ids s.purged s.committed)
    unaccepted None h = tt
    unaccepted (Some r) h = cc

-- and only then
pub by_sound : (s : RaftState ℕ (Unit {0})) → IsSoundState nat_cmp s → (has_order s && rise s) ≡ true
by_sound s h = both_and (has_order s) (rise s) (has_order_by s h.log) (rise_by s h.marks)
