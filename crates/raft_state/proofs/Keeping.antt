-- Each call keeps a state's invariants.
use Rattle.std.proofs.Common.{◌+◌, ◌≤◌, ◌≡◌, true, false, cond, [], ◌∷◌, refl, sym, subst, arith, Option, Some, None}
use Rattle.std.specs.Prelude.{nat_lt}
use Rattle.std.specs.declared.cmp.Ordering.{Ordering}
use Rattle.std.specs.declared.cmp.Ordering.TheVariants.{Equal}
use Rattle.std.specs.Ordering.{is_gt, is_le}
use Rattle.std.specs.Cmp.{IsTotalOrder}
use Rattle.raft_state.specs.declared.ids.LogId.{LogId}
use Rattle.raft_state.specs.Order.{last_id_cmp, next}
use Rattle.raft_state.specs.Log.{last, below, from}
use Rattle.raft_state.specs.State.{accepted, commits, settle, undoes_membership}
use Rattle.raft_state.specs.Fits.{is_within}
use Rattle.raft_state.specs.Invariants.{IsSoundState}
use Rattle.raft_state.specs.Kept.{ExtendKeeps, TruncateKeeps, AcceptKeeps, CommitKeeps, AppendMembershipKeeps, PurgeKeeps}
use Rattle.raft_state.proofs.Orders.{within_next, nat_lt_of}
use Rattle.raft_state.proofs.LogLists.{at_has, has_within, last_is}
use Rattle.raft_state.specs.Invariants.{first_index}
use Rattle.raft_state.proofs.StateLaws.{grown, cut, settled, noted}
use Rattle.raft_state.proofs.Purges.{purged_to}

module _ {NID : Type 0} (cmp : NID → NID → Ordering) where
  none_is_least : (o : Option (LogId NID)) → is_gt (last_id_cmp cmp None o) ≡ false
  none_is_least None = refl
  none_is_least (Some x) = refl

module _ {NID N : Type 0} (cmp : NID → NID → Ordering) (total : IsTotalOrder cmp) (same : (a b : NID) → cmp a b ≡ Equal → a ≡ b) where
  pub extend_keeps : ExtendKeeps cmp N
  extend_keeps s ids h follow under end =
      grown cmp total same s.vote.leader_id s.ids s.purged s.purge_to s.snap.last_log_id s.committed s.accepted_by h ids follow under end

  pub truncate_keeps : TruncateKeeps cmp N
  truncate_keeps s i h past noted_past =
      let kept = cut cmp total same s.vote.leader_id s.ids s.purged s.purge_to s.snap.last_log_id s.committed s.accepted_by h i past noted_past in
      elim (undoes_membership s i) as (λ b. IsSoundState cmp (cond b (record s { ids = below i s.ids; em = s.cm }) (record s { ids = below i s.ids }))) [
        | true ↦ kept
        | false ↦ kept
      ]

  pub accept_keeps : AcceptKeeps cmp N
  accept_keeps s None h f = rw (none_is_least cmp (accepted cmp s)) h
  accept_keeps s (Some x) h f =
      elim (is_gt (last_id_cmp cmp (Some x) (accepted cmp s))) as (λ b. IsSoundState cmp (cond b (record s { accepted_by = Some (s.vote.leader_id, x) }) s)) [
        | true ↦ noted cmp total same s.vote.leader_id s.ids s.purged s.purge_to s.snap.last_log_id s.committed s.accepted_by h x f
        | false ↦ h
      ]

  pub commit_keeps : CommitKeeps cmp N
  commit_keeps s x h e =
      elim (commits cmp s (Some x)) as (λ b. commits cmp s (Some x) ≡ b → IsSoundState cmp (cond b (record (settle cmp s (Some x)) { committed = Some x }) s)) [
        | true ↦ λ above.
            let kept = settled cmp total same s.vote.leader_id s.ids s.purged s.purge_to s.snap.last_log_id s.committed s.accepted_by h x e above in
            elim (is_le (last_id_cmp cmp s.em.log_id (Some x))) as (λ b. IsSoundState cmp (record (cond b (record s { cm = s.em }) s) { committed = Some x })) [
              | true ↦ kept
              | false ↦ kept
            ]
        | false ↦ λ above. h
      ] refl

  pub append_membership_keeps : AppendMembershipKeeps cmp N
  append_membership_keeps s m h = h

  pub purge_keeps : PurgeKeeps cmp N
  purge_keeps s x h e above below_target =
      let w : is_within cmp (Some x) (last s.ids) ≡ true =
      subst (λ d. is_within cmp (Some x) d ≡ true) (sym (last_is s.ids)) (has_within cmp total x None (first_index s.purged) s.ids h.log.run h.log.rising (at_has x.index x s.ids e)) in
      let l : x.index + 1 ≤ next (last s.ids) = within_next cmp total (Some x) (last s.ids) w in
      let t : nat_lt x.index (next (last s.ids)) ≡ true = nat_lt_of _ _ (omega (arith, l)) in
      subst (λ b. IsSoundState cmp (cond b (record s { purged = Some x; ids = from x.index s.ids }) (record s { purged = Some x; ids = x ∷ [] }))) (sym t)
      (purged_to cmp total same s.vote.leader_id s.ids s.purged s.purge_to s.snap.last_log_id s.committed s.accepted_by h x e above below_target)
