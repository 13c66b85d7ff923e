-- A leader answers a read by an id of its own, at or above its no-op entry.
use Rattle.std.proofs.Common.{ℕ, ◌≤◌, ◌≡◌, true, refl, sym, ap, ◌∙◌, subst, Option, None, Some, arith}
use Rattle.std.specs.declared.cmp.Ordering.{Ordering}
use Rattle.std.specs.declared.cmp.Ordering.TheVariants.{Less, Equal, Greater}
use Rattle.std.specs.Ordering.{is_gt, is_le, nat_cmp, ordering_then}
use Rattle.std.proofs.lemmas.Bool.{cond_both}
use Rattle.std.proofs.lemmas.Bool.Decides.{nat_tests}
use Rattle.std.proofs.lemmas.Cmp.{nat_cmp_total}
use Rattle.raft_node.specs.raft_state.declared.ids.LogId.{LogId}
use Rattle.raft_node.specs.raft_state.declared.ids.Vote.{Vote}
use Rattle.raft_node.specs.raft_state.Invariants.{IsSoundState, IsUnder}
use Rattle.raft_node.specs.raft_state.Order.{last_id_cmp, leader_id_cmp}
use Rattle.raft_node.specs.raft_state.Same.{leader_id_same, nat_same}
use Rattle.raft_node.proofs.raft_state_proofs.LogLists.{at_has}
use Rattle.raft_node.proofs.raft_state_proofs.StateLaws.{committed_has}
use Rattle.raft_node.specs.raft_steps.Laws.{later}
use Rattle.raft_node.specs.raft_store.Types.{WorldLeader}
use Rattle.proof_deeds.proofs.Changing.{has_each}
use Rattle.proof_deeds.proofs.Roles.{WorldState}

-- of two orders, one after the other
then_gt : (c d : Ordering) → is_le c ≡ true → is_gt (ordering_then c d) ≡ true → (c ≡ Equal) × (is_gt d ≡ true)
then_gt Less d l g = cc
then_gt Equal d l g = (refl, g)
then_gt Greater d l g = cc

gt_is : (a b : ℕ) → is_gt (nat_cmp a b) ≡ true → b ≤ a
gt_is a b e = grind (arith, nat_tests)

module _ (st : WorldState) (sound : IsSoundState nat_cmp st) (l : WorldLeader) (noop : l.noop_log_id.leader_id ≡ l.vote.leader_id) (vote : l.vote ≡ st.vote) where
  -- an id of the leader, at or above its no-op entry
  abbrev pub AtNoop : Option (LogId ℕ) → Type 0
  AtNoop o = (x : LogId ℕ) × (o ≡ Some x) × (x.leader_id ≡ l.vote.leader_id) × (l.noop_log_id.index ≤ x.index)

  -- the committed id, where that is greater
  committed_answers : (x : LogId ℕ) → st.committed ≡ Some x → is_gt (last_id_cmp nat_cmp (Some x) (Some l.noop_log_id)) ≡ true → AtNoop (Some x)
  committed_answers x c g =
      let under : IsUnder nat_cmp st.vote.leader_id x = has_each (IsUnder nat_cmp st.vote.leader_id) x st.ids sound.log.by_vote (at_has x.index x st.ids (committed_has nat_cmp nat_cmp_total nat_same _ _ _ _ _ _ _ sound x c)) in
      let mine : l.noop_log_id.leader_id ≡ st.vote.leader_id = noop ∙ ap (λ (v : Vote ℕ). v.leader_id) vote in
      let p : (leader_id_cmp nat_cmp x.leader_id l.noop_log_id.leader_id ≡ Equal) × (is_gt (nat_cmp x.index l.noop_log_id.index) ≡ true) =
      then_gt (leader_id_cmp nat_cmp x.leader_id l.noop_log_id.leader_id) (nat_cmp x.index l.noop_log_id.index) (subst (λ d. is_le (leader_id_cmp nat_cmp x.leader_id d) ≡ true) (sym mine) under) g in
      (x, refl, leader_id_same nat_cmp nat_same x.leader_id l.noop_log_id.leader_id p.0 ∙ noop, gt_is x.index l.noop_log_id.index p.1)

  pub answers_at_noop : AtNoop (later nat_cmp (Some l.noop_log_id) st.committed)
  answers_at_noop = go st.committed refl where
    go : (c : Option (LogId ℕ)) → st.committed ≡ c → AtNoop (later nat_cmp (Some l.noop_log_id) c)
    go None c = (l.noop_log_id, refl, noop, omega arith)
    go (Some x) c = cond_both (is_gt (last_id_cmp nat_cmp (Some x) (Some l.noop_log_id))) (Some x) (Some l.noop_log_id) AtNoop (λ g. committed_answers x c g) (λ _. (l.noop_log_id, refl, noop, omega arith))
