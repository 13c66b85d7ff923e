-- What a node has committed it has applied.
use Rattle.std.proofs.Common.{ℕ, ◌+◌, ◌≤◌, ◌≡◌, true, false, List, length, arith, refl, sym, ap, ◌∙◌, subst, Option, None, Some}
use Rattle.std.specs.declared.cmp.Ordering.{Ordering}
use Rattle.std.specs.declared.cmp.Ordering.TheVariants.{Equal, Greater, Less}
use Rattle.std.specs.Ordering.{is_le, nat_cmp, ordering_reverse, ordering_then}
use Rattle.std.proofs.lemmas.Bool.Decides.{nat_tests}
use Rattle.std.proofs.lemmas.Cmp.{nat_cmp_total}
use Rattle.proof_deeds.specs.raft_state.declared.ids.LeaderId.{LeaderId}
use Rattle.proof_deeds.specs.raft_state.declared.ids.LogId.{LogId}
use Rattle.proof_deeds.specs.raft_state.Fits.{fits}
use Rattle.proof_deeds.specs.raft_state.Invariants.{IsUnder}
use Rattle.proof_deeds.specs.raft_state.Order.{last_id_cmp, leader_id_cmp, next}
use Rattle.proof_deeds.specs.raft_state.Same.{nat_same}
use Rattle.proof_deeds.proofs.raft_state_proofs.Orders.{leader_total}
use Rattle.proof_deeds.proofs.raft_steps_proofs.EntryLaws.{fits_under}
use Rattle.proof_deeds.specs.raft_store.Types.{EngineView}
use Rattle.proof_deeds.specs.raft_schedule.declared.event.Event.{Event}
use Rattle.proof_deeds.specs.raft_node.declared.given.Given.{Given}
use Rattle.proof_deeds.specs.raft_node.Net.{NodeView}
use Rattle.proof_deeds.specs.raft_node.Runs.{world_after}
use Rattle.proof_deeds.specs.raft_node.WellFormed.{IsWellFormed}
use Rattle.proof_deeds.specs.Images.{setup_of}
use Rattle.proof_deeds.specs.Nets.{EngineFollows, NodeFollows}
use Rattle.proof_deeds.proofs.Proved.{followed}
use Rattle.proof_deeds.proofs.Tails.{tail_committed}
use Rattle.proof_progress.specs.Continuations.{At}
use Rattle.proof_progress.proofs.Exchanging.{engine_follows, node_follows}

-- of two ids, of which the second isn't below the first, nor of a greater leader, the second's index isn't lower
index_low : (x y : LogId ℕ) → is_le (leader_id_cmp nat_cmp y.leader_id x.leader_id) ≡ true → is_le (last_id_cmp nat_cmp (Some x) (Some y)) ≡ true → x.index ≤ y.index
index_low x y under h = by (leader_id_cmp nat_cmp x.leader_id y.leader_id) refl h
  where
    low : (a b : ℕ) → is_le (nat_cmp a b) ≡ true → a ≤ b
    low a b q = grind (arith, nat_tests)

    by : (o : Ordering) → leader_id_cmp nat_cmp x.leader_id y.leader_id ≡ o → is_le (ordering_then o (nat_cmp x.index y.index)) ≡ true → x.index ≤ y.index
    by Less q k = let z : is_le (leader_id_cmp nat_cmp y.leader_id x.leader_id) ≡ false = ap is_le ((leader_total nat_cmp nat_cmp_total).antisymm y.leader_id x.leader_id ∙ ap ordering_reverse q) in cc
    by Equal q k = low x.index y.index k
    by Greater q k = cc

module _ (given : Given) (wf : IsWellFormed given) (past : List Event) (t : ℕ) (N : NodeView) (there : At (world_after given past).nodes t N) (e : EngineView) (runs : N.engine ≡ Some e) where
  node : NodeFollows (setup_of given.membership) (followed given wf past).world (world_after given past).records N
  node = node_follows given wf past t N there

  engine : EngineFollows (setup_of given.membership) N (followed given wf past).world e
  engine = engine_follows given wf past t N there e runs

  pub applied_is : length N.store.applied ≡ next e.machine.core.state.committed
  applied_is = sym node.store.applied ∙ tail_committed (setup_of given.membership) N.store ((followed given wf past).world.store N.id) e.machine.core.state node.store engine.in_step

  -- as far as an id of its vote's leader that it has committed
  pub applies : (x : LogId ℕ) → x.leader_id ≡ e.machine.core.state.vote.leader_id → is_le (last_id_cmp nat_cmp (Some x) e.machine.core.state.committed) ≡ true → next (Some x) ≤ length N.store.applied
  applies x own h = go e.machine.core.state.committed refl
    where
      go : (o : Option (LogId ℕ)) → e.machine.core.state.committed ≡ o → x.index + 1 ≤ length N.store.applied
      go None q = let z : is_le (last_id_cmp nat_cmp (Some x) None) ≡ true = subst (λ (o : Option (LogId ℕ)). is_le (last_id_cmp nat_cmp (Some x) o) ≡ true) q h in cc
      go (Some y) q =
          let u : IsUnder nat_cmp e.machine.core.state.vote.leader_id y =
          fits_under nat_cmp nat_cmp_total nat_same _ _ _ _ _ _ _ engine.sound.sound y
          (subst (λ (o : Option (LogId ℕ)). fits nat_cmp e.machine.core.state.ids e.machine.core.state.purged o ≡ true) q engine.sound.sound.marks.committed_fits) in
          let i : x.index ≤ y.index =
          index_low x y (subst (λ (d : LeaderId ℕ). is_le (leader_id_cmp nat_cmp y.leader_id d) ≡ true) (sym own) u) (subst (λ (o : Option (LogId ℕ)). is_le (last_id_cmp nat_cmp (Some x) o) ≡ true) q h) in
          let a : length N.store.applied ≡ next e.machine.core.state.committed = applied_is in
          let c : next e.machine.core.state.committed ≡ y.index + 1 = ap next q in
          omega (arith, i, a, c)
