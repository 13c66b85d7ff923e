-- A higher vote that a reply tells is adopted.
use Rattle.std.proofs.Common.{ℕ, ◌≤◌, ◌≡◌, inr, true, false, arith, refl, sym, ap, ◌∙◌, subst, Option, None, Some, true≢false}
use Rattle.std.specs.Prelude.{IfSome}
use Rattle.std.specs.List.{AllByRecursion}
use Rattle.std.specs.Ordering.{bool_cmp, is_lt, nat_cmp, ordering_then}
use Rattle.raft_node.specs.raft_state.declared.ids.Vote.{Vote}
use Rattle.raft_node.specs.raft_state.declared.membership.Members.{Members}
use Rattle.raft_node.specs.raft_command.declared.config.EngineConfig.{EngineConfig}
use Rattle.raft_node.specs.raft_steps.Engine.{as_uncommitted}
use Rattle.raft_node.specs.raft_steps.Invariants.{LeaderFits}
use Rattle.raft_node.specs.raft_steps.VoteHandler.{rejects_vote, update_vote}
use Rattle.raft_node.specs.raft_store.Entries.{entry_meaning}
use Rattle.raft_node.specs.raft_store.Types.{WorldLeader, WorldMachine, WorldStore}
use Rattle.raft_node.specs.declared.node.Turn.{Turn}
use Rattle.proof_deeds.specs.Chains.{Carried, Unread, left_by}
use Rattle.proof_deeds.specs.Follows.{VoteTold}
use Rattle.proof_deeds.specs.Images.{Ideal, IsNamed, number, setup_of}
use Rattle.proof_deeds.specs.Knows.{CarriedIn, Knows, KnowsLed, Stands}
use Rattle.proof_deeds.proofs.Numbers.{Order, above, below, ordered, same}
use Rattle.proof_deeds.proofs.Pushes.{Tail, tail_of}
use Rattle.proof_deeds.proofs.Tails.{tail_named, tail_vote}
use Rattle.proof_deeds.proofs.Voting.{carried_pending}

module _ (first : Members ℕ (Unit {0})) (t : Turn) (config : EngineConfig ℕ) (u : WorldStore) (W : Ideal) (m : WorldMachine) (h : Stands (setup_of first) t config u W m) where
  -- a node that leads takes none of its own, since it has stored no greater one
  told_low : (v : Vote ℕ) → VoteTold v W → rejects_vote nat_cmp m.core.state (as_uncommitted v) ≡ false → v.leader_id.node_id ≡ config.id → m.leader ≡ None
  told_low v told low own = go m.leader refl h.sound.lead.leader_fits k.knows.leader where
    k : Carried (setup_of first) t m.core.state.vote.leader_id u W m.core.output.items (Knows (setup_of first) t.id m)
    k = h.carried

    V : Ideal
    V = h.carried.end

    y : Tail (setup_of first) t m.core.state.vote.leader_id u W m.core.output.items h.carried.end
    y = tail_of (setup_of first) t m.core.state.vote.leader_id u W m.core.output.items (Knows (setup_of first) t.id m) h.carried

    stored : (h.carried.end.store t.id).vote ≡ number m.core.state.vote.leader_id
    stored = tail_vote (setup_of first) (left_by u m.core.output.items) (h.carried.end.store t.id) m.core.state y.store h.pending.core.in_step

    named : IsNamed m.core.state.vote.leader_id
    named = tail_named (setup_of first) (left_by u m.core.output.items) (h.carried.end.store t.id) m.core.state y.store h.pending.core.in_step

    within : number v.leader_id ≤ number m.core.state.vote.leader_id
    within = let c : number v.leader_id ≤ (W.store t.id).vote = subst (λ n. number v.leader_id ≤ (W.store n).vote) (own ∙ h.id) told.claimed in omega (arith, c, y.within.votes t.id, stored)

    rejected : m.core.state.vote.committed ≡ true → Order v.leader_id m.core.state.vote.leader_id → rejects_vote nat_cmp m.core.state (as_uncommitted v) ≡ true
    rejected c (below q l) = ap (λ o. is_lt (ordering_then o (bool_cmp false m.core.state.vote.committed))) q
    rejected c (same q l) = ap (λ o. is_lt (ordering_then o (bool_cmp false m.core.state.vote.committed))) q ∙ ap (λ b. is_lt (bool_cmp false b)) c
    rejected c (above q l) = absurd (omega (arith, l, within))

    go : (o : Option WorldLeader) → m.leader ≡ o → IfSome o (LeaderFits nat_cmp config.id m.core.state.ids m.core.state.purged m.core.state.em.membership) → IfSome o (λ l. KnowsLed (setup_of first) t.id m.core.state l h.carried.end) → o ≡ None
    go None e f q = refl
    go (Some l) e f q = absurd (true≢false (sym (rejected (ap (λ (w : Vote ℕ). w.committed) (sym q.vote) ∙ f.committed) (ordered v.leader_id m.core.state.vote.leader_id told.named named)) ∙ low))

  pub higher_carried : (now : ℕ) → AllByRecursion Unread m.core.output.items → (v : Vote ℕ) → VoteTold v W → CarriedIn (setup_of first) t u W (update_vote nat_cmp entry_meaning config (as_uncommitted v) now m)
  higher_carried now unread v told = carried_pending first t config h.id u W (as_uncommitted v) now m h.pending.core h.sound.sound unread told.named refl (inr told.claimed) (told_low v told) h.carried
