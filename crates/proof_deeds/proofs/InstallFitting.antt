-- A snapshot request that was sent fits what the node has: its last id isn't above the vote, nor above what is
-- committed.
use Rattle.std.proofs.Common.{ℕ, suc, ◌+◌, ◌<◌, ◌≤◌, ◌≡◌, inl, inr, ⊎_elim, Bool, true, false, length, arith, refl, ap, ◌∙◌, Option, None, Some}
use Rattle.std.specs.Prelude.{nat_lt, ◌&&◌}
use Rattle.std.specs.Ordering.{is_gt, nat_cmp, ordering_then}
use Rattle.std.proofs.lemmas.Bool.{ltb-true}
use Rattle.std.proofs.lemmas.Bool.Decides.{nat_tests}
use Rattle.raft_node.specs.raft_state.declared.ids.LeaderId.{LeaderId}
use Rattle.raft_node.specs.raft_state.declared.ids.LogId.{LogId}
use Rattle.raft_node.specs.raft_state.declared.membership.Members.{Members}
use Rattle.raft_node.specs.raft_state.Order.{next, last_id_cmp, leader_id_cmp}
use Rattle.raft_node.specs.raft_command.declared.config.EngineConfig.{EngineConfig}
use Rattle.raft_node.specs.raft_steps.RequestRefusals.{is_above_vote, is_above_committed}
use Rattle.proof_agreement.specs.Machine.{AtOrBelow, last_leader}
use Rattle.proof_agreement.specs.Machine as machine
use Rattle.proof_agreement.specs.Stores.{whole, entry_at, last_leader_of}
use Rattle.proof_agreement.proofs.StoresBridge.{snapshot_low, snapshot_not_above}
use Rattle.raft_node.specs.raft_store.Entries.{entry_meaning}
use Rattle.raft_node.specs.raft_store.Types.{WorldStore, WorldSnapshot, WorldMachine}
use Rattle.proof_mirror.specs.Ready.{InStep}
use Rattle.raft_node.specs.raft_calls.declared.message.Body.TheVariants as body
use Rattle.raft_node.specs.raft_calls.declared.message.Message.{Message}
use Rattle.raft_node.specs.raft_calls.declared.message.Origin.{Origin}
use Rattle.raft_node.specs.declared.node.Turn.{Turn}
use Rattle.proof_deeds.specs.Chains.{Reached, left_by}
use Rattle.proof_deeds.specs.Follows.{SnapshotSent}
use Rattle.proof_deeds.specs.Images.{Ideal, IsNamed, IdNamed, number, last_number, images, setup_of}
use Rattle.proof_deeds.specs.Knows.{Knows, Delivered, Stands}
use Rattle.proof_deeds.proofs.InstallLaws.{sent_in, snapshot_ends, tail_committed_end}
use Rattle.proof_deeds.proofs.Numbers.{ordered, Order, below, same, above}
use Rattle.proof_deeds.proofs.Overlap.{laps}
use Rattle.proof_deeds.proofs.Pushes.{Tail, tail_of}
use Rattle.proof_deeds.proofs.Tails.{tail_committed}
use Rattle.proof_deeds.proofs.Worlds.{does_then, stores_follow}

not_gt : (a b : ℕ) → a ≤ b → is_gt (nat_cmp a b) ≡ false
not_gt a b l = grind (arith, nat_tests)

-- a leader id whose number isn't greater
pub leader_not_above : (a b : LeaderId ℕ) → IsNamed a → IsNamed b → number a ≤ number b → is_gt (leader_id_cmp nat_cmp a b) ≡ false
leader_not_above a b h k l = go (ordered a b h k) where
  go : Order a b → is_gt (leader_id_cmp nat_cmp a b) ≡ false
  go (below q m) = ap is_gt q
  go (same q m) = ap is_gt q
  go (above q m) = absurd (omega (arith, l, m))

-- an id by its end
pub id_not_above : (x : LogId ℕ) (y : Option (LogId ℕ)) → IsNamed x.leader_id → IdNamed y → AtOrBelow (number x.leader_id) (x.index + 1) (last_number y) (next y) → is_gt (last_id_cmp nat_cmp (Some x) y) ≡ false
id_not_above x None h k a = ⊎_elim (λ l. absurd (omega (arith, l))) (λ l. absurd (omega (arith, l.1))) a
id_not_above x (Some y) h k a = go (ordered x.leader_id y.leader_id h k) where
  go : Order x.leader_id y.leader_id → is_gt (last_id_cmp nat_cmp (Some x) (Some y)) ≡ false
  go (below q m) = ap (λ o. is_gt (ordering_then o (nat_cmp x.index y.index))) q
  go (same q m) =
      let e : number x.leader_id ≡ number y.leader_id = ap number m in
      ap (λ o. is_gt (ordering_then o (nat_cmp x.index y.index))) q ∙ not_gt x.index y.index (⊎_elim (λ l. absurd (omega (arith, l, e))) (λ l. omega (arith, l.1)) a)
  go (above q m) = absurd (⊎_elim (λ l. omega (arith, l, m)) (λ l. omega (arith, l.0, m)) a)

module _ (first : Members ℕ (Unit {0})) (t : Turn) (config : EngineConfig ℕ) (u : WorldStore) (W : Ideal) (msg : Message) (o : Origin) (snapshot : WorldSnapshot) (d : Delivered (setup_of first) t W msg) (b : msg.body ≡ body.SnapshotRequest o snapshot)
    (m : WorldMachine) (st : Stands (setup_of first) t config u W m) (x : LogId ℕ) (e : snapshot.meta.last_log_id ≡ Some x) where
  V : Ideal
  V = st.carried.end

  tail : Tail (setup_of first) t m.core.state.vote.leader_id u W m.core.output.items st.carried.end
  tail = tail_of (setup_of first) t m.core.state.vote.leader_id u W m.core.output.items (Knows (setup_of first) t.id m) st.carried

  came : Reached (setup_of first) st.carried.end
  came = does_then (setup_of first) _ W st.carried.end st.reached tail.came

  E : (length (images snapshot.snapshot) ≡ suc x.index) × ((entry_at (setup_of first) (images snapshot.snapshot) x.index).leader ≡ number x.leader_id) × IsNamed x.leader_id
  E = snapshot_ends (setup_of first) t.id o snapshot W (sent_in first t config u W msg o snapshot d b) x e

  -- not above the leader's vote
  pub below_vote : is_above_vote nat_cmp o.session_id.vote x ≡ false
  below_vote =
      let h : SnapshotSent (setup_of first) t.id o snapshot W = sent_in first t config u W msg o snapshot d b in
      let l : (entry_at (setup_of first) (images snapshot.snapshot) x.index).leader ≤ h.session.leader =
      snapshot_low (setup_of first) (machine.start (setup_of first)) st.carried.end (stores_follow (setup_of first) st.carried.end came) h.session (images snapshot.snapshot) (tail.within.messages _ h.sent) x.index (omega (arith, E.0)) in
      leader_not_above x.leader_id o.session_id.vote.leader_id E.2 h.leaders.named (omega (arith, l, E.1, h.leader))

  -- at or below the committed index, not above the committed id
  pub below_committed : is_above_committed nat_cmp m.core.state x ≡ false
  below_committed = go (nat_lt x.index (next m.core.state.committed)) refl where
    not_above : x.index < next m.core.state.committed → is_gt (last_id_cmp nat_cmp (Some x) m.core.state.committed) ≡ false
    not_above l =
        let h : SnapshotSent (setup_of first) t.id o snapshot W = sent_in first t config u W msg o snapshot d b in
        let j : InStep entry_meaning (left_by u m.core.output.items) m.core.state = st.pending.core.in_step in
        let k : (st.carried.end.store t.id).committed ≡ next m.core.state.committed = tail_committed (setup_of first) (left_by u m.core.output.items) (st.carried.end.store t.id) m.core.state tail.store j in
        let c = tail_committed_end (setup_of first) (left_by u m.core.output.items) (st.carried.end.store t.id) m.core.state tail.store j st.sound.sound (laps (setup_of first) st.carried.end came t.id) in
        let a : AtOrBelow (last_leader_of (setup_of first) (images snapshot.snapshot)) (length (images snapshot.snapshot)) (last_leader (entry_at (setup_of first) (whole (st.carried.end.store t.id))) (st.carried.end.store t.id).committed) (st.carried.end.store t.id).committed =
        snapshot_not_above (setup_of first) (machine.start (setup_of first)) st.carried.end (stores_follow (setup_of first) st.carried.end came) h.session (images snapshot.snapshot) (tail.within.messages _ h.sent) t.id (omega (arith, E.0, k, l)) in
        let p : last_leader_of (setup_of first) (images snapshot.snapshot) ≡ number x.leader_id = ap (last_leader (entry_at (setup_of first) (images snapshot.snapshot))) E.0 ∙ E.1 in
        let q : last_leader (entry_at (setup_of first) (whole (st.carried.end.store t.id))) (st.carried.end.store t.id).committed ≡ last_number m.core.state.committed = ap (last_leader (entry_at (setup_of first) (whole (st.carried.end.store t.id)))) k ∙ c.0 in
        id_not_above x m.core.state.committed E.2 c.1
        (⊎_elim (λ l. inl (omega (arith, l, p, q))) (λ l. inr (omega (arith, l.0, p, q), omega (arith, l.1, E.0, k))) a)

    go : (g : Bool) → nat_lt x.index (next m.core.state.committed) ≡ g → (g && is_gt (last_id_cmp nat_cmp (Some x) m.core.state.committed)) ≡ false
    go false f = refl
    go true f = not_above (ltb-true x.index (next m.core.state.committed) f)
