-- What is applied is noted, as a snapshot of it is to be built.
use Rattle.std.proofs.Common.{ℕ, ◌+◌, ◌≡◌, [], ◌∷◌, ◌++◌, length, take, arith, refl, sym, ap, subst}
use Rattle.raft_node.specs.raft_state.declared.ids.LeaderId.{LeaderId}
use Rattle.raft_node.specs.raft_command.declared.command.Command.TheVariants as command
use Rattle.raft_node.specs.raft_command.declared.sm.CommandPayload.TheVariants as payload
use Rattle.proof_agreement.specs.Machine.{Setup}
use Rattle.raft_node.specs.raft_store.declared.entry.Entry.{Entry}
use Rattle.raft_node.specs.raft_store.Entries.{entry_meaning}
use Rattle.raft_node.specs.raft_store.Store as store
use Rattle.raft_node.specs.raft_store.Types.{WorldStore}
use Rattle.proof_mirror.specs.Ready.{InStep}
use Rattle.proof_mirror.proofs.Shape.{shaped_of}
use Rattle.raft_node.specs.declared.node.Turn.{Turn}
use Rattle.proof_deeds.specs.Chains.{Carried, left_by, Does}
use Rattle.proof_deeds.specs.Images.{Ideal, IdealStore}
use Rattle.proof_deeds.proofs.CommitPushes.{done_note}
use Rattle.proof_deeds.proofs.Keeps.{Keeps}
use Rattle.proof_deeds.proofs.Pushes.{push}
use Rattle.proof_deeds.proofs.Roles.{WorldCore}
use Rattle.proof_deeds.proofs.Tails.{tail_whole}
use Rattle.proof_deeds.proofs.Worlds.{done_does}

module _ (s : Setup Entry) (t : Turn) (u : WorldStore) (W : Ideal) (v : LeaderId ℕ) where
  -- a build is asked for: the store keeps all that it holds, and its session
  pub carried_noted : (c : WorldCore) (K L : Ideal → Type 0) → InStep entry_meaning (left_by u c.output.items) c.state
      → ((V X : Ideal) → Does s V X → Keeps s (V.store t.id) (X.store t.id) → (X.store t.id).session ≡ (V.store t.id).session → K V → L X) → Carried s t v u W c.output.items K
      → Carried s t v u W (c.output.items ++ command.StateMachine (record { seq = c.output.seq + 1; payload = payload.BuildSnapshot }) ∷ []) L
  carried_noted c K L j f h =
      push s t v u W c.output.items (command.StateMachine (record { seq = c.output.seq + 1; payload = payload.BuildSnapshot })) K L h
      (λ V y k.
      let T : WorldStore = left_by u c.output.items in
      let e : T.applied ≡ take (length T.applied) (store.whole T) = (shaped_of entry_meaning T c.state j).applied in
      let r = done_note s t v T (c.output.seq + 1) V y.store (tail_whole s T (V.store t.id) c.state y.store j) e in (
        r.0,
        r.1,
        f V r.0 (done_does s t v T (command.StateMachine (record { seq = c.output.seq + 1; payload = payload.BuildSnapshot })) V r.0 r.1) (subst (Keeps s (V.store t.id)) (sym r.3) (record { vote = refl; vote_committed = refl; committed = omega arith; holds = λ i x p. p })) (ap (λ (Z : IdealStore). Z.session) r.3) k,
      ))
