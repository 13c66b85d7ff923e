-- What messages leave, whole or in parts, is frames.
use Rattle.std.proofs.Common.{ℕ, ◌≡◌, ⊎_elim, List, [], ◌∷◌, ◌++◌, sym, subst}
use Rattle.std.specs.Prelude.{◌⊎◌}
use Rattle.std.specs.List.{AllByRecursion}
use Rattle.raft_codec.specs.Codec.{Codec}
use Rattle.raft_packed_server.specs.proof_packed.Nodes.{PackedMessage}
use Rattle.raft_packed_server.specs.proof_packed.Stores.{Application}
use Rattle.raft_peers.specs.declared.output.Output.{Output}
use Rattle.raft_peers.specs.declared.output.Output.TheVariants as outputs
use Rattle.raft_peers.specs.Sends.{IsPreparing, LeaveAll, LeavesWhole, Prepares, Sends}
use Rattle.raft_peers.specs.Parts.{AreParts, Outgoing, outgoing_of}

module _ {S : Type 0} where
  abbrev pub IsSend : Output S → Type 0
  IsSend (outputs.Send to bytes) = Unit {0}
  IsSend _ = ⊥

  abbrev pub AreSends : List (Output S) → Type 0
  AreSends out = AllByRecursion IsSend out

  pub sends_both : (a b : List (Output S)) → AreSends a → AreSends b → AreSends (a ++ b)
  sends_both [] b h k = k
  sends_both (x ∷ a) b h k = (h.0, sends_both a b h.1 k)

  pub parts_send : (c : Codec S) (start : ℕ) (o : Outgoing) (out : List (Output S)) → AreParts c start o out → AreSends out
  parts_send c start o [] h = tt
  parts_send c start o (x ∷ out) h = (subst IsSend (sym h.0.leaves) tt, parts_send c start o out h.1)

  module _ (app : Application S) (c : Codec S) (start : ℕ) where
    one_sends : (m : PackedMessage S) (out : List (Output S)) → LeavesWhole app c start m out ⊎ IsPreparing app c start m out → AreSends out
    one_sends m out h = ⊎_elim (λ w. subst AreSends (sym w.leaves) (tt, tt)) (λ p. subst AreSends (sym p.leaves) tt) h

    leave_sends : (ms : List (PackedMessage S)) (out : List (Output S)) → LeaveAll app c start ms out → AreSends out
    leave_sends [] out h = subst AreSends (sym h) tt
    leave_sends (m ∷ ms) out (front, rest, is, one, others) =
        subst AreSends (sym is) (sends_both front rest (one_sends m front one) (leave_sends ms rest others))

    prepared_send : (old new : List (PackedMessage S)) (going going' : List Outgoing) (out : List (Output S))
        → Prepares app c start old going out new going' → AreSends out
    prepared_send old new going going' out p =
        ⊎_elim (λ none. subst AreSends (sym none) tt) (λ one. parts_send c start (outgoing_of c one.0) out one.2.parts) p.leaves

    pub messages_send : (old new : List (PackedMessage S)) (going going' : List Outgoing) (ms : List (PackedMessage S)) (out : List (Output S))
        → Sends app c start ms old going out new going' → AreSends out
    messages_send old new going going' ms out h =
        subst AreSends (sym h.leaves)
        (sends_both h.frames h.parts (leave_sends ms h.frames h.sends.leave) (prepared_send h.waiting new going going' h.parts h.prepares))
