-- Messages that leave, one behind the other.
use Rattle.std.proofs.Common.{ℕ, ◌≡◌, ◌∙◌, ⊎_elim, inl, inr, List, [], ◌∷◌, ◌++◌, refl, sym, subst, append_assoc}
use Rattle.std.specs.Prelude.{◌⊎◌, Contains, Err, Ok, OnOk, Result}
use Rattle.std.proofs.lemmas.List.{append-nil}
use Rattle.std.proofs.lemmas.List.Elements.{Contains-append_left, Contains-append_right, Contains-push}
use Rattle.raft_codec.specs.Codec.{Codec}
use Rattle.raft_packed_server.specs.proof_packed.Nodes.{PackedMessage}
use Rattle.raft_packed_server.specs.proof_packed.Stores.{Application, Packed}
use Rattle.raft_packed_server.specs.raft_packed_wire.declared.packet.SentMessage.{SentMessage}
use Rattle.raft_packed_server.specs.raft_packed_wire.Messages.{packed_packet, received}
use Rattle.raft_packed_server.specs.raft_packed_wire.Values.{kept}
use Rattle.raft_peers.specs.declared.output.Output.{Output}
use Rattle.raft_peers.specs.Sends.{BringsSnapshot, IsPreparing, LeaveAll, LeavesWhole, SendsAll, packet_of, sent}

module _ {S : Type 0} (app : Application S) (c : Codec S) (start : ℕ) where
  leave_both : (ms ns : List (PackedMessage S)) (a b : List (Output S)) → LeaveAll app c start ms a → LeaveAll app c start ns b
      → LeaveAll app c start (ms ++ ns) (a ++ b)
  leave_both [] ns a b h k = subst (λ (x : List (Output S)). LeaveAll app c start ns (x ++ b)) (sym h) k
  leave_both (m ∷ ms) ns a b (front, rest, is, one, others) k =
      (front, rest ++ b, (λ i. is i ++ b) ∙ append_assoc front rest b, one, leave_both ms ns rest b others k)

  pub sends_both : (ms ns old mid new : List (PackedMessage S)) (a b : List (Output S)) → SendsAll app c start ms old a mid
      → SendsAll app c start ns mid b new → SendsAll app c start (ms ++ ns) old (a ++ b) new
  sends_both ms ns old mid new a b h k = record {
    leave = leave_both ms ns a b h.leave k.leave;
    preparing = λ m there. ⊎_elim
        (λ before. ⊎_elim (λ x. inl x) (λ x. inr (Contains-append_left ms ns m x)) (h.preparing m before))
        (λ x. inr (Contains-append_right ms ns m x)) (k.preparing m there);
  }

  pub sends_none : (old : List (PackedMessage S)) → SendsAll app c start [] old [] old
  sends_none old = record { leave = refl; preparing = λ m there. inl there }

  -- what leaves of a message
  abbrev Leaves : PackedMessage S → List (Output S) → List (Output S) → Type 0
  Leaves m old new =
      (out : List (Output S)) × (new ≡ old ++ out) × (LeavesWhole app c start m out ⊎ IsPreparing app c start m out)

  pub sent_leaves : {T E : Type 0} (r : Result T E) (m same : PackedMessage S) (packet : SentMessage (Packed S)) (old new : List (Output S))
      → same ≡ m → received app packet ≡ same → OnOk r (new ≡ old ++ sent c start packet ∷ [])
      → OnOk r ((packed_packet (kept c)).fits (packet_of start packet)) → OnOk r (Leaves m old new)
  sent_leaves (Ok x) m same packet old new is of leaves fits =
      (sent c start packet ∷ [], leaves, inl (record { packet = packet; of_message = of ∙ is; fits = fits; leaves = refl }))
  sent_leaves (Err e) m same packet old new is of leaves fits = tt

  pub prepared_leaves : {T E : Type 0} (r : Result T E) (m : PackedMessage S) (old : List (Output S)) → BringsSnapshot m.message.body
      → OnOk r (Leaves m old old)
  prepared_leaves (Ok x) m old brings = ([], sym (append-nil old), inr (record { brings = brings; leaves = refl }))
  prepared_leaves (Err e) m old brings = tt

  -- and what is prepared then
  abbrev Prepared : PackedMessage S → List (PackedMessage S) → List (PackedMessage S) → Type 0
  Prepared m old new = (x : PackedMessage S) → Contains new x → Contains old x ⊎ Contains (m ∷ []) x

  pub sent_prepared : {T E : Type 0} (r : Result T E) (m : PackedMessage S) (old : List (PackedMessage S)) → OnOk r (Prepared m old old)
  sent_prepared (Ok x) m old = λ y there. inl there
  sent_prepared (Err e) m old = tt

  pub prepared : {T E : Type 0} (r : Result T E) (m one : PackedMessage S) (old new : List (PackedMessage S)) → one ≡ m
      → OnOk r ((x : PackedMessage S) → Contains new x → Contains old x ⊎ (x ≡ one)) → OnOk r (Prepared m old new)
  prepared (Ok y) m one old new is comes =
      λ x there. ⊎_elim (λ d. inl d) (λ e. inr (subst (Contains (m ∷ [])) (sym (e ∙ is)) (Contains-push [] m))) (comes x there)
  prepared (Err e) m one old new is comes = tt

  -- one more
  pub sends_more : (ms : List (PackedMessage S)) (m : PackedMessage S) (old mid new : List (PackedMessage S)) (a b : List (Output S))
      → SendsAll app c start ms old a mid
      → LeavesWhole app c start m b ⊎ IsPreparing app c start m b
      → Prepared m mid new
      → SendsAll app c start (ms ++ m ∷ []) old (a ++ b) new
  sends_more ms m old mid new a b h leaves more =
      sends_both ms (m ∷ []) old mid new a b h (record { leave = (b, [], sym (append-nil b), leaves, refl); preparing = more })
