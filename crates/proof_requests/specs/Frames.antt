-- Frames that leave servers, beside the messages that have left the model's.
use Rattle.std.specs.Prelude.{ℕ, ◌≡◌, ◌≢◌, ◌⊎◌, Contains, List, [], ◌∷◌, Some, slice_get}
use Rattle.raft_calls.specs.declared.message.Message.{Message}
use Rattle.raft_codec.specs.Codec.{Codec}
use Rattle.proof_packed.specs.Nodes.{packed_message}
use Rattle.proof_packed.specs.Stores.{Application, Packed}
use Rattle.raft_core.specs.raft_packed_wire.declared.packet.SentMessage.{SentMessage}
use Rattle.raft_core.specs.raft_packed_wire.declared.packet.SentPart.{SentPart}
use Rattle.raft_core.specs.raft_packed_wire.Messages.{packed_packet, received}
use Rattle.raft_core.specs.raft_packed_wire.Values.{kept}
use Rattle.raft_core.specs.raft_peers.declared.output.Output.{Output}
use Rattle.raft_core.specs.raft_peers.declared.output.Output.TheVariants as outputs
use Rattle.raft_core.specs.raft_peers.Sends.{packet_frame, packet_of}
use Rattle.raft_core.specs.raft_peers.Parts.{IsPartOf, Outgoing, part_frame, part_packet}
use Rattle.proof_requests.specs.Moving.{IsGoing}

-- the frames among outputs
abbrev pub frames_of : {S : Type 0} → List (Output S) → List (List ℕ)
frames_of [] = []
frames_of (outputs.Send to bytes ∷ out) = bytes ∷ frames_of out
frames_of (_ ∷ out) = frames_of out

module _ {S : Type 0} (app : Application S) (c : Codec S) (bag : List Message) where
  -- the bytes are the frame of a packet with a message that has left a server, packed
  pub record IsPacket (bytes : List ℕ) : Type 0 where
    pub start : ℕ
    pub packet : SentMessage (Packed S)
    pub message : Message
    pub left : Contains bag message
    pub brings : received app packet ≡ packed_message app message
    pub fits : (packed_packet (kept c)).fits (packet_of start packet)
    pub frame : bytes ≡ packet_frame c start packet

  -- the bytes are the frame of a packet with a part of the snapshot that such a message brings
  pub record IsPartPacket (bytes : List ℕ) : Type 0 where
    pub start : ℕ
    pub outgoing : Outgoing
    pub going : IsGoing app c bag outgoing
    pub part : SentPart
    pub is_part : IsPartOf outgoing part
    pub fits : (packed_packet (kept c)).fits (part_packet c start part)
    pub frame : bytes ≡ part_frame c start part

  -- so they are; or they are no packet: those begin with 0
  abbrev pub IsSent : List ℕ → Type 0
  IsSent bytes = IsPacket bytes ⊎ (IsPartPacket bytes ⊎ (slice_get bytes 0 ≢ Some 0))
