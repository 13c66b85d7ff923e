-- What leaves for other servers.
use Rattle.std.specs.Prelude.{ℕ, ◌≡◌, ◌⊎◌, Contains, List, [], ◌∷◌, ◌++◌}
use Rattle.raft_calls.specs.declared.message.Body.{Body}
use Rattle.raft_calls.specs.declared.message.Body.TheVariants.{SnapshotRequest}
use Rattle.raft_codec.specs.Codec.{Codec}
use Rattle.raft_packed_server.specs.proof_packed.Nodes.{PackedMessage}
use Rattle.raft_packed_server.specs.proof_packed.Stores.{Application, Packed}
use Rattle.raft_packed_server.specs.raft_packed_wire.declared.packet.PackedContent.TheVariants as content
use Rattle.raft_packed_server.specs.raft_packed_wire.declared.packet.PackedPacket.{PackedPacket}
use Rattle.raft_packed_server.specs.raft_packed_wire.declared.packet.SentMessage.{SentMessage}
use Rattle.raft_packed_server.specs.raft_packed_wire.Messages.{packed_packet, received}
use Rattle.raft_packed_server.specs.raft_packed_wire.Values.{kept}
use Rattle.raft_peers.specs.declared.output.Output.{Output}
use Rattle.raft_peers.specs.declared.output.Output.TheVariants as outputs
use Rattle.raft_peers.specs.Parts.{AreParts, Outgoing, outgoing_of}

-- a request to install a snapshot
abbrev pub BringsSnapshot : Body → Type 0
BringsSnapshot (SnapshotRequest origin snapshot) = Unit {0}
BringsSnapshot _ = ⊥

-- a message in a packet of this start
abbrev pub packet_of : {P : Type 0} → ℕ → SentMessage P → PackedPacket P
packet_of start m = record { start = start; content = content.Message m }

module _ {S : Type 0} (c : Codec S) where
  -- its frame
  abbrev pub packet_frame : ℕ → SentMessage (Packed S) → List ℕ
  packet_frame start m = 0 ∷ (packed_packet (kept c)).bytes (packet_of start m)

  abbrev pub sent : ℕ → SentMessage (Packed S) → Output S
  sent start m = outputs.Send m.message.to (packet_frame start m)

module _ {S : Type 0} (app : Application S) (c : Codec S) (start : ℕ) where
  -- A message leaves as a frame, and can be read back: one that brings the snapshot of no entries may have that, or none.
  pub record LeavesWhole (m : PackedMessage S) (out : List (Output S)) : Type 0 where
    pub packet : SentMessage (Packed S)
    pub of_message : received app packet ≡ m
    pub fits : (packed_packet (kept c)).fits (packet_of start packet)
    pub leaves : out ≡ sent c start packet ∷ []

  -- or nothing of it leaves yet: its snapshot is to be encoded first, step by step
  pub record IsPreparing (m : PackedMessage S) (out : List (Output S)) : Type 0 where
    pub brings : BringsSnapshot m.message.body
    pub leaves : out ≡ []

  -- once it is, it leaves in parts: some of them now, and the others later
  pub record LeavesInParts (m : PackedMessage S) (out : List (Output S)) : Type 0 where
    pub brings : BringsSnapshot m.message.body
    pub fits : (kept c).fits m.brought
    pub parts : AreParts c start (outgoing_of c m) out

  -- messages leave, in their order
  abbrev pub LeaveAll : List (PackedMessage S) → List (Output S) → Type 0
  LeaveAll [] out = out ≡ []
  LeaveAll (m ∷ ms) out =
      (front rest : List (Output S)) × (out ≡ front ++ rest) × (LeavesWhole m front ⊎ IsPreparing m front) × LeaveAll ms rest

  -- a message among these goes out in parts
  pub record IsBegun (messages : List (PackedMessage S)) (o : Outgoing) : Type 0 where
    pub message : PackedMessage S
    pub among : Contains messages message
    pub fits : (kept c).fits message.brought
    pub is : o ≡ outgoing_of c message

  -- What messages leave. Those whose snapshots are being encoded by then were before, or are among them.
  pub record SendsAll (messages : List (PackedMessage S)) (old : List (PackedMessage S)) (out : List (Output S)) (new : List (PackedMessage S))
      : Type 0 where
    pub leave : LeaveAll messages out
    pub preparing : (m : PackedMessage S) → Contains new m → Contains old m ⊎ Contains messages m

  -- What leaves of those whose snapshots are being encoded: nothing, or parts of one that is encoded by then. What is outgoing by then was before,
  -- or is of such a one.
  pub record Prepares (old : List (PackedMessage S)) (going : List Outgoing) (out : List (Output S)) (new : List (PackedMessage S))
      (going' : List Outgoing) : Type 0 where
    pub preparing : (m : PackedMessage S) → Contains new m → Contains old m
    pub outgoing : (o : Outgoing) → Contains going' o → Contains going o ⊎ IsBegun old o
    pub leaves : (out ≡ []) ⊎ ((m : PackedMessage S) × Contains old m × LeavesInParts m out)

  -- what messages leave, and behind it such parts, which may be of one of them
  pub record Sends (messages : List (PackedMessage S)) (old : List (PackedMessage S)) (going : List Outgoing) (out : List (Output S))
      (new : List (PackedMessage S)) (going' : List Outgoing) : Type 0 where
    pub frames : List (Output S)
    pub parts : List (Output S)
    pub waiting : List (PackedMessage S)
    pub sends : SendsAll messages old frames waiting
    pub prepares : Prepares waiting going parts new going'
    pub leaves : out ≡ frames ++ parts
