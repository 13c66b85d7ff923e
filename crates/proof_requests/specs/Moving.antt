-- Snapshots that are encoded, go out and come in parts, beside the messages that have left the model's servers.
use Rattle.std.specs.Prelude.{◌≡◌, ◌⊎◌, Contains, List, [], length, take}
use Rattle.std.specs.List.{AllByRecursion}
use Rattle.raft_calls.specs.declared.message.Message.{Message}
use Rattle.raft_chunks.specs.Assembled.{Assembled}
use Rattle.raft_chunks.specs.Chunks.{title_of}
use Rattle.raft_codec.specs.Codec.{Codec}
use Rattle.proof_packed.specs.Nodes.{PackedMessage, brought_by_body, packed_message}
use Rattle.proof_packed.specs.Stores.{Application}
use Rattle.raft_core.specs.raft_packed_wire.Values.{kept}
use Rattle.raft_core.specs.raft_peers.Parts.{Outgoing, outgoing_of}
use Rattle.raft_core.specs.Views.{CoreView}

module _ {S : Type 0} (app : Application S) (c : Codec S) (bag : List Message) where
  -- whose snapshot is encoded is a message that has left a server, packed
  pub record HasLeft (p : PackedMessage S) : Type 0 where
    pub message : Message
    pub left : Contains bag message
    pub is : p ≡ packed_message app message

  -- what goes out in parts is the snapshot of a message that has left a server, packed
  pub record IsGoing (o : Outgoing) : Type 0 where
    pub message : Message
    pub left : Contains bag message
    pub fits : (kept c).fits (brought_by_body app message.body)
    pub is : o ≡ outgoing_of c (packed_message app message)

  -- what has come is the front of the snapshot that such a message brings, by its title
  pub record IsFront (a : Assembled) : Type 0 where
    pub outgoing : Outgoing
    pub going : IsGoing outgoing
    pub title : a.title ≡ title_of outgoing.number outgoing.bytes
    pub front : a.bytes ≡ take (length a.bytes) outgoing.bytes

  -- if anything has
  abbrev pub IsComing : Assembled → Type 0
  IsComing a = (a.bytes ≡ []) ⊎ IsFront a

  pub record IsMoving (v : CoreView S) : Type 0 where
    pub preparing : AllByRecursion HasLeft v.preparing
    pub going : AllByRecursion IsGoing v.outgoing
    pub coming : IsComing v.incoming
