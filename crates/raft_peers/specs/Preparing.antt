-- A message whose snapshot is encoded in steps, before it leaves in parts.
use Rattle.std.specs.Prelude.{ℕ, ◌≡◌, List, []}
use Rattle.raft_codec.specs.Codec.{Codec}
use Rattle.raft_chunks.specs.declared.cursor.Title.{Title}
use Rattle.raft_chunks.specs.Chunks.{title_of}
use Rattle.raft_packed_server.specs.proof_packed.Nodes.{PackedMessage}
use Rattle.raft_packed_server.specs.raft_packed_wire.declared.packed.PackedPlace.{PackedPlace}
use Rattle.raft_packed_server.specs.raft_packed_wire.declared.packed.PackedPlace.TheVariants.{Front}
use Rattle.raft_packed_server.specs.raft_packed_wire.Pieces.{PackedGoesOn}
use Rattle.raft_packed_server.specs.raft_packed_wire.raft_packed.declared.place.Place.{Place}
use Rattle.raft_peers.specs.Sends.{BringsSnapshot}

-- up to a place it stands in these bytes, which have this title
pub record IsEncodedUpto {S : Type 0} (c : Codec S) (left : S → Place → List ℕ) (fits : S → Place → Type 0) (m : PackedMessage S) (at : PackedPlace)
    (bytes : List ℕ) (title : Title) : Type 0 where
  pub brings : BringsSnapshot m.message.body
  pub encoded : PackedGoesOn c left fits m.brought Front at [] bytes
  pub titled : title ≡ title_of m.brought.end bytes
