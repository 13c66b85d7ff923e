-- How a message leaves.
use Rattle.std.specs.Prelude.{◌≡◌}
use Rattle.raft_packed_server.specs.proof_packed.Nodes.{PackedMessage}
use Rattle.raft_peers.specs.declared.send.Leaving.{Leaving}
use Rattle.raft_peers.specs.declared.send.Leaving.TheVariants.{Whole, InParts}
use Rattle.raft_peers.specs.Sends.{BringsSnapshot}

-- whole, or in parts, as then it brings a snapshot
abbrev pub IsLeaving : {S : Type 0} → PackedMessage S → Leaving S → Type 0
IsLeaving m (Whole same) = same ≡ m
IsLeaving m (InParts same) = (same ≡ m) × BringsSnapshot m.message.body
