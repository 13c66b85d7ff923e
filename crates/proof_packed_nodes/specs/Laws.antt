-- What is true of each node of a run of packed nodes.
use Rattle.std.specs.Prelude.{List, All}
use Rattle.raft_schedule.specs.declared.event.Event.{Event}
use Rattle.raft_node.specs.declared.given.Given.{Given}
use Rattle.raft_node.specs.WellFormed.{IsWellFormed}
use Rattle.raft_packed_node.specs.proof_packed.Stores.{Application}
use Rattle.proof_packed_worlds.specs.Worlds.{packed_after}
use Rattle.raft_packed_node.specs.Held.{IsPackedAtRest}

-- after any events each packed node is at rest, in each world that can be made
abbrev pub PackedNodesRest : Type 0 → Type 0
PackedNodesRest S =
    (app : Application S) (given : Given) → IsWellFormed given → (es : List Event) → All (IsPackedAtRest app) (packed_after app given es).nodes
