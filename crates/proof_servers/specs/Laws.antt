-- What is promised of servers, whatever they do and whenever they crash.
use Rattle.std.specs.Prelude.{ℕ, ◌≡◌, ◌<◌, ◌≤◌, ◌++◌, List, Contains, Some}
use Rattle.proof_deeds.specs.raft_store.declared.entry.Entry.{Entry}
use Rattle.proof_deeds.specs.raft_schedule.declared.event.Event.{Event}
use Rattle.proof_deeds.specs.raft_node.declared.act.Act.{Act}
use Rattle.proof_deeds.specs.raft_node.declared.given.Given.{Given}
use Rattle.proof_deeds.specs.raft_node.declared.record.Executed.{Executed}
use Rattle.proof_deeds.specs.raft_node.Events.{Scene, played}
use Rattle.proof_deeds.specs.raft_node.Held.{IsAtRest}
use Rattle.proof_deeds.specs.raft_node.Net.{Net, Records, node_at}
use Rattle.proof_deeds.specs.raft_node.Runs.{world_after}
use Rattle.proof_deeds.specs.raft_node.Safety.{AllAgree, entries_of}
use Rattle.proof_deeds.specs.raft_node.WellFormed.{IsWellFormed}
use Rattle.proof_deeds.specs.raft_node.Work.{weight}
use Rattle.proof_servers.specs.Follows.{Follows}
use Rattle.proof_servers.specs.Recorded.{scene_behind}
use Rattle.proof_servers.specs.Servers.{Action, AllMayAct, Cluster, after_actions, new_cluster}

-- an event at a node does the same whatever was recorded before, and whatever is kept of whole logs. So a server need not
-- remember what it said
abbrev pub Frames : Type 0 → Type 0 → Type 0
Frames L M =
    (f : L → M) (keep : List Entry → L) (given : Given) (event : Event) (act : Act) (r : Records M) (s : Scene L)
    → played (λ es. f (keep es)) weight given act event (scene_behind f r s) ≡ (let p = played keep weight given act event s in (p.0, scene_behind f r p.1))

-- for all that servers do there are events that they follow
abbrev pub ServersFollow : Type 0
ServersFollow = (given : Given) (actions : List Action) → AllMayAct given actions (new_cluster given) → (es : List Event) × Follows given es (after_actions given actions (new_cluster given))

-- a server's node, ahead of its disk as it is, is its node in the world after some more events
abbrev pub ServersAhead : Type 0
ServersAhead = (given : Given) (es : List Event) (c : Cluster) (id : ℕ) → Contains given.ids id → Follows given es c
    → (more : List Event) × (node_at (world_after given (es ++ more)).nodes id ≡ Some (c.servers id).node)

-- of servers that started empty, after any actions
abbrev pub OfEachCluster : (Given → Cluster → Type 0) → Type 0
OfEachCluster P = (given : Given) → IsWellFormed given → (actions : List Action) → AllMayAct given actions (new_cluster given) → P given (after_actions given actions (new_cluster given))

-- state machine safety of what has left servers (Raft paper, section 5.4.3): of the entries that clients were told of as
-- executed, or that a server said it had installed, those of one index are the same entry
abbrev pub ServersAgree : Type 0
ServersAgree = OfEachCluster (λ given c. AllAgree (entries_of c.released.executed c.released.installed))

-- each server's node is at rest: its engine is sound, its note fits, and a start on its store finds a sound state
abbrev pub ServersRest : Type 0
ServersRest = OfEachCluster (λ given c. (id : ℕ) → Contains given.ids id → IsAtRest (c.servers id).node)

-- each index up to this one has an entry that was executed or installed
abbrev pub IsCovered : Net (List Entry) → ℕ → Type 0
IsCovered net i = (j : ℕ) → j ≤ i → (y : Entry) × Contains (entries_of net.records.executed net.records.installed) y × (y.log_id.index ≡ j)

-- Of worlds: an entry that was executed, as was one at each index below it, stands below each entry that was executed later,
-- and not before. (If a client was told of the first before another one asked for the second, this is the order that a
-- linearizable log has. Of servers two facts are left to show: that below what was executed each index is covered, and that no
-- entry is executed before it is asked for.)
abbrev pub InOrder : Type 0
InOrder =
    (given : Given) → IsWellFormed given → (es more : List Event) (x y : Executed)
    → Contains (world_after given es).records.executed x → IsCovered (world_after given es) x.entry.log_id.index
    → Contains (world_after given (es ++ more)).records.executed y
    → (Contains (entries_of (world_after given es).records.executed (world_after given es).records.installed) y.entry → ⊥)
    → x.entry.log_id.index < y.entry.log_id.index
