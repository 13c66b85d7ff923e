-- A packed node does what the node does that it stands for: to pack after an event is the packed event after packing.
use Rattle.std.specs.Prelude.{◌≡◌, List, [], Some}
use Rattle.std.specs.Ordering.{nat_cmp}
use Rattle.raft_node.specs.raft_schedule.declared.event.Event.{Event}
use Rattle.raft_node.specs.declared.act.Act.{Act}
use Rattle.raft_node.specs.declared.given.Given.{Given}
use Rattle.raft_node.specs.Events.{Scene, played}
use Rattle.raft_node.specs.Net.{NodeView}
use Rattle.raft_node.specs.Work.{weight}
use Rattle.proof_packed.specs.Nodes.{bare_act, brought_by_act, packed_played, packed_scene}
use Rattle.raft_node.specs.raft_store.declared.entry.Entry.{Entry}
use Rattle.raft_node.specs.raft_store.Entries.{entry_meaning}
use Rattle.raft_node.specs.raft_store.Types.{EngineView}
use Rattle.proof_mirror.specs.Ready.{Shaped, Ordered}
use Rattle.proof_packed_stores.specs.Stores.{Application, packed}

-- if the engine runs, its queue is empty
abbrev pub HasEmptyQueue : NodeView → Type 0
HasEmptyQueue n = (e : EngineView) → n.engine ≡ Some e → e.machine.core.output.items ≡ []

-- an event at a node between two events, with its stop: the outcome, the node, and what is recorded
abbrev pub PacksEvents : Type 0 → Type 0 → Type 0
PacksEvents S L =
    (app : Application S) (keep : List Entry → L) (given : Given) (act : Act) (event : Event) (s : Scene L)
    → HasEmptyQueue s.node → Shaped entry_meaning s.node.store → Ordered nat_cmp entry_meaning s.node.store
    → (let r = played keep weight given act event s in (r.0, packed_scene app r.1)) ≡ packed_played app given (bare_act act) (brought_by_act app act) event (packed_scene app s)
