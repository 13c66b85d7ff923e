-- A bare start gives up the lead.
use Rattle.std.specs.Prelude.{ℕ, ◌<◌, ◌≤◌, ◌≡◌, List, ◌∷◌, ◌++◌, IfSome, Some, length}
use Rattle.std.specs.List.{AllByRecursion}
use Rattle.raft_node.specs.raft_store.declared.entry.Entry.{Entry}
use Rattle.raft_node.specs.raft_schedule.declared.event.Event.{Event}
use Rattle.raft_node.specs.raft_schedule.declared.event.EventKind.TheVariants as event
use Rattle.raft_node.specs.raft_schedule.declared.event.Start.TheVariants.{Bare}
use Rattle.raft_node.specs.declared.act.Act.TheVariants.{Restart}
use Rattle.raft_node.specs.declared.given.Given.{Given}
use Rattle.raft_node.specs.Events.{Scene, played}
use Rattle.raft_node.specs.Net.{NodeView, node_at}
use Rattle.raft_node.specs.Runs.{moment, whole_logs, world_after}
use Rattle.raft_node.specs.Work.{weight}
use Rattle.proof_deeds.specs.OwnReads.{Leaves}

-- a node that leads after a bare start, stopped within it or not, has a vote of a later term than it had stored before
-- (Raft paper, section 5.2: a server that starts an election increments its term)
abbrev pub BareStartsLeadAnew : Type 0
BareStartsLeadAnew =
    (given : Given) (event : Event) (s : Scene (List Entry))
    → IfSome (played whole_logs weight given (Restart Bare) event s).1.node.engine
    (λ e. IfSome e.machine.leader (λ l. s.node.store.vote.leader_id.term < e.machine.core.state.vote.leader_id.term))

-- In a run a node makes a bare start, and no start after it. At each moment from then on it leads, if it does, in a later term
-- than that of the vote that it had stored before (Raft paper, section 5.2). So it leads under no leader id that it had stored.
abbrev pub BareStartsNeverLeadOn : Given → List Event → Type 0
BareStartsNeverLeadOn given all =
    (before since : List Event) (first : Event) (n : ℕ) → all ≡ before ++ (first ∷ since) → first.kind ≡ event.Restart n Bare → AllByRecursion (Leaves n) since
    → (old : NodeView) → node_at (world_after given before).nodes n ≡ Some old
    → (i j : ℕ) (new : NodeView) → length before ≤ i → node_at (moment given all i j).nodes n ≡ Some new
    → IfSome new.engine (λ e. IfSome e.machine.leader (λ l. old.store.vote.leader_id.term < l.vote.leader_id.term))
