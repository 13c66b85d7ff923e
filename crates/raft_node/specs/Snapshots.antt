-- The end of a snapshot's build at a node (Raft paper, section 7).
use Rattle.std.specs.Prelude.{ℕ, List, Option, None, Some}
use Rattle.raft_store.specs.declared.entry.Entry.{Entry}
use Rattle.raft_store.specs.Built.{keep_snapshot}
use Rattle.raft_store.specs.Entries.{entry_meaning}
use Rattle.raft_store.specs.Types.{EngineView}
use Rattle.raft_schedule.specs.declared.event.SkipReason.{SkipReason}
use Rattle.raft_schedule.specs.declared.event.SkipReason.TheVariants.{NothingBuilt}
use Rattle.raft_node.specs.Net.{NodeView}
use Rattle.raft_calls.specs.Snapshots.{told_built}

-- the noted entries become the node's snapshot, if they are more than it has, and the note is used up; a refused end of
-- a build changes nothing
abbrev pub kept_built : List Entry → NodeView → Option ℕ × EngineView → Option ℕ × NodeView
kept_built es n (Some r, e) = (Some r, n)
kept_built es n (None, e) = (None, record n { store = keep_snapshot entry_meaning es n.store; engine = Some e; noted = None })

-- the build of a snapshot ends
abbrev pub finish_snapshot : NodeView → Option ℕ × NodeView
finish_snapshot n =
    elim n.engine [
      | None ↦ (None, n)
      | Some e ↦ elim n.noted [ None ↦ (None, n) | Some es ↦ kept_built es n (told_built es e) ]
    ]

-- no snapshot is being built
abbrev pub skip_finish : NodeView → Option SkipReason
skip_finish n = elim n.noted [ None ↦ Some NothingBuilt | Some es ↦ None ]
