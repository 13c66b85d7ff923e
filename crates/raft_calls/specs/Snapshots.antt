-- The events of snapshots and purges (Raft paper, section 7).
use Rattle.std.specs.Prelude.{ℕ, List, Option}
use Rattle.std.specs.Ordering.{nat_cmp}
use Rattle.raft_steps.specs.Parts.{on_core}
use Rattle.raft_steps.specs.Refusals.{refusals_of_spent, refusals_of_trigger_snapshot}
use Rattle.raft_steps.specs.SnapshotCalls.{finish_building_snapshot, trigger_purge_log}
use Rattle.raft_steps.specs.SnapshotHandler.{trigger_snapshot}
use Rattle.raft_store.specs.declared.entry.Entry.{Entry}
use Rattle.raft_store.specs.Built.{meta_of}
use Rattle.raft_store.specs.Entries.{entry_meaning}
use Rattle.raft_store.specs.Types.{EngineView}
use Rattle.raft_calls.specs.Deliveries.{answered, with_machine}

-- the node is told to build a snapshot; nothing happens while one is built
abbrev pub snapshot_triggered : EngineView → Option ℕ × EngineView
snapshot_triggered e = answered (refusals_of_trigger_snapshot e.machine.core) e (with_machine e (on_core trigger_snapshot e.machine))

-- the log is purged up to an index, at most the snapshot's last one
abbrev pub purge_triggered : ℕ → EngineView → Option ℕ × EngineView
purge_triggered i e = answered (refusals_of_spent e.machine) e (with_machine e (trigger_purge_log nat_cmp i e.machine))

-- the engine is told of a snapshot that was built of these entries
abbrev pub told_built : List Entry → EngineView → Option ℕ × EngineView
told_built es e = answered (refusals_of_spent e.machine) e (with_machine e (finish_building_snapshot nat_cmp e.config (meta_of entry_meaning es) e.machine))
