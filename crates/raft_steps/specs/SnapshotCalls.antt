-- The calls of an engine for snapshots and purges.
use Rattle.std.specs.Prelude.{ℕ, nat_lt, min, false, List, None, Some, if◌then◌else◌}
use Rattle.std.specs.declared.cmp.Ordering.{Ordering}
use Rattle.raft_state.specs.declared.membership.SnapshotMeta.{SnapshotMeta}
use Rattle.raft_state.specs.Log.{at}
use Rattle.raft_state.specs.Order.{next}
use Rattle.raft_progress_entry.specs.declared.entry.ProgressEntry.{ProgressEntry}
use Rattle.raft_command.specs.Push.{ordered}
use Rattle.raft_command.specs.declared.config.EngineConfig.{EngineConfig}
use Rattle.raft_command.specs.declared.message.Token.{Token}
use Rattle.raft_command.specs.declared.sm.CommandPayload.TheVariants.{BeginReceivingSnapshot}
use Rattle.raft_steps.specs.Refusals.{rows_in}
use Rattle.raft_steps.specs.LogHandler.{update_purge_upto, schedule_policy_based_purge, try_purge_log}
use Rattle.raft_steps.specs.Parts.{Core, Machine, with_state, on_core}
use Rattle.raft_steps.specs.SnapshotHandler.{is_newer_snapshot, update_snapshot}

module _ {C NID N E D R S : Type 0} where
  -- no snapshot is being built
  abbrev pub built : Core C NID N E D R S → Core C NID N E D R S
  built c = with_state c (record c.state { building = false })

  -- the state machine is asked to prepare for a snapshot to be received
  unfoldable pub handle_begin_receiving_snapshot : Token → Machine C NID N E D R S → Machine C NID N E D R S
  handle_begin_receiving_snapshot token m = on_core (λ c. record c { output = ordered c.output (BeginReceivingSnapshot token) }) m

module _ {C NID N E D R S : Type 0} (cmp : NID → NID → Ordering) where
  -- the log is purged up to its target, unless the target is in flight to another node
  unfoldable pub purge_where_free : Machine C NID N E D R S → Machine C NID N E D R S
  purge_where_free m = on_core (try_purge_log cmp (rows_in m)) m

  -- a purge up to an index, at most the snapshot's last one, if this is above the purge target
  abbrev pub purge_to_index : List (NID × ProgressEntry NID) → ℕ → Core C NID N E D R S → Core C NID N E D R S
  purge_to_index rows i c =
      elim c.state.snap.last_log_id [
        | None ↦ c
        | Some x ↦ (if nat_lt i (next c.state.purge_to) then c else try_purge_log cmp rows (update_purge_upto (at c.state.ids (min i x.index)) c))
      ]

  unfoldable pub trigger_purge_log : ℕ → Machine C NID N E D R S → Machine C NID N E D R S
  trigger_purge_log i m = on_core (purge_to_index (rows_in m) i) m

module _ {C NID N E D R S : Type 0} (cmp : NID → NID → Ordering) (config : EngineConfig NID) where
  -- a snapshot above the recorded one is recorded, and the log is purged by the settings
  abbrev pub record_snapshot : List (NID × ProgressEntry NID) → SnapshotMeta NID N → Core C NID N E D R S → Core C NID N E D R S
  record_snapshot rows meta c =
      if is_newer_snapshot cmp c.state meta then try_purge_log cmp rows (schedule_policy_based_purge cmp config (update_snapshot cmp meta c)) else c

  -- a snapshot has been built
  unfoldable pub finish_building_snapshot : SnapshotMeta NID N → Machine C NID N E D R S → Machine C NID N E D R S
  finish_building_snapshot meta m = on_core (λ c. record_snapshot (rows_in m) meta (built c)) m
