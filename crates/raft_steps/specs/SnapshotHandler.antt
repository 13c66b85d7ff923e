-- Building snapshots.
use Rattle.std.specs.Prelude.{true, Bool, if◌then◌else◌}
use Rattle.std.specs.Ordering.{is_gt}
use Rattle.std.specs.declared.cmp.Ordering.{Ordering}
use Rattle.raft_state.specs.declared.membership.SnapshotMeta.{SnapshotMeta}
use Rattle.raft_state.specs.declared.state.RaftState.{RaftState}
use Rattle.raft_state.specs.Order.{last_id_cmp}
use Rattle.raft_state.specs.Policy.{should_snapshot}
use Rattle.raft_command.specs.declared.sm.CommandPayload.TheVariants.{BuildSnapshot}
use Rattle.raft_command.specs.declared.config.EngineConfig.{EngineConfig}
use Rattle.raft_command.specs.Push.{ordered}
use Rattle.raft_steps.specs.Parts.{Core, with_state}

module _ {C NID N E D R S : Type 0} where
  -- the building of a snapshot is triggered, if none is being built
  unfoldable pub trigger_snapshot : Core C NID N E D R S → Core C NID N E D R S
  trigger_snapshot c =
      if c.state.building then c
      else record { state = record c.state { building = true }; output = ordered c.output BuildSnapshot }

  -- the same if the policy asks for a snapshot
  unfoldable pub snapshot_where_due : EngineConfig NID → Core C NID N E D R S → Core C NID N E D R S
  snapshot_where_due config c = if should_snapshot config.snapshot_policy c.state then trigger_snapshot c else c

module _ {NID N : Type 0} (cmp : NID → NID → Ordering) where
  -- a snapshot is above the recorded one
  abbrev pub is_newer_snapshot : RaftState NID N → SnapshotMeta NID N → Bool
  is_newer_snapshot s meta = is_gt (last_id_cmp cmp meta.last_log_id s.snap.last_log_id)

module _ {C NID N E D R S : Type 0} (cmp : NID → NID → Ordering) where
  -- a snapshot above the recorded one replaces it
  unfoldable pub update_snapshot : SnapshotMeta NID N → Core C NID N E D R S → Core C NID N E D R S
  update_snapshot meta c = if is_newer_snapshot cmp c.state meta then with_state c (record c.state { snap = meta }) else c
