-- Purges (Raft paper, section 7).
use Rattle.std.specs.Prelude.{ℕ, ◌-◌, ◌==◌, nat_lt, Bool, ◌||◌, List, Option, None, Some, if◌then◌else◌}
use Rattle.std.specs.List.{list_any}
use Rattle.std.specs.Ordering.{is_gt}
use Rattle.std.specs.declared.cmp.Ordering.{Ordering}
use Rattle.raft_state.specs.declared.ids.LogId.{LogId}
use Rattle.raft_state.specs.declared.state.RaftState.{RaftState}
use Rattle.raft_state.specs.Log.{at}
use Rattle.raft_state.specs.Order.{last_id_cmp, next}
use Rattle.raft_state.specs.Policy.{saturating_add}
use Rattle.raft_state.specs.State.{purge}
use Rattle.raft_progress_entry.specs.Entry.{is_log_range_inflight}
use Rattle.raft_progress_entry.specs.declared.entry.ProgressEntry.{ProgressEntry}
use Rattle.raft_command.specs.Push.{with_command}
use Rattle.raft_command.specs.declared.command.Command.TheVariants.{PurgeLog}
use Rattle.raft_command.specs.declared.config.EngineConfig.{EngineConfig}
use Rattle.raft_steps.specs.Laws.{later}
use Rattle.raft_steps.specs.Parts.{Core, with_state}

module _ {NID N : Type 0} (config : EngineConfig NID) where
  -- the index below which the log may be purged: what the snapshot covers, except the entries to keep
  abbrev pub purge_end : RaftState NID N → ℕ
  purge_end s = next s.snap.last_log_id - config.max_in_snapshot_log_to_keep

  -- the id up to which the settings purge the log, if that fills a batch (openraft's `calc_purge_upto`)
  abbrev pub calc_purge_upto : RaftState NID N → Option (LogId NID)
  calc_purge_upto s =
      if (purge_end s == 0) || nat_lt (purge_end s) (saturating_add (next s.purged) config.purge_batch_size) then None
      else at s.ids (purge_end s - 1)

module _ {C NID N E D R S : Type 0} where
  -- the purge target is x
  abbrev pub update_purge_upto : Option (LogId NID) → Core C NID N E D R S → Core C NID N E D R S
  update_purge_upto x c = with_state c (record c.state { purge_to = x })

module _ {C NID N E D R S : Type 0} (cmp : NID → NID → Ordering) (config : EngineConfig NID) where
  -- the purge target rises as the settings say
  unfoldable pub schedule_policy_based_purge : Core C NID N E D R S → Core C NID N E D R S
  schedule_policy_based_purge c = update_purge_upto (later cmp c.state.purge_to (calc_purge_upto config c.state)) c

module _ {NID N : Type 0} (cmp : NID → NID → Ordering) where
  -- the purge target is in flight to one of these nodes
  abbrev pub is_target_inflight : List (NID × ProgressEntry NID) → RaftState NID N → Bool
  is_target_inflight rows s = list_any (λ row. is_log_range_inflight cmp row.1 s.purge_to) rows

module _ {C NID N E D R S : Type 0} (cmp : NID → NID → Ordering) where
  -- the log is purged up to its target, and the command for it queued
  unfoldable pub purge_log : Core C NID N E D R S → Core C NID N E D R S
  purge_log c =
      elim c.state.purge_to [
        | None ↦ c
        | Some upto ↦
            (if is_gt (last_id_cmp cmp (Some upto) c.state.purged)
            then record { state = purge cmp c.state upto; output = with_command c.output (PurgeLog upto) }
            else c)
      ]

  -- the same, unless the target is in flight to one of these nodes
  unfoldable pub try_purge_log : List (NID × ProgressEntry NID) → Core C NID N E D R S → Core C NID N E D R S
  try_purge_log rows c = if is_target_inflight cmp rows c.state then c else purge_log c
