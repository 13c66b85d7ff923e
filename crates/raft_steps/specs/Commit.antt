-- Commits.
use Rattle.std.specs.Prelude.{List, Option, None, Some, if◌then◌else◌}
use Rattle.raft_state.specs.State.{commit, commits}
use Rattle.raft_steps.specs.SnapshotHandler.{snapshot_where_due}
use Rattle.std.specs.declared.cmp.Ordering.{Ordering}
use Rattle.raft_state.specs.declared.ids.LogId.{LogId}
use Rattle.raft_command.specs.declared.config.EngineConfig.{EngineConfig}
use Rattle.raft_command.specs.declared.command.Command.{Command}
use Rattle.raft_command.specs.Queue.{queued}
use Rattle.raft_command.specs.Push.{committed_upto}
use Rattle.raft_steps.specs.Parts.{Core}

module _ {C NID N E D R S : Type 0} (cmp : NID → NID → Ordering) (config : EngineConfig NID) where
  -- a commit of x above the committed id: these commands and the commit are queued, and a snapshot if it is due
  unfoldable pub commit_by : List (Command C NID N E D R S) → Option (LogId NID) → Core C NID N E D R S → Core C NID N E D R S
  commit_by first None c = c
  commit_by first (Some x) c =
      if commits cmp c.state (Some x)
      then snapshot_where_due config (record { state = commit cmp c.state (Some x); output = committed_upto (queued c.output first) c.state.committed x })
      else c
