-- Who executes a command, and what it waits for (openraft's `Command::kind` and `Command::condition`).
use Rattle.std.specs.Prelude.{Option, None}
use Rattle.raft_command.specs.declared.command.Command.{Command}
use Rattle.raft_command.specs.declared.command.Command.TheVariants.{BecomeLeader, QuitLeader, AppendInputEntries, ReplicateCommitted, Commit, Replicate, RebuildReplicationStreams, SaveVote, SendVote, PurgeLog, DeleteConflictLog, StateMachine, Respond}
use Rattle.raft_command.specs.declared.command.CommandKind.{CommandKind}
use Rattle.raft_command.specs.declared.command.CommandKind.TheVariants as kind
use Rattle.raft_command.specs.declared.command.Condition.{Condition}

module _ {C NID N E D R S : Type 0} where
  -- who executes the command
  abbrev pub kind_of : Command C NID N E D R S → CommandKind
  kind_of BecomeLeader = kind.Main
  kind_of QuitLeader = kind.Main
  kind_of (AppendInputEntries _ _) = kind.Log
  kind_of (ReplicateCommitted _) = kind.Network
  kind_of (Commit _ _ _) = kind.Main
  kind_of (Replicate _ _) = kind.Network
  kind_of (RebuildReplicationStreams _) = kind.Main
  kind_of (SaveVote _) = kind.Log
  kind_of (SendVote _) = kind.Network
  kind_of (PurgeLog _) = kind.Log
  kind_of (DeleteConflictLog _) = kind.Log
  kind_of (StateMachine _) = kind.StateMachine
  kind_of (Respond _ _) = kind.Main

  -- what the command waits for
  abbrev pub condition_of : Command C NID N E D R S → Option (Condition NID)
  condition_of (Respond when _) = when
  condition_of _ = None
