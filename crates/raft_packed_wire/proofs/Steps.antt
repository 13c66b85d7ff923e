-- What a command changes on disk, written.
use Rattle.std.proofs.Common.{ℕ, ◌≡◌, List, None}
use Rattle.std.specs.Prelude.{Result}
use Rattle.std.specs.Option.{option_map, option_to_list}
use Rattle.raft_command.specs.declared.command.Command.TheVariants as command
use Rattle.raft_command.specs.declared.sm.CommandPayload.TheVariants as machine
use Rattle.raft_store.specs.Types.{WorldCommand, WorldPayload}
use Rattle.raft_codec.specs.Codec.{Codec}
use Rattle.raft_wire.specs.Records.{WritesChanges, change, change_of, payload_change}
use Rattle.raft_packed_wire.specs.Records.{WritesPackedChanges, meta_in, meta_installed, packed_change, packed_change_of, with_snapshot}

module _ {P E : Type 0} (c : Codec P) (brought : P) (r : Result (Unit {0}) E) (old new : List ℕ) where
  payload_written : (p : WorldPayload) → meta_in p ≡ None → WritesChanges (option_to_list (payload_change p)) r old new
      → WritesPackedChanges c (option_to_list (option_map (with_snapshot brought) (payload_change p))) r old new
  payload_written machine.BuildSnapshot e w = w
  payload_written (machine.GetSnapshot _) e w = w
  payload_written (machine.BeginReceivingSnapshot _) e w = w
  payload_written (machine.InstallFullSnapshot s) e w = absurd cc
  payload_written (machine.Apply _) e w = w

  -- what installs no snapshot stands as it does where none is packed
  pub other_written : (x : WorldCommand) → meta_installed x ≡ None → WritesChanges (option_to_list (change_of x)) r old new
      → WritesPackedChanges c (option_to_list (packed_change_of brought x)) r old new
  unfolding change packed_change
  other_written (command.SaveVote v) e w = w
  other_written (command.AppendInputEntries v es) e w = w
  other_written (command.DeleteConflictLog since) e w = w
  other_written (command.PurgeLog upto) e w = w
  other_written (command.Commit seq already upto) e w = w
  other_written (command.StateMachine x) e w = payload_written x.payload e w
  other_written command.BecomeLeader e w = w
  other_written command.QuitLeader e w = w
  other_written (command.ReplicateCommitted _) e w = w
  other_written (command.Replicate _ _) e w = w
  other_written (command.RebuildReplicationStreams _) e w = w
  other_written (command.SendVote _) e w = w
  other_written (command.Respond _ _) e w = w
