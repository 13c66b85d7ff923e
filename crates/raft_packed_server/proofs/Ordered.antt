-- The entries of a store stay in order, whatever a step does, and whatever records are replayed.
use Rattle.std.proofs.Common.{ℕ, List, [], ◌∷◌, Option, None, Some, sym, subst}
use Rattle.std.specs.Prelude.{Bool, true, false, fold, if◌then◌else◌, nat_lt, unwrap_or}
use Rattle.raft_error.specs.raft_state.declared.ids.LogId.{LogId}
use Rattle.raft_command.specs.declared.command.Command.TheVariants as command
use Rattle.raft_command.specs.declared.sm.CommandPayload.TheVariants as payload
use Rattle.raft_store.specs.Types.{WorldCommand, WorldPayload}
use Rattle.raft_node.specs.declared.given.Given.{Given}
use Rattle.proof_packed.specs.Nodes.{PackedNode, of_no_entries}
use Rattle.proof_packed.specs.Records.{packed_exec_all}
use Rattle.proof_packed.specs.Stores.{Application, Packed, PackedStore, packed_exec, packed_exec_payload, packed_meta, packed_outrun, packed_settled_by}
use Rattle.raft_packed_wire.specs.declared.record.PackedBegan.{PackedBegan}
use Rattle.raft_packed_wire.specs.declared.record.PackedBegan.TheVariants.{Unchanged, Settled, Built}
use Rattle.raft_packed_wire.specs.declared.record.PackedChange.{PackedChange}
use Rattle.raft_packed_wire.specs.declared.record.PackedRecord.{PackedRecord}
use Rattle.raft_packed_wire.specs.Checkpoints.{AreInOrder}
use Rattle.raft_packed_wire.specs.Records.{installed_by, packed_begun, packed_changed, packed_command_of}
use Rattle.raft_packed_wire.proofs.Ordered.{appended_in_order, filtered_in_order}
use Rattle.proof_packed_servers.specs.Servers.{PackedDisk, PackedStep, packed_node_after, packed_step_began, packed_step_commands, packed_with_record}
use Rattle.proof_packed_servers.specs.Servers.{packed_with_records}
use Rattle.raft_packed_server.proofs.Stored.{step_stored}

module _ {S : Type 0} (app : Application S) where
  payload_in_order : (brought : Packed S) (p : WorldPayload) (t : PackedStore S) → AreInOrder 0 t.log → AreInOrder 0 (packed_exec_payload app brought p t).log
  payload_in_order brought payload.BuildSnapshot t o = o
  payload_in_order brought (payload.GetSnapshot _) t o = o
  payload_in_order brought (payload.BeginReceivingSnapshot _) t o = o
  payload_in_order brought (payload.InstallFullSnapshot s) t o = o
  payload_in_order brought (payload.Apply _) t o = o

  command_in_order : (brought : Packed S) (c : WorldCommand) (t : PackedStore S) → AreInOrder 0 t.log → AreInOrder 0 (packed_exec app brought c t).log
  command_in_order brought (command.SaveVote v) t o = o
  command_in_order brought (command.AppendInputEntries v es) t o = appended_in_order t.log es o
  command_in_order brought (command.DeleteConflictLog since) t o = filtered_in_order (λ p. nat_lt p.0 since.index) 0 t.log o
  command_in_order brought (command.PurgeLog upto) t o = filtered_in_order (λ p. nat_lt upto.index p.0) 0 t.log o
  command_in_order brought (command.Commit seq already upto) t o = o
  command_in_order brought (command.StateMachine c) t o = payload_in_order brought c.payload t o
  command_in_order brought command.BecomeLeader t o = o
  command_in_order brought command.QuitLeader t o = o
  command_in_order brought (command.ReplicateCommitted _) t o = o
  command_in_order brought (command.Replicate _ _) t o = o
  command_in_order brought (command.RebuildReplicationStreams _) t o = o
  command_in_order brought (command.SendVote _) t o = o
  command_in_order brought (command.Respond _ _) t o = o

  commands_in_order : (brought : Packed S) (cs : List WorldCommand) (t : PackedStore S) → AreInOrder 0 t.log
      → AreInOrder 0 (packed_exec_all app brought t cs).log
  commands_in_order brought [] t o = o
  commands_in_order brought (c ∷ cs) t o = commands_in_order brought cs (packed_exec app brought c t) (command_in_order brought c t o)

  settled_in_order : (x : Option (LogId ℕ)) (t : PackedStore S) → AreInOrder 0 t.log → AreInOrder 0 (packed_settled_by app t x).log
  settled_in_order None t o = o
  settled_in_order (Some x) t o = go (packed_outrun app t x)
    where
      fitted : Bool → PackedStore S
      fitted b = if b then record t { log = []; front = Some x } else t

      go : (b : Bool) → AreInOrder 0 (fitted b).log
      go true = tt
      go false = o

  begun_in_order : (b : PackedBegan (Packed S)) (t : PackedStore S) → AreInOrder 0 t.log → AreInOrder 0 (packed_begun app b t).log
  begun_in_order Unchanged t o = o
  begun_in_order Settled t o = settled_in_order t.meta.last_log_id t o
  begun_in_order (Built p) t o = go (nat_lt t.snap.end p.end)
    where
      kept_if : Bool → PackedStore S
      kept_if b = if b then record t { meta = packed_meta p; snap = p } else t

      go : (b : Bool) → AreInOrder 0 (kept_if b).log
      go true = o
      go false = o

  changes_in_order : (cs : List (PackedChange (Packed S))) (t : PackedStore S) → AreInOrder 0 t.log → AreInOrder 0 (fold (packed_changed app) t cs).log
  changes_in_order [] t o = o
  changes_in_order (c ∷ cs) t o =
      changes_in_order cs (packed_changed app t c) (command_in_order (unwrap_or (installed_by c) (of_no_entries app)) (packed_command_of c) t o)

  pub replayed_in_order : (qs : List (PackedRecord (Packed S))) (d : PackedDisk S) → AreInOrder 0 d.store.log
      → AreInOrder 0 (packed_with_records app qs d).store.log
  replayed_in_order [] d o = o
  replayed_in_order (q ∷ qs) d o =
      replayed_in_order qs (packed_with_record app q d) (changes_in_order q.changes (packed_begun app q.began d.store) (begun_in_order q.began d.store o))

  pub stays_in_order : (given : Given) (step : PackedStep S) (n : PackedNode S) → AreInOrder 0 n.store.log
      → AreInOrder 0 (packed_node_after app given n step).store.log
  stays_in_order given step n o =
      subst (λ (t : PackedStore S). AreInOrder 0 t.log) (sym (step_stored app given n step))
      (commands_in_order step.brought (packed_step_commands app given n step) (packed_begun app (packed_step_began app n step) n.store)
      (begun_in_order (packed_step_began app n step) n.store o))
