-- Servers with disks, whose snapshots are states (Raft paper, section 7). Each definition is that of `proof_servers` which its name says
-- after `packed_`. A server takes steps at its node as they come, ahead of its disk, and what a step says to others is held back until
-- its record, and all before it, are on disk.
--
-- Assumed, as of servers there: what is on disk stays; of the records that aren't there a crash leaves some of the oldest, each whole;
-- messages come from servers. A message may come late, again, or never. A clock may go back over a crash: the records say up to which
-- moment moments are reserved, and none above it is used before a record of one is there.
use Rattle.std.specs.Prelude.{ℕ, ◌≡◌, ◌++◌, max, Bool, true, false, List, [], ◌∷◌, None, Some, Contains, fold, map}
use Rattle.std.specs.Prelude.{nat_eq, nat_le, is_some, if◌then◌else◌}
use Rattle.std.proofs.Common.{suc, zero}
use Rattle.proof_packed.specs.raft_steps.Refusals.{refusals_of_spent}
use Rattle.proof_packed.specs.raft_store.Store.{no_store}
use Rattle.proof_packed.specs.raft_store.Types.{EngineView, WorldCommand}
use Rattle.proof_packed.specs.raft_schedule.declared.event.EventKind.TheVariants as event
use Rattle.proof_packed.specs.raft_schedule.declared.event.Outcome.{Outcome}
use Rattle.proof_packed.specs.raft_schedule.declared.event.Start.TheVariants.{Bare}
use Rattle.proof_packed.specs.raft_node.declared.act.Act.{Act}
use Rattle.proof_packed.specs.raft_node.declared.act.Act.TheVariants.{FinishSnapshot, Restart, Take}
use Rattle.proof_packed.specs.raft_node.declared.given.Given.{Given}
use Rattle.proof_packed.specs.raft_node.Events.{skip_reason}
use Rattle.proof_packed.specs.raft_node.Net.{no_streams}
use Rattle.proof_servers.specs.Servers as model
use Rattle.proof_servers.specs.Servers.{Action, Cluster, Disk, Server, Step, WaitingStep, event_at, reserved_for}
use Rattle.proof_packed.specs.Nodes.{PackedNode, PackedRecords, PackedScene, bare_act, brought_by_act, of_no_entries, packed_node, packed_played}
use Rattle.proof_packed.specs.Nodes.{PackedMessage, packed_records, without_store}
use Rattle.proof_packed.specs.Records.{packed_commands_at}
use Rattle.proof_packed.specs.Stores.{Application, Packed, PackedStore, packed_store}
use Rattle.proof_packed.specs.Nodes.{packed_new_node}
use Rattle.proof_packed_nodes.specs.raft_packed_node.Effects.{nothing_recorded, scene}
use Rattle.raft_packed_wire.specs.declared.record.PackedBegan.{PackedBegan}
use Rattle.raft_packed_wire.specs.declared.record.PackedBegan.TheVariants.{Built, Settled, Unchanged}
use Rattle.raft_packed_wire.specs.declared.record.PackedChange.{PackedChange}
use Rattle.raft_packed_wire.specs.declared.record.PackedRecord.{PackedRecord}
use Rattle.raft_packed_wire.specs.Records.{packed_record_of, packed_replayed, record_packed}

-- what a node does, where a message has no data; the snapshot that it brings, that of no entries if it brings none; and the moment, in
-- milliseconds
pub record PackedStep (S : Type 0) : Type 0 where
  pub act : Act
  pub brought : Packed S
  pub at : ℕ

-- what the records on disk make: a store, and the moment up to which moments are reserved
pub record PackedDisk (S : Type 0) : Type 0 where
  pub store : PackedStore S
  pub moment : ℕ

-- a step that was taken and waits: what it leaves on disk, its record or nothing; and its outputs, which wait for that and for all
-- that the steps before it leave
pub record PackedWaitingStep (S : Type 0) : Type 0 where
  pub step : PackedStep S
  pub disk_records : List (PackedRecord (Packed S))
  pub outputs : PackedRecords S

-- a server: its running node, and the moment up to which its records reserve moments, on disk or waiting; its waiting steps, the
-- oldest first; and what the records on disk make
pub record PackedServer (S : Type 0) : Type 0 where
  pub node : PackedNode S
  pub reserved : ℕ
  pub waiting : List (PackedWaitingStep S)
  pub disk : PackedDisk S

-- servers, and all that ever left one: messages, and what clients were told of as executed or answered
pub record PackedCluster (S : Type 0) : Type 0 where
  pub servers : ℕ → PackedServer S
  pub released : PackedRecords S

-- what happens at a server, by its id: it takes a step; what its oldest waiting step leaves is on disk, and that step's outputs
-- leave; or it crashes and starts (of how many waiting steps all is on disk, and the moment)
pub data PackedAction (S : Type 0) : Type 0 where
  Takes : ℕ → PackedStep S → PackedAction S
  Flushes : ℕ → PackedAction S
  Crashes : ℕ → ℕ → ℕ → PackedAction S

-- a record changes nothing of a store
abbrev pub packed_no_changes : {P : Type 0} → PackedBegan P → List (PackedChange P) → Bool
packed_no_changes Unchanged [] = true
packed_no_changes _ _ = false

-- the record is left, unless its moment was reserved and it changes nothing
abbrev pub packed_left_of : {P : Type 0} → Bool → PackedRecord P → List (PackedRecord P)
packed_left_of is_reserved r = if is_reserved then (if packed_no_changes r.began r.changes then [] else r ∷ []) else r ∷ []

module _ {S : Type 0} where
  -- records, and then others
  abbrev pub packed_joined : PackedRecords S → PackedRecords S → PackedRecords S
  packed_joined r q = record {
    bag = r.bag ++ q.bag;
    executed = r.executed ++ q.executed;
    installed = r.installed ++ q.installed;
    decided = r.decided ++ q.decided;
    established = r.established ++ q.established;
    answers = r.answers ++ q.answers;
  }

  -- a snapshot that was built is kept unless the engine is spent
  abbrev pub packed_build_effect : Packed S → EngineView → PackedBegan (Packed S)
  packed_build_effect p e = if is_some (refusals_of_spent e.machine) then Unchanged else Built p

  -- what an act's calls make of the store before the first command: nothing, entries that fit the snapshot (a start does so), or
  -- a snapshot that was built
  abbrev pub packed_call_effect : Act → PackedNode S → PackedBegan (Packed S)
  packed_call_effect FinishSnapshot n =
      elim n.engine [ None ↦ Unchanged | Some e ↦ elim n.noted [ None ↦ Unchanged | Some p ↦ packed_build_effect p e ] ]
  packed_call_effect (Restart start) n = Settled
  packed_call_effect _ n = Unchanged

  -- A node that doesn't run, with what a disk has: all of its store but for the saved committed id. What was applied is as replaying left it,
  -- since a start doesn't read it. Its moment is above none that is reserved
  abbrev pub packed_stopped_node : ℕ → PackedDisk S → PackedNode S
  packed_stopped_node id d = record { id = id; store = d.store; engine = None; streams = no_streams; noted = None; moment = d.moment }

  -- one server in another's place
  abbrev pub packed_with_server : ℕ → PackedServer S → PackedCluster S → PackedCluster S
  packed_with_server id s c = record c { servers = λ other. if nat_eq other id then s else c.servers other }

module _ {S : Type 0} (app : Application S) where
  abbrev pub packed_new_disk : PackedDisk S
  packed_new_disk = record { store = packed_store app (no_store 0); moment = 0 }

  -- one more record comes on disk, and several
  abbrev pub packed_with_record : PackedRecord (Packed S) → PackedDisk S → PackedDisk S
  packed_with_record r d = record { store = packed_replayed app r d.store; moment = r.moment }

  abbrev pub packed_with_records : List (PackedRecord (Packed S)) → PackedDisk S → PackedDisk S
  packed_with_records records d = fold (λ disk r. packed_with_record r disk) d records

  -- what the oldest waiting step leaves is on disk: this step's, before these
  abbrev pub packed_flushed : PackedWaitingStep S → List (PackedWaitingStep S) → PackedServer S → PackedServer S
  packed_flushed w ws s = record s { waiting = ws; disk = packed_with_records w.disk_records s.disk }

  -- what the k oldest waiting steps leave is on disk, or what all of fewer do
  abbrev pub packed_flushed_first : ℕ → PackedServer S → PackedServer S
  packed_flushed_first zero s = s
  packed_flushed_first (suc k) s = elim s.waiting [ [] ↦ s | w ∷ ws ↦ packed_flushed_first k (packed_flushed w ws s) ]

  -- what a step's calls make of the store: nothing if the step is skipped
  abbrev pub packed_step_began : PackedNode S → PackedStep S → PackedBegan (Packed S)
  packed_step_began n s = elim (skip_reason s.act (without_store app n)) [ Some reason ↦ Unchanged | None ↦ packed_call_effect s.act n ]

  module _ (given : Given) where
    -- a step at a node, with records of its own. (Of the event only its moment counts: what is done says the step)
    abbrev pub packed_played_alone : PackedNode S → PackedStep S → Outcome × PackedScene S
    packed_played_alone n s = packed_played app given s.act s.brought (event_at (event.Read 0) s.at) (scene n nothing_recorded)

    -- the node after a step
    abbrev pub packed_node_after : PackedNode S → PackedStep S → PackedNode S
    packed_node_after n s = (packed_played_alone n s).1.node

    -- what a step says: its messages, and what it executes, installs, decides and answers to reads
    abbrev pub packed_outputs_of : PackedNode S → PackedStep S → PackedRecords S
    packed_outputs_of n s = (packed_played_alone n s).1.records

    -- the commands that a step executes: none if it is skipped
    abbrev pub packed_step_commands : PackedNode S → PackedStep S → List WorldCommand
    packed_step_commands n s = packed_commands_at app given s.act s.brought (event_at (event.Read 0) s.at) (scene n nothing_recorded)

    -- up to which moment moments are reserved after a step, if they were up to this one
    abbrev pub packed_reserved_after : ℕ → PackedNode S → PackedStep S → ℕ
    packed_reserved_after reserved n s = reserved_for (packed_node_after n s).moment reserved

    -- the record of a step at a node. It is on disk as a whole or not at all, so that a step is never taken in part
    abbrev pub packed_disk_record : ℕ → PackedNode S → PackedStep S → PackedRecord (Packed S)
    packed_disk_record reserved n s =
        packed_record_of (packed_reserved_after reserved n s) (packed_step_began n s) s.brought (packed_step_commands n s)

    -- what a step leaves on disk: nothing if its moment was reserved and its record would change nothing, else its record
    abbrev pub packed_disk_records : ℕ → PackedNode S → PackedStep S → List (PackedRecord (Packed S))
    packed_disk_records reserved n s = packed_left_of (nat_le (packed_node_after n s).moment reserved) (packed_disk_record reserved n s)

    -- a step at a node, while moments are reserved up to this one
    abbrev pub packed_waiting_step : ℕ → PackedNode S → PackedStep S → PackedWaitingStep S
    packed_waiting_step reserved n step =
        record { step = step; disk_records = packed_disk_records reserved n step; outputs = packed_outputs_of n step }

    -- a step is taken
    abbrev pub packed_with_step : PackedStep S → PackedServer S → PackedServer S
    packed_with_step step s = record s {
      node = packed_node_after s.node step;
      reserved = packed_reserved_after s.reserved s.node step;
      waiting = s.waiting ++ packed_waiting_step s.reserved s.node step ∷ [];
    }

    -- a server that starts on a disk, and doesn't lead on. A start at a lower moment than the disk's is one at that: so it is above all
    -- moments that were used
    abbrev pub packed_started : ℕ → ℕ → PackedDisk S → PackedServer S
    packed_started id at d =
        packed_with_step (record { act = Restart Bare; brought = of_no_entries app; at = max at d.moment })
        (record { node = packed_stopped_node id d; reserved = d.moment; waiting = []; disk = d })

    -- after a crash that leaves on disk what the k oldest waiting steps leave
    abbrev pub packed_crashed : ℕ → ℕ → ℕ → PackedServer S → PackedServer S
    packed_crashed id k at s = packed_started id at (packed_flushed_first k s).disk

    abbrev pub packed_after_action : PackedAction S → PackedCluster S → PackedCluster S
    packed_after_action (Takes id step) c = packed_with_server id (packed_with_step step (c.servers id)) c
    packed_after_action (Flushes id) c =
        elim (c.servers id).waiting [
          | [] ↦ c
          | w ∷ ws ↦ record (packed_with_server id (packed_flushed w ws (c.servers id)) c) { released = packed_joined c.released w.outputs }
        ]
    packed_after_action (Crashes id k at) c = packed_with_server id (packed_crashed id k at (c.servers id)) c

    abbrev pub packed_after_actions : List (PackedAction S) → PackedCluster S → PackedCluster S
    packed_after_actions [] c = c
    packed_after_actions (a ∷ rest) c = packed_after_actions rest (packed_after_action a c)

    -- servers that start empty
    abbrev pub packed_new_cluster : PackedCluster S
    packed_new_cluster = record {
      servers = λ id. record { node = packed_new_node app given.settings id; reserved = 0; waiting = []; disk = packed_new_disk };
      released = nothing_recorded;
    }

  -- a message is taken only by its addressee, with what it brings, and once it has left its sender; nothing else brings anything
  abbrev pub PackedMayTake : List (PackedMessage S) → ℕ → Packed S → Act → Type 0
  PackedMayTake bag id brought (Take m) = Contains bag (record { message = m; brought = brought }) × (m.to ≡ id)
  PackedMayTake bag id brought _ = brought ≡ of_no_entries app

  -- what may happen: a server is one of the given ones, and takes what was sent to it
  abbrev pub PackedMayAct : Given → PackedAction S → PackedCluster S → Type 0
  PackedMayAct given (Takes id step) c = Contains given.ids id × PackedMayTake c.released.bag id step.brought step.act
  PackedMayAct given (Flushes id) c = Contains given.ids id
  PackedMayAct given (Crashes id k at) c = Contains given.ids id

  abbrev pub PackedAllMayAct : Given → List (PackedAction S) → PackedCluster S → Type 0
  PackedAllMayAct given [] c = Unit {0}
  PackedAllMayAct given (a ∷ rest) c = PackedMayAct given a c × PackedAllMayAct given rest (packed_after_action given a c)

  -- what there is of servers whose snapshots are entries, packed: a step, one that waits, a disk, a server, a cluster, an action
  abbrev pub step_packed : Step → PackedStep S
  step_packed s = record { act = bare_act s.act; brought = brought_by_act app s.act; at = s.at }

  abbrev pub waiting_packed : WaitingStep → PackedWaitingStep S
  waiting_packed w =
      record { step = step_packed w.step; disk_records = map (record_packed app) w.disk_records; outputs = packed_records app w.outputs }

  abbrev pub disk_packed : Disk → PackedDisk S
  disk_packed d = record { store = packed_store app d.store; moment = d.moment }

  abbrev pub server_packed : Server → PackedServer S
  server_packed s = record { node = packed_node app s.node; reserved = s.reserved; waiting = map waiting_packed s.waiting; disk = disk_packed s.disk }

  abbrev pub cluster_packed : Cluster → PackedCluster S
  cluster_packed c = record { servers = λ id. server_packed (c.servers id); released = packed_records app c.released }

  abbrev pub action_packed : Action → PackedAction S
  action_packed (model.Takes id step) = Takes id (step_packed step)
  action_packed (model.Flushes id) = Flushes id
  action_packed (model.Crashes id k at) = Crashes id k at
