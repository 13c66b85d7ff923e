-- Servers with disks. A server takes steps at its node as they come, ahead of its disk: the record of each step that changes
-- something there goes to the end of the disk's log, and what a step says to others is held back until its record, and all before
-- it, are on disk (Raft paper, figure 2: persistent state is on stable storage before a server responds). So several records may be
-- flushed at once, and a step with no record waits only for those before it. A crash loses the steps whose records aren't on disk.
--
-- Assumed: what is on disk stays; of the records that aren't there a crash leaves some of the oldest, each whole; messages
-- come from servers. A message may come late, again, or never. A clock may go back over a crash: the records say up to which
-- moment moments are reserved, and none above it is used before a record of one is there.
use Rattle.std.specs.Prelude.{ℕ, ◌≡◌, ◌+◌, ◌-◌, ◌^◌, Bool, List, [], ◌∷◌, ◌++◌, None, Some, fold, max, min, Contains, nat_eq, nat_le, is_some, if◌then◌else◌}
use Rattle.std.proofs.Common.{suc, zero}
use Rattle.proof_deeds.specs.raft_steps.Refusals.{refusals_of_spent}
use Rattle.proof_deeds.specs.raft_store.declared.entry.Entry.{Entry}
use Rattle.proof_deeds.specs.raft_store.Store.{no_store}
use Rattle.proof_deeds.specs.raft_store.Types.{EngineView, WorldCommand, WorldStore}
use Rattle.proof_deeds.specs.raft_schedule.declared.event.Event.{Event}
use Rattle.proof_deeds.specs.raft_schedule.declared.event.EventKind.{EventKind}
use Rattle.proof_deeds.specs.raft_schedule.declared.event.EventKind.TheVariants as event
use Rattle.proof_deeds.specs.raft_schedule.declared.event.Outcome.{Outcome}
use Rattle.proof_deeds.specs.raft_schedule.declared.event.Start.TheVariants.{Bare}
use Rattle.proof_deeds.specs.raft_node.declared.act.Act.{Act}
use Rattle.proof_deeds.specs.raft_node.declared.act.Act.TheVariants.{FinishSnapshot, Restart, Take}
use Rattle.proof_deeds.specs.raft_node.declared.given.Given.{Given}
use Rattle.proof_deeds.specs.raft_calls.declared.message.Message.{Message}
use Rattle.proof_deeds.specs.raft_node.Commands.{executed}
use Rattle.proof_deeds.specs.raft_node.Events.{Scene, calls, played, scene, skip_reason, turn_of, work_of}
use Rattle.proof_deeds.specs.raft_node.Net.{NodeView, Records, new_node, no_records, no_streams}
use Rattle.proof_deeds.specs.raft_node.Runs.{whole_logs}
use Rattle.proof_deeds.specs.raft_node.Work.{Work, weight}
use Rattle.raft_wire.specs.declared.record.Began.{Began}
use Rattle.raft_wire.specs.declared.record.Began.TheVariants.{Built, Settled, Unchanged}
use Rattle.raft_wire.specs.declared.record.Record.{Record}
use Rattle.raft_wire.specs.declared.record.TheConstants.{RESERVED_AHEAD}
use Rattle.raft_wire.specs.Records.{is_unchanging, on_disk, record_of, replayed}
use Rattle.proof_servers.specs.Recorded.{joined}

-- Steps

-- what a node does, and the moment at which it does so, in milliseconds
pub record Step : Type 0 where
  pub act : Act
  pub at : ℕ

-- an event at a moment. It has no stop: a crash loses whole steps
abbrev pub event_at : EventKind → ℕ → Event
event_at kind at = record { kind = kind; at = Some at; stop = None }

module _ (given : Given) where
  -- a step at a node, with records of its own. (Of the event only its moment counts: what is done says the step)
  abbrev pub played_alone : NodeView → Step → Outcome × Scene (List Entry)
  played_alone n s = played whole_logs weight given s.act (event_at (event.Read 0) s.at) (scene n no_records)

  -- the node after a step, and after several
  abbrev pub node_after : NodeView → Step → NodeView
  node_after n s = (played_alone n s).1.node

  abbrev pub node_after_all : NodeView → List Step → NodeView
  node_after_all n [] = n
  node_after_all n (s ∷ ss) = node_after_all (node_after n s) ss

  -- what a step says: its messages, and what it executes, installs, decides and answers to reads
  abbrev pub outputs_of : NodeView → Step → Records (List Entry)
  outputs_of n s = (played_alone n s).1.records

-- Records on disk

-- a snapshot that was built is kept unless the engine is spent
abbrev pub build_effect : List Entry → EngineView → Began
build_effect es e = if is_some (refusals_of_spent e.machine) then Unchanged else Built es

-- what an act's calls make of the store before the first command: nothing, entries that fit the snapshot (a start does so), or
-- a snapshot that was built
abbrev pub call_effect : Act → NodeView → Began
call_effect FinishSnapshot n = elim n.engine [ None ↦ Unchanged | Some e ↦ elim n.noted [ None ↦ Unchanged | Some es ↦ build_effect es e ] ]
call_effect (Restart start) n = Settled
call_effect _ n = Unchanged

-- a node at a step's moment, and at work after the step's calls
abbrev pub called_node : Step → NodeView → NodeView
called_node s n = record n { moment = max s.at n.moment }

abbrev pub step_work : Given → NodeView → Step → Work (List Entry)
step_work given n s = work_of None (calls {L = List Entry} given s.act (scene (called_node s n) no_records)).1

-- what a step's calls make of the store, and the commands that it executes then: nothing if the step is skipped
abbrev pub step_began : NodeView → Step → Began
step_began n s = elim (skip_reason s.act n) [ Some reason ↦ Unchanged | None ↦ call_effect s.act (called_node s n) ]

abbrev pub step_commands : Given → NodeView → Step → List WorldCommand
step_commands given n s =
    elim (skip_reason s.act n) [
      | Some reason ↦ []
      | None ↦ executed whole_logs (turn_of s.act (called_node s n)) (weight (step_work given n s)) (step_work given n s)
    ]

-- Moments are reserved ahead, so that most steps need no record for theirs: for a moment that isn't reserved, all up to so many
-- milliseconds later are, or to the last one that a record can tell
abbrev pub reserved_from : ℕ → ℕ
reserved_from moment = max moment (min (moment + RESERVED_AHEAD) (2 ^ 64 - 1))

-- up to which moment moments are reserved once this one is used, if they were up to another
abbrev pub reserved_for : ℕ → ℕ → ℕ
reserved_for moment reserved = if nat_le moment reserved then reserved else reserved_from moment

-- the record is left, unless its moment was reserved and it changes nothing
abbrev pub left_of : Bool → Record → List Record
left_of is_reserved r = if is_reserved then (if is_unchanging r then [] else r ∷ []) else r ∷ []

module _ (given : Given) where
  -- and so after a step, and after several
  abbrev pub reserved_after : ℕ → NodeView → Step → ℕ
  reserved_after reserved n s = reserved_for (node_after given n s).moment reserved

  abbrev pub reserved_after_all : ℕ → NodeView → List Step → ℕ
  reserved_after_all reserved n [] = reserved
  reserved_after_all reserved n (s ∷ ss) = reserved_after_all (reserved_after reserved n s) (node_after given n s) ss

  -- the record of a step at a node. It is on disk as a whole or not at all, so that a step is never taken in part
  abbrev pub disk_record : ℕ → NodeView → Step → Record
  disk_record reserved n s = record_of (reserved_after reserved n s) (step_began n s) (step_commands given n s)

  -- what a step leaves on disk: nothing if its moment was reserved and its record would change nothing, else its record
  abbrev pub disk_records : ℕ → NodeView → Step → List Record
  disk_records reserved n s = left_of (nat_le (node_after given n s).moment reserved) (disk_record reserved n s)

-- what the records on disk make: a store, and the moment up to which moments are reserved
pub record Disk : Type 0 where
  pub store : WorldStore
  pub moment : ℕ

abbrev pub new_disk : Disk
new_disk = record { store = no_store 0; moment = 0 }

-- one more record comes on disk, and several
abbrev pub with_record : Record → Disk → Disk
with_record r d = record { store = replayed r d.store; moment = r.moment }

abbrev pub with_records : List Record → Disk → Disk
with_records records d = fold (λ disk r. with_record r disk) d records

-- Servers

-- a step that was taken and waits: what it leaves on disk, its record or nothing; and its outputs, which wait for that and for all
-- that the steps before it leave
pub record WaitingStep : Type 0 where
  pub step : Step
  pub disk_records : List Record
  pub outputs : Records (List Entry)

-- a server: its running node, and the moment up to which its records reserve moments, on disk or waiting; its waiting steps, the
-- oldest first; and what the records on disk make
pub record Server : Type 0 where
  pub node : NodeView
  pub reserved : ℕ
  pub waiting : List WaitingStep
  pub disk : Disk

-- a step at a node, while moments are reserved up to this one
abbrev pub waiting_step : Given → ℕ → NodeView → Step → WaitingStep
waiting_step given reserved n step = record { step = step; disk_records = disk_records given reserved n step; outputs = outputs_of given n step }

-- a step is taken
abbrev pub with_step : Given → Step → Server → Server
with_step given step s = record s {
  node = node_after given s.node step;
  reserved = reserved_after given s.reserved s.node step;
  waiting = s.waiting ++ waiting_step given s.reserved s.node step ∷ [];
}

-- what the oldest waiting step leaves is on disk: this step's, before these
abbrev pub flushed : WaitingStep → List WaitingStep → Server → Server
flushed w ws s = record s { waiting = ws; disk = with_records w.disk_records s.disk }

-- what the k oldest waiting steps leave is on disk, or what all of fewer do
abbrev pub flushed_first : ℕ → Server → Server
flushed_first zero s = s
flushed_first (suc k) s = elim s.waiting [ [] ↦ s | w ∷ ws ↦ flushed_first k (flushed w ws s) ]

-- a node that doesn't run, with what a disk has: all of its store but for the saved committed id, and the entries that the
-- state machine has applied. So a commit leaves nothing on disk. Its moment is above none that is reserved
abbrev pub stopped_node : ℕ → Disk → NodeView
stopped_node id d = record { id = id; store = on_disk d.store; engine = None; streams = no_streams; noted = None; moment = d.moment }

-- a server that starts on a disk, and doesn't lead on. A start at a lower moment than the disk's is one at that: so it is above all
-- moments that were used
abbrev pub started : Given → ℕ → ℕ → Disk → Server
started given id at d =
    with_step given (record { act = Restart Bare; at = max at d.moment }) (record { node = stopped_node id d; reserved = d.moment; waiting = []; disk = d })

-- after a crash that leaves on disk what the k oldest waiting steps leave
abbrev pub crashed : Given → ℕ → ℕ → ℕ → Server → Server
crashed given id k at s = started given id at (flushed_first k s).disk

-- Clusters

-- servers, and all that ever left one: messages, and what clients were told of as executed or answered
pub record Cluster : Type 0 where
  pub servers : ℕ → Server
  pub released : Records (List Entry)

-- one server in another's place
abbrev pub with_server : ℕ → Server → Cluster → Cluster
with_server id s c = record c { servers = λ other. if nat_eq other id then s else c.servers other }

-- what happens at a server, by its id: it takes a step; what its oldest waiting step leaves is on disk, and that step's outputs
-- leave; or it crashes and starts (of how many waiting steps all is on disk, and the moment)
pub data Action : Type 0 where
  Takes : ℕ → Step → Action
  Flushes : ℕ → Action
  Crashes : ℕ → ℕ → ℕ → Action

module _ (given : Given) where
  abbrev pub after_action : Action → Cluster → Cluster
  after_action (Takes id step) c = with_server id (with_step given step (c.servers id)) c
  after_action (Flushes id) c =
      elim (c.servers id).waiting [
        | [] ↦ c
        | w ∷ ws ↦ record (with_server id (flushed w ws (c.servers id)) c) { released = joined c.released w.outputs }
      ]
  after_action (Crashes id k at) c = with_server id (crashed given id k at (c.servers id)) c

  abbrev pub after_actions : List Action → Cluster → Cluster
  after_actions [] c = c
  after_actions (a ∷ rest) c = after_actions rest (after_action a c)

-- a message is taken only by its addressee, and once it has left its sender
abbrev pub MayTake : List Message → ℕ → Act → Type 0
MayTake bag id (Take m) = Contains bag m × (m.to ≡ id)
MayTake bag id _ = Unit {0}

-- what may happen: a server is one of the given ones, and takes what was sent to it. (A step at a lower moment counts as one
-- at the greatest so far)
abbrev pub MayAct : Given → Action → Cluster → Type 0
MayAct given (Takes id step) c = Contains given.ids id × MayTake c.released.bag id step.act
MayAct given (Flushes id) c = Contains given.ids id
MayAct given (Crashes id k at) c = Contains given.ids id

abbrev pub AllMayAct : Given → List Action → Cluster → Type 0
AllMayAct given [] c = Unit {0}
AllMayAct given (a ∷ rest) c = MayAct given a c × AllMayAct given rest (after_action given a c)

-- servers that start empty
abbrev pub new_cluster : Given → Cluster
new_cluster given = record { servers = λ id. record { node = new_node given.settings id; reserved = 0; waiting = []; disk = new_disk }; released = no_records }
