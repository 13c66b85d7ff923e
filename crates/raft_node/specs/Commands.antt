-- The commands that an event executes, in their order.
use Rattle.std.specs.Prelude.{ℕ, List, [], ◌∷◌, Option, None, Some, slice_get, take}
use Rattle.std.proofs.Common.{suc, zero}
use Rattle.raft_command.specs.Queue.{popped}
use Rattle.raft_store.specs.declared.entry.Entry.{Entry}
use Rattle.raft_store.specs.Types.{EngineView, WorldCommand}
use Rattle.raft_schedule.specs.declared.event.Event.{Event}
use Rattle.raft_node.specs.declared.act.Act.{Act}
use Rattle.raft_node.specs.declared.given.Given.{Given}
use Rattle.raft_node.specs.declared.node.Turn.{Turn}
use Rattle.raft_node.specs.Events.{Scene, aim_of, called_at, calls, moment_of, scene, skip_reason, turn_of, work_of}
use Rattle.raft_node.specs.Net.{Net, node_at}
use Rattle.raft_node.specs.Runs.{whole_logs, world_after}
use Rattle.raft_node.specs.Work.{Work, weight, work_step}

-- the command that comes next, if the node runs and one is queued
abbrev pub next_command_of : Option EngineView → Option WorldCommand
next_command_of o = elim o [ None ↦ None | Some e ↦ (popped e.machine.core.output).0 ]

abbrev pub next_command : {L : Type 0} → Work L → Option WorldCommand
next_command w = next_command_of w.engine

module _ {L : Type 0} (keep : List Entry → L) where
  -- the commands of a node at work, at most so many
  abbrev pub executed : Turn → ℕ → Work L → List WorldCommand
  executed t zero w = []
  executed t (suc n) w = elim (next_command w) [ None ↦ [] | Some c ↦ c ∷ executed t n (work_step keep t w) ]

  -- all commands of a node at work
  abbrev pub all_executed : Turn → Work L → List WorldCommand
  all_executed t w = executed t (weight w) w

  -- the commands of an event at a node
  abbrev pub commands_at : Given → Act → Event → Scene L → List WorldCommand
  commands_at given act event s =
      let now = called_at (moment_of event s.node) s in
      let w = work_of event.stop (calls given act now).1 in
      elim (skip_reason act s.node) [ Some reason ↦ [] | None ↦ all_executed (turn_of act now.node) w ]

  -- the commands of an event
  abbrev pub commands_of : Given → Event → Net L → List WorldCommand
  commands_of given event net =
      elim (aim_of net.records.bag event.kind) [
        | None ↦ []
        | Some aim ↦ elim (node_at net.nodes aim.id) [ None ↦ [] | Some n ↦ commands_at given aim.act event (scene n net.records) ]
      ]

-- the commands of the event after the first k
abbrev pub commands_after : Given → List Event → ℕ → List WorldCommand
commands_after given es k = elim (slice_get es k) [ None ↦ [] | Some e ↦ commands_of whole_logs given e (world_after given (take k es)) ]
