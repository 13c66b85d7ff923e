-- A node executes its queue: each command is executed and then fed back, until none is left or the node stops.
use Rattle.std.specs.Prelude.{ℕ, Bool, true, false, List, ◌-◌, length, Option, Some, None, if◌then◌else◌, nat_eq}
use Rattle.raft_command.specs.Queue.{Queue, popped}
use Rattle.raft_store.specs.declared.entry.Entry.{Entry}
use Rattle.raft_store.specs.Types.{WorldCommand, WorldStore, EngineView}
use Rattle.raft_node.specs.declared.node.Turn.{Turn}
use Rattle.raft_node.specs.declared.node.Streams.{Streams}
use Rattle.raft_node.specs.Execute.{Effects, effects, exec}
use Rattle.raft_calls.specs.Feeds.{feed}
use Rattle.raft_node.specs.Net.{no_streams, Records}
use Rattle.raft_node.specs.Until.{until}
use Rattle.raft_calls.specs.Engines.{with_queue}
use Rattle.raft_calls.specs.Weights.{weight_at}

-- a node at work: its engine, what its commands change, and after how many more commands it stops
pub record Work (L : Type 0) : Type 0 where
  pub engine : Option EngineView
  pub effects : Effects L
  pub left : Option ℕ

abbrev pub is_idle : Option EngineView → Bool
is_idle None = true
is_idle (Some e) = nat_eq (length e.machine.core.output.items) 0

-- nothing is left to do: the node has stopped, or its queue is empty
abbrev pub idle : {L : Type 0} → Work L → Bool
idle w = is_idle w.engine

-- the node stops with this command
abbrev pub stops : Option ℕ → Bool
stops None = false
stops (Some n) = nat_eq n 1

abbrev pub one_less : Option ℕ → Option ℕ
one_less None = None
one_less (Some n) = Some (n - 1)

-- a stop drops the engine, the streams and the note
abbrev pub stopped : {L : Type 0} → Effects L → Work L
stopped w = record { engine = None; effects = record w { streams = no_streams; noted = None }; left = None }

module _ {L : Type 0} (keep : List Entry → L) (t : Turn) where
  -- a command is executed; then the node stops, or the command is fed back
  abbrev pub done_of : Work L → EngineView → WorldCommand → Work L
  done_of w e c =
      let after = exec keep t e c w.effects in
      if stops w.left then stopped after else record { engine = Some (feed t.moment c e); effects = after; left = one_less w.left }

  -- the first command is popped, and executed
  abbrev pub step_of : Work L → EngineView → Option WorldCommand × Queue WorldCommand → Work L
  step_of w e p = elim p.0 [ None ↦ w | Some c ↦ done_of w (with_queue e p.1) c ]

  abbrev pub work_step : Work L → Work L
  work_step w = elim w.engine [ None ↦ w | Some e ↦ step_of w e (popped e.machine.core.output) ]

abbrev pub weight : {L : Type 0} → Work L → ℕ
weight w = weight_at w.engine

-- the queued commands, at most so many
unfoldable pub worked : {L : Type 0} → (List Entry → L) → ℕ → Turn → Work L → Work L
worked keep fuel t w = until idle (work_step keep t) fuel w

-- a stop after 0 commands is none
abbrev pub stop_after : Option ℕ → Option ℕ
stop_after None = None
stop_after (Some n) = if nat_eq n 0 then None else Some n

module _ {L : Type 0} where
  -- a node at work, from its parts
  abbrev pub work : Option EngineView → WorldStore → Streams → Option (List Entry) → Records L → Option ℕ → Work L
  work engine store streams noted records left = record { engine = engine; effects = effects store streams noted records; left = left }

-- a node after its work
pub record Rest (L : Type 0) : Type 0 where
  pub engine : Option EngineView
  pub effects : Effects L

module _ {L : Type 0} where
  abbrev pub rest : Work L → Rest L
  rest w = record { engine = w.engine; effects = w.effects }

  abbrev pub rest_of : Option EngineView → WorldStore → Streams → Option (List Entry) → Records L → Rest L
  rest_of engine store streams noted records = record { engine = engine; effects = effects store streams noted records }
