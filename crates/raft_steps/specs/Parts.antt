-- The parts of an engine that its steps read and write.
use Rattle.std.specs.Prelude.{[], false, Option, None, Some}
use Rattle.std.specs.Option.{option_map}
use Rattle.std.specs.declared.boxed.Box.{Box}
use Rattle.std.specs.declared.alloc.Global.{Global}
use Rattle.raft_state.specs.declared.state.RaftState.{RaftState}
use Rattle.raft_command.specs.declared.command.Command.{Command}
use Rattle.raft_command.specs.Queue.{Queue}
use Rattle.raft_command.specs.Push.{with_command}
use Rattle.raft_proposer.specs.Joint.{JointLeader, JointCandidate}

-- what every step reads and writes: the state and the queue
pub record Core (C NID N E D R S : Type 0) : Type 0 where
  pub state : RaftState NID N
  pub output : Queue (Command C NID N E D R S)

-- the same with a leader
pub record Led (C NID N E D R S : Type 0) : Type 0 where
  pub leader : JointLeader C NID N E D R S
  pub core : Core C NID N E D R S

-- the parts of an engine that votes change
pub record Machine (C NID N E D R S : Type 0) : Type 0 where
  pub core : Core C NID N E D R S
  pub leader : Option (JointLeader C NID N E D R S)
  pub candidate : Option (JointCandidate NID)

-- what an optional box holds
abbrev pub unboxed : {A : Type 0} → Option (Box A Global) → Option A
unboxed None = None
unboxed (Some b) = Some b.value

module _ {C NID N E D R S : Type 0} where
  -- parts put together
  abbrev pub core_of : RaftState NID N → Queue (Command C NID N E D R S) → Core C NID N E D R S
  core_of state output = record { state = state; output = output }

  abbrev pub led_of : JointLeader C NID N E D R S → RaftState NID N → Queue (Command C NID N E D R S) → Led C NID N E D R S
  led_of leader state output = record { leader = leader; core = core_of state output }

  abbrev pub machine_of :
      RaftState NID N → Queue (Command C NID N E D R S) → Option (Box (JointLeader C NID N E D R S) Global) → Option (JointCandidate NID)
      → Machine C NID N E D R S
  machine_of state output leader candidate = record { core = core_of state output; leader = unboxed leader; candidate = candidate }

  -- the leader and its core, if there is a leader
  abbrev pub led_in : Machine C NID N E D R S → Option (Led C NID N E D R S)
  led_in m = option_map (λ l. record { leader = l; core = m.core }) m.leader

  -- an engine of a state, without leader and candidate, and with nothing queued
  abbrev pub idle : RaftState NID N → Machine C NID N E D R S
  idle state = record { core = core_of state (record { items = []; seq = 0; spent = false }); leader = None; candidate = None }

  -- the parts of an engine with this leader and this candidate
  abbrev pub led_machine : Led C NID N E D R S → Option (JointCandidate NID) → Machine C NID N E D R S
  led_machine l candidate = record { core = l.core; leader = Some l.leader; candidate = candidate }

  -- with one more command queued
  abbrev pub then_command : Core C NID N E D R S → Command C NID N E D R S → Core C NID N E D R S
  then_command c command = record c { output = with_command c.output command }

  -- with another state
  abbrev pub with_state : Core C NID N E D R S → RaftState NID N → Core C NID N E D R S
  with_state c s = record c { state = s }

  -- a step of the core, under a leader and in an engine
  abbrev pub under : (Core C NID N E D R S → Core C NID N E D R S) → Led C NID N E D R S → Led C NID N E D R S
  under f l = record l { core = f l.core }

  abbrev pub on_core : (Core C NID N E D R S → Core C NID N E D R S) → Machine C NID N E D R S → Machine C NID N E D R S
  on_core f m = record m { core = f m.core }

  -- an engine led by this leader
  abbrev pub leading : Machine C NID N E D R S → Led C NID N E D R S → Machine C NID N E D R S
  leading m l = record m { leader = Some l.leader; core = l.core }

  -- a step of the leader, if there is one
  abbrev pub on_leader : (Led C NID N E D R S → Led C NID N E D R S) → Machine C NID N E D R S → Machine C NID N E D R S
  on_leader f m = elim m.leader [ None ↦ m | Some l ↦ leading m (f (record { leader = l; core = m.core })) ]
