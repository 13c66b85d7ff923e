-- The engine's types in the world's configuration.
use Rattle.std.specs.Prelude.{ℕ, Bool, List}
use Rattle.raft_steps.specs.raft_command.declared.command.Command.{Command}
use Rattle.raft_steps.specs.raft_command.declared.config.EngineConfig.{EngineConfig}
use Rattle.raft_steps.specs.raft_command.declared.message.Snapshot.{Snapshot}
use Rattle.raft_steps.specs.raft_command.declared.sm.CommandPayload.{CommandPayload}
use Rattle.raft_steps.specs.Parts.{Machine}
use Rattle.raft_steps.specs.raft_proposer.Joint.{JointLeader, JointCandidate}
use Rattle.raft_store.specs.declared.config.WorldConfig.{WorldConfig}
use Rattle.raft_store.specs.declared.entry.Entry.{Entry}
use Rattle.raft_store.specs.Store.{Store}

abbrev pub WorldCommand : Type 0
WorldCommand = Command WorldConfig ℕ (Unit {0}) Entry ℕ ℕ (List Entry)

abbrev pub WorldPayload : Type 0
WorldPayload = CommandPayload WorldConfig ℕ (Unit {0}) Entry ℕ ℕ (List Entry)

abbrev pub WorldSnapshot : Type 0
WorldSnapshot = Snapshot WorldConfig ℕ (Unit {0}) Entry ℕ ℕ (List Entry)

abbrev pub WorldMachine : Type 0
WorldMachine = Machine WorldConfig ℕ (Unit {0}) Entry ℕ ℕ (List Entry)

abbrev pub WorldLeader : Type 0
WorldLeader = JointLeader WorldConfig ℕ (Unit {0}) Entry ℕ ℕ (List Entry)

abbrev pub WorldCandidate : Type 0
WorldCandidate = JointCandidate ℕ

abbrev pub WorldStore : Type 0
WorldStore = Store ℕ (Unit {0}) Entry

-- an engine as contracts see it: its settings, its parts, and whether it has seen a greater log
pub record EngineView : Type 0 where
  pub config : EngineConfig ℕ
  pub machine : WorldMachine
  pub seen_greater_log : Bool
