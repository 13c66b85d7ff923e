-- The role of a node.
use Rattle.std.specs.Prelude.{List, [], ◌∷◌}
use Rattle.raft_state.specs.declared.state.ServerState.{ServerState}
use Rattle.raft_state.specs.declared.state.ServerState.TheVariants.{Leader}
use Rattle.raft_state.specs.State.{server_state}
use Rattle.raft_command.specs.declared.command.Command.TheVariants.{BecomeLeader, QuitLeader}
use Rattle.std.specs.declared.cmp.Ordering.{Ordering}
use Rattle.raft_command.specs.declared.config.EngineConfig.{EngineConfig}
use Rattle.raft_command.specs.declared.command.Command.{Command}
use Rattle.raft_command.specs.Queue.{queued}
use Rattle.raft_steps.specs.Parts.{Core}

-- the commands for a change of role: only that the node becomes or quits leader
abbrev pub role_commands : {C NID N E D R S : Type 0} → ServerState → ServerState → List (Command C NID N E D R S)
role_commands Leader Leader = []
role_commands _ Leader = BecomeLeader ∷ []
role_commands Leader _ = QuitLeader ∷ []
role_commands _ _ = []

module _ {C NID N E D R S : Type 0} (cmp : NID → NID → Ordering) (config : EngineConfig NID) where
  -- the role follows from the vote and the effective membership, and a change of leading is queued
  unfoldable pub update_role : Core C NID N E D R S → Core C NID N E D R S
  update_role c =
      let role = server_state cmp c.state config.id in
      record { state = record c.state { role = role }; output = queued c.output (role_commands c.state.role role) }
