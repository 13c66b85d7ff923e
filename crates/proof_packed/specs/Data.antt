-- A snapshot's data: the part of it that engines hand on and never read. So an engine may be given snapshots without their
-- data, which are kept beside it.
use Rattle.std.specs.Prelude.{ℕ, ◌≡◌, Bool, true, false, List, [], map}
use Rattle.std.specs.Ordering.{nat_cmp}
use Rattle.raft_node.specs.raft_state.declared.ids.Vote.{Vote}
use Rattle.raft_node.specs.raft_state.declared.membership.SnapshotMeta.{SnapshotMeta}
use Rattle.raft_node.specs.raft_command.declared.command.Command.TheVariants.{StateMachine}
use Rattle.raft_node.specs.raft_command.declared.config.EngineConfig.{EngineConfig}
use Rattle.raft_node.specs.raft_command.declared.message.Token.{Token}
use Rattle.raft_node.specs.raft_command.declared.sm.CommandPayload.TheVariants.{InstallFullSnapshot}
use Rattle.raft_node.specs.raft_command.Queue.{Queue}
use Rattle.raft_node.specs.raft_steps.Installs.{handle_install_full_snapshot}
use Rattle.raft_node.specs.raft_store.declared.entry.Entry.{Entry}
use Rattle.raft_node.specs.raft_store.Entries.{entry_meaning}
use Rattle.raft_node.specs.raft_store.Types.{WorldCommand, WorldMachine, WorldPayload}

-- a command installs a snapshot: the only one that hands on its data
abbrev pub is_install : WorldPayload → Bool
is_install (InstallFullSnapshot s) = true
is_install _ = false

abbrev pub installs_snapshot : WorldCommand → Bool
installs_snapshot (StateMachine c) = is_install c.payload
installs_snapshot _ = false

-- the same with other data: a command, a queue, an engine's machine
abbrev pub payload_with : List Entry → WorldPayload → WorldPayload
payload_with es (InstallFullSnapshot s) = InstallFullSnapshot (record s { snapshot = es })
payload_with es p = p

abbrev pub command_with : List Entry → WorldCommand → WorldCommand
command_with es (StateMachine c) = StateMachine (record c { payload = payload_with es c.payload })
command_with es c = c

abbrev pub queue_with : List Entry → Queue WorldCommand → Queue WorldCommand
queue_with es q = record q { items = map (command_with es) q.items }

abbrev pub machine_with : List Entry → WorldMachine → WorldMachine
machine_with es m = record m { core = record m.core { output = queue_with es m.core.output } }

-- an engine with an empty queue that takes a snapshot does the same whatever its data, but for the command that hands them on
abbrev pub InstallsByMeta : Type 0
InstallsByMeta =
    (config : EngineConfig ℕ) (v : Vote ℕ) (meta : SnapshotMeta ℕ (Unit {0})) (es other : List Entry) (token : Token) (now : ℕ) (m : WorldMachine) → m.core.output.items ≡ []
    → handle_install_full_snapshot nat_cmp entry_meaning config v (record { meta = meta; snapshot = es }) token now m
    ≡ machine_with es (handle_install_full_snapshot nat_cmp entry_meaning config v (record { meta = meta; snapshot = other }) token now m)
