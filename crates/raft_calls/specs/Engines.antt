-- An engine of the world, as contracts see it.
use Rattle.std.specs.Prelude.{ℕ, List}
use Rattle.raft_engine.specs.declared.engine.Engine.{Engine}
use Rattle.raft_engine.specs.Whole.{parts}
use Rattle.raft_store.specs.declared.config.WorldConfig.{WorldConfig}
use Rattle.raft_store.specs.declared.entry.Entry.{Entry}
use Rattle.raft_store.specs.Types.{EngineView, WorldCommand}
use Rattle.raft_command.specs.declared.respond.Respond.{Respond}
use Rattle.raft_command.specs.Queue.{Queue}

abbrev pub WorldEngine : Type 0
WorldEngine = Engine WorldConfig ℕ (Unit {0}) Entry ℕ ℕ (List Entry)

abbrev pub view_of : WorldEngine → EngineView
view_of e = record { config = e.config; machine = parts e; seen_greater_log = e.seen_greater_log }

abbrev pub WorldRespond : Type 0
WorldRespond = Respond WorldConfig ℕ (Unit {0}) Entry ℕ ℕ (List Entry)

-- an engine with another queue
abbrev pub with_queue : EngineView → Queue WorldCommand → EngineView
with_queue e q = record e { machine = record e.machine { core = record e.machine.core { output = q } } }
