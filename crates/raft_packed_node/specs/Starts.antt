-- A packed node starts on its store (Raft paper, figure 2 and section 7), in two steps. Each definition is that of `raft_node`
-- which its name says after `packed_`.
use Rattle.std.specs.Prelude.{ℕ, Option, None, Some}
use Rattle.raft_state.specs.declared.state.RaftState.{RaftState}
use Rattle.raft_command.specs.declared.config.EngineConfig.{EngineConfig}
use Rattle.raft_steps.specs.Parts.{idle}
use Rattle.raft_schedule.specs.declared.event.Start.{Start}
use Rattle.raft_schedule.specs.declared.event.Start.TheVariants.{Plain, Saved, Bare}
use Rattle.raft_calls.specs.Starts.{new_engine, starts_by}
use Rattle.raft_node.specs.Net.{no_streams}
use Rattle.raft_node.specs.Starts.{counts_saved}
use Rattle.proof_packed.specs.Nodes.{PackedNode}
use Rattle.proof_packed.specs.Stores.{Application, PackedStore, packed_restarted, packed_started}

module _ {S : Type 0} where
  -- the store that a start finds: a bare one forgets the saved committed id
  abbrev pub packed_found_by : Start → PackedStore S → PackedStore S
  packed_found_by Plain t = t
  packed_found_by Saved t = t
  packed_found_by Bare t = record t { saved = None }

  -- a node that stops keeps its store and its clock alone
  abbrev pub packed_stopped_node : PackedNode S → PackedNode S
  packed_stopped_node n = record n { engine = None; streams = no_streams; noted = None }

  -- the engine of a node starts with this state
  abbrev pub packed_started_at : EngineConfig ℕ → Start → RaftState ℕ (Unit {0}) → PackedNode S → Option ℕ × PackedNode S
  packed_started_at settings start s n =
      let r = starts_by start n.moment (record (new_engine settings n.id) { machine = idle s }) in (r.0, record n { engine = Some r.1 })

module _ {S : Type 0} (app : Application S) where
  -- the state that the store gives to a start
  abbrev pub packed_state_for : Start → PackedStore S → RaftState ℕ (Unit {0})
  packed_state_for start t = packed_started app (counts_saved start) (packed_found_by start t)

  -- a node that is stopped, if it ran, with its store made ready for a start
  abbrev pub packed_opened : Start → PackedNode S → PackedNode S
  packed_opened start n = record (packed_stopped_node n) { store = packed_restarted app (counts_saved start) (packed_found_by start n.store) }
