-- A node starts on its store (Raft paper, figure 2 and section 5.5: it resumes from its persistent state).
use Rattle.std.specs.Prelude.{ℕ, Bool, false, true, Option, Some, None}
use Rattle.std.specs.Ordering.{nat_cmp}
use Rattle.raft_state.specs.declared.state.RaftState.{RaftState}
use Rattle.raft_command.specs.declared.config.EngineConfig.{EngineConfig}
use Rattle.raft_steps.specs.Parts.{idle}
use Rattle.raft_store.specs.Entries.{entry_meaning}
use Rattle.raft_store.specs.Restart.{forgotten, restarted, started}
use Rattle.raft_store.specs.Types.{EngineView, WorldStore}
use Rattle.raft_schedule.specs.declared.event.Start.{Start}
use Rattle.raft_schedule.specs.declared.event.Start.TheVariants.{Plain, Saved, Bare}
use Rattle.raft_node.specs.Net.{NodeView, no_streams}
use Rattle.raft_calls.specs.Starts.{new_engine, resumed, begun_anew, starts_by}

-- whether the saved committed id counts
abbrev pub counts_saved : Start → Bool
counts_saved Plain = false
counts_saved Saved = true
counts_saved Bare = false

-- the store that a start finds: a bare one forgets the saved committed id
abbrev pub found_by : Start → WorldStore → WorldStore
found_by Plain t = t
found_by Saved t = t
found_by Bare t = forgotten t

-- the state that the store gives to a start
abbrev pub state_for : Start → WorldStore → RaftState ℕ (Unit {0})
state_for start t = started nat_cmp entry_meaning (counts_saved start) (found_by start t)

-- a node that is stopped, if it ran, with its store made ready for a start
abbrev pub opened : Start → NodeView → NodeView
opened start n =
    record n { store = restarted nat_cmp entry_meaning (counts_saved start) (found_by start n.store); engine = None; streams = no_streams; noted = None }

-- the engine of a node before it resumes: under these settings and the node's id, with the state that its store gives
abbrev pub engine_on : EngineConfig ℕ → Bool → NodeView → EngineView
engine_on settings saved n = record {
  config = record settings { id = n.id };
  machine = idle (started nat_cmp entry_meaning saved n.store);
  seen_greater_log = false;
}

-- a node, stopped if it ran, starts on its store: its streams and its note are gone
abbrev pub started_with : Bool → NodeView → Option ℕ × EngineView → Option ℕ × NodeView
started_with saved n r = (r.0, record n { store = restarted nat_cmp entry_meaning saved n.store; engine = Some r.1; streams = no_streams; noted = None })

abbrev pub resumed_on : EngineConfig ℕ → Bool → NodeView → Option ℕ × NodeView
resumed_on settings saved n = started_with saved n (resumed (engine_on settings saved n))

-- the node without its saved committed id
abbrev pub unsaved : NodeView → NodeView
unsaved n = record n { store = forgotten n.store }

-- a node starts on such a store, and doesn't lead on
abbrev pub begun_on : EngineConfig ℕ → NodeView → Option ℕ × NodeView
begun_on settings n = started_with false n (begun_anew n.moment (engine_on settings false n))

-- at a node, with this state
abbrev pub started_at : EngineConfig ℕ → Start → RaftState ℕ (Unit {0}) → NodeView → Option ℕ × NodeView
started_at settings start s n =
    let r = starts_by start n.moment (record (new_engine settings n.id) { machine = idle s }) in (r.0, record n { engine = Some r.1 })

abbrev pub restart : EngineConfig ℕ → Start → NodeView → Option ℕ × NodeView
restart settings Plain n = resumed_on settings false n
restart settings Saved n = resumed_on settings true n
restart settings Bare n = begun_on settings (unsaved n)
