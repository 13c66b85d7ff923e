-- Continuations: events that go on from a world, and who leads after them.
use Rattle.std.specs.Prelude.{ℕ, ◌≡◌, ◌≢◌, ◌⊎◌, Bool, false, true, List, [], ◌∷◌, None, Some, fold, slice_get}
use Rattle.proof_deeds.specs.raft_state.declared.ids.LeaderId.{LeaderId}
use Rattle.proof_deeds.specs.raft_store.declared.entry.Entry.{Entry}
use Rattle.proof_deeds.specs.raft_store.declared.entry.Value.{Value}
use Rattle.proof_deeds.specs.raft_store.Types.{EngineView, WorldLeader}
use Rattle.proof_deeds.specs.raft_schedule.declared.event.Event.{Event}
use Rattle.proof_deeds.specs.raft_schedule.declared.event.EventKind.TheVariants as kinds
use Rattle.proof_deeds.specs.raft_schedule.declared.event.Start.{Start}
use Rattle.proof_deeds.specs.raft_schedule.declared.event.Start.TheVariants.{Bare, Plain, Saved}
use Rattle.proof_deeds.specs.raft_node.declared.given.Given.{Given}
use Rattle.proof_deeds.specs.raft_node.Events.{happens}
use Rattle.proof_deeds.specs.raft_node.Net.{Net, NodeView}
use Rattle.proof_deeds.specs.raft_node.Runs.{whole_logs, world_after}
use Rattle.proof_deeds.specs.raft_node.Work.{weight}

-- the world that events make of a world
abbrev pub goes_on : Given → List Event → Net (List Entry) → Net (List Entry)
goes_on given es net = fold (λ (w : Net (List Entry)) e. (happens whole_logs weight given e w).1) net es

-- events at a moment, with no stop: an election timeout, a delivery of a message by its number, a proposal of values, a failure of
-- what is in flight from a node to another, a start with or without the saved committed id
abbrev pub timeout : ℕ → ℕ → Event
timeout n now = record { kind = kinds.Timeout n; at = Some now; stop = None }

abbrev pub deliver : ℕ → ℕ → Event
deliver k now = record { kind = kinds.Deliver k; at = Some now; stop = None }

abbrev pub propose : ℕ → List Value → ℕ → Event
propose n values now = record { kind = kinds.Propose n values; at = Some now; stop = None }

abbrev pub fail : ℕ → ℕ → ℕ → Event
fail n t now = record { kind = kinds.Fail n t; at = Some now; stop = None }

abbrev pub start_by : Bool → Start
start_by false = Plain
start_by true = Saved

abbrev pub restart : ℕ → Bool → ℕ → Event
restart n saved now = record { kind = kinds.Restart n (start_by saved); at = Some now; stop = None }

-- a bare start, as a server makes it: a node that led, by its stored vote, doesn't lead on
abbrev pub restart_bare : ℕ → ℕ → Event
restart_bare n now = record { kind = kinds.Restart n Bare; at = Some now; stop = None }

-- the first node with an id is this one
abbrev pub At : List NodeView → ℕ → NodeView → Type 0
At [] id N = ⊥
At (x ∷ xs) id N = ((x.id ≡ id) × (x ≡ N)) ⊎ ((x.id ≢ id) × At xs id N)

-- a node runs and leads under a leader id, which is recorded as established
pub record LeadsIn (net : Net (List Entry)) (d : LeaderId ℕ) (n : ℕ) : Type 0 where
  pub node : NodeView
  pub at : At net.nodes n node
  pub engine : EngineView
  pub runs : node.engine ≡ Some engine
  pub leader : WorldLeader
  pub leads : engine.machine.leader ≡ Some leader
  pub vote : leader.vote ≡ record { leader_id = d; committed = true }
  pub log : List Entry
  pub number : ℕ
  pub established : slice_get net.records.established number ≡ Some (record { leader_id = d; log = log })

-- so it is after the events of a run
abbrev pub Leads : Given → List Event → LeaderId ℕ → ℕ → Type 0
Leads given es d n = LeadsIn (world_after given es) d n
