-- Runs: the world that events make of the empty one.
use Rattle.std.specs.Prelude.{ℕ, List, [], ◌∷◌, ◌++◌, length, map, fold, take, slice_get, Some, None}
use Rattle.raft_store.specs.declared.entry.Entry.{Entry}
use Rattle.raft_schedule.specs.declared.event.Event.{Event}
use Rattle.raft_schedule.specs.declared.event.AppliedEvent.{AppliedEvent}
use Rattle.raft_node.specs.declared.given.Given.{Given}
use Rattle.raft_node.specs.Events.{happens}
use Rattle.raft_node.specs.Net.{Net, NodeView, Records, empty_net}
use Rattle.raft_node.specs.Work.{weight}

-- the events so far with their outcomes, and the world after them
pub record History (L : Type 0) : Type 0 where
  pub past : List AppliedEvent
  pub net : Net L

-- the empty world
abbrev pub start : {L : Type 0} → Given → History L
start given = record { past = []; net = empty_net given.settings given.ids }

module _ {L : Type 0} where
  -- the parts of a world as one value
  abbrev pub net_of : List NodeView → Records L → Net L
  net_of nodes records = record { nodes = nodes; records = records }

  abbrev pub history_of : List AppliedEvent → List NodeView → Records L → History L
  history_of past nodes records = record { past = past; net = net_of nodes records }

module _ {L : Type 0} (keep : List Entry → L) (given : Given) where
  -- after one more event
  unfoldable pub with_event : History L → Event → History L
  with_event t e =
      let r = happens keep weight given e t.net in
      record { past = t.past ++ record { event = e; outcome = r.0; sent = length r.1.records.bag } ∷ []; net = r.1 }

  -- after a list of events
  abbrev pub run : List Event → History L → History L
  run es t = fold with_event t es

-- the events so far
abbrev pub events_of : List AppliedEvent → List Event
events_of past = map (λ p. p.event) past

-- records keep whole logs
abbrev pub whole_logs : List Entry → List Entry
whole_logs es = es

-- the world after a list of events
abbrev pub world_after : Given → List Event → Net (List Entry)
world_after given es = (run whole_logs given es (start given)).net

-- the world at a moment between two commands: after k events, and then n commands of the next one
abbrev pub moment : Given → List Event → ℕ → ℕ → Net (List Entry)
moment given es k n =
    elim (slice_get es k) [
      | None ↦ world_after given (take k es)
      | Some e ↦ (happens whole_logs (λ _. n) given e (world_after given (take k es))).1
    ]
