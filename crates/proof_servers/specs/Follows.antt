-- When servers follow a world: what they have on disk and have said is what some events make of the world, and each server
-- is ahead of its node there by the steps that wait. So an event of the world is a step that came on disk; a step that was
-- lost in a crash never happened.
use Rattle.std.specs.Prelude.{ℕ, ◌≡◌, ◌≤◌, List, [], ◌∷◌, Some, map, Contains}
use Rattle.proof_deeds.specs.raft_store.declared.entry.Entry.{Entry}
use Rattle.proof_deeds.specs.raft_schedule.declared.event.Event.{Event}
use Rattle.proof_deeds.specs.raft_schedule.declared.event.EventKind.{EventKind}
use Rattle.proof_deeds.specs.raft_node.declared.act.Act.{Act}
use Rattle.proof_deeds.specs.raft_node.declared.given.Given.{Given}
use Rattle.proof_deeds.specs.raft_calls.declared.message.Message.{Message}
use Rattle.proof_deeds.specs.raft_node.Events.{aim_of}
use Rattle.proof_deeds.specs.raft_node.Net.{Net, NodeView, Records, node_at}
use Rattle.proof_deeds.specs.raft_node.Runs.{world_after}
use Rattle.raft_wire.specs.Records.{on_disk}
use Rattle.proof_servers.specs.Servers.{Cluster, Server, WaitingStep, disk_records, node_after, node_after_all, outputs_of, reserved_after, reserved_after_all}

-- each element of one list is one of another
abbrev pub IsSubset : {A : Type 0} → List A → List A → Type 0
IsSubset {A} xs ys = (x : A) → Contains xs x → Contains ys x

-- all that some records have, others have
pub record AreIncluded (r q : Records (List Entry)) : Type 0 where
  pub bag : IsSubset r.bag q.bag
  pub executed : IsSubset r.executed q.executed
  pub installed : IsSubset r.installed q.installed
  pub decided : IsSubset r.decided q.decided
  pub established : IsSubset r.established q.established
  pub answers : IsSubset r.answers q.answers

-- a world with these messages has an event in which this node does this
pub record HasEvent (bag : List Message) (id : ℕ) (act : Act) : Type 0 where
  pub kind : EventKind
  pub aims : aim_of bag kind ≡ Some (record { id = id; act = act })

-- steps wait behind a node, while moments are reserved up to this one: each leaves what it leaves at its turn, and says what it says
-- then, and the world has an event for it
abbrev pub WaitBehind : Given → List Message → ℕ → ℕ → NodeView → List WaitingStep → Type 0
WaitBehind given bag id reserved n [] = Unit {0}
WaitBehind given bag id reserved n (w ∷ ws) =
    (w.disk_records ≡ disk_records given reserved n w.step) × (w.outputs ≡ outputs_of given n w.step) × HasEvent bag id w.step.act
    × WaitBehind given bag id (reserved_after given reserved n w.step) (node_after given n w.step) ws

-- A server is ahead of the world's node by its waiting steps, and its disk has that node's store. The disk's records reserve the
-- node's moment, and those that wait reserve the others from there.
pub record ServerFollows (given : Given) (bag : List Message) (id : ℕ) (base : NodeView) (s : Server) : Type 0 where
  pub node : s.node ≡ node_after_all given base (map (λ w. w.step) s.waiting)
  pub reserved : s.reserved ≡ reserved_after_all given s.disk.moment base (map (λ w. w.step) s.waiting)
  pub disk : on_disk s.disk.store ≡ on_disk base.store
  pub moment : base.moment ≤ s.disk.moment
  pub waiting : WaitBehind given bag id s.disk.moment base s.waiting

-- servers follow a world: each of the given ones is there, and ahead of its node there, and all that ever left a server is
-- recorded there
pub record ClusterFollows (given : Given) (net : Net (List Entry)) (c : Cluster) : Type 0 where
  pub there : (id : ℕ) → Contains given.ids id → (n : NodeView) × (node_at net.nodes id ≡ Some n)
  pub each : (id : ℕ) (n : NodeView) → node_at net.nodes id ≡ Some n → ServerFollows given net.records.bag id n (c.servers id)
  pub released : AreIncluded c.released net.records

-- servers follow these events
abbrev pub Follows : Given → List Event → Cluster → Type 0
Follows given es c = ClusterFollows given (world_after given es) c
