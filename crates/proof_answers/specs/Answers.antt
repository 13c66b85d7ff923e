-- What clients ask servers for, and are told. A server gives a client's value an entry when it proposes it. It answers once its
-- state machine has taken the entry with that id, in the same start, and what that step and those before it leave is on disk. Whether
-- it still leads then doesn't matter.
use Rattle.std.specs.Prelude.{ℕ, ◌<◌, ◌≤◌, ◌≡◌, ◌≢◌, ◌⊎◌, List, ◌∷◌, ◌++◌, Some, max, slice_get, take, true}
use Rattle.proof_deeds.specs.raft_store.declared.entry.Entry.{Entry}
use Rattle.proof_deeds.specs.raft_store.declared.entry.Payload.TheVariants as payload
use Rattle.proof_deeds.specs.raft_store.declared.entry.Value.{Value}
use Rattle.proof_deeds.specs.raft_store.Store.{whole}
use Rattle.proof_deeds.specs.raft_schedule.declared.event.EventKind.TheVariants as event
use Rattle.proof_deeds.specs.raft_schedule.declared.event.Start.TheVariants.{Bare}
use Rattle.proof_deeds.specs.raft_node.declared.act.Act.TheVariants.{Propose, Restart}
use Rattle.proof_deeds.specs.raft_node.declared.given.Given.{Given}
use Rattle.proof_deeds.specs.raft_node.Events.{played, scene}
use Rattle.proof_deeds.specs.raft_node.Net.{NodeView, no_records}
use Rattle.proof_deeds.specs.raft_node.Runs.{whole_logs}
use Rattle.proof_servers.specs.Servers.{Action, Crashes, Flushes, Server, Step, Takes, after_actions, event_at, flushed_first, new_cluster, stopped_node}
use Rattle.proof_answers.specs.Waiting.{waiting}

module _ (given : Given) where
  -- a node after so many commands of a step, or all of fewer
  abbrev pub node_within : NodeView → Step → ℕ → NodeView
  node_within n s commands = (played whole_logs (λ _. commands) given s.act (event_at (event.Read 0) s.at) (scene n no_records)).1.node

  -- In a step the first command appends entries, x at a place of them, to the whole log of the node, which leads under x's
  -- leader id: by its store, before that, its vote is that leader's, and committed.
  pub record StepAppends (n : NodeView) (s : Step) (place : ℕ) (x : Entry) : Type 0 where
    pub entries : List Entry
    pub slot : slice_get entries place ≡ Some x
    pub leads : (node_within n s 0).store.vote ≡ record { leader_id = x.log_id.leader_id; committed = true }
    pub appended : whole (node_within n s 1).store ≡ whole (node_within n s 0).store ++ entries

module _ (given : Given) (actions : List Action) where
  -- a server after the first actions, and its node
  abbrev pub server_then : ℕ → ℕ → Server
  server_then number id = (after_actions given (take number actions) (new_cluster given)).servers id

  abbrev pub node_then : ℕ → ℕ → NodeView
  node_then number id = (server_then number id).node

  -- an action takes a step of this server, at this node: after a crash it is the start, on what is on disk then, and at no moment
  -- before those that are reserved there
  abbrev pub TakesAt : ℕ → ℕ → Step → NodeView → Type 0
  TakesAt number id step node =
      ((slice_get actions number ≡ Some (Takes id step)) × (node ≡ node_then number id))
      ⊎ ((k : ℕ) × (at : ℕ) × (slice_get actions number ≡ Some (Crashes id k at))
      × (step ≡ record { act = Restart Bare; at = max at (flushed_first k (server_then number id)).disk.moment })
      × (node ≡ stopped_node id (flushed_first k (server_then number id)).disk))

  -- a client's value was proposed by this action, and its server, which leads, gave it this entry
  pub record Proposed (call : ℕ) (v : Value) (x : Entry) : Type 0 where
    pub step : Step
    pub takes : slice_get actions call ≡ Some (Takes x.log_id.leader_id.node_id step)
    pub values : List Value
    pub proposes : step.act ≡ Propose values
    pub place : ℕ
    pub value : slice_get values place ≡ Some v
    pub appended : StepAppends given (node_then call x.log_id.leader_id.node_id) step place x
    pub payload : x.payload ≡ payload.Value v

  -- A server has told of what its state machine has taken: after so many commands of a step it had taken these entries, and the
  -- step comes on disk by the action `flush`.
  pub record Told (id flush commands : ℕ) (taken : List Entry) : Type 0 where
    pub by : ℕ
    pub step : Step
    pub node : NodeView
    pub takes : TakesAt by id step node
    pub applied : (node_within given node step commands).store.applied ≡ taken
    pub flushes : slice_get actions flush ≡ Some (Flushes id)
    pub behind : List ℕ
    pub oldest : waiting id (take flush actions) ≡ by ∷ behind

  -- The server that proposed this entry by the action `call` has told of it: its state machine has taken an entry with that
  -- id, by that step or a later one, and it hasn't crashed in between.
  pub record Executes (call : ℕ) (x : Entry) (flush commands : ℕ) : Type 0 where
    pub taken : List Entry
    pub told : Told x.log_id.leader_id.node_id flush commands taken
    pub since : call ≤ told.by
    pub runs : (number k at : ℕ) → call < number → number < flush → slice_get actions number ≢ Some (Crashes x.log_id.leader_id.node_id k at)
    pub entry : Entry
    pub there : slice_get taken x.log_id.index ≡ Some entry
    pub same : entry.log_id ≡ x.log_id

  -- An update has failed: a server has told of another entry at its index. (That its server leads no more, has crashed, or has
  -- deleted the entry, isn't enough: then it is unknown whether the update takes effect.)
  pub record Fails (x : Entry) : Type 0 where
    pub id : ℕ
    pub flush : ℕ
    pub commands : ℕ
    pub taken : List Entry
    pub told : Told id flush commands taken
    pub entry : Entry
    pub there : slice_get taken x.log_id.index ≡ Some entry
    pub other : entry.log_id ≢ x.log_id
