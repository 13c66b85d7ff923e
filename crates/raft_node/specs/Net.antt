-- The world: nodes, all messages ever sent, and the growing records of what happened.
use Rattle.std.specs.Prelude.{ℕ, ◌++◌, List, [], ◌∷◌, map, find, Option, None, Some, nat_eq}
use Rattle.raft_command.specs.declared.config.EngineConfig.{EngineConfig}
use Rattle.raft_state.specs.declared.ids.LeaderId.{LeaderId}
use Rattle.raft_state.specs.declared.ids.LogId.{LogId}
use Rattle.raft_store.specs.declared.entry.Entry.{Entry}
use Rattle.raft_store.specs.Store.{no_store}
use Rattle.raft_store.specs.Types.{WorldStore, EngineView}
use Rattle.raft_calls.specs.declared.message.Message.{Message}
use Rattle.raft_node.specs.declared.node.Streams.{Streams}
use Rattle.raft_node.specs.declared.record.Executed.{Executed}
use Rattle.raft_node.specs.declared.record.Installed.{Installed}
use Rattle.raft_node.specs.declared.record.Decided.{Decided}
use Rattle.raft_node.specs.declared.record.Established.{Established}
use Rattle.raft_calls.specs.declared.lead.Answer.{Answer}
use Rattle.raft_calls.specs.Starts.{new_engine}

-- a node: its store and the greatest moment of its events, which survive a stop; its engine, its streams and its
-- entries for a snapshot, which don't
pub record NodeView : Type 0 where
  pub id : ℕ
  pub store : WorldStore
  pub engine : Option EngineView
  pub streams : Streams
  pub noted : Option (List Entry)
  pub moment : ℕ

-- no streams
abbrev pub no_streams : Streams
no_streams = record { targets = []; session_id = None }

-- all messages ever sent, and what was executed, installed, decided, established and answered to reads, each in the order
-- of the run
pub record Records (L : Type 0) : Type 0 where
  pub bag : List Message
  pub executed : List Executed
  pub installed : List Installed
  pub decided : List (Decided L)
  pub established : List (Established L)
  pub answers : List Answer

abbrev pub no_records : {L : Type 0} → Records L
no_records = record { bag = []; executed = []; installed = []; decided = []; established = []; answers = [] }

module _ {L : Type 0} where
  -- one more commit that a leader has decided, with its log then
  abbrev pub with_decided : LeaderId ℕ → LogId ℕ → L → Records L → Records L
  with_decided leader_id log_id log w = record w { decided = w.decided ++ record { leader_id = leader_id; log_id = log_id; log = log } ∷ [] }

  -- one more leader that is established, with its log
  abbrev pub with_established : LeaderId ℕ → L → Records L → Records L
  with_established leader_id log w = record w { established = w.established ++ record { leader_id = leader_id; log = log } ∷ [] }

-- the world. `L` is what its records keep of a whole log: in theorems the log itself
pub record Net (L : Type 0) : Type 0 where
  pub nodes : List NodeView
  pub records : Records L

-- the node with an id
abbrev pub node_at : List NodeView → ℕ → Option NodeView
node_at nodes id = find (λ n. nat_eq n.id id) nodes

-- a node that starts empty
abbrev pub new_node : EngineConfig ℕ → ℕ → NodeView
new_node settings id = record { id = id; store = no_store 0; engine = Some (new_engine settings id); streams = no_streams; noted = None; moment = 0 }

-- a node that stops keeps its store and its clock alone
abbrev pub stopped_node : NodeView → NodeView
stopped_node n = record n { engine = None; streams = no_streams; noted = None }

-- the empty world over these nodes
abbrev pub empty_net : {L : Type 0} → EngineConfig ℕ → List ℕ → Net L
empty_net settings ids = record { nodes = map (new_node settings) ids; records = no_records }
