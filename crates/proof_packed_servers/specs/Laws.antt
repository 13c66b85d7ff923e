-- Servers whose snapshots are states are those whose snapshots are entries, packed.
use Rattle.std.specs.Prelude.{ℕ, ◌≡◌, Contains, List, map}
use Rattle.proof_packed.specs.raft_node.declared.given.Given.{Given}
use Rattle.proof_packed.specs.raft_node.WellFormed.{IsWellFormed}
use Rattle.proof_servers.specs.Servers.{Action, AllMayAct, Server, Step, after_actions, crashed, flushed_first, new_cluster, played_alone, with_step}
use Rattle.proof_packed.specs.Nodes.{packed_node}
use Rattle.proof_packed.specs.Stores.{Application}
use Rattle.proof_packed_nodes.specs.raft_packed_node.Held.{IsPackedAtRest}
use Rattle.proof_packed_servers.specs.Servers.{PackedAction, PackedAllMayAct, action_packed, cluster_packed, packed_after_actions, packed_crashed}
use Rattle.proof_packed_servers.specs.Servers.{packed_flushed_first, packed_new_cluster, packed_played_alone, packed_with_step, server_packed}
use Rattle.proof_packed_servers.specs.Servers.{step_packed}

-- after any actions, in each world that can be made: each server, with its node, its waiting steps and its disk, and all that ever left one
abbrev pub PacksClusters : Type 0 → Type 0
PacksClusters S =
    (app : Application S) (given : Given) → IsWellFormed given → (actions : List Action) → AllMayAct given actions (new_cluster given)
    → cluster_packed app (after_actions given actions (new_cluster given))
    ≡ packed_after_actions app given (map (action_packed app) actions) (packed_new_cluster app given)

-- what a server does next, it does packed: it takes a step, with the same outcome, what some waiting steps leave comes on disk, or it crashes
pub record PacksServer {S : Type 0} (app : Application S) (given : Given) (id : ℕ) (s : Server) : Type 0 where
  pub steps : (step : Step) → server_packed app (with_step given step s) ≡ packed_with_step app given (step_packed app step) (server_packed app s)
  pub outcomes : (step : Step) → (played_alone given s.node step).0
      ≡ (packed_played_alone app given (packed_node app s.node) (step_packed app step)).0
  pub flushes : (k : ℕ) → server_packed app (flushed_first k s) ≡ packed_flushed_first app k (server_packed app s)
  pub crashes : (k at : ℕ) → server_packed app (crashed given id k at s) ≡ packed_crashed app given id k at (server_packed app s)

-- so does each server after any actions
abbrev pub PacksServers : Type 0 → Type 0
PacksServers S =
    (app : Application S) (given : Given) → IsWellFormed given → (actions : List Action) → AllMayAct given actions (new_cluster given)
    → (id : ℕ) → Contains given.ids id → PacksServer app given id ((after_actions given actions (new_cluster given)).servers id)

-- what servers may do, packed servers may do
abbrev pub PacksMayAct : Type 0 → Type 0
PacksMayAct S =
    (app : Application S) (given : Given) → IsWellFormed given → (actions : List Action) → AllMayAct given actions (new_cluster given)
    → PackedAllMayAct app given (map (action_packed app) actions) (packed_new_cluster app given)

-- some actions of servers that start empty are these, packed, and come to the same cluster, packed
pub record IsPackedRun {S : Type 0} (app : Application S) (given : Given) (theirs : List Action) (actions : List (PackedAction S)) : Type 0 where
  pub may : AllMayAct given theirs (new_cluster given)
  pub acts : map (action_packed app) theirs ≡ actions
  pub ends : cluster_packed app (after_actions given theirs (new_cluster given))
      ≡ packed_after_actions app given actions (packed_new_cluster app given)

-- whatever packed servers may do, servers may do
abbrev pub UnpacksClusters : Type 0 → Type 0
UnpacksClusters S =
    (app : Application S) (given : Given) → IsWellFormed given → (actions : List (PackedAction S))
    → PackedAllMayAct app given actions (packed_new_cluster app given) → (theirs : List Action) × IsPackedRun app given theirs actions

-- each packed server's node is at rest
abbrev pub PackedServersRest : Type 0 → Type 0
PackedServersRest S =
    (app : Application S) (given : Given) → IsWellFormed given → (actions : List (PackedAction S))
    → PackedAllMayAct app given actions (packed_new_cluster app given) → (id : ℕ) → Contains given.ids id
    → IsPackedAtRest app ((packed_after_actions app given actions (packed_new_cluster app given)).servers id).node
