-- What a server has on disk of the steps that it took, as a node.
use Rattle.std.specs.Prelude.{ℕ, List, [], ◌∷◌, nat_eq, if◌then◌else◌}
use Rattle.raft_node.specs.declared.given.Given.{Given}
use Rattle.raft_node.specs.Net.{NodeView, new_node}
use Rattle.proof_servers.specs.Servers.{Action, Cluster, Crashes, Flushes, Server, Takes, after_action, flushed_first, new_cluster, node_after, stopped_node}

module _ (given : Given) (id : ℕ) where
  -- the oldest step that waits is on disk then
  abbrev pub with_oldest : Server → NodeView → NodeView
  with_oldest s n = elim s.waiting [ [] ↦ n | w ∷ ws ↦ node_after given n w.step ]

  -- after one more action, at this server
  abbrev pub flushed_on : Action → Server → NodeView → NodeView
  flushed_on (Takes other step) s n = n
  flushed_on (Flushes other) s n = if nat_eq other id then with_oldest s n else n
  flushed_on (Crashes other k at) s n = if nat_eq other id then stopped_node id (flushed_first k s).disk else n

  abbrev pub flushed_from : List Action → Cluster → NodeView → NodeView
  flushed_from [] c n = n
  flushed_from (a ∷ rest) c n = flushed_from rest (after_action given a c) (flushed_on a (c.servers id) n)

-- The server's node after those steps of its last start that are on disk: what it has told of is what this node has said. The steps that
-- wait are taken from there on.
abbrev pub flushed_node : Given → List Action → ℕ → NodeView
flushed_node given actions id = flushed_from given id actions (new_cluster given) (new_node given.settings id)
