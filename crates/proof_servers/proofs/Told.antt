-- What has left servers agrees, and their nodes are at rest.
use Rattle.std.specs.Prelude.{◌≡◌, ℕ, List, ◌++◌, Contains, Some}
use Rattle.std.proofs.Common.{subst}
use Rattle.std.proofs.lemmas.List.Elements.{All-contains, Contains-get_or}
use Rattle.std.proofs.lemmas.Option.{get_or_from_slice_get, slice_get_within}
use Rattle.proof_deeds.specs.raft_schedule.declared.event.Event.{Event}
use Rattle.proof_deeds.specs.raft_node.declared.given.Given.{Given}
use Rattle.proof_deeds.specs.raft_node.Held.{IsAtRest}
use Rattle.proof_deeds.specs.raft_node.Net.{NodeView, node_at}
use Rattle.proof_deeds.specs.raft_node.Runs.{world_after}
use Rattle.proof_deeds.specs.raft_node.Safety.{AllAgree, entries_of}
use Rattle.proof_deeds.specs.raft_node.WellFormed.{IsWellFormed}
use Rattle.proof_deeds.proofs.Proved.{after_agrees, after_resting}
use Rattle.proof_servers.specs.Follows.{Follows, IsSubset}
use Rattle.proof_servers.specs.Servers.{Action, AllMayAct, Cluster, after_actions, new_cluster}
use Rattle.proof_servers.proofs.AtNode.{Spot, spot_of}
use Rattle.proof_servers.proofs.Follow.{ahead, servers_follow}
use Rattle.proof_servers.proofs.Included.{entries_included}

contains_node : (nodes : List NodeView) (id : ℕ) (n : NodeView) → node_at nodes id ≡ Some n → Contains nodes n
contains_node nodes id n e =
    let s : Spot nodes id n = spot_of nodes id n e in
    subst (Contains nodes) (get_or_from_slice_get nodes s.place n n s.is) (Contains-get_or nodes s.place n (slice_get_within nodes s.place n s.is))

module _ (given : Given) (wf : IsWellFormed given) (actions : List Action) (may : AllMayAct given actions (new_cluster given)) where
  abbrev last : Cluster
  last = after_actions given actions (new_cluster given)

  follows : (es : List Event) × Follows given es last
  follows = servers_follow given actions may

  -- what has left servers is recorded in a world that they follow
  pub released_agree : AllAgree (entries_of last.released.executed last.released.installed)
  released_agree x y c d e = after_agrees given wf follows.0 x y (recorded x c) (recorded y d) e
    where
      recorded : IsSubset (entries_of last.released.executed last.released.installed) (entries_of (world_after given follows.0).records.executed (world_after given follows.0).records.installed)
      recorded = entries_included last.released (world_after given follows.0).records follows.1.released

  -- a server's node is its node in a world
  pub nodes_rest : (id : ℕ) → Contains given.ids id → IsAtRest (last.servers id).node
  nodes_rest id member =
      let a : (more : List Event) × (node_at (world_after given (follows.0 ++ more)).nodes id ≡ Some (last.servers id).node) = ahead given follows.0 last id member follows.1 in
      All-contains IsAtRest (world_after given (follows.0 ++ a.0)).nodes (last.servers id).node (after_resting given wf (follows.0 ++ a.0))
      (contains_node (world_after given (follows.0 ++ a.0)).nodes id (last.servers id).node a.1)
