-- Each packed server's node is at rest, since it is a node of a world, packed.
use Rattle.std.specs.Prelude.{ℕ, ◌≡◌, All, List, Contains, Some, map, refl, slice_get}
use Rattle.std.specs.Option.{option_map}
use Rattle.std.proofs.Common.{◌∙◌, sym, ap, subst}
use Rattle.std.proofs.lemmas.Option.{get_or_from_slice_get, slice_get-map, slice_get_within}
use Rattle.proof_packed.specs.raft_schedule.declared.event.Event.{Event}
use Rattle.proof_packed.specs.raft_node.declared.given.Given.{Given}
use Rattle.proof_packed.specs.raft_node.Net.{Net, NodeView, node_at}
use Rattle.proof_packed.specs.raft_node.Runs.{world_after}
use Rattle.proof_packed.specs.raft_node.WellFormed.{IsWellFormed}
use Rattle.proof_packed.specs.raft_store.declared.entry.Entry.{Entry}
use Rattle.proof_servers.specs.Servers.{Action, Cluster, after_actions, new_cluster}
use Rattle.proof_servers.proofs.AtNode.{Spot, spot_of}
use Rattle.proof_packed.specs.Nodes.{PackedNode, packed_node}
use Rattle.proof_packed.specs.Stores.{Application}
use Rattle.proof_packed_worlds.specs.Worlds.{PackedNet}
use Rattle.proof_packed_worlds.proofs.Worlds.{world_kept}
use Rattle.proof_packed_nodes.proofs.Resting.{all_rest}
use Rattle.proof_packed_nodes.specs.raft_packed_node.Held.{IsPackedAtRest}
use Rattle.proof_packed_servers.specs.Laws.{IsPackedRun}
use Rattle.proof_packed_servers.specs.Servers.{PackedAction, PackedAllMayAct, PackedCluster, packed_after_actions, packed_new_cluster}
use Rattle.proof_packed_servers.proofs.Clusters.{server_world}
use Rattle.proof_packed_servers.proofs.Unpacking.{runs_unpacked}

module _ {S : Type 0} (app : Application S) (given : Given) (wf : IsWellFormed given) where
  world_rests : (es : List Event) (id : ℕ) (n : NodeView) → node_at (world_after given es).nodes id ≡ Some n
      → IsPackedAtRest app (packed_node app n)
  world_rests es id n e =
      let net : Net (List Entry) = world_after given es in
      let nodes : List (PackedNode S) = map (packed_node app) net.nodes in
      let spot : Spot net.nodes id n = spot_of net.nodes id n e in
      let there : slice_get nodes spot.place ≡ Some (packed_node app n) =
      slice_get-map (packed_node app) net.nodes spot.place ∙ ap (option_map (packed_node app)) spot.is in
      let each : All (IsPackedAtRest app) nodes =
      subst (λ (w : PackedNet S). All (IsPackedAtRest app) w.nodes) (sym (world_kept app given wf es)) (all_rest app given wf es) in
      subst (IsPackedAtRest app) (get_or_from_slice_get nodes spot.place (packed_node app n) (packed_node app n) there)
      (each spot.place (packed_node app n) (slice_get_within nodes spot.place (packed_node app n) there))

  pub servers_rest : (actions : List (PackedAction S)) → PackedAllMayAct app given actions (packed_new_cluster app given)
      → (id : ℕ) → Contains given.ids id
      → IsPackedAtRest app ((packed_after_actions app given actions (packed_new_cluster app given)).servers id).node
  servers_rest actions may id member =
      let run : (theirs : List Action) × IsPackedRun app given theirs actions = runs_unpacked app given wf actions may in
      let c : Cluster = after_actions given run.0 (new_cluster given) in
      let w : (es : List Event) × (node_at (world_after given es).nodes id ≡ Some (c.servers id).node) =
      server_world given c id member (record { actions = run.0; may = run.1.may; is = refl }) in
      subst (λ (d : PackedCluster S). IsPackedAtRest app (d.servers id).node) run.1.ends (world_rests w.0 id (c.servers id).node w.1)
