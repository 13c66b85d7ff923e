-- What clients are told agrees.
use Rattle.std.proofs.Common.{◌≡◌, ◌∙◌, List, [], ◌∷◌, length, ap, refl, sym, subst}
use Rattle.std.specs.Prelude.{◌++◌, map}
use Rattle.std.specs.List.{flat_map}
use Rattle.raft_node.specs.declared.record.Executed.{Executed}
use Rattle.raft_node.specs.declared.record.Installed.{Installed}
use Rattle.raft_node.specs.Safety.{AllAgree, entries_of}
use Rattle.raft_store.specs.declared.entry.Entry.{Entry}
use Rattle.raft_codec.specs.Codec.{Codec}
use Rattle.proof_clients.specs.Objects.{Object}
use Rattle.proof_packed.specs.Nodes.{PackedInstalled}
use Rattle.proof_packed.specs.Stores.{Application, packed}
use Rattle.proof_servers.proofs.Follow.{servers_follow}
use Rattle.proof_servers.proofs.Told.{released_agree}
use Rattle.raft_cluster.specs.declared.cluster.Cluster.{Cluster}
use Rattle.raft_cluster.specs.Clusters.{Follows, model_of}
use Rattle.raft_cluster.specs.Laws.{ClustersAgree, ClustersFollowWorlds, ClustersSeeOne}
use Rattle.raft_cluster.proofs.Seen.{sees_one}

module _ {S : Type 0} (app : Application S) (codec : Codec S) where
  pub clusters_follow : ClustersFollowWorlds app codec
  clusters_follow c f =
      let world = servers_follow c.given f.actions f.beside.may in
      record { model = model_of app codec f; events = world.0; follows = world.1; is = f.is }

  -- what leaves with the model's snapshots is what they pack
  packed_all : (xs : List Installed)
      → map (λ (x : PackedInstalled S). x.snapshot) (map (λ (x : Installed). let y : PackedInstalled S = record { node = x.node; snapshot = packed app x.entries } in y) xs)
      ≡ map (λ (x : Installed). packed app x.entries) xs
  packed_all [] = refl
  packed_all (x ∷ xs) = ap (λ ys. packed app x.entries ∷ ys) (packed_all xs)

  pub clusters_agree : ClustersAgree app codec
  clusters_agree c f = record {
    installed = (model_of app codec f).released.installed;
    packs = f.is.told.installed ∙ packed_all (model_of app codec f).released.installed;
    agree = subst AllAgree (λ i. sym f.is.told.executed i ++ flat_map (λ (x : Installed). x.entries) (model_of app codec f).released.installed)
        (released_agree c.given f.given f.actions f.beside.may);
  }

  pub clusters_see_one : {T R : Type 0} (m : Object T R) → ClustersSeeOne app codec m
  clusters_see_one m c f = sees_one app codec c.given f.given f.actions f.placed f.cores f.beside c.told (length f.actions) f.clients m
