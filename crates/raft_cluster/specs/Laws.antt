-- What holds of clusters that follow the model.
use Rattle.std.specs.Prelude.{◌≡◌, List, map}
use Rattle.raft_schedule.specs.declared.event.Event.{Event}
use Rattle.raft_node.specs.declared.record.Installed.{Installed}
use Rattle.raft_node.specs.Safety.{AllAgree, entries_of}
use Rattle.raft_codec.specs.Codec.{Codec}
use Rattle.proof_clients.specs.Objects.{Object}
use Rattle.proof_packed.specs.Stores.{Application, packed}
use Rattle.proof_requests.specs.proof_packed_servers.Servers.{cluster_packed}
use Rattle.proof_servers.specs.Follows as world
use Rattle.proof_servers.specs.Servers.{Cluster as ModelCluster}
use Rattle.raft_cluster.specs.declared.cluster.Cluster.{Cluster}
use Rattle.raft_cluster.specs.declared.told.Told.{Told}
use Rattle.raft_cluster.specs.Clusters.{Follows, IsCluster, snapshots_told}
use Rattle.raft_cluster.specs.Histories.{SeesOne}

module _ {S : Type 0} (app : Application S) (codec : Codec S) where
  -- some events of a world make what its servers have on disk, and all that has left them (`proof_servers`), packed
  pub record FollowsWorld (c : Cluster S) : Type 0 where
    pub model : ModelCluster
    pub events : List Event
    pub follows : world.Follows c.given events model
    pub is : IsCluster app codec (cluster_packed app model) c

  abbrev pub ClustersFollowWorlds : Type 0
  ClustersFollowWorlds = (c : Cluster S) → Follows app codec c → FollowsWorld c

-- What clients were told of agrees: the snapshots that servers said they had installed are those of some entries, and of these and of
-- the entries that were executed those of one index are the same entry.
pub record Agrees {S : Type 0} (app : Application S) (told : Told S) : Type 0 where
  pub installed : List Installed
  pub packs : snapshots_told told ≡ map (λ x. packed app x.entries) installed
  pub agree : AllAgree (entries_of told.executed.items installed)

-- state machine safety (Raft paper, section 5.4.3)
abbrev pub ClustersAgree : {S : Type 0} → Application S → Codec S → Type 0
ClustersAgree {S} app codec = (c : Cluster S) → Follows app codec c → Agrees app c.told

-- what clients of a cluster asked and were told is linearizable, for this object
abbrev pub ClustersSeeOne : {A S R : Type 0} → Application A → Codec A → Object S R → Type 0
ClustersSeeOne {A} app codec m = (c : Cluster A) → Follows app codec c → SeesOne m c.told
