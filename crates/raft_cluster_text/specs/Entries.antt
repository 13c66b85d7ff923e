-- The state machine of the servers of a text.
use Rattle.std.specs.Prelude.{List, [], ◌∷◌, ◌++◌, map}
use Rattle.raft_node.specs.declared.record.Installed.{Installed}
use Rattle.raft_store.specs.declared.entry.Entry.{Entry}
use Rattle.raft_codec.specs.Codec.{list}
use Rattle.raft_wire.specs.Entries.{entry}
use Rattle.proof_packed.specs.Stores.{Application}
use Rattle.raft_cluster.specs.declared.cluster.Cluster.{Cluster}
use Rattle.raft_cluster.specs.declared.told.Told.{Told}
use Rattle.raft_cluster.specs.Clusters.{Holds}

-- its state is the list of the entries that were applied
abbrev pub application : Application (List Entry)
application = record { first = []; apply = λ entries e. entries ++ e ∷ [] }

-- what holds of a cluster of such servers
abbrev pub HoldsAt : Cluster (List Entry) → Type 0
HoldsAt c = Holds application (list entry) c

-- the snapshots that servers said they had installed, as the entries that they are of
abbrev pub installed_told : Told (List Entry) → List Installed
installed_told t = map (λ x. record { node = x.node; entries = x.snapshot.state }) t.installed.items
