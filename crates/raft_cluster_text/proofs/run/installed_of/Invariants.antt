use Rattle.std.proofs.Common.{◌≡◌, take}
use Rattle.std.specs.Prelude.{map}
use Rattle.raft_node.specs.declared.record.Installed.{Installed}
use Rattle.raft_store.specs.declared.entry.Entry.{Entry}
use Rattle.raft_cluster.specs.declared.told.Installed.{Installed as InstalledTold}
use Rattle.raft_cluster_text.proofs.run.installed_of.Given as goal

abbrev pub invariant-loop-installed : goal.invariant-loop-installed
invariant-loop-installed l =
    l.all.items ≡ map (λ x. record { node = x.node; entries = x.snapshot.state }) (take l.installed-index l.told.installed.items)
