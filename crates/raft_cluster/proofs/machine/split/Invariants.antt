use Rattle.std.proofs.Common.{◌≡◌}
use Rattle.raft_cluster.specs.Outputs.{handed_in, others_in}
use Rattle.raft_cluster.proofs.machine.split.Given as goal

abbrev pub invariant-outputs : goal.invariant-outputs
invariant-outputs g l = record { others : l.others.items ≡ others_in l.yielded; handed : l.handed ≡ handed_in l.yielded }
