use Rattle.std.proofs.Common.{◌≡◌, take}
use Rattle.raft_progress.specs.Quorum.{joined}
use Rattle.raft_progress.proofs.quorum.join.Given as goal

abbrev pub invariant-loop-group : goal.invariant-loop-group
invariant-loop-group g l = l.ids.items ≡ joined (take l.group-index l.groups)
