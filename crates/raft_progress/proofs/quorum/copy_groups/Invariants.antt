use Rattle.std.proofs.Common.{◌≡◌, take}
use Rattle.raft_progress.proofs.quorum.copy_groups.Given as goal

abbrev pub invariant-loop-group : goal.invariant-loop-group
invariant-loop-group g l = l.copied ≡ take l.group-index l.groups
