use Rattle.std.proofs.Common.{◌≡◌, fold, take}
use Rattle.raft_packed.proofs.packed.apply_all.Given as goal

abbrev pub invariant-loop-entry : goal.invariant-loop-entry
invariant-loop-entry g l = l.state ≡ fold g.M.Machine.application.apply l.initial.state (take l.entry-index l.entries)
