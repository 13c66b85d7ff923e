use Rattle.std.proofs.Common.{◌≡◌, None}
use Rattle.proof_packed_stores.specs.Stores.{with_entries}
use Rattle.raft_packed.proofs.states.States.restart.Given as goal

abbrev pub invariant-loop-entry : goal.invariant-loop-entry
invariant-loop-entry g l =
    l.self ≡ record { snap = l.initial.self.snap; noted = None; applied = with_entries g.M.Machine.application l.initial.self.snap l.yielded }
