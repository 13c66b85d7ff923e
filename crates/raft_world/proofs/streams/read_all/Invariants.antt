use Rattle.std.proofs.Common.{◌≡◌, ◌⊎◌, ◌-◌, ◌^◌, false, length}
use Rattle.raft_world.specs.Simulated.{Takes}
use Rattle.raft_world.proofs.streams.read_all.Given as goal

abbrev pub invariant-more : goal.invariant-more
invariant-more g l = Takes (g.R.Read.remaining l.fn.input.inner) (g.R.Read.remaining l.input.inner) l.fn.bytes.items l.bytes.items
    × ((l.input.failed ≡ l.fn.input.failed) ⊎ (l.input.failed ≡ false))

-- each turn appends some bytes, and a vector has fewer than 2 ^ 64
abbrev pub decreases-more : goal.decreases-more
decreases-more g l = 2 ^ 64 - length l.bytes.items
