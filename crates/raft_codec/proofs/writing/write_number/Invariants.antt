use Rattle.std.proofs.Common.{ℕ, ◌≡◌, ◌<◌, ◌*◌, ◌^◌, ◌++◌}
use Rattle.raft_codec.specs.Codec.{leb128}
use Rattle.raft_codec.proofs.writing.write_number.Given as goal

abbrev pub invariant-loop-rest : goal.invariant-loop-rest
invariant-loop-rest l = (more : ℕ) × (l.rest < 2 * 128 ^ more) × (l.out.items ++ leb128 more l.rest ≡ l.fn.out.items ++ leb128 9 l.value)

abbrev pub decreases-loop-rest : goal.decreases-loop-rest
decreases-loop-rest l = l.rest
