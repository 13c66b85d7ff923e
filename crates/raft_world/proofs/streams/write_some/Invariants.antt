use Rattle.std.proofs.Common.{◌≡◌, ◌<◌, is_err, IfOk, length}
use Rattle.std.specs.Io.{WritesAtMost}
use Rattle.std.specs.Io.KnownBytes.{WriteAppends}
use Rattle.raft_world.proofs.streams.write_some.Given as goal

abbrev pub invariant-again : goal.invariant-again
invariant-again g l = WritesAtMost l.tried l.text × WriteAppends (g.W.Write.contents l.fn.output.inner) (g.W.Write.contents l.output.inner) l.tried l.text × (l.output.failed ≡ is_err l.tried)
    × IfOk l.tried (λ n. 0 < length l.text → 0 < n)
