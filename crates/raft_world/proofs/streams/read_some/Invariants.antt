use Rattle.std.proofs.Common.{◌≡◌, is_err}
use Rattle.std.specs.Io.{ReadsAtMost}
use Rattle.std.specs.Io.KnownBytes.{ReadConsumes}
use Rattle.raft_world.proofs.streams.read_some.Given as goal

abbrev pub invariant-again : goal.invariant-again
invariant-again g l = ReadsAtMost l.tried l.chunk × ReadConsumes (g.R.Read.remaining l.fn.input.inner) (g.R.Read.remaining l.input.inner) l.tried l.chunk × (l.input.failed ≡ is_err l.tried)
