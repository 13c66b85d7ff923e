use Rattle.std.proofs.Common.{◌-◌, ◌≤◌, length, take}
use Rattle.std.specs.Io.KnownBytes.{Appends}
use Rattle.raft_world.proofs.streams.write_text.Given as goal

abbrev pub invariant-on : goal.invariant-on
invariant-on g l = (l.at ≤ length l.text) × Appends (g.W.Write.contents l.fn.output.inner) (g.W.Write.contents l.output.inner) (take l.at l.text)

abbrev pub decreases-on : goal.decreases-on
decreases-on g l = length l.text - l.at
