use Rattle.std.proofs.Common.{◌≡◌, take}
use Rattle.std.specs.Io.KnownBytes.{Appends}
use Rattle.raft_world.specs.Printed.{pasts_text}
use Rattle.raft_world.proofs.print.print_pasts.Given as goal

abbrev pub invariant-loop-past : goal.invariant-loop-past
invariant-loop-past g l = Appends (g.W.Write.contents l.initial.output) (g.W.Write.contents l.output) (pasts_text l.language 0 (take l.past-index l.pasts)) × (l.number ≡ l.past-index)
