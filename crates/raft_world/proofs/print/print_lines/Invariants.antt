use Rattle.std.proofs.Common.{◌≡◌, take}
use Rattle.std.specs.Prelude.{None}
use Rattle.std.specs.Io.KnownBytes.{Appends}
use Rattle.raft_world.proofs.Lines.{open_lines, last_place}
use Rattle.raft_world.proofs.print.print_lines.Given as goal

abbrev pub invariant-loop-line : goal.invariant-loop-line
invariant-loop-line g l =
    let done = take l.line-index l.lines in
    Appends (g.W.Write.contents l.initial.output) (g.W.Write.contents l.output) (open_lines None done) × (l.before ≡ last_place None done)
