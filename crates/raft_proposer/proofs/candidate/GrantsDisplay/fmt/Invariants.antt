use Rattle.std.proofs.Common.{◌≡◌, ℕ, List}
use Rattle.std.specs.Prelude.{Option, Ok}
use Rattle.std.specs.Fmt.{DisplaysOnOk, ◌++?◌}
use Rattle.std.specs.Slice.Iter.{iter_rest}
use Rattle.raft_proposer.specs.Texts.{grants_text, more_grants_text}
use Rattle.raft_proposer.proofs.candidate.GrantsDisplay.fmt.Given as goal

-- what was written, and the text of the rows that are left, are the whole text
abbrev pub invariant-loop-row : goal.invariant-loop-row
invariant-loop-row g l =
    (done : Option (List ℕ)) × DisplaysOnOk g.W.Write.write_str_gives l.fn.f (Ok tt) done l.f
    × (done ++? more_grants_text g.NID.Display.output (iter_rest l.row-iterator.inner) ≡ grants_text g.NID.Display.output l.self.0.now.rows)
