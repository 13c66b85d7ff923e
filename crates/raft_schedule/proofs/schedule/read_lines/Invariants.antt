use Rattle.std.proofs.Common.{◌≡◌, ◌+◌, length, drop, eqb}
use Rattle.std.specs.List.{slice_split}
use Rattle.raft_schedule.specs.Reading.{state}
use Rattle.raft_schedule.specs.Text.{said_by}
use Rattle.raft_schedule.proofs.Together.{reading}
use Rattle.raft_schedule.proofs.schedule.read_lines.Given as goal

-- the lines so far are counted; behind them the rest says what all say
abbrev pub invariant-loop-line : goal.invariant-loop-line
invariant-loop-line l =
    let pieces = slice_split (λ b. eqb b 10) l.fn.body in
    record {
      counted : l.count ≡ length l.yielded;
      goes_on : reading (l.count + 1) (state l.draft) (drop l.count pieces) ≡ said_by pieces;
    }
