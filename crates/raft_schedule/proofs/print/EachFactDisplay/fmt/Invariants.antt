use Rattle.std.proofs.Common.{◌∷◌, flat_map, take}
use Rattle.std.specs.Fmt.{HasWritten, IsPlainFormatter}
use Rattle.raft_schedule.specs.Written.{fact_text}
use Rattle.raft_schedule.proofs.print.EachFactDisplay.fmt.Given as goal

abbrev pub invariant-loop-fact : goal.invariant-loop-fact
invariant-loop-fact g l =
    IsPlainFormatter l.initial.f → HasWritten g.W.Write.write_str_gives l.initial.f (flat_map (λ fact. 32 ∷ fact_text fact) (take l.fact-index l.fact-items)) l.f
