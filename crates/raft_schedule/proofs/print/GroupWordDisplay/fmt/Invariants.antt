use Rattle.std.proofs.Common.{◌∷◌, flat_map, take}
use Rattle.std.specs.Fmt.{decimal, HasWritten, IsPlainFormatter}
use Rattle.raft_schedule.proofs.print.GroupWordDisplay.fmt.Given as goal

abbrev pub invariant-loop-id : goal.invariant-loop-id
invariant-loop-id g l =
    IsPlainFormatter l.initial.f → HasWritten g.W.Write.write_str_gives l.initial.f (flat_map (λ id. 44 ∷ decimal id) (take l.id-index l.rest)) l.f
