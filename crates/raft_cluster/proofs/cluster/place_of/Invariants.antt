use Rattle.std.specs.Prelude.{◌≡◌, drop, nat_eq}
use Rattle.std.specs.List.{position, position_from}
use Rattle.raft_cluster.specs.declared.machine.Machine.{Machine}
use Rattle.raft_cluster.proofs.cluster.place_of.Given as goal

abbrev pub invariant-loop-place : goal.invariant-loop-place
invariant-loop-place g l =
    position (λ (m : Machine g.row.M.Denot). nat_eq m.id l.id) l.machines
    ≡ position_from (λ (m : Machine g.row.M.Denot). nat_eq m.id l.id) l.place (drop l.place l.machines)
