use Rattle.std.proofs.Common.{◌≡◌, ◌++◌, take, map}
use Rattle.std.specs.Prelude.{flat_map}
use Rattle.raft_world.proofs.print.all_lines.Given as goal

abbrev pub invariant-loop-executed : goal.invariant-loop-executed
invariant-loop-executed l = l.lines.items ≡ map (λ x. record { node = x.node; entry = x.entry }) (take l.executed-index l.executed-items)

abbrev pub invariant-loop-installed : goal.invariant-loop-installed
invariant-loop-installed l =
    l.lines.items ≡ l.initial.lines.items ++ flat_map (λ x. map (λ e. record { node = x.node; entry = e }) x.entries) (take l.installed-index l.installed-items)
