use Rattle.std.proofs.Common.{◌≡◌, ◌++◌, take, map}
use Rattle.std.specs.Prelude.{flat_map}
use Rattle.raft_world.proofs.report.all_entries.Given as goal

abbrev pub invariant-loop-one : goal.invariant-loop-one
invariant-loop-one l = l.entries.items ≡ map (λ x. x.entry) (take l.one-index l.executed)

abbrev pub invariant-loop-one-2 : goal.invariant-loop-one-2
invariant-loop-one-2 l = l.entries.items ≡ l.initial.entries.items ++ flat_map (λ x. x.entries) (take l.one-index l.installed)
