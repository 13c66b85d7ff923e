use Rattle.std.proofs.Common.{rules, ◌≡◌, ◌∙◌, Some, None, sym, ap, subst, w64}
use Rattle.std.specs.Prelude.{IsSome}
use Rattle.std.specs.Map.{lookup}
use Rattle.std.specs.Option.{option_copied_mut}
use Rattle.std.proofs.lemmas.Int.{to_z-of_z}
use Rattle.raft_machine.specs.Space.{Map}
use Rattle.raft_machine.specs.Commands.{sum_at, added_at}
use Rattle.raft_machine.proofs.Tables.{Tree, at, table_of}
use Rattle.raft_machine.proofs.Counting.{table-again, table-added, table-sum, on_err}
use Rattle.raft_machine.proofs.table.Table.add.Goals as goal
use Rattle.raft_machine.proofs.table.Table.add.Goals.{in-Some+in_ok-add-in-Some, in-None}

pub returns-in_err-add-in-Some-clause-err : goal.returns-in_err-add-in-Some-clause-err
returns-in_err-add-in-Some-clause-err c =
    let m = c.self.inside.entries in
    let found : lookup (at c.args.key.now) m.entries ≡ Some c.in-Some.stored.now = sym c.get_mut.ensures.value ∙ ap option_copied_mut c.in-Some.is in
    let there : IsSome (lookup (at c.args.key.now) m.entries) = subst IsSome (sym found) (search rules) in
    on_err c.from_residual.result
    (table-again m (c.get_mut.follows.lender c.add.new.self) c.args.key.now c.in-Some.stored.now c.add.new.self found c.in_err-add-in-Some.ensures.err ((c.get_mut.follows.holds c.add.new.self).3 there)
    ∙ c.self.view_is)

pub returns-clause-sum : goal.returns-clause-sum
returns-clause-sum c =
    let m = c.self.inside.entries in
    let seen = ap (λ (t : Map). sum_at t c.args.key.now c.args.by) c.self.view_is in
    elim c.match-get_mut.branch [
      | in-Some+in_ok-add-in-Some w ↦
          let found : lookup (at c.args.key.now) m.entries ≡ Some w.in-Some.stored.now = sym c.get_mut.ensures.value ∙ ap option_copied_mut w.in-Some.is in
          rw w.result-is (ap Some w.in_ok-add-in-Some.ensures.sum ∙ sym (table-sum m c.args.key.now (Some w.in-Some.stored.now) _ found) ∙ ap (sum_at (table_of m.entries) c.args.key.now) (to_z-of_z w64 c.args.by c.ranges.by) ∙ seen)
      | in-None w ↦
          let none : lookup (at c.args.key.now) m.entries ≡ None = sym c.get_mut.ensures.value ∙ ap option_copied_mut w.in-None.is in
          rw w.result-is (sym (table-sum m c.args.key.now None c.args.by none) ∙ seen)
    ]

pub returns-clause-added : goal.returns-clause-added
returns-clause-added c =
    let m = c.self.inside.entries in
    elim c.match-get_mut.branch [
      | in-Some+in_ok-add-in-Some w ↦
          let found : lookup (at c.args.key.now) m.entries ≡ Some w.in-Some.stored.now = sym c.get_mut.ensures.value ∙ ap option_copied_mut w.in-Some.is in
          let there : IsSome (lookup (at c.args.key.now) m.entries) = subst IsSome (sym found) (search rules) in
          rw (w.result-is, w.self-inside-is)
          (table-added m (c.get_mut.follows.lender w.add.new.self) c.args.key.now w.in-Some.stored.now w.add.new.self w.in_ok-add-in-Some.field-0 found w.in_ok-add-in-Some.ensures.added ((c.get_mut.follows.holds w.add.new.self).3 there)
          ∙ ap (λ (t : Map). added_at t c.args.key.now (Some w.in_ok-add-in-Some.field-0)) c.self.view_is)
      | in-None w ↦ rw (w.result-is, w.self-inside-is) (ap (λ (n : Tree). table_of n.entries) c.get_mut.follows.holds-at-none ∙ c.self.view_is)
    ]
