use Rattle.std.proofs.Common.{ap, sym, ◌∙◌}
use Rattle.std.specs.FinMap as map
use Rattle.kv_machine.proofs.Tables.{inserted, get-table_of}
use Rattle.kv_machine.proofs.table.Table.insert.Goals as goal

pub returns-clause-ok : goal.returns-clause-ok
returns-clause-ok c =
    inserted c.args.key c.self.inside.entries c.insert.new.self c.args.stored c.in_ok-insert.ensures.updates
    ∙ ap (λ m. map.insert m c.args.key c.args.stored) c.self.view_is

pub returns-clause-old : goal.returns-clause-old
returns-clause-old c =
    c.in_ok-insert.ensures.old
    ∙ sym (get-table_of c.self.inside.entries.entries c.args.key)
    ∙ ap (λ m. map.get m c.args.key) c.self.view_is
