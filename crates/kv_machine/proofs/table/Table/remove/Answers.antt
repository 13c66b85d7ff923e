use Rattle.std.proofs.Common.{ap, sym, ◌∙◌}
use Rattle.std.specs.FinMap as map
use Rattle.kv_machine.proofs.Tables.{get-table_of, removed}
use Rattle.kv_machine.proofs.table.Table.remove.Goals as goal

pub returns-clause-stored : goal.returns-clause-stored
returns-clause-stored c = c.remove.ensures.value ∙ sym (get-table_of c.self.inside.entries.entries c.args.key.now) ∙ ap (λ m. map.get m c.args.key.now) c.self.view_is

pub returns-clause-removed : goal.returns-clause-removed
returns-clause-removed c = removed c.args.key.now c.self.inside.entries c.remove.new.self c.remove.ensures.updates ∙ ap (λ m. map.remove m c.args.key.now) c.self.view_is
