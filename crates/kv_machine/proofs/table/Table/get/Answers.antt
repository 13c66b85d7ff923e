use Rattle.std.proofs.Common.{ap, sym, ◌∙◌}
use Rattle.std.specs.FinMap as map
use Rattle.kv_machine.proofs.Tables.{get-table_of}
use Rattle.kv_machine.proofs.table.Table.get.Goals as goal

pub returns : goal.returns
returns c = c.get.ensures.value ∙ sym (get-table_of c.self.inside.entries.entries c.args.key.now) ∙ ap (λ m. map.get m c.args.key.now) c.self.view_is
