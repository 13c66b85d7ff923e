use Rattle.std.proofs.Common.{ap, sym, ◌∙◌}
use Rattle.std.specs.FinMap as map
use Rattle.raft_machine.proofs.Tables.{len-table_of}
use Rattle.raft_machine.proofs.table.Table.len.Goals as goal

pub returns : goal.returns
returns c = c.len.ensures.len ∙ sym (len-table_of c.self.inside.entries.entries c.len.ensures.ordered) ∙ ap (λ m. map.len m) c.self.view_is
