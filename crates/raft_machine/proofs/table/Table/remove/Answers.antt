use Rattle.std.proofs.Common.{ap, sym, ◌∙◌}
use Rattle.std.specs.FinMap as map
use Rattle.raft_machine.proofs.Tables.{get-table_of, removed, key_found}
use Rattle.raft_machine.proofs.table.Table.remove.Goals as goal

pub returns-clause-stored : goal.returns-clause-stored
returns-clause-stored c = c.remove_entry.ensures.value ∙ sym (get-table_of c.self.inside.entries.entries c.args.key.now) ∙ ap (λ m. map.get m c.args.key.now) c.self.view_is

pub returns-clause-key : goal.returns-clause-key
returns-clause-key c = key_found c.args.key.now c.remove_entry.result c.remove_entry.ensures.same_key

pub returns-clause-removed : goal.returns-clause-removed
returns-clause-removed c = removed c.args.key.now c.self.inside.entries c.remove_entry.new.self c.remove_entry.ensures.updates ∙ ap (λ m. map.remove m c.args.key.now) c.self.view_is
