use Rattle.std.proofs.Common.{List, ◌++◌, sym, ap, ◌∙◌}
use Rattle.std.specs.Prelude.{ℕ}
use Rattle.std.specs.FinMap.{entries}
use Rattle.raft_machine.specs.declared.stored.Stored.{Stored}
use Rattle.raft_machine.proofs.Tables.{entries-table_of}
use Rattle.raft_machine.proofs.table.Table.copy_entries.Goals as goal

pub returns : goal.returns
returns c =
    let es = c.self.inside.entries.entries in
    c.in_ok-copy_each.ensures
    ∙ ap (λ (before : List (List ℕ × Stored)). before ++ es) c.in_ok-copied.ensures.items
    ∙ sym (entries-table_of es c.len.ensures.ordered)
    ∙ ap entries c.self.view_is
