use Rattle.std.proofs.Common.{length, sym, ap, ◌∙◌}
use Rattle.std.specs.FinMap.{entries}
use Rattle.raft_machine.proofs.Tables.{entries-table_of}
use Rattle.raft_machine.proofs.Written.{behind_length}
use Rattle.raft_machine.specs.Bytes.{entry}
use Rattle.raft_machine.proofs.table.Table.write.Goals as goal

pub returns : goal.returns
returns c =
    let es = c.self.inside.entries.entries in
    let same = sym (entries-table_of es c.len.ensures.ordered) ∙ ap entries c.self.view_is in
    behind_length entry _ _ _ _ _ _ _ (c.len.ensures.len ∙ ap length same) same c.in_ok-write_number.ensures c.write_each.ensures
