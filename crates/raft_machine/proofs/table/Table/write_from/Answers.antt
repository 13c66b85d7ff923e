use Rattle.std.proofs.Common.{ap, subst, sym, ◌∙◌}
use Rattle.std.proofs.lemmas.Result.{IfOk-weaker}
use Rattle.std.specs.FinMap.{entries}
use Rattle.std.specs.Prelude.{IfOk}
use Rattle.raft_machine.specs.Bytes.{entry}
use Rattle.raft_machine.specs.Pieces.{Entries, WritesUpto, from, from_next}
use Rattle.raft_machine.proofs.Pieces.{upto_next}
use Rattle.raft_machine.proofs.Tables.{entries-table_of}
use Rattle.raft_machine.proofs.table.Table.write_from.Goals as goal

pub returns-clause-next : goal.returns-clause-next
returns-clause-next c =
    let es = c.self.inside.entries.entries in
    let first = c.args.first in
    let old = c.args.out.now.items in
    let new = c.write_upto.new.out.items in
    subst (λ (xs : Entries). IfOk c.write_upto.result (λ next. WritesUpto entry (from first xs) (from_next next xs) old new))
    (sym (entries-table_of es c.range.ensures.ordered) ∙ ap entries c.self.view_is)
    (IfOk-weaker c.write_upto.result _ _ (λ next w. upto_next first es c.range.result old new next c.range.ensures.ordered (c.range.ensures.between tt) w) c.write_upto.ensures.next)
