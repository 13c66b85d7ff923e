use Rattle.std.proofs.Common.{sym, ap, ◌∙◌}
use Rattle.std.specs.Prelude.{filter}
use Rattle.std.specs.FinMap.{entries}
use Rattle.kv_machine.proofs.Spans.{one_forward, end_forward, one_span, all_span, end_span, here}
use Rattle.kv_machine.proofs.table.Table.span.Goals as goal

pub range-requires : goal.range-requires
range-requires c =
    one_forward _ _ c.args.key.now (c.new.ensures.start ∙ c.in_ok-first.ensures) (c.new.ensures.end ∙ c.in_ok-last.ensures)

pub returns-then-is_empty-clause-is : goal.returns-then-is_empty-clause-is
returns-then-is_empty-clause-is c =
    c.range.ensures.between c.new.ensures.exhausted
    ∙ one_span _ _ c.args.key.now c.args.range_end.now c.self.inside.entries.entries
    (c.new.ensures.start ∙ c.in_ok-first.ensures) (c.new.ensures.end ∙ c.in_ok-last.ensures) (sym c.is_empty.ensures ∙ c.if-is_empty.true)
    ∙ here c.args.key.now c.args.range_end.now c.self.inside.entries.entries c.args.self.now c.range.ensures.ordered c.self.view_is

pub returns-then-is_endless-clause-is : goal.returns-then-is_endless-clause-is
returns-then-is_endless-clause-is c =
    c.range-then-is_endless.ensures.between tt
    ∙ all_span _ c.args.key.now c.args.range_end.now c.self.inside.entries.entries c.in_ok-first.ensures (sym c.is_endless.ensures ∙ c.if-is_endless.true)
    ∙ here c.args.key.now c.args.range_end.now c.self.inside.entries.entries c.args.self.now c.range-then-is_endless.ensures.ordered c.self.view_is

pub range-requires-2 : goal.range-requires-2
range-requires-2 c = end_forward _ _ c.args.key.now c.args.range_end.now c.in_ok-first.ensures (c.in_ok-end.ensures ∙ c.end_from.ensures)

pub returns-clause-is : goal.returns-clause-is
returns-clause-is c =
    c.range-2.ensures.between tt
    ∙ end_span _ _ c.args.key.now c.args.range_end.now c.self.inside.entries.entries c.in_ok-first.ensures (c.in_ok-end.ensures ∙ c.end_from.ensures)
    (sym c.is_empty.ensures ∙ c.if-is_empty.false) (sym c.is_endless.ensures ∙ c.if-is_endless.false)
    ∙ here c.args.key.now c.args.range_end.now c.self.inside.entries.entries c.args.self.now c.range-2.ensures.ordered c.self.view_is
