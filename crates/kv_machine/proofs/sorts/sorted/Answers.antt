use Rattle.std.proofs.Common.{◌≡◌, List, sym, subst, ◌∙◌}
use Rattle.std.specs.Prelude.{IfOk}
use Rattle.kv_machine.specs.declared.key_value.KeyValue.{KeyValue}
use Rattle.kv_machine.proofs.Sorting.{sorted_up, sorted_down}
use Rattle.kv_machine.proofs.sorts.sorted.Goals as goal

pub returns-then-is_descending : goal.returns-then-is_descending
returns-then-is_descending c =
    subst (λ (ys : List KeyValue). IfOk c.descending.result (λ ordered. ordered.items ≡ ys))
    (sorted_down c.args.order c.args.target c.args.kvs.items (sym c.is_descending.ensures ∙ c.if-is_descending.true)) c.descending.ensures

pub returns : goal.returns
returns c =
    subst (λ (ys : List KeyValue). IfOk c.ascending.result (λ ordered. ordered.items ≡ ys))
    (sorted_up c.args.order c.args.target c.args.kvs.items (sym c.is_descending.ensures ∙ c.if-is_descending.false)) c.ascending.ensures
