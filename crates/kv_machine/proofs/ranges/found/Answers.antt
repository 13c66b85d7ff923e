use Rattle.std.proofs.Common.{◌≡◌, List, ap, subst, ◌∙◌}
use Rattle.std.specs.Prelude.{IfOk, map}
use Rattle.kv_machine.specs.declared.key_value.KeyValue.{KeyValue}
use Rattle.kv_machine.specs.Ranges.{key_value}
use Rattle.kv_machine.proofs.Pages.{all_taken}
use Rattle.kv_machine.proofs.ranges.found.Goals as goal

pub returns : goal.returns
returns c =
    subst (λ (ys : List KeyValue). IfOk c.copy_first.result (λ kvs. kvs.items ≡ ys))
    (all_taken key_value c.in_ok-span.field-0 c.in_ok-span.ensures.small ∙ ap (λ es. map key_value es) c.in_ok-span.ensures.is) c.copy_first.ensures
