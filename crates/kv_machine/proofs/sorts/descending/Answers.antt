use Rattle.std.proofs.Common.{◌≡◌, ap, rules}
use Rattle.std.proofs.lemmas.Fn.{always_returns_same}
use Rattle.std.specs.Ordering.{is_lt}
use Rattle.kv_machine.specs.declared.key_value.KeyValue.{KeyValue}
use Rattle.kv_machine.specs.Ranges.{compare_by}
use Rattle.kv_machine.proofs.Sorting.{sort_is, weak_down}
use Rattle.kv_machine.proofs.sorts.descending.Goals as goal

pub returns : goal.returns
returns c =
    let lt = λ (a b : KeyValue). is_lt (compare_by c.args.target b a) in
    sort_is lt (weak_down c.args.target) c.args.kvs.items _
    (c.in_ok-sort_by.ensures.sorted lt (weak_down c.args.target) (always_returns_same _ (λ a r. is_lt r ≡ lt a.0.now a.1.0.now) _ (λ a r q k. (ap is_lt (search rules), search rules))))
    (c.sort_by.ensures.stable lt (weak_down c.args.target) (always_returns_same _ (λ a r. is_lt r ≡ lt a.0.now a.1.0.now) _ (λ a r q k. (ap is_lt (search rules), search rules))))
