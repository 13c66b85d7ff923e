use Rattle.std.proofs.Common.{List, sym, ap, subst, ◌∙◌}
use Rattle.kv_machine.specs.declared.key_value.KeyValue.{KeyValue}
use Rattle.kv_machine.specs.Deletable.{Deletable}
use Rattle.kv_machine.specs.Ranges.{found}
use Rattle.kv_machine.specs.Store.{keys}
use Rattle.kv_machine.proofs.Deleting.{deletable-found}
use Rattle.kv_machine.proofs.writes.delete_range.Goals as goal

pub delete_all-requires : goal.delete_all-requires
delete_all-requires c =
    subst (λ (kvs : List KeyValue). Deletable (keys c.args.keyspace.now) kvs)
    (sym (c.deref.ensures.value ∙ c.in_ok-kvs.ensures ∙ ap (λ m. found m c.as_slice.result.now c.as_slice-2.result.now) c.table.ensures))
    (deletable-found (keys c.args.keyspace.now) c.as_slice.result.now c.as_slice-2.result.now)
