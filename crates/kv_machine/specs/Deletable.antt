-- Keys that can be deleted one after the other.
use Rattle.std.specs.Prelude.{◌≡◌, true, List, [], ◌∷◌}
use Rattle.std.specs.FinMap.{contains_key, remove}
use Rattle.kv_machine.specs.declared.key_value.KeyValue.{KeyValue}
use Rattle.kv_machine.specs.Store.{Map}

-- each of them exists once those before it are deleted
abbrev pub Deletable : Map → List KeyValue → Type 0
Deletable m [] = Unit {0}
Deletable m (kv ∷ kvs) = (contains_key m kv.key ≡ true) × Deletable (remove m kv.key) kvs
