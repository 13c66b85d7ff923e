-- A store as it is kept: the keys now, and what happened since the compacted revision, each time with what was there before.
use Rattle.std.specs.Prelude.{◌≡◌, ℕ, ◌+◌, List, [], ◌∷◌, ◌++◌, length, map, Option, Some, None}
use Rattle.std.specs.FinMap as keys
use Rattle.kv_machine.specs.declared.key_value.Stored.{Stored}
use Rattle.kv_machine.specs.declared.key_value.Event.{Event}
use Rattle.kv_machine.specs.declared.key_value.Event.TheVariants.{Put, Delete}
use Rattle.kv_machine.specs.declared.touch.Touch.{Touch}
use Rattle.kv_machine.specs.Store.{Key, Map, Store, done, base_revision}

abbrev pub happened : Key → Option Stored → Event
happened k None = Delete k
happened k (Some s) = Put k s

abbrev pub event_of : Touch → Event
event_of t = happened t.key t.after

abbrev pub events : List Touch → List Event
events ts = map event_of ts

-- a key has what it had
abbrev pub restored : Map → Key → Option Stored → Map
restored m k None = keys.remove m k
restored m k (Some s) = keys.insert m k s

abbrev pub undone : Map → List Touch → Map
undone m [] = m
undone m (t ∷ ts) = restored (undone m ts) t.key t.before

abbrev pub in_all : List (List Touch) → List Touch → List Touch
in_all [] pending = pending
in_all (ts ∷ rs) pending = ts ++ in_all rs pending

-- what happened leads from one map to the other, and has what was there before
abbrev pub Leads : Map → List Touch → Map → Type 0
Leads b [] m = b ≡ m
Leads b (t ∷ ts) m = (keys.get b t.key ≡ t.before) × Leads (done b (event_of t)) ts m

abbrev pub store_of : Map → Option ℕ → List (List Touch) → List Touch → Store
store_of m compacted rs pending =
    record { base = undone m (in_all rs pending); compacted = compacted; revisions = map events rs; pending = events pending }

pub record IsKept (m : Map) (compacted : Option ℕ) (rs : List (List Touch)) (pending : List Touch) (last : ℕ) : Type 0 where
  pub leads : Leads (undone m (in_all rs pending)) (in_all rs pending) m
  pub current : last ≡ base_revision compacted + length rs
