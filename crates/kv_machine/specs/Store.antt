-- A store is a list of revisions (etcd, Data model, and API guarantees). What there is at a revision is what its events left.
use Rattle.std.specs.Prelude.{ℕ, ◌+◌, ◌-◌, List, [], ◌∷◌, ◌++◌, length, take, drop, Option, None, Some, max}
use Rattle.std.specs.Ordering.{nat_cmp}
use Rattle.std.specs.Cmp.Lexicographic.{slice_cmp}
use Rattle.std.specs.FinMap as map
use Rattle.std.specs.FinMap.{FinMap}
use Rattle.kv_machine.specs.declared.key_value.Stored.{Stored}
use Rattle.kv_machine.specs.declared.key_value.Event.{Event}
use Rattle.kv_machine.specs.declared.key_value.Event.TheVariants.{Put, Delete}

abbrev pub Key : Type 0
Key = List ℕ

-- what is stored at each key, in the order of their bytes
abbrev pub Map : Type 0
Map = FinMap (slice_cmp nat_cmp) Stored

abbrev pub done : Map → Event → Map
done m (Put k s) = map.insert m k s
done m (Delete k) = map.remove m k

abbrev pub all_done : Map → List Event → Map
all_done m [] = m
all_done m (e ∷ es) = all_done (done m e) es

abbrev pub revised : Map → List (List Event) → Map
revised m [] = m
revised m (es ∷ rs) = revised (all_done m es) rs

pub record Store : Type 0 where
  -- the keys at the compacted revision, or else at revision 1, which has none
  pub base : Map
  -- the compacted revision, if any was
  pub compacted : Option ℕ
  -- each later revision, the oldest first
  pub revisions : List (List Event)
  -- what has happened so far of a revision that isn't complete: nothing between requests
  pub pending : List Event

-- Revision 1 is the store without keys, so the first change is revision 2. (etcd counts -1 as compacted at first, and takes a compaction at 0.)
abbrev pub empty : Store
empty = record { base = map.empty; compacted = None; revisions = []; pending = [] }

abbrev pub base_revision : Option ℕ → ℕ
base_revision None = 1
base_revision (Some r) = max 1 r

abbrev pub current : Store → ℕ
current s = base_revision s.compacted + length s.revisions

-- the keys at a revision from the base's to the current one
abbrev pub keys_at : Store → ℕ → Map
keys_at s r = revised s.base (take (r - base_revision s.compacted) s.revisions)

-- the keys now, after what is pending
abbrev pub keys : Store → Map
keys s = all_done (revised s.base s.revisions) s.pending

-- something happens
abbrev pub with : Store → List Event → Store
with s es = record { base = s.base; compacted = s.compacted; revisions = s.revisions; pending = s.pending ++ es }

-- the revision is complete; one in which nothing happened is none
abbrev pub close : List (List Event) → List Event → List (List Event)
close rs [] = rs
close rs (e ∷ es) = rs ++ (e ∷ es) ∷ []

abbrev pub closed : Store → Store
closed s = record { base = s.base; compacted = s.compacted; revisions = close s.revisions s.pending; pending = [] }

-- the revision of what happens next, and of what is read in a transaction behind it
abbrev pub next : Store → ℕ
next s = current s + 1

abbrev pub header : Store → ℕ
header s = current (closed s)

-- What only earlier revisions need is forgotten (Compact).
abbrev pub compact : Store → ℕ → Store
compact s r = record { base = keys_at s r; compacted = Some r; revisions = drop (r - base_revision s.compacted) s.revisions; pending = s.pending }

-- the events of each revision from one on: what a watch is told
abbrev pub since : Store → ℕ → List (List Event)
since s r = drop (r - (base_revision s.compacted + 1)) s.revisions
