-- Neighbours with the same index that differ.
use Rattle.std.specs.Prelude.{ℕ, ◌≡◌, ◌+◌, ◌<◌, true, false, List, length, Option, None, Some}
use Rattle.std.specs.List.{AllAdjacentBelow, slice_index_or}
use Rattle.raft_store.specs.declared.entry.Entry.{Entry}
use Rattle.raft_world.specs.Agreed.{clash}

-- neighbours that do not clash
abbrev pub Apart : Entry → Entry → Type 0
Apart x y = clash x y ≡ false

-- the place of the first neighbours that clash
abbrev pub FirstClash : List Entry → Option ℕ → Type 0
FirstClash es None = AllAdjacentBelow Apart es (length es)
FirstClash es (Some k) = (k + 1 < length es) × AllAdjacentBelow Apart es (k + 1) × ((d : Entry) → clash (slice_index_or es k d) (slice_index_or es (k + 1) d) ≡ true)
