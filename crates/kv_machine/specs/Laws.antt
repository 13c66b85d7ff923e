-- What clients rely on.
use Rattle.std.specs.Prelude.{ℕ, ◌≡◌, ◌≤◌, ◌+◌}
use Rattle.kv_machine.specs.Store.{Store, keys_at, current, compact, since, base_revision}

-- a compaction changes no range at or above the compacted revision, up to the current one
abbrev pub CompactingKeepsRanges : Type 0
CompactingKeepsRanges =
    (s : Store) (r q : ℕ) → base_revision s.compacted ≤ r → r ≤ current s → r ≤ q → q ≤ current s → keys_at (compact s r) q ≡ keys_at s q

-- and no watch from a later one
abbrev pub CompactingKeepsWatches : Type 0
CompactingKeepsWatches =
    (s : Store) (r q : ℕ) → base_revision s.compacted ≤ r → r ≤ current s → r + 1 ≤ q → since (compact s r) q ≡ since s q
