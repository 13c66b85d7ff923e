-- A log as the list of its ids, oldest first (Raft paper, section 5.3).
use Rattle.std.specs.Prelude.{ℕ, ◌==◌, ◌-◌, nat_lt, not, List, Option, filter, find, length, slice_get}
use Rattle.raft_state.specs.declared.ids.LogId.{LogId}

module _ {NID : Type 0} where
  -- the last id
  abbrev pub last : List (LogId NID) → Option (LogId NID)
  last ids = slice_get ids (length ids - 1)

  -- the id at an index (openraft's `get_log_id`)
  abbrev pub at : List (LogId NID) → ℕ → Option (LogId NID)
  at ids i = find (λ x. x.index == i) ids

  -- the ids below an index
  abbrev pub below : ℕ → List (LogId NID) → List (LogId NID)
  below i ids = filter (λ x. nat_lt x.index i) ids

  -- the ids from an index on
  abbrev pub from : ℕ → List (LogId NID) → List (LogId NID)
  from i ids = filter (λ x. not (nat_lt x.index i)) ids
