-- When an id fits a log, and when one id is within another.
use Rattle.std.specs.Prelude.{nat_lt, nat_le, Bool, true, List, ◌&&◌, ◌||◌, Option, None, Some}
use Rattle.std.specs.declared.cmp.Ordering.{Ordering}
use Rattle.std.specs.Ordering.{is_le, is_lt}
use Rattle.raft_state.specs.declared.ids.LogId.{LogId}
use Rattle.raft_state.specs.Log.{at}
use Rattle.raft_state.specs.Order.{last_id_cmp, next}
use Rattle.raft_state.specs.State.{is_found}

module _ {NID : Type 0} (cmp : NID → NID → Ordering) where
  -- at or below, by id and by index
  abbrev pub is_within : Option (LogId NID) → Option (LogId NID) → Bool
  is_within a b = is_le (last_id_cmp cmp a b) && nat_le (next a) (next b)

  -- strictly below, by id and by index
  abbrev pub is_below : Option (LogId NID) → Option (LogId NID) → Bool
  is_below a b = is_lt (last_id_cmp cmp a b) && nat_lt (next a) (next b)

  -- a log of these ids holds the id, or has purged one above it
  abbrev pub fits : List (LogId NID) → Option (LogId NID) → Option (LogId NID) → Bool
  fits ids purged None = true
  fits ids purged (Some x) = is_found cmp (at ids x.index) x || is_below (Some x) purged
