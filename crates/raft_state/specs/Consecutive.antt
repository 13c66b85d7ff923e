-- Log ids with consecutive indexes.
use Rattle.std.specs.Prelude.{ℕ, ◌+◌, ◌==◌, ◌&&◌, Bool, true, List, [], ◌∷◌, Option, None, Some}
use Rattle.std.specs.declared.cmp.Ordering.{Ordering}
use Rattle.std.specs.Ordering.{is_lt}
use Rattle.raft_state.specs.declared.ids.LogId.{LogId}
use Rattle.raft_state.specs.Order.{last_id_cmp, next}

module _ {NID : Type 0} where
  -- the index is the one after an id's; any index may be the first
  abbrev pub follows : Option (LogId NID) → ℕ → Bool
  follows None i = true
  follows (Some x) i = i == x.index + 1

  -- consecutive indexes, from the id before them on
  abbrev pub follow_on : Option (LogId NID) → List (LogId NID) → Bool
  follow_on previous [] = true
  follow_on previous (x ∷ xs) = follows previous x.index && follow_on (Some x) xs

-- ids consecutive by index and by order, from the id before them on, or from index 0
abbrev pub follows_on : {NID : Type 0} → (NID → NID → Ordering) → Option (LogId NID) → List (LogId NID) → Bool
follows_on cmp prev [] = true
follows_on cmp prev (x ∷ xs) = (x.index == next prev) && is_lt (last_id_cmp cmp prev (Some x)) && follows_on cmp (Some x) xs
