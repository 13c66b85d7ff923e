-- Quorums of voter groups (Raft paper, section 6; openraft's `QuorumSet` and `Joint`).
use Rattle.std.specs.Prelude.{◌*◌, nat_lt, Bool, List, length, count_by, map}
use Rattle.std.specs.List.{list_all, flat_map}
use Rattle.std.specs.declared.cmp.Ordering.{Ordering}
use Rattle.raft_state.specs.Members.{group_of}
use Rattle.raft_state.specs.Sorted.{has_id}

-- the ids of all groups, one group after another
abbrev pub joined : {ID : Type 0} → List (List ID) → List ID
joined groups = flat_map (λ group. group) groups

module _ {ID : Type 0} (cmp : ID → ID → Ordering) where
  -- more than half of the group's ids are among these
  abbrev pub is_majority : List ID → List ID → Bool
  is_majority group ids = nat_lt (length group) (2 * count_by (has_id cmp ids) group)

  -- they have a majority of each group
  abbrev pub is_quorum : List (List ID) → List ID → Bool
  is_quorum groups ids = list_all (λ group. is_majority group ids) groups

  -- each group in ascending order, each of its ids once
  abbrev pub normalised : List (List ID) → List (List ID)
  normalised groups = map (group_of cmp) groups

  -- the ids of some group, in ascending order, each once
  abbrev pub ids_of : List (List ID) → List ID
  ids_of groups = group_of cmp (joined groups)
