-- A membership: groups of voters, and the nodes with their data (openraft's `Membership`; Raft paper, section 6).
use Rattle.std.specs.Prelude.{Bool, List, [], Option, map, filter, fold, find, not, if◌then◌else◌, is_some}
use Rattle.std.specs.List.{list_any}
use Rattle.std.specs.Map.{lookup}
use Rattle.std.specs.BTreeMap.{insert_entry, is_at}
use Rattle.std.specs.BTreeSet.{insert_key}
use Rattle.std.specs.Option.{option_map}
use Rattle.std.specs.declared.cmp.Ordering.{Ordering}
use Rattle.std.specs.Ordering.{is_eq}
use Rattle.raft_state.specs.Sorted.{has_id}
use Rattle.raft_state.specs.declared.membership.Members.{Members}

-- the ids of a group: ascending, each once
abbrev pub group_of : {NID : Type 0} → (NID → NID → Ordering) → List NID → List NID
group_of cmp ids = fold (insert_key cmp) [] ids

-- no voters and no nodes
abbrev pub no_members : {NID N : Type 0} → Members NID N
no_members = record { groups = []; nodes = [] }

module _ {NID N : Type 0} (cmp : NID → NID → Ordering) where
  -- the nodes by id: the last of a repeated id counts
  abbrev pub placed_nodes : List (NID × N) → List (NID × N)
  placed_nodes nodes = fold (λ placed entry. insert_entry cmp placed entry.0 entry.1) [] nodes

  -- the id is a voter's or a learner's
  abbrev pub contains : Members NID N → NID → Bool
  contains m id = list_any (λ entry. is_eq (cmp id entry.0)) m.nodes

  -- the id is in some group
  abbrev pub is_voter : Members NID N → NID → Bool
  is_voter m id = list_any (λ group. has_id cmp group id) m.groups

  -- the data of a node
  abbrev pub get_node : Members NID N → NID → Option N
  get_node m id = option_map (λ entry. entry.1) (find (λ entry. is_eq (cmp id entry.0)) m.nodes)

  -- the nodes that are in some group, ascending
  abbrev pub voter_ids : Members NID N → List NID
  voter_ids m = filter (is_voter m) (map (λ entry. entry.0) m.nodes)

  -- the nodes that are in no group, ascending
  abbrev pub learner_ids : Members NID N → List NID
  learner_ids m = filter (λ id. not (is_voter m id)) (map (λ entry. entry.0) m.nodes)

module _ {NID N : Type 0} (cmp : NID → NID → Ordering) (default : N) where
  -- a voter without data gets the default
  abbrev pub with_voter : List (NID × N) → NID → List (NID × N)
  with_voter nodes id = if is_some (lookup (is_at (cmp id)) nodes) then nodes else insert_entry cmp nodes id default

  abbrev pub with_voters : List (NID × N) → List NID → List (NID × N)
  with_voters nodes ids = fold with_voter nodes ids

  -- the membership of these groups and nodes: an id counts once in its group, the last data of a repeated node counts
  abbrev pub members_of : List (List NID) → List (NID × N) → Members NID N
  members_of groups nodes =
      record { groups = map (group_of cmp) groups; nodes = fold with_voters (placed_nodes cmp nodes) (map (group_of cmp) groups) }
