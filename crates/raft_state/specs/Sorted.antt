-- Ids and nodes in order.
use Rattle.std.specs.Prelude.{◌≡◌, true, Bool, List, All}
use Rattle.std.specs.List.{list_any, list_all}
use Rattle.std.specs.List.Sorted.{IsStrictlySortedBy}
use Rattle.std.specs.Map.{keys_of}
use Rattle.std.specs.BTreeMap.{is_at}
use Rattle.std.specs.declared.cmp.Ordering.{Ordering}

-- the id is in the list
abbrev pub has_id : {NID : Type 0} → (NID → NID → Ordering) → List NID → NID → Bool
has_id cmp ids id = list_any (is_at (cmp id)) ids

module _ {NID N : Type 0} (cmp : NID → NID → Ordering) where
  -- each group and the nodes ascend by id, each id once, and each voter is a node
  pub record IsSound (groups : List (List NID)) (nodes : List (NID × N)) : Type 0 where
    pub groups_ordered : All (IsStrictlySortedBy cmp) groups
    pub ordered : IsStrictlySortedBy cmp (keys_of nodes)
    pub voters : list_all (λ group. list_all (has_id cmp (keys_of nodes)) group) groups ≡ true
