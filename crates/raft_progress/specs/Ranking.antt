-- The voters in falling order of value, and what is asked of them (openraft's `VecProgress` keeps its voters in this order).
use Rattle.std.specs.Prelude.{Bool, ℕ, List, [], ◌∷◌, ◌++◌, Option, None, Some, find, if◌then◌else◌, not, ◌&&◌, ◌||◌}
use Rattle.std.specs.List.Sorted.{IsPermutation, IsSortedBy, IsSortedWithin}
use Rattle.std.specs.Option.{option_map}
use Rattle.std.specs.declared.cmp.Ordering.{Ordering}
use Rattle.std.specs.Ordering.{is_eq, is_lt}
use Rattle.raft_progress.specs.Table.{is_row_of}

module _ {ID P : Type 0} (cmp : P → P → Ordering) where
  -- no voter's value is above that of the one before it
  abbrev pub IsFalling : List (ID × P) → Type 0
  IsFalling ranked = IsSortedBy (λ later earlier. is_lt (cmp earlier.1 later.1)) ranked

  -- the same of the first n voters
  abbrev pub IsFallingUpTo : ℕ → List (ID × P) → Type 0
  IsFallingUpTo n ranked = IsSortedWithin (λ later earlier. is_lt (cmp earlier.1 later.1)) ranked 0 n

  -- the voters with their values, in falling order of value
  pub record IsRanking (voters ranked : List (ID × P)) : Type 0 where
    pub same : IsPermutation voters ranked
    pub falling : IsFalling ranked

module _ {ID P Q : Type 0} (is_quorum : Q → List ID → Bool) where
  -- the value at which these ids and the beginning of a ranking up to it are a quorum for the first time
  abbrev pub first_reached : Q → List ID → List (ID × P) → Option P
  first_reached set ids [] = None
  first_reached set ids (voter ∷ ranked) = if is_quorum set (ids ++ voter.0 ∷ []) then Some voter.1 else first_reached set (ids ++ voter.0 ∷ []) ranked

module _ {ID V P : Type 0} (cmp : P → P → Ordering) (measure : V → P) where
  -- the first row's value that is equal to p
  abbrev pub first_equal : P → List (ID × V) → Option P
  first_equal p rows = option_map (λ row. measure row.1) (find (λ row. is_eq (cmp (measure row.1) p)) rows)

-- two values stand on the same side of the granted one
abbrev pub same_side : {P : Type 0} → (P → P → Ordering) → P → P → P → Bool
same_side cmp granted old new = (is_lt (cmp old granted) && is_lt (cmp new granted)) || (is_lt (cmp granted old) && is_lt (cmp granted new))

module _ {ID V P : Type 0} (id_cmp : ID → ID → Ordering) (cmp : P → P → Ordering) (measure : V → P) where
  -- the row isn't the id's, or its value stands on the same side of the granted one as the new value
  abbrev pub row_stays : ID → P → P → ID × V → Bool
  row_stays id granted new row = not (is_row_of id_cmp id row) || same_side cmp granted (measure row.1) new
