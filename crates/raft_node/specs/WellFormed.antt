-- Which worlds are made: those whose ids are distinct, and whose first membership has voters.
use Rattle.std.specs.Prelude.{ℕ, ◌<◌, ◌^◌, ◌≡◌, ◌==◌, ◌||◌, All, Bool, false, List, [], ◌∷◌, length, nat_eq, nat_lt}
use Rattle.std.specs.List.{list_any}
use Rattle.raft_node.specs.declared.given.Given.{Given}

-- an id stands twice in the list
abbrev pub has_twice : List ℕ → Bool
has_twice [] = false
has_twice (id ∷ ids) = list_any (λ other. nat_eq other id) ids || has_twice ids

-- there is no group of voters, an empty one, or more than four
abbrev pub lacks_voters : List (List ℕ) → Bool
lacks_voters groups = (length groups == 0) || list_any (λ group. length group == 0) groups || nat_lt 4 (length groups)

-- each id is a u64 and stands once, and there are one to four groups of voters, none of them empty
pub record IsWellFormed (given : Given) : Type 0 where
  pub named : All (λ id. id < 2 ^ 64) given.ids
  pub once : has_twice given.ids ≡ false
  pub voters : lacks_voters given.membership.groups ≡ false
