-- A group of voters ascends, each id once.
use Rattle.std.proofs.Common.{◌≡◌, ◌∙◌, refl, ap, List, [], ◌∷◌, map, fold}
use Rattle.std.specs.Prelude.{All}
use Rattle.std.specs.List.{AllByRecursion}
use Rattle.std.specs.List.Sorted.{IsStrictlySortedBy}
use Rattle.std.specs.BTreeSet.{insert_key}
use Rattle.std.specs.declared.cmp.Ordering.{Ordering}
use Rattle.std.specs.declared.cmp.Ordering.TheVariants.{Less, Equal, Greater}
use Rattle.std.specs.Cmp.{IsTotalOrder}
use Rattle.std.specs.Ordering.{match_ordering, ordering_reverse}
use Rattle.std.proofs.lemmas.List.Elements.{All-cons, All-nil}
use Rattle.raft_state.specs.Members.{group_of}
use Rattle.raft_state.proofs.LogLists.{each_map}

module _ {K : Type 0} (cmp : K → K → Ordering) (total : IsTotalOrder cmp) where
  each_inserted : (P : K → Type 0) (k : K) (ks : List K) → AllByRecursion P ks → P k → AllByRecursion P (insert_key cmp ks k)
  each_inserted P k [] a p = (p, tt)
  each_inserted P k (x ∷ xs) a p =
      elim (cmp k x) as (λ r. AllByRecursion P (match_ordering r (k ∷ x ∷ xs) (x ∷ xs) (x ∷ insert_key cmp xs k))) [
        | Less ↦ (p, a)
        | Equal ↦ a
        | Greater ↦ (a.0, each_inserted P k xs a.1 p)
      ]

  inserted : (k : K) (ks : List K) → IsStrictlySortedBy cmp ks → IsStrictlySortedBy cmp (insert_key cmp ks k)
  unfolding IsStrictlySortedBy
  inserted k [] h = (tt, tt)
  inserted k (x ∷ xs) h =
      elim (cmp k x) as (λ r. cmp k x ≡ r → IsStrictlySortedBy cmp (match_ordering r (k ∷ x ∷ xs) (x ∷ xs) (x ∷ insert_key cmp xs k))) [
        | Less ↦ λ e. ((e, each_map (λ y. cmp x y ≡ Less) (λ y. cmp k y ≡ Less) (λ y l. total.trans k x y e l) xs h.0), h)
        | Equal ↦ λ e. h
        | Greater ↦ λ e. (each_inserted (λ y. cmp x y ≡ Less) k xs h.0 (total.antisymm x k ∙ ap ordering_reverse e), inserted k xs h.1)
      ] refl

  placed : (ids ks : List K) → IsStrictlySortedBy cmp ks → IsStrictlySortedBy cmp (fold (insert_key cmp) ks ids)
  placed [] ks h = h
  placed (x ∷ xs) ks h = placed xs (insert_key cmp ks x) (inserted x ks h)

  -- a group that is made ascends
  pub group_ascends : (ids : List K) → IsStrictlySortedBy cmp (group_of cmp ids)
  unfolding IsStrictlySortedBy
  group_ascends ids = placed ids [] tt

  -- and so do all of them
  pub groups_ascend : (groups : List (List K)) → All (IsStrictlySortedBy cmp) (map (group_of cmp) groups)
  groups_ascend [] = All-nil (IsStrictlySortedBy cmp)
  groups_ascend (ids ∷ rest) = All-cons (IsStrictlySortedBy cmp) (group_of cmp ids) (map (group_of cmp) rest) (group_ascends ids) (groups_ascend rest)
