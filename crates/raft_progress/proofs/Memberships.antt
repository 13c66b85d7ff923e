-- The ids of a membership's groups are its voters, and its learners come after them.
use Rattle.std.proofs.Common.{◌≡◌, ◌∙◌, sym, refl, ap, Bool, true, false, not, ◌||◌, ◌&&◌, List, [], ◌∷◌, cond, fold, filter}
use Rattle.std.specs.declared.cmp.Ordering.{Ordering}
use Rattle.std.specs.declared.cmp.Ordering.TheVariants.{Less, Equal, Greater}
use Rattle.std.specs.Cmp.{IsTotalOrder}
use Rattle.std.specs.Ordering.{is_eq, match_ordering}
use Rattle.std.specs.List.{list_all, list_any}
use Rattle.std.specs.List.Sorted.{IsStrictlySortedBy}
use Rattle.std.specs.Map.{keys_of}
use Rattle.std.specs.BTreeMap.{is_at}
use Rattle.std.specs.BTreeSet.{insert_key}
use Rattle.std.proofs.lemmas.List.Folds.{list_any-append}
use Rattle.std.proofs.lemmas.List.Kept.{IsStrictlySortedBy-filter}
use Rattle.std.proofs.lemmas.Map.Lookups.{btree_set_from_contains}
use Rattle.std.proofs.lemmas.Map.Views.{any-filter_same, tells_apart}
use Rattle.raft_state.specs.declared.membership.Members.{Members}
use Rattle.raft_state.specs.Members.{group_of, is_voter, voter_ids, learner_ids}
use Rattle.raft_state.specs.Sorted.{has_id, IsSound}
use Rattle.raft_state.proofs.Groups.{group_ascends}
use Rattle.raft_progress.specs.Quorum.{joined, ids_of}
use Rattle.raft_progress.specs.QuorumLaws.{ids_ascend}
use Rattle.raft_progress.specs.Table.{learners_beside}

or_itself : (a b : Bool) → (a || b) ≡ (a || (a || b))
or_itself true b = refl
or_itself false b = refl

or_swap : (a b c : Bool) → (a || (b || c)) ≡ (b || (a || c))
or_swap true true c = refl
or_swap true false c = refl
or_swap false b c = refl

or_turn : (a b c : Bool) → (b || (a || c)) ≡ ((a || b) || c)
or_turn true true c = refl
or_turn true false c = refl
or_turn false b c = refl

or_false : (a : Bool) → (a || false) ≡ a
or_false true = refl
or_false false = refl

and_implied : (a b : Bool) → (a ≡ true → b ≡ true) → (a && b) ≡ a
and_implied true b f = f refl
and_implied false b f = refl

or_cases : (a b c : Bool) → (a ≡ true → c ≡ true) → (b ≡ true → c ≡ true) → (a || b) ≡ true → c ≡ true
or_cases true b c f g h = f refl
or_cases false b c f g h = g h

both : (a b : Bool) → (a && b) ≡ true → (a ≡ true) × (b ≡ true)
both true b h = (refl, h)
both false b h = let e : false ≡ true = h in cc

again_step : {A : Type 0} (p : A → Bool) (x : A) (xs : List A) (b : Bool) → p x ≡ b → filter p (filter p xs) ≡ filter p xs → filter p (cond b (x ∷ filter p xs) (filter p xs)) ≡ cond b (x ∷ filter p xs) (filter p xs)
again_step p x xs true e rest = rw e (ap (λ ys. x ∷ ys) rest)
again_step p x xs false e rest = rest

-- what passes a test passes it again
filter_again : {A : Type 0} (p : A → Bool) (xs : List A) → filter p (filter p xs) ≡ filter p xs
filter_again p [] = refl
filter_again p (x ∷ xs) = again_step p x xs (p x) refl (filter_again p xs)

module _ {NID : Type 0} (cmp : NID → NID → Ordering) (total : IsTotalOrder cmp) (exact : (a b : NID) → cmp a b ≡ Equal → a ≡ b) where
  -- ascending lists of the same ids are the same
  pub same_ids : (xs ys : List NID) → IsStrictlySortedBy cmp xs → IsStrictlySortedBy cmp ys → ((q : NID) → has_id cmp xs q ≡ has_id cmp ys q) → xs ≡ ys
  same_ids xs ys s t h = btree_set_from_contains total (record { keys = xs }) (record { keys = ys }) s t h exact

  has_inserted : (q k : NID) (ks : List NID) → has_id cmp (insert_key cmp ks k) q ≡ (is_eq (cmp q k) || has_id cmp ks q)
  has_inserted q k [] = refl
  has_inserted q k (x ∷ xs) =
      elim (cmp k x) as (λ r. cmp k x ≡ r → has_id cmp (match_ordering r (k ∷ x ∷ xs) (x ∷ xs) (x ∷ insert_key cmp xs k)) q ≡ (is_eq (cmp q k) || (is_eq (cmp q x) || has_id cmp xs q))) [
        | Less ↦ λ e. refl
        | Equal ↦ λ e. or_itself (is_eq (cmp q x)) (has_id cmp xs q) ∙ ap (λ y. is_eq (cmp q y) || (is_eq (cmp q x) || has_id cmp xs q)) (sym (exact k x e))
        | Greater ↦ λ e. ap (λ b. is_eq (cmp q x) || b) (has_inserted q k xs) ∙ or_swap (is_eq (cmp q x)) (is_eq (cmp q k)) (has_id cmp xs q)
      ] refl

  has_filled : (q : NID) (ids done : List NID) → has_id cmp (fold (insert_key cmp) done ids) q ≡ (has_id cmp ids q || has_id cmp done q)
  has_filled q [] done = refl
  has_filled q (x ∷ xs) done =
      has_filled q xs (insert_key cmp done x) ∙ ap (λ b. has_id cmp xs q || b) (has_inserted q x done)
      ∙ or_turn (is_eq (cmp q x)) (has_id cmp xs q) (has_id cmp done q)

  -- a group has the ids that it is made of
  pub has_group : (ids : List NID) (q : NID) → has_id cmp (group_of cmp ids) q ≡ has_id cmp ids q
  has_group ids q = has_filled q ids [] ∙ or_false (has_id cmp ids q)

  -- an ascending group stays as it is
  pub group_of_ascending : (ids : List NID) → IsStrictlySortedBy cmp ids → group_of cmp ids ≡ ids
  group_of_ascending ids s = same_ids (group_of cmp ids) ids (group_ascends cmp total ids) s (has_group ids)

  has_joined : (groups : List (List NID)) (q : NID) → has_id cmp (joined groups) q ≡ list_any (λ group. has_id cmp group q) groups
  has_joined [] q = refl
  has_joined (g ∷ gs) q = list_any-append (is_at (cmp q)) g (joined gs) ∙ ap (λ b. has_id cmp g q || b) (has_joined gs q)

  -- the ids of groups are those in some group
  pub has_ids : (groups : List (List NID)) (q : NID) → has_id cmp (ids_of cmp groups) q ≡ list_any (λ group. has_id cmp group q) groups
  has_ids groups q = has_group (joined groups) q ∙ has_joined groups q

  held : (keys ids : List NID) (q : NID) → list_all (has_id cmp keys) ids ≡ true → has_id cmp ids q ≡ true → has_id cmp keys q ≡ true
  held keys [] q all h = let e : false ≡ true = h in cc
  held keys (x ∷ xs) q all h =
      let parts = both (has_id cmp keys x) (list_all (has_id cmp keys) xs) all in
      or_cases (is_eq (cmp q x)) (has_id cmp xs q) (has_id cmp keys q)
      (λ e. ap (has_id cmp keys) (tells_apart exact q x e) ∙ parts.0) (held keys xs q parts.1) h

  held_in_some : (keys : List NID) (groups : List (List NID)) (q : NID) → list_all (λ group. list_all (has_id cmp keys) group) groups ≡ true → list_any (λ group. has_id cmp group q) groups ≡ true → has_id cmp keys q ≡ true
  held_in_some keys [] q all h = let e : false ≡ true = h in cc
  held_in_some keys (g ∷ gs) q all h =
      let parts = both (list_all (has_id cmp keys) g) (list_all (λ group. list_all (has_id cmp keys) group) gs) all in
      or_cases (has_id cmp g q) (list_any (λ group. has_id cmp group q) gs) (has_id cmp keys q) (held keys g q parts.0) (held_in_some keys gs q parts.1) h

  module _ {N : Type 0} where
    has_voter : (m : Members NID N) → IsSound cmp m.groups m.nodes → (q : NID) → has_id cmp (voter_ids cmp m) q ≡ is_voter cmp m q
    has_voter m sound q =
        any-filter_same (is_at (cmp q)) (is_voter cmp m) (is_voter cmp m q) (λ k e. ap (is_voter cmp m) (sym (tells_apart exact q k e))) (keys_of m.nodes)
        ∙ and_implied (is_voter cmp m q) (has_id cmp (keys_of m.nodes) q) (held_in_some (keys_of m.nodes) m.groups q sound.voters)

    -- the ids of a membership's groups are its voters
    pub voters_are : (m : Members NID N) → IsSound cmp m.groups m.nodes → ids_of cmp m.groups ≡ voter_ids cmp m
    voters_are m sound =
        same_ids (ids_of cmp m.groups) (voter_ids cmp m) (ids_ascend cmp total m.groups)
        (IsStrictlySortedBy-filter cmp (is_voter cmp m) (keys_of m.nodes) sound.ordered)
        (λ q. has_ids m.groups q ∙ sym (has_voter m sound q))

    -- a membership's learners stand beside its voters
    pub learners_are : (m : Members NID N) → IsSound cmp m.groups m.nodes → learners_beside cmp (voter_ids cmp m) (learner_ids cmp m) ≡ learner_ids cmp m
    learners_are m sound =
        ap (filter (λ id. not (has_id cmp (voter_ids cmp m) id))) (group_of_ascending (learner_ids cmp m) (IsStrictlySortedBy-filter cmp (λ id. not (is_voter cmp m id)) (keys_of m.nodes) sound.ordered))
        ∙ (λ i. filter (λ id. not (has_voter m sound id i)) (learner_ids cmp m))
        ∙ filter_again (λ id. not (is_voter cmp m id)) (keys_of m.nodes)
