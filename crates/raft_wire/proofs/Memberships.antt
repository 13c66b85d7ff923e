-- A membership is what its groups and its learners make, so that it is written as these.
use Rattle.std.proofs.Common.{ℕ, ◌≡◌, Bool, true, false, not, ◌&&◌, ◌||◌, List, [], ◌∷◌, ◌++◌, Result, map, refl, sym, ap, subst, ◌∙◌, append_assoc, rules}
use Rattle.std.specs.Prelude.{fold}
use Rattle.std.specs.List.{AllByRecursion, list_any, list_all}
use Rattle.std.specs.List.Sorted.{IsStrictlySortedBy}
use Rattle.std.specs.Map.{keys_of}
use Rattle.std.specs.Ordering.{nat_cmp, is_eq}
use Rattle.std.specs.declared.cmp.Ordering.{Ordering}
use Rattle.std.specs.declared.cmp.Ordering.TheVariants.{Less, Equal, Greater}
use Rattle.std.proofs.lemmas.Cmp.{nat_cmp_total}
use Rattle.std.proofs.lemmas.List.Elements.{recursion_from_All}
use Rattle.std.proofs.lemmas.Result.{on_ok_weaker}
use Rattle.raft_state.specs.declared.membership.Members.{Members}
use Rattle.raft_state.specs.Members.{group_of, placed_nodes, with_voters, is_voter, learner_ids}
use Rattle.raft_state.specs.Sorted.{has_id, IsSound}
use Rattle.raft_codec.specs.Codec.{Writes, number, list}
use Rattle.raft_wire.specs.Values.{sent, made, membership}
use Rattle.raft_wire.proofs.Ascending.{group_itself, placed_grown, groups_grown, by_keys, has_filtered, same_ascending}

both_true : (a b : Bool) → (a && b) ≡ true → (a ≡ true) × (b ≡ true)
both_true true b e = (refl, e)
both_true false b e = absurd cc

is_equal : (r : Ordering) → is_eq r ≡ true → r ≡ Equal
is_equal Less e = cc
is_equal Equal e = refl
is_equal Greater e = cc

same_id : (a b : ℕ) → nat_cmp a b ≡ Equal → a ≡ b
same_id a b e = search (rules, e)

groups_themselves : (groups : List (List ℕ)) → AllByRecursion (IsStrictlySortedBy nat_cmp) groups → map (group_of nat_cmp) groups ≡ groups
groups_themselves [] a = refl
groups_themselves (g ∷ gs) a =
    let p = group_itself nat_cmp nat_cmp_total same_id g a.0 in
    let q = groups_themselves gs a.1 in
    cc

-- a test that holds of all of a list holds of what is in it
of_all : (p : ℕ → Bool) (ids : List ℕ) (q : ℕ) → list_all p ids ≡ true → has_id nat_cmp ids q ≡ true → p q ≡ true
of_all p [] q a h = absurd cc
of_all p (x ∷ xs) q a h =
    let b = both_true (p x) (list_all p xs) a in
    elim (is_eq (nat_cmp q x)) as (λ t. is_eq (nat_cmp q x) ≡ t → (t || has_id nat_cmp xs q) ≡ true → p q ≡ true) [
      | true ↦ λ t k. ap p (same_id q x (is_equal (nat_cmp q x) t)) ∙ b.0
      | false ↦ λ t k. of_all p xs q b.1 k
    ] refl h

voter_there : (p : ℕ → Bool) (groups : List (List ℕ)) (q : ℕ) → list_all (λ g. list_all p g) groups ≡ true → list_any (λ g. has_id nat_cmp g q) groups ≡ true → p q ≡ true
voter_there p [] q a h = absurd cc
voter_there p (g ∷ gs) q a h =
    let b = both_true (list_all p g) (list_all (λ g. list_all p g) gs) a in
    elim (has_id nat_cmp g q) as (λ t. has_id nat_cmp g q ≡ t → (t || list_any (λ g. has_id nat_cmp g q) gs) ≡ true → p q ≡ true) [
      | true ↦ λ t k. of_all p g q b.0 t
      | false ↦ λ t k. voter_there p gs q b.1 k
    ] refl h

-- voters, and the other nodes: all nodes
all_nodes : (v h : Bool) → (v ≡ true → h ≡ true) → (v || ((h && not v) || false)) ≡ h
all_nodes true h f = sym (f refl)
all_nodes false true f = refl
all_nodes false false f = refl

pub made_of_sent : (m : Members ℕ (Unit {0})) → IsSound nat_cmp m.groups m.nodes → made (sent m) ≡ m
unfolding IsStrictlySortedBy
made_of_sent m s =
    let learners = learner_ids nat_cmp m in
    let placed = placed_grown nat_cmp nat_cmp_total same_id learners [] tt in
    let base = placed_nodes nat_cmp (map (λ id. (id, tt)) learners) in
    let grown = groups_grown nat_cmp nat_cmp_total same_id m.groups base placed.ascends in
    let nodes = fold (with_voters nat_cmp tt) base m.groups in
    let has_same : (q : ℕ) → has_id nat_cmp (keys_of nodes) q ≡ has_id nat_cmp (keys_of m.nodes) q = λ q.
    grown.has_all q
    ∙ ap (λ b. is_voter nat_cmp m q || b) (placed.has_all q)
    ∙ ap (λ b. is_voter nat_cmp m q || (b || false)) (has_filtered nat_cmp nat_cmp_total same_id (λ id. not (is_voter nat_cmp m id)) (keys_of m.nodes) q)
    ∙ all_nodes (is_voter nat_cmp m q) (has_id nat_cmp (keys_of m.nodes) q) (voter_there (has_id nat_cmp (keys_of m.nodes)) m.groups q s.voters) in
    let keys : keys_of nodes ≡ keys_of m.nodes = same_ascending nat_cmp nat_cmp_total same_id (keys_of nodes) (keys_of m.nodes) grown.ascends s.ordered has_same in
    let same_nodes : nodes ≡ m.nodes = sym (by_keys nat_cmp nat_cmp_total same_id nodes) ∙ ap (map (λ id. (id, tt))) keys ∙ by_keys nat_cmp nat_cmp_total same_id m.nodes in
    let groups : map (group_of nat_cmp) m.groups ≡ m.groups = groups_themselves m.groups (recursion_from_All (IsStrictlySortedBy nat_cmp) m.groups s.groups_ordered) in
    let made_nodes : fold (with_voters nat_cmp tt) base (map (group_of nat_cmp) m.groups) ≡ m.nodes = ap (fold (with_voters nat_cmp tt) base) groups ∙ same_nodes in
    λ i. record { groups = groups i; nodes = made_nodes i }

-- groups, and then learners
pub membership_written : {E : Type 0} (m : Members ℕ (Unit {0})) (groups : List (List ℕ)) (learners old middle new : List ℕ) (r : Result (Unit {0}) E) → IsSound nat_cmp m.groups m.nodes
    → groups ≡ m.groups → learners ≡ learner_ids nat_cmp m
    → (list (list number)).fits groups × (middle ≡ old ++ (list (list number)).bytes groups) → Writes (list number) learners r middle new → Writes membership m r old new
unfolding membership
membership_written m groups learners old middle new r sound g l first second =
    let a = subst (λ gs. (list (list number)).fits gs × (middle ≡ old ++ (list (list number)).bytes gs)) g first in
    let b = subst (λ ls. Writes (list number) ls r middle new) l second in
    on_ok_weaker r (λ h. (
      ((a.0, h.0), made_of_sent m sound),
      h.1 ∙ ap (λ bs. bs ++ (list number).bytes (learner_ids nat_cmp m)) a.1 ∙ append_assoc old ((list (list number)).bytes m.groups) ((list number).bytes (learner_ids nat_cmp m)),
    )) b
