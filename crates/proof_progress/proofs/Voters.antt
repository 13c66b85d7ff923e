-- The voters of a membership: among its members, and among the other nodes; and those with whom a node is a quorum.
use Rattle.std.proofs.Common.{ℕ, ◌≡◌, ◌≢◌, inl, inr, Bool, true, false, not, cond, List, [], ◌∷◌, ◌++◌, arith, refl, sym, ap, subst}
use Rattle.std.specs.Prelude.{◌||◌, filter, map, nat_eq}
use Rattle.std.specs.List.{AllByRecursion, list_any}
use Rattle.std.specs.Ordering.{is_eq, nat_cmp}
use Rattle.std.proofs.lemmas.Bool.Decides.{nat_tests}
use Rattle.proof_deeds.specs.raft_state.declared.membership.Members.{Members}
use Rattle.proof_deeds.specs.raft_state.Members.{contains, is_voter, learner_ids, voter_ids}
use Rattle.proof_deeds.specs.raft_state.Sorted.{has_id}
use Rattle.proof_deeds.proofs.raft_state_proofs.Orders.{or_left, or_right}
use Rattle.proof_deeds.specs.raft_progress.Quorum.{is_quorum}
use Rattle.proof_deeds.specs.raft_node.Execute.{others}
use Rattle.proof_progress.specs.Elections.{Listed}
use Rattle.proof_progress.proofs.Conditions.{over}
use Rattle.proof_progress.proofs.Elects.{itself}
use Rattle.proof_progress.proofs.Tables.{all_within, eq_of, quorum_more}

-- what a filter lets through
pub from_filter : (p : ℕ → Bool) (xs : List ℕ) (t : ℕ) → Listed (filter p xs) t → Listed xs t × (p t ≡ true)
from_filter p [] t h = absurd h
from_filter p (x ∷ xs) t h = go (from_filter p xs t) (p x) refl h
  where
    go : (Listed (filter p xs) t → Listed xs t × (p t ≡ true)) → (b : Bool) → p x ≡ b → Listed (cond b (x ∷ filter p xs) (filter p xs)) t → Listed (x ∷ xs) t × (p t ≡ true)
    go f true e (inl q) = (inl q, subst (λ i. p i ≡ true) q e)
    go f true e (inr q) = (inr (f q).0, (f q).1)
    go f false e q = (inr (f q).0, (f q).1)

pub to_filter : (p : ℕ → Bool) (xs : List ℕ) (t : ℕ) → Listed xs t → p t ≡ true → Listed (filter p xs) t
to_filter p [] t h k = absurd h
to_filter p (x ∷ xs) t h k = go (to_filter p xs t) (p x) refl h
  where
    go : (Listed xs t → p t ≡ true → Listed (filter p xs) t) → (b : Bool) → p x ≡ b → Listed (x ∷ xs) t → Listed (cond b (x ∷ filter p xs) (filter p xs)) t
    go f true e (inl q) = inl q
    go f true e (inr q) = inr (f q k)
    go f false e (inl q) = let z : p x ≡ true = subst (λ i. p i ≡ true) (sym q) k in cc
    go f false e (inr q) = f q k

listed_left : (xs ys : List ℕ) (t : ℕ) → Listed xs t → Listed (xs ++ ys) t
listed_left [] ys t h = absurd h
listed_left (x ∷ xs) ys t (inl q) = inl q
listed_left (x ∷ xs) ys t (inr q) = inr (listed_left xs ys t q)

among_nodes : (nodes : List (ℕ × Unit {0})) (t : ℕ) → Listed (map (λ entry. entry.0) nodes) t → list_any (λ entry. is_eq (nat_cmp t entry.0)) nodes ≡ true
among_nodes [] t h = absurd h
among_nodes (x ∷ xs) t (inl q) = or_left (is_eq (nat_cmp t x.0)) _ (subst (λ i. is_eq (nat_cmp t i) ≡ true) (sym q) (ap is_eq (itself t)))
among_nodes (x ∷ xs) t (inr q) = or_right (is_eq (nat_cmp t x.0)) _ (among_nodes xs t q)

node_among : (nodes : List (ℕ × Unit {0})) (t : ℕ) → list_any (λ entry. is_eq (nat_cmp t entry.0)) nodes ≡ true → Listed (map (λ entry. entry.0) nodes) t
node_among [] t h = cc
node_among (x ∷ xs) t h = go (is_eq (nat_cmp t x.0)) refl (node_among xs t) h
  where
    go : (b : Bool) → is_eq (nat_cmp t x.0) ≡ b → (list_any (λ entry. is_eq (nat_cmp t entry.0)) xs ≡ true → Listed (map (λ entry. entry.0) xs) t)
        → (b || list_any (λ entry. is_eq (nat_cmp t entry.0)) xs) ≡ true → Listed (map (λ entry. entry.0) (x ∷ xs)) t
    go true e f k = inl (sym (eq_of t x.0 e))
    go false e f k = inr (f k)

-- a member in some group is a voter
pub listed_voter : (m : Members ℕ (Unit {0})) (t : ℕ) → contains nat_cmp m t ≡ true → is_voter nat_cmp m t ≡ true → Listed (voter_ids nat_cmp m) t
listed_voter m t h k = to_filter (is_voter nat_cmp m) (map (λ entry. entry.0) m.nodes) t (node_among m.nodes t h) k

module _ (m : Members ℕ (Unit {0})) (t : ℕ) (h : Listed (voter_ids nat_cmp m) t) where
  -- a voter is a member
  pub voter_is_member : contains nat_cmp m t ≡ true
  voter_is_member = among_nodes m.nodes t (from_filter (is_voter nat_cmp m) (map (λ entry. entry.0) m.nodes) t h).0

  pub voter_votes : is_voter nat_cmp m t ≡ true
  voter_votes = (from_filter (is_voter nat_cmp m) (map (λ entry. entry.0) m.nodes) t h).1

  -- and one of the other nodes
  pub voter_is_other : (n : ℕ) → t ≢ n → Listed (others n m) t
  voter_is_other n d = to_filter (λ to. not (nat_eq to n)) (voter_ids nat_cmp m ++ learner_ids nat_cmp m) t (listed_left (voter_ids nat_cmp m) (learner_ids nat_cmp m) t h) (apart t n d)
    where
      apart : (a b : ℕ) → a ≢ b → not (nat_eq a b) ≡ true
      apart a b d = grind (arith, nat_tests)

-- The order of the voters doesn't matter

has_over : (ts G : List ℕ) (g : ℕ) → has_id nat_cmp G g ≡ true → has_id nat_cmp (over ts G) g ≡ true
has_over [] G g h = h
has_over (t ∷ ts) G g h = has_over ts (t ∷ G) g (or_right (is_eq (nat_cmp g t)) (has_id nat_cmp G g) h)

each_over : (ts G : List ℕ) → AllByRecursion (λ t. has_id nat_cmp (over ts G) t ≡ true) ts
each_over [] G = tt
each_over (t ∷ ts) G = (has_over ts (t ∷ G) t (or_left (is_eq (nat_cmp t t)) (has_id nat_cmp G t) (ap is_eq (itself t))), each_over ts (t ∷ G))

pub quorum_over : (groups : List (List ℕ)) (n : ℕ) (ts : List ℕ) → is_quorum nat_cmp groups (n ∷ ts) ≡ true → is_quorum nat_cmp groups (over ts (n ∷ [])) ≡ true
quorum_over groups n ts q =
    quorum_more (n ∷ ts) (over ts (n ∷ [])) (all_within (n ∷ ts) (over ts (n ∷ [])) (has_over ts (n ∷ []) n (or_left (is_eq (nat_cmp n n)) false (ap is_eq (itself n))), each_over ts (n ∷ []))) groups q
