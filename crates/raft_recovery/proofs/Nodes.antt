-- The nodes of a world by their ids.
use Rattle.std.proofs.Common.{ℕ, ◌≡◌, ◌≢◌, inl, inr, Bool, true, false, cond, List, [], ◌∷◌, map, arith, refl, None, Some}
use Rattle.std.specs.Prelude.{nat_eq}
use Rattle.std.proofs.lemmas.Bool.Decides.{nat_tests}
use Rattle.raft_node.specs.Net.{NodeView, node_at}
use Rattle.proof_progress.specs.Continuations.{At}
use Rattle.proof_progress.specs.Elections.{Listed}

pub same : (a b : ℕ) → nat_eq a b ≡ true → a ≡ b
same a b e = grind (arith, nat_tests)

apart : (a b : ℕ) → nat_eq a b ≡ false → a ≢ b
apart a b e q = grind (arith, nat_tests)

pub is_same : (a b : ℕ) → a ≡ b → nat_eq a b ≡ true
is_same a b q = grind (arith, nat_tests)

is_apart : (a b : ℕ) → a ≢ b → nat_eq a b ≡ false
is_apart a b q = grind (arith, nat_tests)

-- a node that was found is there
pub at_of : (nodes : List NodeView) (id : ℕ) (N : NodeView) → node_at nodes id ≡ Some N → At nodes id N
at_of [] id N h = cc
at_of (x ∷ xs) id N h = go (at_of xs id N) (nat_eq x.id id) refl h
  where
    first : Some x ≡ Some N → x ≡ N
    first q = cc

    go : (node_at xs id ≡ Some N → At xs id N) → (b : Bool) → nat_eq x.id id ≡ b → cond b (Some x) (node_at xs id) ≡ Some N → At (x ∷ xs) id N
    go f true e k = inl (same x.id id e, first k)
    go f false e k = inr (apart x.id id e, f k)

-- and one that is there is found
pub of_at : (nodes : List NodeView) (id : ℕ) (N : NodeView) → At nodes id N → node_at nodes id ≡ Some N
of_at [] id N h = absurd h
of_at (x ∷ xs) id N (inl h) = go (nat_eq x.id id) (is_same x.id id h.0)
  where
    go : (b : Bool) → b ≡ true → cond b (Some x) (node_at xs id) ≡ Some N
    go true e = λ i. Some (h.1 i)
    go false e = cc
of_at (x ∷ xs) id N (inr h) = go (of_at xs id N h.1) (nat_eq x.id id) (is_apart x.id id h.0)
  where
    go : node_at xs id ≡ Some N → (b : Bool) → b ≡ false → cond b (Some x) (node_at xs id) ≡ Some N
    go r true e = cc
    go r false e = r

-- a node that is there is the one that is found
pub node_is : (nodes : List NodeView) (id : ℕ) (N M : NodeView) → node_at nodes id ≡ Some N → At nodes id M → N ≡ M
node_is nodes id N M n at = let m : node_at nodes id ≡ Some M = of_at nodes id M at in cc

pub none_there : (nodes : List NodeView) (id : ℕ) (M : NodeView) → node_at nodes id ≡ None → At nodes id M → ⊥
none_there nodes id M n at = let m : node_at nodes id ≡ Some M = of_at nodes id M at in cc

-- an id at which none is found is no node's
pub no_node : (nodes : List NodeView) (id : ℕ) → node_at nodes id ≡ None → Listed (map (λ N. N.id) nodes) id → ⊥
no_node [] id h l = l
no_node (x ∷ xs) id h (inl q) = go (nat_eq x.id id) (is_same x.id id q) h
  where
    go : (b : Bool) → b ≡ true → cond b (Some x) (node_at xs id) ≡ None → ⊥
    go true e k = cc
    go false e k = cc
no_node (x ∷ xs) id h (inr l) = go (no_node xs id) (nat_eq x.id id) h
  where
    go : (node_at xs id ≡ None → Listed (map (λ N. N.id) xs) id → ⊥) → (b : Bool) → cond b (Some x) (node_at xs id) ≡ None → ⊥
    go f true k = cc
    go f false k = f k l
