-- One node of a list takes another's place; nodes that do nothing follow on.
use Rattle.std.proofs.Common.{ℕ, zero, suc, ◌+◌, ◌≤◌, ◌≡◌, ◌≢◌, Bool, true, false, not, cond, List, [], ◌∷◌, length, arith, refl, sym, ap, ◌∙◌, subst, Option, None, Some}
use Rattle.std.specs.Prelude.{nat_eq, nat_lt, position, slice_get, slice_set}
use Rattle.std.specs.List.{AllByRecursion, position_or_len, prefix_len}
use Rattle.std.proofs.lemmas.Bool.Decides.{nat_tests}
use Rattle.std.proofs.lemmas.List.Folds.{find_at}
use Rattle.std.proofs.lemmas.Option.{slice_get_past}
use Rattle.proof_agreement.specs.Machine.{Setup}
use Rattle.raft_node.specs.raft_store.declared.entry.Entry.{Entry}
use Rattle.raft_node.specs.Events.{place_of}
use Rattle.raft_node.specs.Execute.{effects}
use Rattle.raft_node.specs.Net.{NodeView, Records, node_at}
use Rattle.proof_deeds.specs.Chains.{Does}
use Rattle.proof_deeds.specs.Follows.{StoreIs, RecordsAre, RestIs}
use Rattle.proof_deeds.specs.Images.{Ideal, IdealStore}
use Rattle.proof_deeds.specs.Nets.{AllApart, EngineFollows, NodeFollows}
use Rattle.proof_deeds.proofs.Keeps.{stable_in}
use Rattle.proof_deeds.proofs.Worlds.{if_some, rest_on, within_of}

module _ {X : Type 0} where
  pub each_at : (P : X → Type 0) (xs : List X) (i : ℕ) (x : X) → slice_get xs i ≡ Some x → AllByRecursion P xs → P x
  each_at P [] i x e h = cc
  each_at P (y ∷ ys) zero x e h = let q : y ≡ x = cc in subst P q h.0
  each_at P (y ∷ ys) (suc i) x e h = each_at P ys i x e h.1

  pub each_both : (P Q R : X → Type 0) → ((x : X) → P x → Q x → R x) → (xs : List X) → AllByRecursion P xs → AllByRecursion Q xs → AllByRecursion R xs
  each_both P Q R f [] h k = tt
  each_both P Q R f (x ∷ xs) h k = (f x h.0 k.0, each_both P Q R f xs h.1 k.1)

  pub each_set : (P : X → Type 0) (xs : List X) (i : ℕ) (x : X) → P x → AllByRecursion P xs → AllByRecursion P (slice_set xs i x)
  each_set P [] i x p h = tt
  each_set P (y ∷ ys) zero x p h = (p, h.1)
  each_set P (y ∷ ys) (suc i) x p h = (h.0, each_set P ys i x p h.1)

  found_at : (test : X → Bool) (xs : List X) (x : X) → slice_get xs (position_or_len test xs) ≡ Some x → test x ≡ true
  found_at test [] x e = cc
  found_at test (y ∷ ys) x e = go (test y) refl e (found_at test ys x) where
    go : (b : Bool) → test y ≡ b → slice_get (y ∷ ys) (cond (not b) (1 + prefix_len (λ x. not (test x)) ys) 0) ≡ Some x → (slice_get ys (prefix_len (λ x. not (test x)) ys) ≡ Some x → test x ≡ true) → test x ≡ true
    go true q k f = let z : y ≡ x = cc in subst (λ z. test z ≡ true) z q
    go false q k f = f (let n : 1 + prefix_len (λ x. not (test x)) ys ≡ suc (prefix_len (λ x. not (test x)) ys) = omega arith in sym (ap (slice_get (y ∷ ys)) n) ∙ k)

  -- what stands at the place that a test finds passes it
  pub position_found : (test : X → Bool) (xs : List X) (i : ℕ) (x : X) → position test xs ≡ Some i → slice_get xs i ≡ Some x → test x ≡ true
  position_found test xs i x e h = go (nat_lt (position_or_len test xs) (length xs)) e where
    go : (b : Bool) → ◌≡◌ {A = Option ℕ} (cond b (Some (position_or_len test xs)) None) (Some i) → test x ≡ true
    go true q = let z : position_or_len test xs ≡ i = cc in found_at test xs x (ap (slice_get xs) z ∙ h)
    go false q = cc

-- the node at the place of an id has it
pub placed_id : (nodes : List NodeView) (id i : ℕ) (n : NodeView) → place_of nodes id ≡ Some i → slice_get nodes i ≡ Some n → n.id ≡ id
unfolding place_of
placed_id nodes id i n e h = same n.id id (position_found (λ (n : NodeView). nat_eq n.id id) nodes i n e h) where
  same : (a b : ℕ) → nat_eq a b ≡ true → a ≡ b
  same a b e = grind (arith, nat_tests)

-- the node of an id is one of the nodes, and has it
pub node_found : (nodes : List NodeView) (id : ℕ) (n : NodeView) (P : NodeView → Type 0) → AllByRecursion P nodes → node_at nodes id ≡ Some n → P n × (n.id ≡ id)
node_found [] id n P a e = cc
node_found (m ∷ ms) id n P a e = go (nat_eq m.id id) refl e (node_found ms id n P a.1) where
  go : (b : Bool) → nat_eq m.id id ≡ b → ◌≡◌ {A = Option NodeView} (cond b (Some m) (node_at ms id)) (Some n) → (node_at ms id ≡ Some n → P n × (n.id ≡ id)) → P n × (n.id ≡ id)
  go true q k f = let z : m ≡ n = cc in subst (λ (w : NodeView). P w × (w.id ≡ id)) z (a.0, alike m.id id q) where
    alike : (a b : ℕ) → nat_eq a b ≡ true → a ≡ b
    alike a b e = grind (arith, nat_tests)
  go false q k f = f k

abbrev has_id : ℕ → NodeView → Bool
has_id id n = nat_eq n.id id

-- it stands at the place of its id
pub found_at_place : (nodes : List NodeView) (id : ℕ) (n : NodeView) → node_at nodes id ≡ Some n → (i : ℕ) × (place_of nodes id ≡ Some i) × (slice_get nodes i ≡ Some n)
unfolding place_of
found_at_place nodes id n e = (position_or_len (has_id id) nodes, go (nat_lt (position_or_len (has_id id) nodes) (length nodes)) refl, there)
  where
    there : slice_get nodes (position_or_len (has_id id) nodes) ≡ Some n
    there = sym (find_at (has_id id) nodes) ∙ e

    past : (a b : ℕ) → nat_lt a b ≡ false → b ≤ a
    past a b h = grind (arith, nat_tests)

    go : (b : Bool) → nat_lt (position_or_len (has_id id) nodes) (length nodes) ≡ b → ◌≡◌ {A = Option ℕ} (cond b (Some (position_or_len (has_id id) nodes)) None) (Some (position_or_len (has_id id) nodes))
    go true l = refl
    go false l = let z : ◌≡◌ {A = Option NodeView} None (Some n) = sym (slice_get_past nodes (position_or_len (has_id id) nodes) (past (position_or_len (has_id id) nodes) (length nodes) l)) ∙ there in cc

-- one node changes, all others are known by what was known of them
pub each_put : (s : Setup Entry) (P Q : NodeView → Type 0) (xs : List NodeView) (i : ℕ) (n m : NodeView) → slice_get xs i ≡ Some n → AllApart s xs → Q m → ((x : NodeView) → x.id ≢ n.id → P x → Q x) → AllByRecursion P xs → AllByRecursion Q (slice_set xs i m)
each_put s P Q [] i n m e a q f h = cc
each_put s P Q (x ∷ xs) zero n m e a q f h =
    let z : x ≡ n = cc in
    (q, each_both (λ (y : NodeView). y.id ≢ x.id) P Q (λ y d p. f y (subst (λ (w : NodeView). y.id ≢ w.id) z d) p) xs a.0 h.1)
each_put s P Q (x ∷ xs) (suc i) n m e a q f h =
    (f x (λ d. each_at (λ (y : NodeView). y.id ≢ x.id) xs i n e a.0 (sym d)) h.0, each_put s P Q xs i n m e a.1 q f h.1)

pub apart_put : (s : Setup Entry) (xs : List NodeView) (i : ℕ) (n m : NodeView) → slice_get xs i ≡ Some n → m.id ≡ n.id → AllApart s xs → AllApart s (slice_set xs i m)
apart_put s [] i n m e same a = tt
apart_put s (x ∷ xs) zero n m e same a = let z : x ≡ n = cc in (subst (λ (d : ℕ). AllByRecursion (λ (y : NodeView). y.id ≢ d) xs) (ap (λ (w : NodeView). w.id) z ∙ sym same) a.0, a.1)
apart_put s (x ∷ xs) (suc i) n m e same a =
    (each_set (λ (y : NodeView). y.id ≢ x.id) xs i m (λ d. each_at (λ (y : NodeView). y.id ≢ x.id) xs i n e a.0 (sym same ∙ d)) a.0, apart_put s xs i n m e same a.1)

-- a node that does nothing, in an ideal world that keeps its store and tells no less
pub node_on : (s : Setup Entry) (W V : Ideal) (r q : Records (List Entry)) (n : NodeView) → Does s W V → V.store n.id ≡ W.store n.id → RecordsAre s q V → NodeFollows s W r n → NodeFollows s V q n
node_on s W V r q n came e k h =
    let x : RestIs s n.id (effects n.store n.streams n.noted r) V = rest_on s W V (within_of s W V came) n.id (effects n.store n.streams n.noted r) (ap (λ (S : IdealStore). S.session) e) (ap (λ (S : IdealStore). S.noted) e) h.rest in
    record {
      node = h.node;
      store = subst (StoreIs s n.store) (sym e) h.store;
      shaped = h.shaped;
      ordered = h.ordered;
      rest = record { session = x.session; targets = x.targets; noted = x.noted; records = k };
      engine = if_some (EngineFollows s n W) (EngineFollows s n V) (λ y f. record { id = f.id; sound = f.sound; queue = f.queue; in_step = f.in_step; knows = stable_in s n.id y.machine W V came e f.knows }) n.engine h.engine;
    }

-- nor does a node's moment matter
pub moved_follows : (s : Setup Entry) (W : Ideal) (r : Records (List Entry)) (n : NodeView) (now : ℕ) → NodeFollows s W r n → NodeFollows s W r (record n { moment = now })
moved_follows s W r n now h = record {
  node = h.node;
  store = h.store;
  shaped = h.shaped;
  ordered = h.ordered;
  rest = h.rest;
  engine = if_some (EngineFollows s n W) (EngineFollows s (record n { moment = now }) W) (λ y f. record { id = f.id; sound = f.sound; queue = f.queue; in_step = f.in_step; knows = f.knows }) n.engine h.engine;
}
