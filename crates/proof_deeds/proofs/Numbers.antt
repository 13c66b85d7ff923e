-- Leader ids as numbers: their order, and that the number tells the id.
use Rattle.std.proofs.Common.{ℕ, ◌+◌, ◌<◌, ◌≤◌, ◌≡◌, inl, inr, ⊎_elim, true, false, arith, refl, sym, ap, ap₂, ◌∙◌, subst, true≢false, Option, None, Some}
use Rattle.std.specs.declared.cmp.Ordering.{Ordering}
use Rattle.std.specs.declared.cmp.Ordering.TheVariants.{Less, Equal, Greater}
use Rattle.std.specs.Ordering.{is_gt, is_le, is_lt, nat_cmp, bool_cmp, ordering_then}
use Rattle.std.proofs.lemmas.Bool.Decides.{nat_tests}
use Rattle.std.specs.Cmp.{nat_cmp_is, tied_itself}
use Rattle.std.proofs.lemmas.Cmp.{nat_cmp_total}
use Rattle.std.proofs.lemmas.Bool.{cases_order}
use Rattle.raft_node.specs.raft_state.declared.ids.LeaderId.{LeaderId}
use Rattle.raft_node.specs.raft_state.declared.ids.LogId.{LogId}
use Rattle.raft_node.specs.raft_state.declared.ids.Vote.{Vote}
use Rattle.raft_node.specs.raft_state.Order.{leader_id_cmp, last_id_cmp, log_id_cmp, vote_cmp, next}
use Rattle.raft_node.proofs.raft_state_proofs.Orders.{leader_total}
use Rattle.proof_agreement.specs.LeaderNumbers.{leader_node}
use Rattle.proof_agreement.specs.Machine.{AtOrBelow}
use Rattle.proof_agreement.proofs.LeaderNumbers.{leader_node-number, leader_number-lt, leader_number-same}
use Rattle.proof_deeds.specs.Images.{number, last_number, IsNamed, IdNamed}

less_is : (a b : ℕ) → nat_cmp a b ≡ Less → a < b
less_is a b e = grind (arith, nat_tests)

equal_is : (a b : ℕ) → nat_cmp a b ≡ Equal → a ≡ b
equal_is a b e = grind (arith, nat_tests)

greater_is : (a b : ℕ) → nat_cmp a b ≡ Greater → b < a
greater_is a b e = grind (arith, nat_tests)

-- the leader id of a number
pub number_same : (a b : LeaderId ℕ) → IsNamed a → IsNamed b → number a ≡ number b → a ≡ b
number_same a b h k e =
    let p : (a.term ≡ b.term) × (a.node_id ≡ b.node_id) = leader_number-same a.term a.node_id b.term b.node_id h k e in
    ap₂ (λ t n. let l : LeaderId ℕ = record { term = t; node_id = n } in l) p.0 p.1

pub number_node : (a : LeaderId ℕ) → IsNamed a → leader_node (number a) ≡ a.node_id
number_node a h = leader_node-number a.term a.node_id h

-- three ways in which leader ids stand
pub data Order (a b : LeaderId ℕ) : Type 0 where
  below : leader_id_cmp nat_cmp a b ≡ Less → number a < number b → Order a b
  same : leader_id_cmp nat_cmp a b ≡ Equal → a ≡ b → Order a b
  above : leader_id_cmp nat_cmp a b ≡ Greater → number b < number a → Order a b

pub ordered : (a b : LeaderId ℕ) → IsNamed a → IsNamed b → Order a b
ordered a b h k = go (nat_cmp a.term b.term) (nat_cmp a.node_id b.node_id) refl refl where
  go : (r q : Ordering) → nat_cmp a.term b.term ≡ r → nat_cmp a.node_id b.node_id ≡ q → Order a b
  go Less q e f = below (ap (λ o. ordering_then o (nat_cmp a.node_id b.node_id)) e) (leader_number-lt a.term a.node_id b.term b.node_id h k (inl (less_is a.term b.term e)))
  go Greater q e f = above (ap (λ o. ordering_then o (nat_cmp a.node_id b.node_id)) e) (leader_number-lt b.term b.node_id a.term a.node_id k h (inl (greater_is a.term b.term e)))
  go Equal Less e f = below (ap₂ ordering_then e f) (leader_number-lt a.term a.node_id b.term b.node_id h k (inr (equal_is a.term b.term e, less_is a.node_id b.node_id f)))
  go Equal Greater e f = above (ap₂ ordering_then e f) (leader_number-lt b.term b.node_id a.term a.node_id k h (inr (sym (equal_is a.term b.term e), greater_is a.node_id b.node_id f)))
  go Equal Equal e f = same (ap₂ ordering_then e f) (ap₂ (λ t n. let l : LeaderId ℕ = record { term = t; node_id = n } in l) (equal_is a.term b.term e) (equal_is a.node_id b.node_id f))

-- a smaller id has the smaller number
pub number_below : (a b : LeaderId ℕ) → IsNamed a → IsNamed b → leader_id_cmp nat_cmp a b ≡ Less → number a < number b
number_below a b na nb e = go (ordered a b na nb) where
  go : Order a b → number a < number b
  go (below q k) = k
  go (same q k) = cc
  go (above q k) = cc

-- a greater vote that isn't committed is of a greater leader id
pub vote_above : (v w : Vote ℕ) → IsNamed v.leader_id → IsNamed w.leader_id → v.committed ≡ false → is_gt (vote_cmp nat_cmp v w) ≡ true → number w.leader_id < number v.leader_id
vote_above v w h k c e = go (ordered v.leader_id w.leader_id h k) where
  low : (b : _) → is_gt (bool_cmp false b) ≡ true → ⊥
  low true q = cc
  low false q = cc

  go : Order v.leader_id w.leader_id → number w.leader_id < number v.leader_id
  go (below q l) = absurd (let z : is_gt (ordering_then Less (bool_cmp v.committed w.committed)) ≡ true = subst (λ o. is_gt (ordering_then o (bool_cmp v.committed w.committed)) ≡ true) q e in true≢false (sym z))
  go (same q l) = absurd (low w.committed (subst (λ b. is_gt (bool_cmp b w.committed) ≡ true) c (subst (λ o. is_gt (ordering_then o (bool_cmp v.committed w.committed)) ≡ true) q e)))
  go (above q l) = l

-- a greater vote is of no lower leader id
pub vote_not_below : (v w : Vote ℕ) → IsNamed v.leader_id → IsNamed w.leader_id → is_gt (vote_cmp nat_cmp v w) ≡ true → number w.leader_id ≤ number v.leader_id
vote_not_below v w h k e = go (ordered v.leader_id w.leader_id h k) where
  go : Order v.leader_id w.leader_id → number w.leader_id ≤ number v.leader_id
  go (below q l) = absurd (let z : is_gt (ordering_then Less (bool_cmp v.committed w.committed)) ≡ true = subst (λ o. is_gt (ordering_then o (bool_cmp v.committed w.committed)) ≡ true) q e in true≢false (sym z))
  go (same q l) = let z : number v.leader_id ≡ number w.leader_id = ap number l in omega (arith, z)
  go (above q l) = omega (arith, l)

-- a last id that isn't below another: the log that ends with it is at least as up to date
pub end_at_or_below : (x y : Option (LogId ℕ)) → IdNamed x → IdNamed y → is_lt (last_id_cmp nat_cmp x y) ≡ false → AtOrBelow (last_number y) (next y) (last_number x) (next x)
end_at_or_below None None h k e = inr (refl, omega arith)
end_at_or_below (Some x) None h k e = ⊎_elim (λ q. inr (q, omega arith)) (λ l. ⊎_elim (λ p. inl p) (λ g. absurd (omega (arith, g))) l) (cases_order 0 (number x.leader_id))
end_at_or_below None (Some y) h k e = absurd (true≢false e)
end_at_or_below (Some x) (Some y) h k e = go (ordered x.leader_id y.leader_id h k) where
  go : Order x.leader_id y.leader_id → AtOrBelow (last_number (Some y)) (next (Some y)) (last_number (Some x)) (next (Some x))
  go (below q l) = absurd (let z : is_lt (ordering_then Less (nat_cmp x.index y.index)) ≡ false = subst (λ o. is_lt (ordering_then o (nat_cmp x.index y.index)) ≡ false) q e in true≢false z)
  go (same q l) = inr (sym (ap number l), let z : is_lt (nat_cmp x.index y.index) ≡ false = subst (λ o. is_lt (ordering_then o (nat_cmp x.index y.index)) ≡ false) q e in at_least x.index y.index z)
    where
      at_least : (a b : ℕ) → is_lt (nat_cmp a b) ≡ false → b + 1 ≤ a + 1
      at_least a b e = grind (arith, nat_tests)
  go (above q l) = inl l

-- of two ids of one leader the one at the higher index is above, and so is an id at or above another of no lower leader
pub one_leader_reaches : (x y : LogId ℕ) → x.leader_id ≡ y.leader_id → x.index ≤ y.index → is_le (log_id_cmp nat_cmp x y) ≡ true
one_leader_reaches x y e l =
    ap (λ o. is_le (ordering_then o (nat_cmp x.index y.index))) (ap (λ d. leader_id_cmp nat_cmp d y.leader_id) e ∙ tied_itself (leader_total nat_cmp nat_cmp_total) y.leader_id)
    ∙ at_most x.index y.index l
  where
    at_most : (a b : ℕ) → a ≤ b → is_le (nat_cmp a b) ≡ true
    at_most a b l = grind (arith, nat_tests)

pub reached_index : (x y : LogId ℕ) → IsNamed x.leader_id → IsNamed y.leader_id → number y.leader_id ≤ number x.leader_id → is_le (log_id_cmp nat_cmp x y) ≡ true → x.index ≤ y.index
reached_index x y h k l e = go (ordered x.leader_id y.leader_id h k) where
  at_most : (a b : ℕ) → is_le (nat_cmp a b) ≡ true → a ≤ b
  at_most a b e = grind (arith, nat_tests)

  go : Order x.leader_id y.leader_id → x.index ≤ y.index
  go (below q m) = absurd (omega (arith, l, m))
  go (same q m) = at_most x.index y.index (subst (λ o. is_le (ordering_then o (nat_cmp x.index y.index)) ≡ true) q e)
  go (above q m) = absurd (let z : is_le (ordering_then Greater (nat_cmp x.index y.index)) ≡ true = subst (λ o. is_le (ordering_then o (nat_cmp x.index y.index)) ≡ true) q e in true≢false (sym z))

-- a vote of a later term is above
pub later_vote : (w : Vote ℕ) (id : ℕ) → vote_cmp nat_cmp (record { leader_id = record { term = w.leader_id.term + 1; node_id = id }; committed = false }) w ≡ Greater
later_vote w id = ap (λ r. ordering_then (ordering_then r (nat_cmp id w.leader_id.node_id)) (bool_cmp false w.committed)) (more w.leader_id.term) where
  more : (n : ℕ) → nat_cmp (n + 1) n ≡ Greater
  more n = sym (nat_cmp_is (n + 1) n Greater (omega arith))
