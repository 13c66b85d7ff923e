-- The places of ids with consecutive indexes.
use Rattle.std.proofs.Common.{ℕ, ◌+◌, ◌<◌, ◌≤◌, ◌≡◌, ⊎_elim, Bool, true, false, cond, List, [], ◌∷◌, length, arith, refl, sym, ap, ◌∙◌, Option, Some, None}
use Rattle.std.specs.Prelude.{◌==◌}
use Rattle.std.proofs.lemmas.Bool.{both_ways, cases_lt, eqb-true, eq-eqb, ne_eqb}
use Rattle.raft_state.specs.declared.ids.LogId.{LogId}
use Rattle.raft_state.specs.Order.{next}
use Rattle.raft_state.specs.Log.{last, at}
use Rattle.raft_state.specs.LogLaws.{IsRun}
use Rattle.raft_state.specs.Invariants.{first_index}
use Rattle.raft_store.proofs.Lists.{next_last}

module _ {NID : Type 0} where
  -- the id at an index has it
  pub at_index : (i : ℕ) (ids : List (LogId NID)) (x : LogId NID) → at ids i ≡ Some x → x.index ≡ i
  at_index i [] x e = cc
  at_index i (y ∷ ys) x e = go (y.index == i) refl e (λ q. at_index i ys x q) where
    go : (b : Bool) → (y.index == i) ≡ b → cond b (Some y) (at ys i) ≡ Some x → (at ys i ≡ Some x → x.index ≡ i) → x.index ≡ i
    go true q e f = let p : y ≡ x = cc in ap (λ z. z.index) (sym p) ∙ eqb-true y.index i q
    go false q e f = f e

  -- the ids reach past it
  pub at_before_end : (n i : ℕ) (ids : List (LogId NID)) (x : LogId NID) → IsRun n ids → at ids i ≡ Some x → i < n + length ids
  at_before_end n i [] x r e = cc
  at_before_end n i (y ∷ ys) x r e = go (y.index == i) refl e (λ q. at_before_end (n + 1) i ys x r.1 q) where
    go : (b : Bool) → (y.index == i) ≡ b → cond b (Some y) (at ys i) ≡ Some x → (at ys i ≡ Some x → i < (n + 1) + length ys) → i < n + length (y ∷ ys)
    go true q e f = omega (arith, r.0, eqb-true y.index i q)
    go false q e f = let m : i < (n + 1) + length ys = f e in omega (arith, m)

  -- no id at an index: the log ends there
  pub end_at_none : (n i : ℕ) (ids : List (LogId NID)) → IsRun n ids → n ≤ i → at ids i ≡ None → n + length ids ≤ i
  end_at_none n i [] r h e = omega arith
  end_at_none n i (y ∷ ys) r h e = go (y.index == i) refl e (λ q l. end_at_none (n + 1) i ys r.1 l q) where
    go : (b : Bool) → (y.index == i) ≡ b → cond b (Some y) (at ys i) ≡ None → (at ys i ≡ None → n + 1 ≤ i → (n + 1) + length ys ≤ i) → n + length (y ∷ ys) ≤ i
    go true q e f = cc
    go false q e f =
        ⊎_elim
        (λ l. let m : (n + 1) + length ys ≤ i = f e (omega (arith, l)) in omega (arith, m))
        (λ l. absurd (both_ways (y.index == i) q (eq-eqb y.index i (omega (arith, r.0)))))
        (cases_lt n i)

  -- past the end there is none
  pub none_past_end : (n i : ℕ) (ids : List (LogId NID)) → IsRun n ids → n + length ids ≤ i → at ids i ≡ None
  none_past_end n i [] r h = refl
  none_past_end n i (y ∷ ys) r h = rw (ne_eqb y.index i (λ q. omega (arith, r.0, q, h))) (none_past_end (n + 1) i ys r.1 (omega (arith, h)))

  -- a run ends at most its length past its begin
  pub next_last_le : (n : ℕ) (ids : List (LogId NID)) → IsRun n ids → next (last ids) ≤ n + length ids
  next_last_le n [] r = omega arith
  next_last_le n (x ∷ ids) r = let q : next (last (x ∷ ids)) ≡ n + length (x ∷ ids) = next_last n x ids r in omega (arith, q)

  pub first_below : (f : Option (LogId NID)) (i : ℕ) → next f ≤ i → first_index f ≤ i
  first_below None i l = omega arith
  first_below (Some y) i l = omega (arith, l)

  -- an id that stands in a log is below its end
  pub at_reaches : (n i : ℕ) (ids : List (LogId NID)) (x : LogId NID) → IsRun n ids → at ids i ≡ Some x → i + 1 ≤ next (last ids)
  at_reaches n i [] x r a = cc
  at_reaches n i (y ∷ ys) x r a =
      let l : i < n + length (y ∷ ys) = at_before_end n i (y ∷ ys) x r a in
      let q : next (last (y ∷ ys)) ≡ n + length (y ∷ ys) = next_last n y ys r in omega (arith, l, q)

  -- and each index below the end has one
  pub found_below : (P : Option (LogId NID) → Type 0) (n i : ℕ) (ids : List (LogId NID)) → IsRun n ids → n ≤ i → i < next (last ids) → ((y : LogId NID) → at ids i ≡ Some y → P (Some y)) → P (at ids i)
  found_below P n i ids r h l f = go (at ids i) refl where
    go : (o : Option (LogId NID)) → at ids i ≡ o → P o
    go None e = let q : n + length ids ≤ i = end_at_none n i ids r h e in absurd (omega (arith, q, l, next_last_le n ids r))
    go (Some y) e = f y e
