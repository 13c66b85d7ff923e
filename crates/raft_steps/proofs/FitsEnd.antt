-- An id that fits a log is below the end.
use Rattle.std.proofs.Common.{◌≡◌, refl, subst, ℕ, ◌+◌, ◌^◌, ◌<◌, Bool, true, false, List, [], ◌∷◌, Option, None, Some, ◌⊎◌, inl, inr, lit<, arith}
use Rattle.std.specs.Prelude.{IfSome, ◌==◌, ◌&&◌, ◌||◌, nat_lt, slice_get}
use Rattle.std.specs.List.{AllByRecursion}
use Rattle.std.proofs.lemmas.Bool.Decides.{nat_tests}
use Rattle.std.specs.Ordering.{is_lt}
use Rattle.std.specs.declared.cmp.Ordering.{Ordering}
use Rattle.raft_state.specs.declared.ids.LogId.{LogId}
use Rattle.raft_state.specs.declared.state.RaftState.{RaftState}
use Rattle.raft_state.specs.Fits.{fits, is_below}
use Rattle.raft_state.specs.Invariants.{IsSoundState, IsBelowEnd}
use Rattle.raft_state.specs.Log.{at}
use Rattle.raft_state.specs.Order.{last_id_cmp, next}
use Rattle.raft_state.specs.State.{is_found}
use Rattle.raft_state.proofs.LogLists.{Has}
use Rattle.raft_steps.proofs.Room.{find_has}

either_way : {X : Type 0} {A B : Type 0} → A ⊎ B → (A → X) → (B → X) → X
either_way (inl a) f g = f a
either_way (inr b) f g = g b

as_index : (a b : ℕ) → (a == b) ≡ true → a + 1 < 2 ^ 64 → b + 1 < 2 ^ 64
as_index a b e h = grind (arith, nat_tests, e, h)

under_it : (a b : ℕ) → nat_lt a b ≡ true → b < 2 ^ 64 → a < 2 ^ 64
under_it a b e h = grind (arith, nat_tests, e, h)

one_of : (a b : Bool) → (a || b) ≡ true → (a ≡ true) ⊎ (b ≡ true)
one_of true b e = inl refl
one_of false b e = inr e

second : (a b : Bool) → (a && b) ≡ true → b ≡ true
second true b e = e
second false b e = cc

none_above : (a : ℕ) {X : Type 0} → nat_lt (a + 1) 0 ≡ true → X
none_above a e = absurd (grind (arith, nat_tests, e))

module _ {NID : Type 0} where
  each_has : (P : LogId NID → Type 0) (y : LogId NID) (ids : List (LogId NID)) → AllByRecursion P ids → Has y ids → P y
  each_has P y [] a h = absurd h
  each_has P y (x ∷ xs) a h = either_way h (λ q. subst P q a.0) (λ r. each_has P y xs a.1 r)

  first_each : (P : LogId NID → Type 0) (p : LogId NID) (ids : List (LogId NID)) → slice_get ids 0 ≡ Some p → AllByRecursion P ids → P p
  first_each P p [] e a = cc
  first_each P p (x ∷ xs) e a = subst (λ o. IfSome o P) e a.0

  both_of : (x : LogId NID) (ids : List (LogId NID)) (o : Option (LogId NID)) → AllByRecursion IsBelowEnd ids → IfSome o (λ y. ((y.index == x.index) ≡ true) × Has y ids) → IfSome o (λ y. ((y.index == x.index) ≡ true) × (y.index + 1 < 2 ^ 64))
  both_of x ids None a h = tt
  both_of x ids (Some y) a h = (h.0, each_has IsBelowEnd y ids a h.1)

  purged_of : (ids : List (LogId NID)) (purged : Option (LogId NID)) → AllByRecursion IsBelowEnd ids → IfSome purged (λ p. slice_get ids 0 ≡ Some p) → IfSome purged (λ p. p.index + 1 < 2 ^ 64)
  purged_of ids None a h = tt
  purged_of ids (Some p) a h = first_each IsBelowEnd p ids h a

module _ {NID : Type 0} (cmp : NID → NID → Ordering) where
  found_end : (x : LogId NID) (o : Option (LogId NID)) → is_found cmp o x ≡ true → IfSome o (λ y. ((y.index == x.index) ≡ true) × (y.index + 1 < 2 ^ 64)) → x.index + 1 < 2 ^ 64
  found_end x None e h = cc
  found_end x (Some y) e h = as_index y.index x.index h.0 h.1

  past_end : (x : LogId NID) (purged : Option (LogId NID)) → is_below cmp (Some x) purged ≡ true → IfSome purged (λ p. p.index + 1 < 2 ^ 64) → x.index + 1 < 2 ^ 64
  past_end x None e h = none_above x.index (second (is_lt (last_id_cmp cmp (Some x) None)) (nat_lt (x.index + 1) 0) e)
  past_end x (Some p) e h = under_it (x.index + 1) (p.index + 1) (second (is_lt (last_id_cmp cmp (Some x) (Some p))) (nat_lt (x.index + 1) (p.index + 1)) e) h

module _ {NID N : Type 0} (cmp : NID → NID → Ordering) where
  -- so it is for a log in order
  pub fits_end : (s : RaftState NID N) (x : Option (LogId NID)) → IsSoundState cmp s → fits cmp s.ids s.purged x ≡ true → next x < 2 ^ 64
  fits_end s None h e = lit< tt
  fits_end s (Some x) h e =
      either_way (one_of (is_found cmp (at s.ids x.index) x) (is_below cmp (Some x) s.purged) e)
      (λ f. found_end cmp x (at s.ids x.index) f (both_of x s.ids (at s.ids x.index) h.log.below_end (find_has (λ y. y.index == x.index) s.ids)))
      (λ f. past_end cmp x s.purged f (purged_of s.ids s.purged h.log.below_end h.log.first))
