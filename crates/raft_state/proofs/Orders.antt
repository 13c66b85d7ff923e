-- Total orders by their tests, and the orders of votes and log ids.
use Rattle.std.specs.Prelude.{◌≡◌, ℕ, ◌<◌, ◌≤◌, ◌⊎◌, nat_le, nat_lt, Bool, true, false, ◌&&◌, ◌||◌, Option, refl}
use Rattle.std.proofs.Common.{ap, sym, ◌∙◌, arith, inl, inr, ⊎_elim}
use Rattle.std.proofs.lemmas.Bool.Decides.{nat_tests}
use Rattle.std.specs.declared.cmp.Ordering.{Ordering}
use Rattle.std.specs.declared.cmp.Ordering.TheVariants.{Less, Equal, Greater}
use Rattle.std.specs.Ordering.{bool_cmp, ordering_then, ordering_reverse, is_eq, is_lt, is_le, is_gt}
use Rattle.std.specs.Cmp.{IsTotalOrder}
use Rattle.std.proofs.lemmas.Cmp.{nat_cmp_total, on_total, then_total, upto, tied_itself, tied_back, alike_right}
use Rattle.std.specs.Cmp.{bool_cmp_total}
use Rattle.std.specs.Cmp.Lexicographic.{options_total}
use Rattle.raft_state.specs.declared.ids.LeaderId.{LeaderId}
use Rattle.raft_state.specs.declared.ids.LogId.{LogId}
use Rattle.raft_state.specs.declared.ids.Vote.{Vote}
use Rattle.raft_state.specs.Order.{leader_id_cmp, log_id_cmp, last_id_cmp, vote_cmp, next}
use Rattle.raft_state.specs.Fits.{is_within}

pub le_of_not_gt : (r : Ordering) → is_gt r ≡ false → is_le r ≡ true
le_of_not_gt Less h = refl
le_of_not_gt Equal h = refl
le_of_not_gt Greater h = cc

pub not_gt_of_le : (r : Ordering) → is_le r ≡ true → is_gt r ≡ false
not_gt_of_le Less h = refl
not_gt_of_le Equal h = refl
not_gt_of_le Greater h = cc

pub lt_is_le : (r : Ordering) → is_lt r ≡ true → is_le r ≡ true
lt_is_le Less h = refl
lt_is_le Equal h = cc
lt_is_le Greater h = cc

pub eq_is_le : (r : Ordering) → is_eq r ≡ true → is_le r ≡ true
eq_is_le Less h = cc
eq_is_le Equal h = refl
eq_is_le Greater h = cc

pub is_less : (r : Ordering) → is_lt r ≡ true → r ≡ Less
is_less Less h = refl
is_less Equal h = cc
is_less Greater h = cc

pub is_equal : (r : Ordering) → is_eq r ≡ true → r ≡ Equal
is_equal Less h = cc
is_equal Equal h = refl
is_equal Greater h = cc

-- at or below is below or equal
pub le_cases : (r : Ordering) → is_le r ≡ true → (r ≡ Less) ⊎ (r ≡ Equal)
le_cases Less h = inl refl
le_cases Equal h = inr refl
le_cases Greater h = cc

reverse_not_lt : (r : Ordering) → is_lt r ≡ false → is_le (ordering_reverse r) ≡ true
reverse_not_lt Less h = cc
reverse_not_lt Equal h = refl
reverse_not_lt Greater h = refl

reverse_not_le : (r : Ordering) → is_le r ≡ false → is_lt (ordering_reverse r) ≡ true
reverse_not_le Less h = cc
reverse_not_le Equal h = cc
reverse_not_le Greater h = refl

reverse_gt : (r : Ordering) → is_gt r ≡ true → is_lt (ordering_reverse r) ≡ true
reverse_gt Less h = cc
reverse_gt Equal h = cc
reverse_gt Greater h = refl

reverse_le : (r : Ordering) → is_le r ≡ true → is_le (ordering_reverse r) ≡ true → is_eq r ≡ true
reverse_le Less h k = cc
reverse_le Equal h k = refl
reverse_le Greater h k = cc

module _ {K : Type 0} {R : K → K → Ordering} (t : IsTotalOrder R) where
  pub le_refl : (x : K) → is_le (R x x) ≡ true
  le_refl x = ap is_le (tied_itself t x)

  pub le_trans : (x y z : K) → is_le (R x y) ≡ true → is_le (R y z) ≡ true → is_le (R x z) ≡ true
  le_trans x y z h k = le_of_not_gt _ (upto t x y z (not_gt_of_le _ h) (not_gt_of_le _ k))

  pub le_of_not_lt : (x y : K) → is_lt (R x y) ≡ false → is_le (R y x) ≡ true
  le_of_not_lt x y h = ap is_le (t.antisymm y x) ∙ reverse_not_lt _ h

  pub lt_of_not_le : (x y : K) → is_le (R x y) ≡ false → is_lt (R y x) ≡ true
  lt_of_not_le x y h = ap is_lt (t.antisymm y x) ∙ reverse_not_le _ h

  pub lt_of_gt : (x y : K) → is_gt (R x y) ≡ true → is_lt (R y x) ≡ true
  lt_of_gt x y h = ap is_lt (t.antisymm y x) ∙ reverse_gt _ h

  pub le_antisymm : (x y : K) → is_le (R x y) ≡ true → is_le (R y x) ≡ true → is_eq (R x y) ≡ true
  le_antisymm x y h k = reverse_le _ h (sym (ap is_le (t.antisymm y x)) ∙ k)

  pub eq_swap : (x y : K) → is_eq (R x y) ≡ true → is_eq (R y x) ≡ true
  eq_swap x y h = ap is_eq (tied_back t x y (is_equal _ h))

  pub lt_le : (x y z : K) → is_lt (R x y) ≡ true → is_le (R y z) ≡ true → is_lt (R x z) ≡ true
  lt_le x y z h k =
      ⊎_elim
      (λ (e : R y z ≡ Less). ap is_lt (t.trans x y z (is_less _ h) e))
      (λ (e : R y z ≡ Equal). sym (ap is_lt (alike_right t y z x e)) ∙ h)
      (le_cases (R y z) k)

  pub le_lt : (x y z : K) → is_le (R x y) ≡ true → is_lt (R y z) ≡ true → is_lt (R x z) ≡ true
  le_lt x y z h k =
      ⊎_elim
      (λ (e : R x y ≡ Less). ap is_lt (t.trans x y z e (is_less _ k)))
      (λ (e : R x y ≡ Equal). ap is_lt (t.congr x y z e) ∙ k)
      (le_cases (R x y) h)

  lt_not_le_at : (r : Ordering) → is_lt r ≡ true → is_le (ordering_reverse r) ≡ false
  lt_not_le_at Less h = refl
  lt_not_le_at Equal h = cc
  lt_not_le_at Greater h = cc

  -- what is below is not above
  pub lt_not_ge : (x y : K) → is_lt (R x y) ≡ true → is_le (R y x) ≡ false
  lt_not_ge x y h = ap is_le (t.antisymm y x) ∙ lt_not_le_at _ h

module _ {NID : Type 0} (cmp : NID → NID → Ordering) (total : IsTotalOrder cmp) where
  pub leader_total : IsTotalOrder (leader_id_cmp cmp)
  leader_total = then_total (on_total (λ (x : LeaderId NID). x.term) nat_cmp_total) (on_total (λ x. x.node_id) total)

  pub log_id_total : IsTotalOrder (log_id_cmp cmp)
  log_id_total = then_total (on_total (λ (x : LogId NID). x.leader_id) leader_total) (on_total (λ x. x.index) nat_cmp_total)

  pub last_total : IsTotalOrder (last_id_cmp cmp)
  last_total = options_total log_id_total

  pub vote_total : IsTotalOrder (vote_cmp cmp)
  vote_total = then_total (on_total (λ (v : Vote NID). v.leader_id) leader_total) (on_total (λ v. v.committed) bool_cmp_total)

then_le : (r s : Ordering) → is_le (ordering_then r s) ≡ true → is_le r ≡ true
then_le Less s h = refl
then_le Equal s h = refl
then_le Greater s h = cc

then_eq : (r s : Ordering) → is_eq (ordering_then r s) ≡ true → is_eq r ≡ true
then_eq Less s h = cc
then_eq Equal s h = refl
then_eq Greater s h = cc

module _ {NID : Type 0} (cmp : NID → NID → Ordering) where
  -- a vote's order is first that of its leader id
  pub vote_le_leader : (v w : Vote NID) → is_le (vote_cmp cmp v w) ≡ true → is_le (leader_id_cmp cmp v.leader_id w.leader_id) ≡ true
  vote_le_leader v w h = then_le _ (bool_cmp v.committed w.committed) h

  pub vote_eq_leader : (v w : Vote NID) → is_eq (vote_cmp cmp v w) ≡ true → is_eq (leader_id_cmp cmp v.leader_id w.leader_id) ≡ true
  vote_eq_leader v w h = then_eq _ (bool_cmp v.committed w.committed) h

-- both tests of a pair
pub and_both : (a b : Bool) → (a && b) ≡ true → (a ≡ true) × (b ≡ true)
and_both true b h = (refl, h)
and_both false b h = let e : false ≡ true = h in cc

pub both_and : (a b : Bool) → a ≡ true → b ≡ true → (a && b) ≡ true
both_and true b e f = f
both_and false b e f = let g : false ≡ true = e in cc

pub or_cases : (a b : Bool) → (a || b) ≡ true → (a ≡ true) ⊎ (b ≡ true)
or_cases true b h = inl refl
or_cases false b h = inr h

pub or_left : (a b : Bool) → a ≡ true → (a || b) ≡ true
or_left true b h = refl
or_left false b h = let e : false ≡ true = h in cc

pub or_right : (a b : Bool) → b ≡ true → (a || b) ≡ true
or_right true b h = refl
or_right false b h = h

nat_le_trans : (a b c : ℕ) → nat_le a b ≡ true → nat_le b c ≡ true → nat_le a c ≡ true
nat_le_trans a b c h k = grind (arith, nat_tests)

pub nat_le_is : (a b : ℕ) → nat_le a b ≡ true → a ≤ b
nat_le_is a b h = grind (arith, nat_tests)

pub nat_le_of : (a b : ℕ) → a ≤ b → nat_le a b ≡ true
nat_le_of a b h = grind (arith, nat_tests)

pub nat_lt_is : (a b : ℕ) → nat_lt a b ≡ true → a < b
nat_lt_is a b h = grind (arith, nat_tests)

pub nat_lt_of : (a b : ℕ) → a < b → nat_lt a b ≡ true
nat_lt_of a b h = grind (arith, nat_tests)

module _ {NID : Type 0} (cmp : NID → NID → Ordering) (total : IsTotalOrder cmp) where
  pub within_le : (a b : Option (LogId NID)) → is_within cmp a b ≡ true → is_le (last_id_cmp cmp a b) ≡ true
  within_le a b h = (and_both _ (nat_le (next a) (next b)) h).0

  pub within_next : (a b : Option (LogId NID)) → is_within cmp a b ≡ true → next a ≤ next b
  within_next a b h = nat_le_is _ _ (and_both (is_le (last_id_cmp cmp a b)) _ h).1

  pub within_of : (a b : Option (LogId NID)) → is_le (last_id_cmp cmp a b) ≡ true → next a ≤ next b → is_within cmp a b ≡ true
  within_of a b h k = both_and _ _ h (nat_le_of _ _ k)

  pub within_refl : (a : Option (LogId NID)) → is_within cmp a a ≡ true
  within_refl a = within_of a a (le_refl (last_total cmp total) a) (omega arith)

  pub within_trans : (a b c : Option (LogId NID)) → is_within cmp a b ≡ true → is_within cmp b c ≡ true → is_within cmp a c ≡ true
  within_trans a b c h k =
      within_of a c (le_trans (last_total cmp total) a b c (within_le a b h) (within_le b c k)) (omega (arith, within_next a b h, within_next b c k))
