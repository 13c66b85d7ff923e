-- The nodes of a plan: tests that answer exactly whether a node votes or learns.
use Rattle.std.proofs.Common.{ℕ, ◌≡◌, ◌∙◌, Bool, true, false, not, ◌&&◌, ◌++◌, ap, refl, sym}
use Rattle.std.specs.Prelude.{◌↔◌}
use Rattle.std.specs.Ordering.{nat_cmp}
use Rattle.raft_state.specs.declared.membership.Members.{Members}
use Rattle.raft_state.specs.Members.{contains, learner_ids, voter_ids}
use Rattle.raft_state.specs.Sorted.{has_id}
use Rattle.proof_progress.specs.Elections.{Listed}
use Rattle.proof_progress.proofs.Choosing.{has_of_listed, listed_of_has}
use Rattle.raft_recovery.proofs.Judging.{is_member, member_is}

alike : (b c : Bool) → (b ≡ true → c ≡ true) → (c ≡ true → b ≡ true) → b ≡ c
alike true c f g = sym (f refl)
alike false true f g = g refl
alike false false f g = refl

pub votes_exactly : (m : Members ℕ (Unit {0})) (t : ℕ) (is : Bool) → (is ≡ true) ↔ Listed (voter_ids nat_cmp m) t
    → is ≡ has_id nat_cmp (voter_ids nat_cmp m) t
votes_exactly m t is h =
    alike is (has_id nat_cmp (voter_ids nat_cmp m) t) (λ e. has_of_listed (voter_ids nat_cmp m) t (h.0 e))
    (λ e. h.1 (listed_of_has (voter_ids nat_cmp m) t e))

pub member_exactly : (m : Members ℕ (Unit {0})) (t : ℕ) → contains nat_cmp m t ≡ has_id nat_cmp (voter_ids nat_cmp m ++ learner_ids nat_cmp m) t
member_exactly m t =
    alike (contains nat_cmp m t) (has_id nat_cmp (voter_ids nat_cmp m ++ learner_ids nat_cmp m) t)
    (λ e. has_of_listed (voter_ids nat_cmp m ++ learner_ids nat_cmp m) t (member_is m t e))
    (λ e. is_member m t (listed_of_has (voter_ids nat_cmp m ++ learner_ids nat_cmp m) t e))

pub learns_if : (v w c h : Bool) → v ≡ w → v ≡ false → c ≡ h → c ≡ (not w && h)
learns_if v true c h e f g = let z : false ≡ true = sym f ∙ e in cc
learns_if v false c h e f g = g

pub learns_not : (v w h : Bool) → v ≡ w → v ≡ true → not v ≡ (not w && h)
learns_not v true h e f = ap not f
learns_not v false h e f = let z : true ≡ false = sym f ∙ e in cc
