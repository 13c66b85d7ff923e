-- A run that is not allowed, for one reason alone: memberships are proposed by leaders that have decided no entry of
-- their own. Two different entries are executed at index 2.
use Rattle.std.specs.Prelude.{ℕ, ◌<◌, ◌≡◌, true, false, cond, eqb, ltb, List, [], ◌∷◌}
use Rattle.proof_agreement.specs.Machine.{World, Setup, Event, RaiseVote, GrantVote, Follow, Establish, Propose, Extend, Acknowledge, Decide, LearnCommitted, Execute, Begin, Includes, ShareGroup, Allowed, happens, run, start, last_membership, effective_membership, leader_log, vote_of}
use Rattle.proof_agreement.specs.LowTruncation.{three}

-- the last membership is known as committed, decided by whatever leader, and a group is shared
pub record MayProposeHastily {A : Type 0} (s : Setup A) (w : World A) (d : ℕ) (x : A) : Type 0 where
  pub vote : vote_of w (s.owner d) ≡ d
  pub vote_committed : (w.node (s.owner d)).vote_committed ≡ true
  pub last : s.is_membership x ≡ true → last_membership s (leader_log w d).at (leader_log w d).len < (w.node (s.owner d)).committed
  pub share : s.is_membership x ≡ true → ShareGroup s (effective_membership s (leader_log w d) (leader_log w d).len) x

abbrev pub AllowedHastily : {A : Type 0} → Setup A → World A → Event A → Type 0
AllowedHastily s w (Propose d x) = MayProposeHastily s w d x
AllowedHastily s w e = Allowed s w e

abbrev pub AllAllowedHastily : {A : Type 0} → Setup A → List (Event A) → World A → Type 0
AllAllowedHastily s [] w = Unit {0}
AllAllowedHastily s (e ∷ es) w = AllowedHastily s w e × AllAllowedHastily s es (happens s w e)

-- the payloads 0, 1 and 2 are the memberships {1} with {2, 3, 4}, {2, 3, 4}, and {1}
abbrev pub hasty_membership : Setup ℕ
hasty_membership =
    record {
      is_membership = λ x. ltb x 3;
      first_group = λ x. cond (eqb x 1) (2 ∷ 3 ∷ 4 ∷ []) (1 ∷ []);
      other_groups = λ x. cond (eqb x 0) ((2 ∷ 3 ∷ 4 ∷ []) ∷ []) [];
      groups_kept = false;
      owner = λ d. cond (eqb d 3) 1 2;
      first_payload = 0;
    }

abbrev pub hasty_run : List (Event ℕ)
hasty_run = Begin 2 ∷ RaiseVote 2 1 ∷ GrantVote 2 ∷ RaiseVote 1 1 ∷ GrantVote 1 ∷ RaiseVote 3 1 ∷ GrantVote 3 ∷ Establish 1 (three 1 2 3) ∷ Propose 1 7 ∷ Follow 1 1 ∷ Extend 1 2 ∷ Acknowledge 1 2 ∷ Follow 3 1 ∷ Extend 3 2 ∷ Acknowledge 3 2 ∷ Decide 1 2 (three 1 2 3) ∷ LearnCommitted 2 1 2 ∷ LearnCommitted 1 1 2 ∷ RaiseVote 2 2 ∷ GrantVote 2 ∷ RaiseVote 1 2 ∷ GrantVote 1 ∷ RaiseVote 3 2 ∷ GrantVote 3 ∷ Establish 2 (three 1 2 3) ∷ Propose 2 1 ∷ RaiseVote 1 3 ∷ GrantVote 1 ∷ RaiseVote 3 3 ∷ GrantVote 3 ∷ RaiseVote 4 3 ∷ GrantVote 4 ∷ Establish 3 (three 1 3 4) ∷ Propose 3 2 ∷ Decide 3 3 (three 1 1 1) ∷ LearnCommitted 1 3 3 ∷ Execute 1 2 ∷ RaiseVote 2 4 ∷ GrantVote 2 ∷ RaiseVote 3 4 ∷ GrantVote 3 ∷ Establish 4 (three 2 2 3) ∷ Propose 4 9 ∷ Follow 3 4 ∷ Extend 3 4 ∷ Acknowledge 3 4 ∷ Decide 4 4 (three 2 2 3) ∷ LearnCommitted 2 4 4 ∷ Execute 2 2 ∷ []

abbrev pub HastyMembershipDiffers : Type 0
HastyMembershipDiffers = AllAllowedHastily hasty_membership hasty_run (start hasty_membership) × Includes (run hasty_membership hasty_run (start hasty_membership)).executed (record { index = 2; entry = record { leader = 3; payload = 2 } }) × Includes (run hasty_membership hasty_run (start hasty_membership)).executed (record { index = 2; entry = record { leader = 2; payload = 1 } })
