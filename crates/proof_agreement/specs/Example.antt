-- A run that replaces its only node: node 1 leads, adds a second group with node 2, then leaves, deciding a last entry
-- that it has no part in itself, and node 2 leads alone.
use Rattle.std.specs.Prelude.{ℕ, Bool, true, false, cond, eqb, ltb, List, [], ◌∷◌}
use Rattle.proof_agreement.specs.Machine.{Setup, Event, RaiseVote, GrantVote, Follow, Establish, Propose, Extend, Acknowledge, Decide, LearnCommitted, Execute, Begin, Includes, AllAllowed, run, start}

-- the payloads 0, 1 and 2 are the memberships {1}, {1} with {2}, and {2}
abbrev pub moving : Setup ℕ
moving =
    record {
      is_membership = λ x. ltb x 3;
      first_group = λ x. cond (eqb x 2) (2 ∷ []) (1 ∷ []);
      other_groups = λ x. cond (eqb x 1) ((2 ∷ []) ∷ []) [];
      groups_kept = false;
      owner = λ d. d;
      first_payload = 0;
    }

abbrev pub only : ℕ → ℕ → Bool
only m n = eqb n m

abbrev pub both : ℕ → Bool
both n = cond (eqb n 1) true (eqb n 2)

abbrev pub moving_run : List (Event ℕ)
moving_run = Begin 1 ∷ RaiseVote 1 1 ∷ GrantVote 1 ∷ Establish 1 (only 1) ∷ Propose 1 7 ∷ Decide 1 2 (only 1) ∷ Propose 1 1 ∷ Follow 2 1 ∷ Extend 2 3 ∷ Acknowledge 2 3 ∷ Decide 1 3 both ∷ Propose 1 2 ∷ Extend 2 4 ∷ Acknowledge 2 4 ∷ Decide 1 4 (only 2) ∷ LearnCommitted 1 1 4 ∷ Execute 1 3 ∷ RaiseVote 2 2 ∷ GrantVote 2 ∷ Establish 2 (only 2) ∷ Propose 2 8 ∷ Decide 2 5 (only 2) ∷ LearnCommitted 2 2 5 ∷ Execute 2 4 ∷ []

abbrev pub GroupsMove : Type 0
GroupsMove = AllAllowed moving moving_run (start moving) × Includes (run moving moving_run (start moving)).executed (record { index = 4; entry = record { leader = 2; payload = 8 } })
