-- A run that is not allowed, for one reason alone: a log is truncated below the entry that a snapshot contradicts,
-- while groups change (as openraft truncates it, from the committed index). Two different entries are executed at index
-- 2.
use Rattle.std.specs.Prelude.{ℕ, ◌≤◌, ◌<◌, ◌≢◌, Bool, true, false, cond, eqb, ltb, List, [], ◌∷◌}
use Rattle.proof_agreement.specs.Machine.{World, Setup, Event, RaiseVote, GrantVote, Follow, Establish, Propose, Extend, Acknowledge, Install, Decide, LearnCommitted, Execute, Begin, Clear, Includes, IsLed, Allowed, AllAllowed, happens, run, start, log_of, leader_log, vote_of}

-- the condition of Clear without `deep`; and the contradicted entry is in the log
pub record MayClearLow {A : Type 0} (s : Setup A) (w : World A) (n j d p : ℕ) : Type 0 where
  pub led : IsLed s w n
  pub past : (w.node n).committed ≤ j
  pub shorter : j ≤ (log_of w n).len
  pub low : d ≤ vote_of w n
  pub decided : p < (w.leader d).decided
  pub in_own : p < (log_of w n).len
  pub apart : (log_of w n).at p ≢ (leader_log w d).at p

abbrev pub AllowedLow : {A : Type 0} → Setup A → World A → Event A → Type 0
AllowedLow s w (Clear n j d p) = MayClearLow s w n j d p
AllowedLow s w e = Allowed s w e

abbrev pub AllAllowedLow : {A : Type 0} → Setup A → List (Event A) → World A → Type 0
AllAllowedLow s [] w = Unit {0}
AllAllowedLow s (e ∷ es) w = AllowedLow s w e × AllAllowedLow s es (happens s w e)

-- the payloads 0, 1 and 2 are the memberships {1} with {4, 5, 6}, {4, 5, 6}, and {1}
abbrev pub low_truncation : Setup ℕ
low_truncation =
    record {
      is_membership = λ x. ltb x 3;
      first_group = λ x. cond (eqb x 1) (4 ∷ 5 ∷ 6 ∷ []) (1 ∷ []);
      other_groups = λ x. cond (eqb x 0) ((4 ∷ 5 ∷ 6 ∷ []) ∷ []) [];
      groups_kept = false;
      owner = λ d. cond (eqb d 2) 5 (cond (eqb d 3) 1 6);
      first_payload = 0;
    }

abbrev pub three : ℕ → ℕ → ℕ → ℕ → Bool
three a b c n = cond (eqb n a) true (cond (eqb n b) true (eqb n c))

abbrev pub low_truncation_run : List (Event ℕ)
low_truncation_run = Begin 6 ∷ RaiseVote 6 1 ∷ GrantVote 6 ∷ RaiseVote 1 1 ∷ GrantVote 1 ∷ RaiseVote 5 1 ∷ GrantVote 5 ∷ Establish 1 (three 1 5 6) ∷ Propose 1 7 ∷ Follow 1 1 ∷ Extend 1 2 ∷ Acknowledge 1 2 ∷ Follow 5 1 ∷ Extend 5 2 ∷ Acknowledge 5 2 ∷ Decide 1 2 (three 1 5 6) ∷ Propose 1 1 ∷ RaiseVote 5 2 ∷ GrantVote 5 ∷ RaiseVote 1 2 ∷ GrantVote 1 ∷ RaiseVote 4 2 ∷ GrantVote 4 ∷ Establish 2 (three 1 4 5) ∷ Propose 2 9 ∷ Follow 1 2 ∷ Extend 1 3 ∷ Acknowledge 1 3 ∷ Follow 4 2 ∷ Extend 4 3 ∷ Acknowledge 4 3 ∷ Decide 2 3 (three 1 4 5) ∷ Propose 2 2 ∷ Extend 1 4 ∷ Extend 4 4 ∷ Propose 2 8 ∷ Extend 4 5 ∷ RaiseVote 1 3 ∷ GrantVote 1 ∷ Establish 3 (three 1 1 1) ∷ Propose 3 9 ∷ Decide 3 5 (three 1 1 1) ∷ LearnCommitted 1 3 5 ∷ Execute 1 2 ∷ Follow 4 3 ∷ Clear 4 0 3 4 ∷ RaiseVote 6 4 ∷ GrantVote 6 ∷ RaiseVote 4 4 ∷ GrantVote 4 ∷ Establish 4 (three 4 6 6) ∷ Propose 4 9 ∷ Follow 4 4 ∷ Extend 4 4 ∷ Acknowledge 4 4 ∷ Decide 4 4 (three 4 6 6) ∷ LearnCommitted 6 4 4 ∷ Execute 6 2 ∷ []

abbrev pub LowTruncationDiffers : Type 0
LowTruncationDiffers = AllAllowedLow low_truncation low_truncation_run (start low_truncation) × Includes (run low_truncation low_truncation_run (start low_truncation)).executed (record { index = 2; entry = record { leader = 2; payload = 9 } }) × Includes (run low_truncation low_truncation_run (start low_truncation)).executed (record { index = 2; entry = record { leader = 1; payload = 1 } })

-- the same run up to the truncation, which is now allowed, and the install
abbrev pub high_truncation_run : List (Event ℕ)
high_truncation_run = Begin 6 ∷ RaiseVote 6 1 ∷ GrantVote 6 ∷ RaiseVote 1 1 ∷ GrantVote 1 ∷ RaiseVote 5 1 ∷ GrantVote 5 ∷ Establish 1 (three 1 5 6) ∷ Propose 1 7 ∷ Follow 1 1 ∷ Extend 1 2 ∷ Acknowledge 1 2 ∷ Follow 5 1 ∷ Extend 5 2 ∷ Acknowledge 5 2 ∷ Decide 1 2 (three 1 5 6) ∷ Propose 1 1 ∷ RaiseVote 5 2 ∷ GrantVote 5 ∷ RaiseVote 1 2 ∷ GrantVote 1 ∷ RaiseVote 4 2 ∷ GrantVote 4 ∷ Establish 2 (three 1 4 5) ∷ Propose 2 9 ∷ Follow 1 2 ∷ Extend 1 3 ∷ Acknowledge 1 3 ∷ Follow 4 2 ∷ Extend 4 3 ∷ Acknowledge 4 3 ∷ Decide 2 3 (three 1 4 5) ∷ Propose 2 2 ∷ Extend 1 4 ∷ Extend 4 4 ∷ Propose 2 8 ∷ Extend 4 5 ∷ RaiseVote 1 3 ∷ GrantVote 1 ∷ Establish 3 (three 1 1 1) ∷ Propose 3 9 ∷ Decide 3 5 (three 1 1 1) ∷ LearnCommitted 1 3 5 ∷ Execute 1 2 ∷ Follow 4 3 ∷ Clear 4 4 3 4 ∷ Install 4 3 5 ∷ Execute 4 2 ∷ []

abbrev pub HighTruncationInstalls : Type 0
HighTruncationInstalls = AllAllowed low_truncation high_truncation_run (start low_truncation) × Includes (run low_truncation high_truncation_run (start low_truncation)).executed (record { index = 2; entry = record { leader = 2; payload = 9 } })
