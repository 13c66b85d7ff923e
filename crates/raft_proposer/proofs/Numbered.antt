-- A loop that gives entries their ids, one after another.
use Rattle.std.proofs.Common.{◌≡◌, ◌∙◌, ap, ℕ, zero, suc, ◌+◌, ◌<◌, List, [], ◌∷◌, ◌++◌, take, drop, set, get_or, length, add-zero, add-one, arith}
use Rattle.raft_progress.specs.raft_state.declared.config.RaftEntry
use Rattle.raft_progress.specs.raft_state.declared.ids.LeaderId.{LeaderId}
use Rattle.raft_proposer.specs.Leader.{numbered}

shifted : (n i : ℕ) → n + suc i ≡ (n + 1) + i
shifted n i = omega arith

below_one : (i n : ℕ) → suc i < suc n → i < n
below_one i n h = omega arith

module _ {NID N E : Type 0} (entry : RaftEntry.Ghosts E NID N) (leader : LeaderId NID) where
  -- entries of which the first i have their ids
  abbrev partly : ℕ → List E → ℕ → List E
  partly n es i = numbered entry leader n (take i es) ++ drop i es

  step : (n : ℕ) (es : List E) (i : ℕ) (e : E) → i < length es → e ≡ get_or (partly n es i) i e
      → set (partly n es i) i (entry.with_id e (record { leader_id = leader; index = n + i })) ≡ partly n es (suc i)
  step n [] i e h is = absurd (omega (arith, h))
  step n (x ∷ es) zero e h is = λ j. entry.with_id (is j) (record { leader_id = leader; index = add-zero n j }) ∷ es
  step n (x ∷ es) (suc i) e h is =
      ap (λ xs. entry.with_id x (record { leader_id = leader; index = n }) ∷ xs)
      (ap (λ k. set (partly (n + 1) es i) i (entry.with_id e (record { leader_id = leader; index = k }))) (shifted n i)
      ∙ step (n + 1) es i e (below_one i (length es) h) is)

  -- the next entry gets its id
  pub numbered_more :
      (n : ℕ) (es now : List E) (i : ℕ) (e : E) → i < length es → now ≡ numbered entry leader n (take i es) ++ drop i es → e ≡ get_or now i e
      → set now i (entry.with_id e (record { leader_id = leader; index = n + i })) ≡ numbered entry leader n (take (i + 1) es) ++ drop (i + 1) es
  numbered_more n es now i e h is this = rw (is, add-one i) (step n es i e h (this ∙ ap (λ xs. get_or xs i e) is))
