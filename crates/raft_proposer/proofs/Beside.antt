-- Learners besides the voters, along an equation.
use Rattle.std.proofs.Common.{◌≡◌, ◌∙◌, ap, not, List, filter}
use Rattle.std.proofs.lemmas.List.Kept.{IsStrictlySortedBy-filter}
use Rattle.std.specs.declared.cmp.Ordering.{Ordering}
use Rattle.std.specs.declared.cmp.Ordering.TheVariants.{Equal}
use Rattle.std.specs.Cmp.{IsTotalOrder}
use Rattle.raft_progress.specs.raft_state.Members.{group_of, voter_ids, learner_ids}
use Rattle.raft_progress.specs.raft_state.Sorted.{has_id, IsSound}
use Rattle.raft_progress.proofs.raft_state_proofs.Groups.{group_ascends}
use Rattle.raft_progress.proofs.Memberships.{group_of_ascending, learners_are}
use Rattle.raft_progress.specs.raft_state.declared.membership.Members.{Members}
use Rattle.std.proofs.Common.{ℕ, Option}
use Rattle.raft_progress.specs.raft_state.declared.ids.LogId.{LogId}
use Rattle.raft_progress.specs.raft_state.declared.ids.Vote.{Vote}
use Rattle.raft_progress.specs.Quorum.{ids_of}
use Rattle.raft_progress.specs.Table.{Table, learners_beside, upgraded}
use Rattle.raft_proposer.specs.Candidacy.{Candidacy}
use Rattle.raft_proposer.specs.Candidate.{candidate_with, candidate_of}
use Rattle.raft_proposer.specs.Leader.{leader_over, leader_in}
use Rattle.raft_proposer.specs.Joint.{JointLeader}
use Rattle.raft_proposer.proofs.Elements.{filter_again}

module _ {ID : Type 0} (cmp : ID → ID → Ordering) (total : IsTotalOrder cmp) (same : (a b : ID) → cmp a b ≡ Equal → a ≡ b) where
  -- learners that stand beside the voters stay
  learners_again : (voters learners : List ID) → learners_beside cmp voters (learners_beside cmp voters learners) ≡ learners_beside cmp voters learners
  learners_again voters learners =
      let p = λ (id : ID). not (has_id cmp voters id) in
      ap (filter p) (group_of_ascending cmp total same (learners_beside cmp voters learners) (IsStrictlySortedBy-filter cmp p (group_of cmp learners) (group_ascends cmp total learners)))
      ∙ filter_again p (group_of cmp learners)

  pub stay_beside : (voters learners beside : List ID) → beside ≡ learners_beside cmp voters learners → learners_beside cmp voters beside ≡ beside
  stay_beside voters learners beside e = rw e (learners_again voters learners)

  pub stand_beside : {N : Type 0} (m : Members ID N) (learners : List ID) → IsSound cmp m.groups m.nodes → learners ≡ learner_ids cmp m → learners_beside cmp (voter_ids cmp m) learners ≡ learner_ids cmp m
  stand_beside m learners s e = rw e (learners_are cmp total same m s)

module _ {ID V P : Type 0} (cmp : ID → ID → Ordering) (p_cmp : P → P → Ordering) (measure : V → P) where
  -- a table that is made one of a quorum set with a membership's groups
  pub upgraded_in : {N : Type 0} (m : Members ID N) (t n : Table ID V P (List (List ID))) (set : List (List ID)) (learners : List ID) (v : V)
      → n ≡ upgraded cmp p_cmp measure t set (ids_of cmp set) (learners_beside cmp (ids_of cmp set) learners) v
      → set ≡ m.groups → ids_of cmp set ≡ voter_ids cmp m → learners_beside cmp (voter_ids cmp m) learners ≡ learner_ids cmp m
      → n ≡ upgraded cmp p_cmp measure t m.groups (voter_ids cmp m) (learner_ids cmp m) v
  upgraded_in m t n set learners v e f g h =
      e ∙ (λ i. upgraded cmp p_cmp measure t (f i) (g i) (learners_beside cmp (g i) learners) v) ∙ ap (λ ls. upgraded cmp p_cmp measure t m.groups (voter_ids cmp m) ls v) h

module _ {NID N : Type 0} (cmp : NID → NID → Ordering) where
  -- a candidate over a quorum set with a membership's groups
  pub candidate_in : (m : Members NID N) (c : Candidacy NID (List (List NID))) (now : ℕ) (vote : Vote NID) (last_id : Option (LogId NID)) (set : List (List NID)) (learners : List NID)
      → c ≡ candidate_with now vote last_id set (ids_of cmp set) (learners_beside cmp (ids_of cmp set) learners)
      → set ≡ m.groups → ids_of cmp set ≡ voter_ids cmp m → learners_beside cmp (voter_ids cmp m) learners ≡ learner_ids cmp m
      → c ≡ candidate_of cmp now vote last_id m
  candidate_in m c now vote last_id set learners e f g h =
      e ∙ (λ i. candidate_with now vote last_id (f i) (g i) (learners_beside cmp (g i) learners)) ∙ ap (λ ls. candidate_with now vote last_id m.groups (voter_ids cmp m) ls) h

module _ {C NID N E D R S : Type 0} (cmp : NID → NID → Ordering) where
  -- a leader over a quorum set with a membership's groups, whose clocks stand over a copy
  pub leader_in_is : (m : Members NID N) (l : JointLeader C NID N E D R S) (vote : Vote NID) (set copied : List (List NID)) (learners : List NID) (ids : List (LogId NID))
      → copied ≡ set → l ≡ leader_over cmp vote set copied (ids_of cmp set) (learners_beside cmp (ids_of cmp set) learners) ids
      → set ≡ m.groups → ids_of cmp set ≡ voter_ids cmp m → learners_beside cmp (voter_ids cmp m) learners ≡ learner_ids cmp m
      → l ≡ leader_in cmp vote m ids
  leader_in_is m l vote set copied learners ids k e f g h =
      e ∙ ap (λ s. leader_over cmp vote set s (ids_of cmp set) (learners_beside cmp (ids_of cmp set) learners) ids) k
      ∙ (λ i. leader_over cmp vote (f i) (f i) (g i) (learners_beside cmp (g i) learners) ids)
      ∙ ap (λ ls. leader_over cmp vote m.groups m.groups (voter_ids cmp m) ls ids) h
