-- Steps that leave what a candidate has of the state.
use Rattle.std.specs.Prelude.{◌≡◌, refl, [], ◌∷◌, Option, None, Some, IfSome}
use Rattle.std.proofs.Common.{◌∙◌, sym, subst}
use Rattle.std.specs.declared.cmp.Ordering.{Ordering}
use Rattle.std.specs.declared.cmp.Ordering.TheVariants.{Equal}
use Rattle.std.specs.Ordering.{is_eq}
use Rattle.std.specs.Cmp.{IsTotalOrder}
use Rattle.raft_state.specs.declared.ids.LogId.{LogId}
use Rattle.raft_state.specs.declared.state.RaftState.{RaftState}
use Rattle.raft_state.specs.Log.{last}
use Rattle.raft_state.specs.Order.{leader_id_cmp}
use Rattle.raft_command.specs.declared.command.Command.TheVariants.{ReplicateCommitted}
use Rattle.raft_command.specs.declared.config.EngineConfig.{EngineConfig}
use Rattle.raft_steps.specs.Invariants.{CandidateFits, IsSound, IsSoundLed}
use Rattle.raft_steps.specs.Parts.{Core, Led, led_machine}
use Rattle.raft_proposer.specs.Joint.{JointCandidate}
use Rattle.raft_steps.specs.ReplicationHandler.{try_commit_quorum_accepted}
use Rattle.raft_steps.proofs.Kept.{either, commit_by_case}

module _ {NID N : Type 0} where
  -- vote, last id and members are the same
  pub record SameSight (s t : RaftState NID N) : Type 0 where
    pub vote : t.vote ≡ s.vote
    pub last_id : last t.ids ≡ last s.ids
    pub members : t.em.membership ≡ s.em.membership

  pub sight_self : (s : RaftState NID N) → SameSight s s
  sight_self s = record { vote = refl; last_id = refl; members = refl }

  pub sight_then : (a b c : RaftState NID N) → SameSight a b → SameSight b c → SameSight a c
  sight_then a b c h k = record { vote = k.vote ∙ h.vote; last_id = k.last_id ∙ h.last_id; members = k.members ∙ h.members }

module _ {NID N : Type 0} (cmp : NID → NID → Ordering) (id : NID) where
  -- a candidate has of a log its last id alone
  same_last : (s t : RaftState NID N) (c : JointCandidate NID) → last t.ids ≡ last s.ids
      → CandidateFits cmp id s.vote s.ids s.em.membership c → CandidateFits cmp id s.vote t.ids s.em.membership c
  same_last s t c e h = record {
    pending = h.pending;
    low = h.low;
    current = λ now. let k = h.current now in record { own = k.own; member = k.member; last_id = k.last_id ∙ sym e; groups = k.groups; voters = k.voters; learners = k.learners };
  }

  -- so it fits what it sees the same of
  pub candidate_sees : (s t : RaftState NID N) (o : Option (JointCandidate NID)) → SameSight s t
      → IfSome o (CandidateFits cmp id s.vote s.ids s.em.membership) → IfSome o (CandidateFits cmp id t.vote t.ids t.em.membership)
  candidate_sees s t None e h = tt
  candidate_sees s t (Some c) e h =
      subst (λ m. CandidateFits cmp id t.vote t.ids m c) (sym e.members)
      (subst (λ v. CandidateFits cmp id v t.ids s.em.membership c) (sym e.vote) (same_last s t c e.last_id h))

module _ {C NID N E D R S : Type 0} (cmp : NID → NID → Ordering) (total : IsTotalOrder cmp) (same : (a b : NID) → cmp a b ≡ Equal → a ≡ b) (config : EngineConfig NID) where
  -- a commit is not seen
  pub commit_sight : (x : Option (LogId NID)) (c : Core C NID N E D R S) → SameSight c.state (try_commit_quorum_accepted cmp config x c).state
  unfolding try_commit_quorum_accepted
  commit_sight None c = sight_self c.state
  commit_sight (Some x) c =
      either (λ (n : Core C NID N E D R S). SameSight c.state n.state) (is_eq (leader_id_cmp cmp x.leader_id c.state.vote.leader_id)) _ _
      (commit_by_case cmp total same config (λ (n : Core C NID N E D R S). SameSight c.state n.state) (ReplicateCommitted (Some x) ∷ []) x c
      (λ e. sight_self c.state) (λ e cm building q. record { vote = refl; last_id = refl; members = refl }))
      (sight_self c.state)

module _ {C NID N E D R S : Type 0} (cmp : NID → NID → Ordering) (config : EngineConfig NID) where
  -- a step over a leader that a candidate beside it doesn't see
  pub step_is_sound : (f : Led C NID N E D R S → Led C NID N E D R S) (l : Led C NID N E D R S) (o : Option (JointCandidate NID))
      → (IsSoundLed cmp config l → IsSoundLed cmp config (f l)) → (IsSoundLed cmp config l → SameSight l.core.state (f l).core.state)
      → IsSound cmp config (led_machine l o) → IsSound cmp config (led_machine (f l) o)
  step_is_sound f l o kept seen h =
      let k : IsSoundLed cmp config l = record { sound = h.sound; leader_fits = h.lead.leader_fits } in
      let n = kept k in
      record { sound = n.sound; lead = record { leader_fits = n.leader_fits; candidate_fits = candidate_sees cmp config.id l.core.state (f l).core.state o (seen k) h.lead.candidate_fits } }
