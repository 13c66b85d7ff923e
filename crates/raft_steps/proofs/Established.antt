-- The leader that is made of a sound candidate is sound.
use Rattle.std.proofs.Common.{◌≡◌, refl, sym, subst, Bool, true, false, Option, None, Some}
use Rattle.std.specs.Prelude.{IfSome, ◌&&◌, if◌then◌else◌}
use Rattle.std.specs.Cmp.{IsTotalOrder}
use Rattle.std.specs.Option.{option_map}
use Rattle.std.specs.Ordering.{is_eq}
use Rattle.std.specs.declared.cmp.Ordering.{Ordering}
use Rattle.std.specs.declared.cmp.Ordering.TheVariants.{Equal}
use Rattle.raft_state.specs.Order.{vote_cmp}
use Rattle.raft_state.specs.declared.state.RaftState.{RaftState}
use Rattle.raft_command.specs.declared.config.EngineConfig.{EngineConfig}
use Rattle.raft_proposer.specs.Candidate.{into_leader}
use Rattle.raft_steps.specs.EstablishHandler.{outvotes, established}
use Rattle.raft_steps.specs.Invariants.{LeaderFits, CandidateFits, IsSound}
use Rattle.raft_steps.specs.Parts.{Machine}
use Rattle.raft_proposer.specs.Joint.{JointLeader, JointCandidate}
use Rattle.raft_steps.proofs.KeptEngine.{into_leader_fits}

module _ {C NID N E D R S A : Type 0} (cmp : NID → NID → Ordering) (total : IsTotalOrder cmp) (same : (a b : NID) → cmp a b ≡ Equal → a ≡ b) (config : EngineConfig NID) (shown : A → JointLeader C NID N E D R S) where
  made_fits : (s : RaftState NID N) (c : JointCandidate NID) (voted outvoted : Bool) (made : Option A)
      → (voted ≡ true → LeaderFits {C = C} {E = E} {D = D} {R = R} {S = S} cmp config.id s.ids s.purged s.em.membership (into_leader cmp c))
      → option_map shown made ≡ (if voted && outvoted then Some (into_leader cmp c) else None)
      → IfSome made (λ l. LeaderFits cmp config.id s.ids s.purged s.em.membership (shown l))
  made_fits s c voted outvoted None fit e = tt
  made_fits s c true true (Some l) fit e =
      let same_leader : shown l ≡ into_leader cmp c = cc in
      subst (LeaderFits cmp config.id s.ids s.purged s.em.membership) (sym same_leader) (fit refl)
  made_fits s c true false (Some l) fit e = cc
  made_fits s c false outvoted (Some l) fit e = cc

  pub established_fits : (m : Machine C NID N E D R S) (c : JointCandidate NID) (made : Option A) → option_map shown made ≡ established cmp m.core.state m.leader c
      → IsSound cmp config (record m { candidate = Some c }) → IfSome made (λ l. LeaderFits cmp config.id m.core.state.ids m.core.state.purged m.core.state.em.membership (shown l))
  established_fits m c made e h =
      let s = m.core.state in
      let fit : CandidateFits cmp config.id s.vote s.ids s.em.membership c = h.lead.candidate_fits in
      made_fits s c (is_eq (vote_cmp cmp c.vote s.vote)) (outvotes cmp m.leader c) made (λ voted. into_leader_fits cmp total same config.id s.ids s.purged s.em.membership c (fit.current voted)) e
