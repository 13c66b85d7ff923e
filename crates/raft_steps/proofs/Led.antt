-- A leader made by votes.
use Rattle.std.proofs.Common.{◌≡◌, ◌∙◌, sym, refl, ap, subst, ◌+◌, ◌^◌, ◌<◌, Bool, true, false, [], ◌∷◌, Option, None, Some, ℕ, arith}
use Rattle.std.specs.Prelude.{IfSome, ◌==◌, ◌&&◌, is_none}
use Rattle.std.proofs.lemmas.Bool.Decides.{nat_tests}
use Rattle.raft_state.specs.Order.{next}
use Rattle.raft_state.specs.declared.state.RaftState.{RaftState}
use Rattle.raft_proposer.specs.raft_progress.Quorum.{is_quorum}
use Rattle.raft_proposer.specs.raft_progress.Table.{get}
use Rattle.raft_progress_entry.specs.raft_error.declared.error.EngineError.TheVariants.{UnknownTarget, IndexEnd}
use Rattle.raft_steps.specs.Refusals.{refusals_of_grant}
use Rattle.raft_proposer.specs.Joint.{u64_max}
use Rattle.raft_steps.specs.Invariants.{IsSound, CandidateFits}
use Rattle.raft_steps.proofs.Room.{log_end}
use Rattle.raft_steps.proofs.Unrefused.{second_fails}
use Rattle.std.specs.declared.cmp.Ordering.{Ordering}
use Rattle.raft_state.specs.declared.config.RaftEntry
use Rattle.raft_command.specs.declared.config.EngineConfig.{EngineConfig}
use Rattle.raft_proposer.specs.Candidate.{into_leader, grant_by, is_granted}
use Rattle.raft_steps.specs.Engine.{may_establish, lead_by_votes, take_grant}
use Rattle.raft_steps.specs.LeaderHandler.{leader_append_entries}
use Rattle.raft_steps.specs.Parts.{Led, Machine, leading, on_leader}
use Rattle.raft_proposer.specs.Joint.{JointLeader, JointCandidate}
use Rattle.raft_steps.specs.ReplicationHandler.{rebuild_replication_streams}
use Rattle.raft_steps.specs.VoteHandler.{update_vote}

module _ {C NID N E D R S : Type 0} (cmp : NID → NID → Ordering) (entry : RaftEntry.Ghosts E NID N) (config : EngineConfig NID) where
  -- it is made, its streams begin, its vote is taken and its blank entry proposed
  pub by_votes_is : (c : JointCandidate NID) (now : ℕ) (m n : Machine C NID N E D R S) (made : JointLeader C NID N E D R S) (x : Led C NID N E D R S)
      → may_establish cmp m.core.state m.leader c ≡ true → made ≡ into_leader cmp c → x ≡ rebuild_replication_streams cmp config (record { leader = made; core = m.core })
      → n ≡ on_leader (leader_append_entries cmp entry config (entry.blank made.noop_log_id ∷ [])) (update_vote cmp entry config made.vote now (leading (record m { candidate = None }) x))
      → n ≡ lead_by_votes cmp entry config c now m
  unfolding lead_by_votes
  by_votes_is c now m n made x may e f h =
      h ∙ ap (λ y. on_leader (leader_append_entries cmp entry config (entry.blank made.noop_log_id ∷ [])) (update_vote cmp entry config made.vote now (leading (record m { candidate = None }) y))) f
      ∙ ap (λ l. on_leader (leader_append_entries cmp entry config (entry.blank l.noop_log_id ∷ [])) (update_vote cmp entry config l.vote now (leading (record m { candidate = None }) (rebuild_replication_streams cmp config (record { leader = l; core = m.core }))))) e
      ∙ rw may refl

end_left : (n : ℕ) → n < 2 ^ 64 → (n == u64_max) ≡ false → n + 1 < 2 ^ 64
end_left n h e = grind (arith, nat_tests, h, e)

third_fails : (a b c : Bool) → (a && b && c) ≡ false → a ≡ true → b ≡ true → c ≡ false
third_fails true true c e h k = e
third_fails true false c e h k = cc
third_fails false b c e h k = cc

module _ {C NID N E D R S : Type 0} (cmp : NID → NID → Ordering) where
  -- a quorum that is not refused leaves an index for the blank entry
  pub grant_room : (target : NID) (c : JointCandidate NID) (s : RaftState NID N) (leader : Option (JointLeader C NID N E D R S)) → refusals_of_grant cmp target c s leader ≡ None
      → is_granted (is_quorum cmp) (grant_by cmp c target) ≡ true → (may_establish cmp s leader c ≡ true → next c.last_log_id < 2 ^ 64) → may_establish cmp s leader c ≡ true → next c.last_log_id + 1 < 2 ^ 64
  grant_room target c s leader e granted end may =
      end_left (next c.last_log_id) (end may)
      (third_fails (is_granted (is_quorum cmp) (grant_by cmp c target)) (may_establish cmp s leader c) (next c.last_log_id == u64_max)
      (second_fails (is_none (get cmp c.progress target)) _ UnknownTarget IndexEnd None e) granted may)

module _ {C NID N E D R S : Type 0} (cmp : NID → NID → Ordering) (entry : RaftEntry.Ghosts E NID N) (config : EngineConfig NID) where
  -- what a grant does doesn't look at the candidate that it is counted for
  pub grant_of : (c d : JointCandidate NID) (target : NID) (now : ℕ) (m : Machine C NID N E D R S) (n : Machine C NID N E D R S)
      → n ≡ take_grant cmp entry config c target now m → n ≡ take_grant cmp entry config c target now (record m { candidate = Some d })
  unfolding take_grant lead_by_votes
  grant_of c d target now m n e = e

first_holds : (a b : Bool) → (a && b) ≡ true → a ≡ true
first_holds true b h = refl
first_holds false b h = cc

module _ {C NID N E D R S : Type 0} (cmp : NID → NID → Ordering) (config : EngineConfig NID) where
  -- a candidate that may lead has the log's last id
  pub candidate_ends : (m : Machine C NID N E D R S) → IsSound cmp config m
      → IfSome m.candidate (λ c. may_establish cmp m.core.state m.leader c ≡ true → next c.last_log_id < 2 ^ 64)
  candidate_ends m h = go m.candidate h.lead.candidate_fits where
    go : (o : Option (JointCandidate NID)) → IfSome o (CandidateFits cmp config.id m.core.state.vote m.core.state.ids m.core.state.em.membership)
        → IfSome o (λ c. may_establish cmp m.core.state m.leader c ≡ true → next c.last_log_id < 2 ^ 64)
    go None f = tt
    go (Some c) f = λ may. subst (λ d. next d < 2 ^ 64) (sym (f.current (first_holds _ _ may)).last_id) (log_end cmp m.core.state h.sound)
