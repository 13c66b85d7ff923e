-- What is known of a leader's snapshot that isn't refused.
use Rattle.std.specs.Prelude.{◌≡◌, ℕ, Bool, true, false, ◌&&◌, not, [], ◌∷◌, Option, None, refl, if◌then◌else◌}
use Rattle.std.proofs.Common.{◌∙◌}
use Rattle.std.specs.Option.{option_or}
use Rattle.std.specs.Ordering.{is_eq, is_gt}
use Rattle.std.specs.declared.cmp.Ordering.{Ordering}
use Rattle.raft_state.specs.declared.config.RaftEntry
use Rattle.raft_state.specs.declared.ids.Vote.{Vote}
use Rattle.raft_state.specs.Members.{contains}
use Rattle.raft_state.specs.Order.{leader_id_cmp, vote_cmp}
use Rattle.raft_state.specs.State.{is_leader, is_leading, by_last_leader}
use Rattle.raft_progress_entry.specs.raft_error.Number.{first_refusal}
use Rattle.raft_progress_entry.specs.raft_error.declared.error.EngineError.{EngineError}
use Rattle.raft_progress_entry.specs.raft_error.declared.error.EngineError.TheVariants.{CounterEnd, OwnVote, Spent, VoteNotCommitted}
use Rattle.raft_command.specs.declared.config.EngineConfig.{EngineConfig}
use Rattle.raft_steps.specs.Refusals.{is_counter_end, is_spent}
use Rattle.raft_proposer.specs.Leader.{leader_in}
use Rattle.raft_steps.specs.Parts.{Core, Machine, on_core}
use Rattle.raft_steps.specs.RequestRefusals.{refusals_of_request}
use Rattle.raft_steps.specs.Room.{HasRoomAfter, MayLead, is_new}
use Rattle.raft_steps.specs.ServerStateHandler.{update_role}
use Rattle.raft_steps.specs.VoteHandler.{become_following, become_leader, lead_anew, rejects_vote, take_vote, update_internal_server_state, update_vote}
use Rattle.raft_steps.proofs.Kept.{either, either_option}
use Rattle.raft_steps.proofs.Started.{begin_seq}

module _ {C NID N E D R S : Type 0} (cmp : NID → NID → Ordering) (config : EngineConfig NID) where
  -- if a request's vote passes and isn't below the node's own, the rest is checked
  pub request_asked : (v : Vote NID) (more : Option (EngineError NID N)) (m : Machine C NID N E D R S) → is_spent m ≡ false → is_counter_end m ≡ false → v.committed ≡ true
      → is_eq (cmp v.leader_id.node_id config.id) ≡ false → rejects_vote cmp m.core.state v ≡ false → refusals_of_request cmp config v more m ≡ more
  request_asked v more m p q r s t = by_tests (is_spent m) (is_counter_end m) v.committed (is_eq (cmp v.leader_id.node_id config.id)) (rejects_vote cmp m.core.state v) p q r s t where
    by_tests : (a b c d f : Bool) → a ≡ false → b ≡ false → c ≡ true → d ≡ false → f ≡ false
        → option_or (first_refusal ((a, Spent) ∷ (b, CounterEnd) ∷ (not c, VoteNotCommitted) ∷ (d, OwnVote) ∷ [])) (if f then None else more) ≡ more
    by_tests a b c d f p q r s t = rw (p, q, r, s, t) refl

  -- a request that isn't refused isn't of this node's own vote, and so makes no leader of it
  pub request_may : (v : Vote NID) (more : Option (EngineError NID N)) (m : Machine C NID N E D R S) → refusals_of_request cmp config v more m ≡ None
      → MayLead cmp config v m.core.state.em.membership m.core.state.ids m.leader
  request_may v more m e =
      go (is_spent m) (is_counter_end m) v.committed (is_eq (cmp v.leader_id.node_id config.id)) (contains cmp m.core.state.em.membership config.id) (is_new cmp v m.leader)
      (if rejects_vote cmp m.core.state v then None else more) e where
        go : (a b c d f g : Bool) (more : Option (EngineError NID N))
            → option_or (first_refusal ((a, Spent) ∷ (b, CounterEnd) ∷ (not c, VoteNotCommitted) ∷ (d, OwnVote) ∷ [])) more ≡ None
            → (c && d && f && g) ≡ true → HasRoomAfter cmp v m.core.state.ids
        go true b c d f g more e h = cc
        go false true c d f g more e h = cc
        go false false false d f g more e h = cc
        go false false true true f g more e h = cc
        go false false true false f g more e h = cc

module _ {C NID N E D R S : Type 0} (cmp : NID → NID → Ordering) (entry : RaftEntry.Ghosts E NID N) (config : EngineConfig NID) where
  -- no number is drawn by a vote
  internal_seq : (m : Machine C NID N E D R S) → (update_internal_server_state cmp entry config m).core.output.seq ≡ m.core.output.seq
  unfolding update_internal_server_state become_leader become_following lead_anew update_role
  internal_seq m =
      either SameSeq (is_leader cmp m.core.state config.id) _ _
      (either_option SameSeq m.leader _ _ (begin_seq cmp entry config (record { leader = leader_in cmp m.core.state.vote m.core.state.em.membership (by_last_leader cmp m.core.state.ids); core = m.core }))
      (λ l. either SameSeq (is_eq (leader_id_cmp cmp l.vote.leader_id m.core.state.vote.leader_id)) _ _ refl
      (begin_seq cmp entry config (record { leader = leader_in cmp m.core.state.vote m.core.state.em.membership (by_last_leader cmp m.core.state.ids); core = m.core }))))
      (either SameSeq (is_leading cmp m.core.state config.id) _ _ refl refl) where
        SameSeq : Machine C NID N E D R S → Type 0
        SameSeq n = n.core.output.seq ≡ m.core.output.seq

  pub heard_seq : (v : Vote NID) (now : ℕ) (m n : Machine C NID N E D R S) → n ≡ update_vote cmp entry config v now m → n.core.output.seq ≡ m.core.output.seq
  unfolding update_vote
  heard_seq v now m n e =
      rw e (either SameSeq (rejects_vote cmp m.core.state v) _ _ refl
      (internal_seq (on_core (take_vote cmp config v now) m) ∙ either (λ (c : Core C NID N E D R S). c.output.seq ≡ m.core.output.seq) (is_gt (vote_cmp cmp v m.core.state.vote)) _ _ refl refl)) where
        SameSeq : Machine C NID N E D R S → Type 0
        SameSeq n = n.core.output.seq ≡ m.core.output.seq
