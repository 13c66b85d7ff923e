-- Calls about votes leave the committed membership.
use Rattle.std.proofs.Common.{ℕ, ◌≤◌, ◌≡◌, true, List, [], ◌∷◌, arith, refl, sym, ap, ◌∙◌, subst, Option, None, Some, true≢false}
use Rattle.std.specs.Prelude.{if◌then◌else◌, filter_map}
use Rattle.std.specs.Ordering.{is_eq, is_le, is_lt, nat_cmp, bool_cmp, ordering_then}
use Rattle.std.specs.declared.cmp.Ordering.TheVariants.{Greater}
use Rattle.std.proofs.lemmas.Cmp.{nat_cmp_total}
use Rattle.raft_node.specs.raft_state.declared.ids.LogId.{LogId}
use Rattle.raft_node.specs.raft_state.declared.ids.Vote.{Vote}
use Rattle.raft_node.specs.raft_state.declared.membership.Members.{Members}
use Rattle.raft_node.specs.raft_state.declared.membership.StoredMembership.{StoredMembership}
use Rattle.raft_node.specs.raft_state.Order.{last_id_cmp, leader_id_cmp, vote_cmp}
use Rattle.raft_node.specs.raft_state.State.{is_leader, is_leading}
use Rattle.raft_node.specs.raft_progress.Quorum.{is_quorum}
use Rattle.raft_node.specs.raft_command.declared.config.EngineConfig.{EngineConfig}
use Rattle.raft_node.specs.raft_command.declared.message.VoteRequest.{VoteRequest}
use Rattle.raft_node.specs.raft_command.declared.message.VoteResponse.{VoteResponse}
use Rattle.raft_node.specs.raft_command.Message.{is_granted_to}
use Rattle.raft_node.specs.raft_proposer.Candidate.{grant_by, into_leader, is_granted}
use Rattle.raft_node.specs.raft_steps.Engine.{elect, handle_vote_resp, initialize, lead_by_votes, may_establish, take_grant, take_rejection, as_uncommitted}
use Rattle.raft_node.specs.raft_steps.FollowingHandler.{do_append_entries}
use Rattle.raft_node.specs.raft_steps.Laws.{Queues, saved_vote}
use Rattle.raft_node.specs.raft_steps.LeaderHandler.{leader_append_entries, proposed}
use Rattle.raft_node.specs.raft_steps.Parts.{Core, on_core, on_leader}
use Rattle.raft_node.specs.raft_steps.ReplicationHandler.{initiate_replication, rebuild_replication_streams}
use Rattle.raft_node.specs.raft_steps.Requests.{handle_vote_req, refuses_vote_req}
use Rattle.raft_node.specs.raft_steps.ServerStateHandler.{update_role}
use Rattle.raft_node.specs.raft_steps.VoteHandler.{become_following, become_leader, begin_lead, lead_anew, rejects_vote, take_vote, update_internal_server_state, update_vote}
use Rattle.raft_node.proofs.raft_steps_proofs.LawsQueue.{risen_le}
use Rattle.raft_node.specs.raft_store.declared.config.WorldConfig.{WorldConfig}
use Rattle.raft_node.specs.raft_store.declared.entry.Entry.{Entry}
use Rattle.raft_node.specs.raft_store.Entries.{entry_meaning}
use Rattle.raft_node.specs.raft_store.Types.{WorldCandidate, WorldLeader, WorldMachine}
use Rattle.raft_node.specs.raft_calls.Feeds.{WorldLed}
use Rattle.raft_node.specs.raft_calls.Elections.{first_entry}
use Rattle.proof_deeds.specs.Images.{IsNamed, number}
use Rattle.proof_deeds.proofs.Numbers.{Order, ordered, below, same, above}
use Rattle.raft_node.proofs.raft_steps_proofs.Kept.{either}

abbrev WorldCore : Type 0
WorldCore = Core WorldConfig ℕ (Unit {0}) Entry ℕ ℕ (List Entry)

abbrev made : WorldCandidate → WorldLeader
made c = into_leader nat_cmp c

-- the committed membership and id
abbrev pub Both : Type 0
Both = StoredMembership ℕ (Unit {0}) × Option (LogId ℕ)

abbrev pub cm_of : WorldMachine → Both
cm_of m = (m.core.state.cm, m.core.state.committed)

abbrev cm_led : WorldLed → Both
cm_led l = (l.core.state.cm, l.core.state.committed)

abbrev cm_core : WorldCore → Both
cm_core c = (c.state.cm, c.state.committed)

module _ (config : EngineConfig ℕ) where
  following_cm : (m : WorldMachine) → cm_of (become_following nat_cmp config m) ≡ cm_of m
  unfolding become_following update_role
  following_cm m = refl

  rebuild_cm : (l : WorldLed) → cm_led (rebuild_replication_streams nat_cmp config l) ≡ cm_led l
  unfolding rebuild_replication_streams
  rebuild_cm l = refl

  blank_cm : (x : LogId ℕ) (l : WorldLed) → cm_led (leader_append_entries nat_cmp entry_meaning config (entry_meaning.blank x ∷ []) l) ≡ cm_led l
  unfolding leader_append_entries proposed initiate_replication
  blank_cm x l = refl

  begin_cm : (l : WorldLed) → cm_led (begin_lead nat_cmp entry_meaning config l) ≡ cm_led l
  unfolding begin_lead update_role
  begin_cm l = either (λ (q : WorldLed). cm_led q ≡ cm_led l) (is_lt (last_id_cmp nat_cmp l.leader.last_log_id (Some l.leader.noop_log_id))) _ _ (blank_cm _ _ ∙ rebuild_cm _) (rebuild_cm _)

  anew_cm : (m : WorldMachine) → cm_of (lead_anew nat_cmp entry_meaning config m) ≡ cm_of m
  unfolding lead_anew
  anew_cm m = begin_cm _

  leader_cm : (m : WorldMachine) → cm_of (become_leader nat_cmp entry_meaning config m) ≡ cm_of m
  unfolding become_leader update_role
  leader_cm m = go m.leader where
    go : (o : Option WorldLeader) → cm_of (elim o [
      | None ↦ lead_anew nat_cmp entry_meaning config m
      | Some l ↦
          (if is_eq (leader_id_cmp nat_cmp l.vote.leader_id m.core.state.vote.leader_id)
          then on_core (update_role nat_cmp config) (record m { leader = Some (record l { vote = m.core.state.vote }) })
          else lead_anew nat_cmp entry_meaning config m)
    ]) ≡ cm_of m
    go None = anew_cm m
    go (Some l) = either (λ (q : WorldMachine). cm_of q ≡ cm_of m) (is_eq (leader_id_cmp nat_cmp l.vote.leader_id m.core.state.vote.leader_id)) _ _ refl (anew_cm m)

  pub internal_cm : (m : WorldMachine) → cm_of (update_internal_server_state nat_cmp entry_meaning config m) ≡ cm_of m
  unfolding update_internal_server_state
  internal_cm m =
      either (λ (q : WorldMachine). cm_of q ≡ cm_of m) (is_leader nat_cmp m.core.state config.id) _ _ (leader_cm m)
      (either (λ (q : WorldMachine). cm_of q ≡ cm_of m) (is_leading nat_cmp m.core.state config.id) _ _ refl (following_cm m))

  pub vote_cm : (v : Vote ℕ) (now : ℕ) (m : WorldMachine) → cm_of (update_vote nat_cmp entry_meaning config v now m) ≡ cm_of m
  unfolding update_vote
  vote_cm v now m =
      either (λ (q : WorldMachine). cm_of q ≡ cm_of m) (rejects_vote nat_cmp m.core.state v) _ _ refl
      (internal_cm (on_core (take_vote nat_cmp config v now) m) ∙ taken) where
        taken : cm_core (take_vote nat_cmp config v now m.core) ≡ cm_core m.core
        taken = either (λ (c : WorldCore). cm_core c ≡ cm_core m.core) _ _ _ refl refl

  pub elect_cm : (now : ℕ) (m : WorldMachine) → cm_of (elect nat_cmp entry_meaning config now m) ≡ cm_of m
  unfolding elect update_role
  elect_cm now m = vote_cm _ now _

  pub vote_req_cm : (req : VoteRequest ℕ) (now : ℕ) (m : WorldMachine) → cm_of (handle_vote_req nat_cmp entry_meaning config req now m) ≡ cm_of m
  unfolding handle_vote_req
  vote_req_cm req now m = either (λ (q : WorldMachine). cm_of q ≡ cm_of m) (refuses_vote_req nat_cmp config m.core.state req now) _ _ refl (vote_cm req.vote now m)

  on_leader_cm : (f : WorldLed → WorldLed) → ((l : WorldLed) → cm_led (f l) ≡ cm_led l) → (m : WorldMachine) → cm_of (on_leader f m) ≡ cm_of m
  on_leader_cm f h m = go m.leader where
    go : (o : Option WorldLeader) → cm_of (on_leader f (record m { leader = o })) ≡ cm_of m
    go None = refl
    go (Some l) = h _

  lead_cm : (c : WorldCandidate) (now : ℕ) (m : WorldMachine) → cm_of (lead_by_votes nat_cmp entry_meaning config c now m) ≡ cm_of m
  unfolding lead_by_votes
  lead_cm c now m =
      either (λ (q : WorldMachine). cm_of q ≡ cm_of m) (may_establish nat_cmp m.core.state m.leader c) _ _
      (on_leader_cm (leader_append_entries nat_cmp entry_meaning config (entry_meaning.blank (made c).noop_log_id ∷ [])) (blank_cm _) _ ∙ (vote_cm _ now _ ∙ rebuild_cm _)) refl

  grant_cm : (c : WorldCandidate) (target now : ℕ) (m : WorldMachine) → cm_of (take_grant nat_cmp entry_meaning config c target now m) ≡ cm_of m
  unfolding take_grant
  grant_cm c target now m = either (λ (q : WorldMachine). cm_of q ≡ cm_of m) (is_granted (is_quorum nat_cmp) (grant_by nat_cmp c target)) _ _ (lead_cm (grant_by nat_cmp c target) now m) refl

  reject_cm : (resp : VoteResponse ℕ) (now : ℕ) (m : WorldMachine) → cm_of (take_rejection nat_cmp entry_meaning config resp now m) ≡ cm_of m
  unfolding take_rejection
  reject_cm resp now m = vote_cm (as_uncommitted resp.vote) now m

  pub vote_resp_cm : (target : ℕ) (resp : VoteResponse ℕ) (now : ℕ) (m : WorldMachine) → cm_of (handle_vote_resp nat_cmp entry_meaning config target resp now m) ≡ cm_of m
  unfolding handle_vote_resp
  vote_resp_cm target resp now m = go m.candidate where
    go : (o : Option WorldCandidate) → cm_of (elim o [ None ↦ m | Some c ↦ (if is_granted_to nat_cmp resp c.vote then take_grant nat_cmp entry_meaning config c target now m else take_rejection nat_cmp entry_meaning config resp now m) ]) ≡ cm_of m
    go None = refl
    go (Some c) = either (λ (q : WorldMachine). cm_of q ≡ cm_of m) (is_granted_to nat_cmp resp c.vote) _ _ (grant_cm c target now m) (reject_cm resp now m)

  -- the first membership takes effect
  pub initialize_cm : (first : Members ℕ (Unit {0})) (now : ℕ) (m : WorldMachine) → cm_of (initialize nat_cmp entry_meaning config 0 (first_entry first) now m) ≡ (m.core.state.em, m.core.state.committed)
  unfolding initialize do_append_entries update_role
  initialize_cm first now m = elect_cm now _

-- a vote that isn't below another one is of no lower leader id
pub vote_at_least : (v w : Vote ℕ) → IsNamed v.leader_id → IsNamed w.leader_id → is_le (vote_cmp nat_cmp v w) ≡ true → number v.leader_id ≤ number w.leader_id
vote_at_least v w h k e = go (ordered v.leader_id w.leader_id h k) where
  go : Order v.leader_id w.leader_id → number v.leader_id ≤ number w.leader_id
  go (below q l) = omega (arith, l)
  go (same q l) = let z : number v.leader_id ≡ number w.leader_id = ap number l in omega (arith, z)
  go (above q l) = absurd (let z : is_le (ordering_then Greater (bool_cmp v.committed w.committed)) ≡ true = subst (λ o. is_le (ordering_then o (bool_cmp v.committed w.committed)) ≡ true) q e in true≢false (sym z))

-- what a call queues: its vote doesn't fall
pub queues_rise : (old new : WorldCore) → Queues nat_cmp old new → is_le (vote_cmp nat_cmp old.state.vote new.state.vote) ≡ true
queues_rise old new q = risen_le nat_cmp nat_cmp_total old.state.vote (filter_map saved_vote q.added) new.state.vote q.votes
