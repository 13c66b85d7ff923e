-- A request for votes is granted.
use Rattle.std.proofs.Common.{ℕ, ◌≡◌, ◌≢◌, Bool, true, false, not, ◌&&◌, List, [], ◌∷◌, ◌++◌, refl, ap, ◌∙◌, Option, None, Some}
use Rattle.std.specs.Prelude.{if◌then◌else◌}
use Rattle.std.specs.Ordering.{is_eq, is_lt, nat_cmp}
use Rattle.proof_deeds.specs.raft_state.declared.ids.LeaderId.{LeaderId}
use Rattle.proof_deeds.specs.raft_state.declared.ids.LogId.{LogId}
use Rattle.proof_deeds.specs.raft_state.declared.state.ServerState.{ServerState}
use Rattle.proof_deeds.specs.raft_state.declared.state.ServerState.TheVariants.{Candidate, Follower, Leader, Learner}
use Rattle.proof_deeds.specs.raft_state.Log.{last}
use Rattle.proof_deeds.specs.raft_state.Members.{contains}
use Rattle.proof_deeds.specs.raft_state.Order.{last_id_cmp}
use Rattle.proof_deeds.specs.raft_state.State.{server_state}
use Rattle.proof_deeds.specs.raft_error.declared.error.EngineError.{EngineError}
use Rattle.proof_deeds.specs.raft_command.declared.command.Command.TheVariants.{SaveVote}
use Rattle.proof_deeds.specs.raft_command.declared.message.VoteRequest.{VoteRequest}
use Rattle.proof_deeds.specs.raft_command.declared.message.VoteResponse.{VoteResponse}
use Rattle.proof_deeds.specs.raft_steps.Parts.{on_core, then_command}
use Rattle.proof_deeds.specs.raft_steps.RequestRefusals.{refusals_of_vote_req}
use Rattle.proof_deeds.specs.raft_steps.Requests.{handle_vote_req, is_leased, refuses_vote_req, vote_req_answer, vote_response}
use Rattle.proof_deeds.specs.raft_steps.ServerStateHandler.{role_commands, update_role}
use Rattle.proof_deeds.specs.raft_steps.VoteHandler.{become_following, rejects_vote, update_vote}
use Rattle.proof_deeds.specs.raft_store.Entries.{entry_meaning}
use Rattle.proof_deeds.specs.raft_store.Types.{EngineView, WorldCommand, WorldMachine}
use Rattle.proof_deeds.specs.raft_calls.Deliveries.{take_vote_request, vote_reply, vote_requested, with_machine}
use Rattle.proof_progress.specs.Elections.{pending}
use Rattle.proof_progress.proofs.Conditions.{EngineGrants}
use Rattle.proof_progress.proofs.Images.{grant_reply, granted_with, quits}
use Rattle.proof_progress.proofs.Elects.{and_yes, if_false, no_and, other_taken, raised, role_follows, unrefused_is}

module _ (d : LeaderId ℕ) (x : Option (LogId ℕ)) (now : ℕ) (e : EngineView) (h : EngineGrants d x now e) where
  abbrev asked : VoteRequest ℕ
  asked = record { vote = pending d; last_log_id = x }

  m : WorldMachine
  m = e.machine

  or_no : (a b : Bool) → a ≡ false → b ≡ false → Rattle.std.specs.Prelude.◌||◌ a b ≡ false
  or_no true b e f = cc
  or_no false b e f = f

  willing : refuses_vote_req nat_cmp e.config e.machine.core.state asked now ≡ false
  willing = or_no (is_leased e.config e.machine.core.state now) (is_lt (last_id_cmp nat_cmp x (last e.machine.core.state.ids))) h.unleased h.ahead

  accepts : rejects_vote nat_cmp e.machine.core.state (pending d) ≡ false
  accepts = ap is_lt h.greater

  quits_is : (r s : ServerState) → s ≢ Leader → ◌≡◌ {A = List WorldCommand} (role_commands r s) (quits r)
  quits_is Leader Leader h = absurd (h refl)
  quits_is Leader Learner h = refl
  quits_is Leader Follower h = refl
  quits_is Leader Candidate h = refl
  quits_is Learner Leader h = absurd (h refl)
  quits_is Learner Learner h = refl
  quits_is Learner Follower h = refl
  quits_is Learner Candidate h = refl
  quits_is Follower Leader h = absurd (h refl)
  quits_is Follower Learner h = refl
  quits_is Follower Follower h = refl
  quits_is Follower Candidate h = refl
  quits_is Candidate Leader h = absurd (h refl)
  quits_is Candidate Learner h = refl
  quits_is Candidate Follower h = refl
  quits_is Candidate Candidate h = refl

  pub followed : become_following nat_cmp e.config (raised d now e.machine) ≡ (granted_with d now (SaveVote (pending d) ∷ quits e.machine.core.state.role) e).machine
  unfolding become_following update_role
  followed =
      ap made (quits_is e.machine.core.state.role (server_state nat_cmp (record e.machine.core.state { vote = pending d; time = Some now }) e.config.id) (role_follows (record e.machine.core.state { vote = pending d; time = Some now }) e.config.id refl (no_and (is_eq (nat_cmp d.node_id e.config.id)) (contains nat_cmp e.machine.core.state.em.membership e.config.id) h.other)))
      ∙ ap (λ (xs : List WorldCommand). (granted_with d now ((xs ++ SaveVote (pending d) ∷ []) ++ quits e.machine.core.state.role) e).machine) h.rest
    where
      made : List WorldCommand → WorldMachine
      made cs = (granted_with d now ((e.machine.core.output.items ++ SaveVote (pending d) ∷ []) ++ cs) e).machine

  handled : handle_vote_req nat_cmp entry_meaning e.config asked now e.machine ≡ (granted_with d now (SaveVote (pending d) ∷ quits e.machine.core.state.role) e).machine
  unfolding handle_vote_req
  handled =
      if_false (refuses_vote_req nat_cmp e.config e.machine.core.state asked now) e.machine (update_vote nat_cmp entry_meaning e.config (pending d) now e.machine) willing
      ∙ (other_taken e.config d now e.machine h.greater h.other ∙ followed)

  answer : vote_req_answer nat_cmp entry_meaning e.config asked now e.machine ≡ grant_reply d e
  unfolding vote_req_answer
  answer =
      ap (λ (n : WorldMachine). vote_response n.core.state (not (refuses_vote_req nat_cmp e.config e.machine.core.state asked now) && not (rejects_vote nat_cmp e.machine.core.state (pending d)))) handled
      ∙ ap (λ b. let r : VoteResponse ℕ = vote_response (granted_with d now (SaveVote (pending d) ∷ quits e.machine.core.state.role) e).machine.core.state b in r) (and_yes (not (refuses_vote_req nat_cmp e.config e.machine.core.state asked now)) (not (rejects_vote nat_cmp e.machine.core.state (pending d))) (ap not willing) (ap not accepts))

  unrefused : refusals_of_vote_req nat_cmp e.config asked now e.machine ≡ None
  unrefused = rw h.unspent (go (refuses_vote_req nat_cmp e.config e.machine.core.state asked now) (rejects_vote nat_cmp e.machine.core.state (pending d)))
    where
      go : (a b : Bool) → ◌≡◌ {A = Option (EngineError ℕ (Unit {0}))} (if not a && (not b && false) then Some Rattle.proof_deeds.specs.raft_error.declared.error.EngineError.TheVariants.IndexEnd else None) None
      go true b = refl
      go false true = refl
      go false false = refl

  -- it is granted: the vote is the engine's, and its reply is queued behind it
  pub request_granted : ◌≡◌ {A = Option ℕ × EngineView} (take_vote_request asked now e) (None, granted_with d now (SaveVote (pending d) ∷ (quits e.machine.core.state.role ++ vote_reply (grant_reply d e) ∷ [])) e)
  request_granted =
      unrefused_is (refusals_of_vote_req nat_cmp e.config asked now e.machine) e (vote_requested asked now e) unrefused
      ∙ (ap (λ (r : VoteResponse ℕ). let z : Option ℕ × EngineView = (None, with_machine e (on_core (λ c. then_command c (vote_reply r)) (handle_vote_req nat_cmp entry_meaning e.config asked now e.machine))) in z) answer
      ∙ ap (λ (n : WorldMachine). let z : Option ℕ × EngineView = (None, with_machine e (on_core (λ c. then_command c (vote_reply (grant_reply d e))) n)) in z) handled)
