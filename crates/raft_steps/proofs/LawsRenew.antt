-- An equal vote renews its time, in the calls that are no requests for votes or entries too.
use Rattle.std.specs.Prelude.{◌≡◌, ℕ, ⊤, true, false, Option, None, Some, MatchBool, if◌then◌else◌}
use Rattle.std.proofs.Common.{sym, ◌∙◌, subst}
use Rattle.std.specs.declared.cmp.Ordering.{Ordering}
use Rattle.std.specs.Ordering.{is_eq}
use Rattle.std.specs.Cmp.{IsTotalOrder}
use Rattle.raft_state.specs.declared.config.RaftEntry
use Rattle.raft_state.specs.declared.ids.Vote.{Vote}
use Rattle.raft_state.specs.Order.{vote_cmp}
use Rattle.raft_command.specs.declared.config.EngineConfig.{EngineConfig}
use Rattle.raft_command.specs.declared.message.Snapshot.{Snapshot}
use Rattle.raft_command.specs.declared.message.Token.{Token}
use Rattle.raft_command.specs.declared.message.VoteResponse.{VoteResponse}
use Rattle.raft_steps.specs.Accepts.{Accepts, OnlyReplies}
use Rattle.raft_steps.specs.Engine.{as_uncommitted, handle_vote_resp, is_granted_to, take_grant, take_rejection}
use Rattle.raft_steps.specs.Installs.{handle_install_full_snapshot}
use Rattle.raft_steps.specs.Laws.{Renews}
use Rattle.raft_steps.specs.Parts.{Machine}
use Rattle.raft_proposer.specs.Joint.{JointCandidate}
use Rattle.raft_steps.specs.VoteHandler.{rejects_vote, update_vote}
use Rattle.raft_steps.proofs.KeptEngine.{else_of}
use Rattle.raft_steps.proofs.LawsFollow.{Stays, not_below, own_stays, renews_of, update_vote_renews}
use Rattle.raft_steps.proofs.LawsInstall.{handle_install_queues, install_leaves_vote}

module _ {C NID N E D R S : Type 0} (cmp : NID → NID → Ordering) (total : IsTotalOrder cmp) (entry : RaftEntry.Ghosts E NID N) (config : EngineConfig NID) where
  pub accept_vote_renews : (v : Vote NID) (token : Token) (now : ℕ) (answer : Option Token) (old new : Machine C NID N E D R S)
      → Accepts cmp entry config (λ s rejected waiting reply. ⊤) v token now answer old new → is_eq (vote_cmp cmp v old.core.state.vote) ≡ true → Renews now old.core new.core
  accept_vote_renews v token now answer old new accepts e =
      let taken : (answer ≡ Some token) × (new ≡ update_vote cmp entry config v now old) =
      subst (λ b. MatchBool b ((answer ≡ None) × OnlyReplies (λ s rejected waiting reply. ⊤) token old new) ((answer ≡ Some token) × (new ≡ update_vote cmp entry config v now old)))
      (not_below (vote_cmp cmp v old.core.state.vote) e) accepts in
      subst (λ (n : Machine C NID N E D R S). Renews now old.core n.core) (sym taken.1) (update_vote_renews cmp total entry config v now old e)

  pub handle_vote_resp_renews : (target : NID) (resp : VoteResponse NID) (now : ℕ) (c : JointCandidate NID) (m : Machine C NID N E D R S) → m.candidate ≡ Some c → is_granted_to cmp resp c.vote ≡ false
      → is_eq (vote_cmp cmp (as_uncommitted resp.vote) m.core.state.vote) ≡ true → Renews now m.core (handle_vote_resp cmp entry config target resp now m).core
  unfolding handle_vote_resp take_rejection
  handle_vote_resp_renews target resp now c m is ungranted e = go m.candidate is where
    go : (o : Option (JointCandidate NID)) → o ≡ Some c
        → (let n = (elim o as (λ _. Machine C NID N E D R S) [
          | None ↦ m
          | Some d ↦ (if is_granted_to cmp resp d.vote then take_grant cmp entry config d target now m else take_rejection cmp entry config resp now m)
        ]) in Renews now m.core n.core)
    go None h = cc
    go (Some d) h =
        let same : d ≡ c = cc in
        else_of (λ (n : Machine C NID N E D R S). Renews now m.core n.core) (is_granted_to cmp resp d.vote) _ _ (subst (λ (x : JointCandidate NID). is_granted_to cmp resp x.vote ≡ false) (sym same) ungranted)
        (update_vote_renews cmp total entry config (as_uncommitted resp.vote) now m e)

  pub handle_install_renews : (v : Vote NID) (snapshot : Snapshot C NID N E D R S) (token : Token) (now : ℕ) (m : Machine C NID N E D R S) → is_eq (vote_cmp cmp v m.core.state.vote) ≡ true
      → Renews now m.core (handle_install_full_snapshot cmp entry config v snapshot token now m).core
  unfolding handle_install_full_snapshot
  handle_install_renews v snapshot token now m e =
      let s = own_stays cmp total entry config v now m e in
      let k = install_leaves_vote cmp config total snapshot (update_vote cmp entry config v now m).core in
      let kept : Stays cmp total entry config now m (handle_install_full_snapshot cmp entry config v snapshot token now m) =
      else_of (Stays cmp total entry config now m) (rejects_vote cmp m.core.state v) _ _ (not_below (vote_cmp cmp v m.core.state.vote) e) (k.0 ∙ s.0, k.1 ∙ s.1) in
      renews_of cmp total entry config now m.core _ (handle_install_queues cmp total entry config v snapshot token now m) kept.0 kept.1
