-- A leader's calls, and what commands feed back, leave the leader id of the engine's vote.
use Rattle.std.proofs.Common.{ℕ, ◌≡◌, ◌∙◌, ap, true, false, List, [], ◌∷◌, refl, sym, Option, None, Some}
use Rattle.std.specs.Prelude.{◌==◌, if◌then◌else◌, length}
use Rattle.std.specs.Cmp.{tied_itself}
use Rattle.std.specs.Ordering.{is_eq, is_gt, nat_cmp}
use Rattle.std.proofs.lemmas.Bool.{and_parts, cond_both}
use Rattle.std.proofs.lemmas.Cmp.{nat_cmp_total}
use Rattle.proof_deeds.specs.raft_state.declared.ids.Vote.{Vote}
use Rattle.proof_deeds.specs.raft_state.Log.{last}
use Rattle.proof_deeds.specs.raft_state.Order.{vote_cmp}
use Rattle.proof_deeds.specs.raft_state.Same.{nat_same}
use Rattle.proof_deeds.proofs.raft_state_proofs.Orders.{is_equal, vote_total}
use Rattle.proof_deeds.specs.raft_progress.Quorum.{is_quorum}
use Rattle.proof_deeds.specs.raft_progress.Table.{is_in}
use Rattle.proof_deeds.specs.raft_command.declared.config.EngineConfig.{EngineConfig}
use Rattle.proof_deeds.specs.raft_proposer.Candidate.{grant_by, into_leader, is_granted}
use Rattle.proof_deeds.specs.raft_steps.Engine.{handle_vote_resp, is_granted_to, lead_by_votes, may_establish, take_grant, take_rejection}
use Rattle.proof_deeds.specs.raft_steps.LeaderHandler.{last_proposed, leader_append_entries, proposed}
use Rattle.proof_deeds.specs.raft_steps.Parts.{leading, led_of, on_core, on_leader}
use Rattle.proof_deeds.specs.raft_steps.Refusals.{refusals_of_local_progress, refusals_of_vote_resp}
use Rattle.proof_deeds.specs.raft_steps.ReplicationHandler.{append_membership_led, initiate_replication, rebuild_progresses, rebuild_replication_streams}
use Rattle.proof_deeds.specs.raft_steps.Starts.{lead_on}
use Rattle.proof_deeds.specs.raft_steps.VoteHandler.{rejects_vote, take_vote, update_vote}
use Rattle.proof_deeds.proofs.raft_steps_proofs.Kept.{either, either_option}
use Rattle.proof_deeds.proofs.raft_steps_proofs.Leads.{vote_same}
use Rattle.proof_deeds.proofs.raft_steps_proofs.Marks.{internal_marks}
use Rattle.proof_deeds.specs.raft_store.declared.entry.Entry.{Entry}
use Rattle.proof_deeds.specs.raft_store.Entries.{entry_meaning}
use Rattle.proof_deeds.specs.raft_store.Types.{EngineView, WorldCandidate, WorldLeader, WorldMachine}
use Rattle.proof_deeds.specs.raft_calls.declared.feed.Feed.{Feed}
use Rattle.proof_deeds.specs.raft_calls.declared.feed.Feed.TheVariants.{Nothing, Saved, Stored}
use Rattle.proof_deeds.specs.raft_calls.Feeds.{WorldLed, asks_itself, called, fed, grant_own, own_grant}
use Rattle.proof_deeds.proofs.raft_calls_proofs.Falls.{WorldCore}
use Rattle.proof_progress.proofs.KeptVotes.{local_keeps}

-- the leader that a candidate becomes
abbrev pub won_leader : WorldCandidate → WorldLeader
won_leader c = into_leader nat_cmp c

module _ (config : EngineConfig ℕ) where
  -- proposals
  pub proposed_vote : (es : List Entry) (l : WorldLed) → (leader_append_entries nat_cmp entry_meaning config es l).core.state.vote ≡ l.core.state.vote
  unfolding leader_append_entries proposed initiate_replication append_membership_led rebuild_progresses rebuild_replication_streams
  proposed_vote es l =
      either (λ (k : WorldLed). k.core.state.vote ≡ l.core.state.vote) (length es == 0) _ _ refl
      (either_option (λ (k : WorldLed). (initiate_replication nat_cmp config false k).core.state.vote ≡ l.core.state.vote) (last_proposed entry_meaning l.leader es) (proposed entry_meaning es l) (λ m. append_membership_led nat_cmp config m (proposed entry_meaning es l)) refl (λ m. refl))

  pub on_leader_vote : (es : List Entry) (m : WorldMachine) → (on_leader (leader_append_entries nat_cmp entry_meaning config es) m).core.state.vote ≡ m.core.state.vote
  on_leader_vote es m = either_option (λ (q : WorldMachine). q.core.state.vote ≡ m.core.state.vote) m.leader _ _ refl (λ l. proposed_vote es (record { leader = l; core = m.core }))

  -- a start
  pub lead_on_vote : (m : WorldMachine) → (on_leader (lead_on nat_cmp config) m).core.state.vote ≡ m.core.state.vote
  unfolding initiate_replication
  lead_on_vote m = either_option (λ (q : WorldMachine). q.core.state.vote ≡ m.core.state.vote) m.leader _ _ refl (λ l. (local_keeps config (last m.core.state.ids) (record { leader = l; core = m.core })).state.vote)

  -- an election that is won
  same : (c : WorldCandidate) (m : WorldMachine) → is_eq (vote_cmp nat_cmp c.vote m.core.state.vote) ≡ true → c.vote.leader_id ≡ m.core.state.vote.leader_id
  same c m e = ap (λ (v : Vote ℕ). v.leader_id) (vote_same nat_cmp nat_same c.vote m.core.state.vote (is_equal (vote_cmp nat_cmp c.vote m.core.state.vote) e))

  pub won_vote : (c : WorldCandidate) (now : ℕ) (m : WorldMachine) → is_eq (vote_cmp nat_cmp c.vote m.core.state.vote) ≡ true
      → (update_vote nat_cmp entry_meaning config (won_leader c).vote now (leading (record m { candidate = None }) (rebuild_replication_streams nat_cmp config (record { leader = won_leader c; core = m.core })))).core.state.vote.leader_id ≡ c.vote.leader_id
  unfolding update_vote rebuild_replication_streams
  won_vote c now m e =
      either (λ (q : WorldMachine). q.core.state.vote.leader_id ≡ c.vote.leader_id) (rejects_vote nat_cmp m.core.state (won_leader c).vote) _ _ (sym (same c m e))
      (ap (λ (v : Vote ℕ). v.leader_id) (internal_marks nat_cmp entry_meaning config taken).vote
      ∙ either (λ (d : WorldCore). d.state.vote.leader_id ≡ c.vote.leader_id) (is_gt (vote_cmp nat_cmp (won_leader c).vote m.core.state.vote)) _ _ refl (sym (same c m e)))
    where
      taken : WorldMachine
      taken = on_core (take_vote nat_cmp config (won_leader c).vote now) (leading (record m { candidate = None }) (rebuild_replication_streams nat_cmp config (record { leader = won_leader c; core = m.core })))

  lead_by_votes_leader : (c : WorldCandidate) (now : ℕ) (m : WorldMachine) → (lead_by_votes nat_cmp entry_meaning config c now m).core.state.vote.leader_id ≡ m.core.state.vote.leader_id
  unfolding lead_by_votes
  lead_by_votes_leader c now m =
      cond_both (may_establish nat_cmp m.core.state m.leader c) _ _ (λ (q : WorldMachine). q.core.state.vote.leader_id ≡ m.core.state.vote.leader_id)
      (λ e.
      let z : is_eq (vote_cmp nat_cmp c.vote m.core.state.vote) ≡ true = (and_parts (is_eq (vote_cmp nat_cmp c.vote m.core.state.vote)) _ e).0 in
      ap (λ (v : Vote ℕ). v.leader_id) (on_leader_vote (entry_meaning.blank (won_leader c).noop_log_id ∷ []) _) ∙ (won_vote c now m z ∙ same c m z))
      (λ _. refl)

  -- a candidate's own grant
  granted_leader : (c : WorldCandidate) (v : Vote ℕ) (target now : ℕ) (m : WorldMachine) → m.candidate ≡ Some c → is_eq (vote_cmp nat_cmp c.vote v) ≡ true
      → (handle_vote_resp nat_cmp entry_meaning config target (own_grant v) now m).core.state.vote.leader_id ≡ m.core.state.vote.leader_id
  unfolding handle_vote_resp take_grant take_rejection
  granted_leader c v target now m some own = go m.candidate some
    where
      machine_in : WorldMachine → WorldMachine
      machine_in q = q

      granted : (d : WorldCandidate) → d ≡ c → is_granted_to nat_cmp (own_grant v) d.vote ≡ true
      granted d q =
          let z : c.vote ≡ v = vote_same nat_cmp nat_same c.vote v (is_equal (vote_cmp nat_cmp c.vote v) own) in
          ap (λ (w : Vote ℕ). is_eq (vote_cmp nat_cmp v w)) (ap (λ (x : WorldCandidate). x.vote) q ∙ z) ∙ ap is_eq (tied_itself (vote_total nat_cmp nat_cmp_total) v)

      go : (o : Option WorldCandidate) → o ≡ Some c
          → (machine_in (elim o as (λ _. WorldMachine) [
            | None ↦ m
            | Some d ↦
                (if is_granted_to nat_cmp (own_grant v) d.vote
                then (if is_granted (is_quorum nat_cmp) (grant_by nat_cmp d target) then lead_by_votes nat_cmp entry_meaning config (grant_by nat_cmp d target) now m else record m { candidate = Some (grant_by nat_cmp d target) })
                else take_rejection nat_cmp entry_meaning config (own_grant v) now m)
          ])).core.state.vote.leader_id ≡ m.core.state.vote.leader_id
      go None q = refl
      go (Some d) q =
          let z : d ≡ c = cc in
          cond_both (is_granted_to nat_cmp (own_grant v) d.vote) _ _ (λ (q : WorldMachine). q.core.state.vote.leader_id ≡ m.core.state.vote.leader_id)
          (λ _. either (λ (q : WorldMachine). q.core.state.vote.leader_id ≡ m.core.state.vote.leader_id) (is_granted (is_quorum nat_cmp) (grant_by nat_cmp d target)) _ _ (lead_by_votes_leader (grant_by nat_cmp d target) now m) refl)
          (λ e. let y : true ≡ false = sym (granted d z) ∙ e in cc)

called_leader : {A : Type 0} (asks : Option A) (e : EngineView) (m : WorldMachine) → m.core.state.vote.leader_id ≡ e.machine.core.state.vote.leader_id
    → (called asks e m).machine.core.state.vote.leader_id ≡ e.machine.core.state.vote.leader_id
called_leader None e m q = q
called_leader (Some r) e m q = refl

-- what is fed back
pub fed_leader : (now : ℕ) (f : Feed) (e : EngineView) → (fed now f e).machine.core.state.vote.leader_id ≡ e.machine.core.state.vote.leader_id
fed_leader now Nothing e = refl
fed_leader now (Stored v x) e =
    either_option (λ (g : EngineView). g.machine.core.state.vote.leader_id ≡ e.machine.core.state.vote.leader_id) e.machine.leader _ _ refl
    (λ l. either (λ (g : EngineView). g.machine.core.state.vote.leader_id ≡ e.machine.core.state.vote.leader_id) (is_eq (vote_cmp nat_cmp l.vote v)) _ _
    (called_leader (refusals_of_local_progress nat_cmp e.config x (led_of l e.machine.core.state e.machine.core.output)) e _
    (ap (λ (v : Vote ℕ). v.leader_id) (local_keeps e.config x (led_of l e.machine.core.state e.machine.core.output)).state.vote)) refl)
fed_leader now (Saved v) e = go e.machine.candidate refl
  where
    view_in : EngineView → EngineView
    view_in g = g

    go : (o : Option WorldCandidate) → e.machine.candidate ≡ o
        → (view_in (elim o as (λ _. EngineView) [ None ↦ e | Some c ↦ (if asks_itself v c e then grant_own now v e else e) ])).machine.core.state.vote.leader_id ≡ e.machine.core.state.vote.leader_id
    go None q = refl
    go (Some c) q =
        cond_both (asks_itself v c e) _ _ (λ (g : EngineView). g.machine.core.state.vote.leader_id ≡ e.machine.core.state.vote.leader_id)
        (λ own. called_leader (refusals_of_vote_resp nat_cmp e.config e.config.id (own_grant v) e.machine) e _
        (granted_leader e.config c v e.config.id now e.machine q (and_parts (is_eq (vote_cmp nat_cmp c.vote v)) (is_in nat_cmp c.progress e.config.id) own).0))
        (λ _. refl)
