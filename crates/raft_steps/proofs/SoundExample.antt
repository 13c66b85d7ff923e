-- Engines that are sound: a new one, one with a log, and one that leads and commits.
use Rattle.std.specs.Prelude.{◌≡◌, ℕ, true, [], ◌∷◌, None, Some, is_some, refl}
use Rattle.std.proofs.Common.{arith}
use Rattle.std.proofs.lemmas.Cmp.{nat_cmp_total}
use Rattle.std.specs.Ordering.{nat_cmp}
use Rattle.raft_state.specs.declared.state.RaftState.{RaftState}
use Rattle.raft_state.specs.Same.{nat_same}
use Rattle.raft_state.specs.State.{empty}
use Rattle.raft_steps.specs.declared.plain.Entry.{Entry}
use Rattle.raft_steps.specs.declared.plain.Payload.TheVariants.{Membership}
use Rattle.raft_steps.specs.Parts.{on_leader}
use Rattle.raft_steps.specs.Invariants.{IsSound}
use Rattle.raft_steps.specs.ServerStateHandler.{update_role}
use Rattle.raft_steps.specs.FollowingHandler.{do_append_entries}
use Rattle.raft_steps.specs.ReplicationHandler.{rebuild_replication_streams, initiate_replication, update_local_progress}
use Rattle.raft_steps.specs.LeaderHandler.{proposed, leader_append_entries}
use Rattle.raft_steps.specs.VoteHandler.{become_following, begin_lead, lead_anew, become_leader, update_internal_server_state, update_vote}
use Rattle.raft_steps.specs.Engine.{initialize, elect, lead_by_votes, take_grant, handle_vote_resp}
use Rattle.raft_steps.proofs.Example.{PlainMachine, plain, lid, pending, committed, settings, state, machine, nodes_of}
use Rattle.raft_steps.proofs.Kept.{TakesIds}
use Rattle.raft_steps.proofs.KeptCommit.{local_is_sound}
use Rattle.raft_steps.proofs.KeptEngine.{empty_is_sound, idle_is_sound, initialize_is_sound, handle_vote_resp_is_sound}

new_is_sound : IsSound nat_cmp (settings 0) (machine (empty 0))
new_is_sound = idle_is_sound nat_cmp nat_cmp_total nat_same (settings 0) (machine (empty 0)).core (empty_is_sound nat_cmp (Unit {0}) 0)

abbrev held : RaftState ℕ (Unit {0})
held = record (state (committed 2 1) (lid 0 0 0 ∷ lid 1 1 1 ∷ lid 2 1 2 ∷ [])) {
  committed = Some (lid 1 1 1);
  purged = Some (lid 0 0 0);
  purge_to = Some (lid 0 0 0);
  snap = record { last_log_id = Some (lid 1 1 1); last_membership = (state (committed 2 1) []).cm; snapshot_id = [] };
  accepted_by = Some (record { term = 2; node_id = 1 }, lid 2 1 2);
}

held_is_sound : IsSound nat_cmp (settings 3) (machine held)
held_is_sound = record {
  sound = record {
    log = record { by_vote = (refl, (refl, (refl, tt))); rising = (refl, (refl, (refl, tt))); run = (refl, (refl, (refl, tt))); below_end = (omega arith, (omega arith, (omega arith, tt))); first = refl };
    marks = record { at_purged = refl; at_target = refl; at_snapshot = refl; at_committed = refl; target_fits = refl; snapshot_fits = refl; committed_fits = refl };
    accepted = record { by_vote = refl; held = λ e. refl };
  };
  lead = record { leader_fits = tt; candidate_fits = tt };
}

takes : TakesIds plain
takes e id = (refl, refl)

abbrev first : Entry
first = record { log_id = lid 7 7 7; payload = Membership (record { groups = (1 ∷ []) ∷ []; nodes = nodes_of (1 ∷ []) }) }

-- a single voter takes its first entry, and votes for itself
begun : PlainMachine
begun = initialize nat_cmp plain (settings 1) 0 first 3 (machine (empty 0))

begun_is_sound : IsSound nat_cmp (settings 1) begun
unfolding begun
begun_is_sound = initialize_is_sound nat_cmp nat_cmp_total nat_same plain takes (settings 1) 0 first 3 (machine (empty 0)) refl refl (empty_is_sound nat_cmp (Unit {0}) 0)

-- its own grant makes it leader
led : PlainMachine
led = handle_vote_resp nat_cmp plain (settings 1) 1 (record { vote = pending 1 1; vote_granted = true; last_log_id = None }) 3 begun

led_is_sound : IsSound nat_cmp (settings 1) led
unfolding led begun initialize do_append_entries elect update_vote update_internal_server_state become_following become_leader begin_lead lead_anew update_role
led_is_sound = handle_vote_resp_is_sound nat_cmp nat_cmp_total nat_same plain takes (settings 1) 1 (record { vote = pending 1 1; vote_granted = true; last_log_id = None }) 3 begun refl begun_is_sound

led_leads : is_some led.leader ≡ true
unfolding led begun initialize do_append_entries elect handle_vote_resp take_grant lead_by_votes rebuild_replication_streams initiate_replication leader_append_entries proposed update_vote update_internal_server_state become_following become_leader begin_lead lead_anew update_role
led_leads = refl

-- and its log holds its blank entry, which is committed
committing_is_sound : IsSound nat_cmp (settings 1) (on_leader (update_local_progress nat_cmp (settings 1) (Some (lid 1 1 1))) led)
unfolding led begun initialize do_append_entries elect handle_vote_resp take_grant lead_by_votes rebuild_replication_streams initiate_replication leader_append_entries proposed update_vote update_internal_server_state become_following become_leader begin_lead lead_anew update_role
committing_is_sound = local_is_sound nat_cmp nat_cmp_total nat_same (settings 1) (Some (lid 1 1 1)) led refl led_is_sound
