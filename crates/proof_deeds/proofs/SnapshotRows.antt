-- Worked runs of snapshots, computed: one voter builds a snapshot of what it has applied and purges its log, and keeps
-- two entries; and a node that lags installs its leader's snapshot.
use Rattle.std.specs.Prelude.{◌≡◌, ℕ, List, [], ◌∷◌, ◌++◌, Option, None, Some, map, refl}
use Rattle.std.specs.Option.{option_map}
use Rattle.raft_node.specs.raft_state.declared.ids.LogId.{LogId}
use Rattle.raft_node.specs.raft_steps.Commit.{commit_by}
use Rattle.raft_node.specs.raft_steps.Engine.{elect, handle_vote_resp, initialize, lead_by_votes, take_grant}
use Rattle.raft_node.specs.raft_steps.FollowingHandler as following
use Rattle.raft_node.specs.raft_steps.FollowingHandler.{append_entries, do_append_entries}
use Rattle.raft_node.specs.raft_steps.Installs.{handle_install_full_snapshot, install_full_snapshot, install_upto}
use Rattle.raft_node.specs.raft_steps.LeaderHandler.{leader_append_entries, proposed}
use Rattle.raft_node.specs.raft_steps.LogHandler.{purge_log, schedule_policy_based_purge, try_purge_log}
use Rattle.raft_node.specs.raft_steps.Replies.{purge_unless_inflight, send_next, update_failed_progress, update_leader_clock, update_matching, update_progress, update_success_progress}
use Rattle.raft_node.specs.raft_steps.ReplicationHandler.{initiate_replication, rebuild_replication_streams, try_commit_quorum_accepted, update_local_progress}
use Rattle.raft_node.specs.raft_steps.Requests as requests
use Rattle.raft_node.specs.raft_steps.Requests.{append_answer, follow, handle_append_entries, handle_commit_entries, handle_vote_req, vote_req_answer}
use Rattle.raft_node.specs.raft_steps.ServerStateHandler.{update_role}
use Rattle.raft_node.specs.raft_steps.SnapshotCalls.{finish_building_snapshot}
use Rattle.raft_node.specs.raft_steps.SnapshotHandler.{snapshot_where_due, trigger_snapshot, update_snapshot}
use Rattle.raft_node.specs.raft_steps.VoteHandler.{become_following, become_leader, begin_lead, lead_anew, update_internal_server_state, update_vote}
use Rattle.raft_node.proofs.raft_steps_proofs.Example.{lid, settings, three}
use Rattle.raft_node.specs.raft_store.declared.entry.Entry.{Entry}
use Rattle.raft_node.specs.raft_store.declared.entry.Payload.TheVariants.{Value}
use Rattle.raft_node.specs.raft_schedule.declared.event.Event.{Event}
use Rattle.raft_node.specs.raft_store.declared.entry.Value.TheVariants.{Number}
use Rattle.raft_node.specs.raft_schedule.declared.event.EventKind.TheVariants.{Built, Deliver, Fail, Init, Propose, Snapshot}
use Rattle.raft_node.specs.declared.given.Given.{Given}
use Rattle.raft_node.specs.Events.{finish, happens, place_of, played}
use Rattle.raft_node.specs.raft_calls.Elections.{first_entry}
use Rattle.raft_node.specs.Net.{NodeView, new_node, node_at}
use Rattle.raft_node.specs.Runs.{with_event, world_after}
use Rattle.raft_node.specs.Work.{worked}
use Rattle.proof_deeds.proofs.RunRows.{alone, blank, event, leader}

abbrev value : ℕ → ℕ → Entry
value i v = record { log_id = lid 1 1 i; payload = Value (Number v) }

abbrev node_in : Given → List Event → NodeView
node_in given es = elim (node_at (world_after given es).nodes 1) [ None ↦ new_node given.settings 1 | Some n ↦ n ]

-- One voter, which keeps two entries in its log

abbrev keeping_two : Given
keeping_two = record { ids = 1 ∷ []; membership = alone; settings = record (settings 1) { max_in_snapshot_log_to_keep = 2; purge_batch_size = 1 } }

abbrev proposes : List Event
proposes = map event (Init 1 ∷ Propose 1 (Number 5 ∷ []) ∷ Propose 1 (Number 6 ∷ []) ∷ Snapshot 1 ∷ [])

abbrev all : List Entry
all = first_entry alone ∷ blank 1 1 1 ∷ value 2 5 ∷ value 3 6 ∷ []

-- it notes what it has applied
it_notes_what_is_applied : (node_in keeping_two proposes).noted ≡ Some all
unfolding with_event happens finish played worked place_of initialize elect do_append_entries update_vote update_internal_server_state become_following become_leader begin_lead lead_anew update_role handle_vote_resp take_grant lead_by_votes rebuild_replication_streams initiate_replication leader_append_entries proposed update_local_progress try_commit_quorum_accepted commit_by snapshot_where_due trigger_snapshot
it_notes_what_is_applied = refl

abbrev built : NodeView
built = node_in keeping_two (proposes ++ event (Built 1) ∷ [])

-- this is its snapshot then, and no more is noted
the_snapshot_is_kept : built.store.snap ≡ all
unfolding with_event happens finish played worked place_of initialize elect do_append_entries update_vote update_internal_server_state become_following become_leader begin_lead lead_anew update_role handle_vote_resp take_grant lead_by_votes rebuild_replication_streams initiate_replication leader_append_entries proposed update_local_progress try_commit_quorum_accepted commit_by snapshot_where_due trigger_snapshot finish_building_snapshot update_snapshot schedule_policy_based_purge try_purge_log purge_log
the_snapshot_is_kept = refl

its_meta_tells : built.store.meta.last_log_id ≡ Some (lid 1 1 3)
unfolding with_event happens finish played worked place_of initialize elect do_append_entries update_vote update_internal_server_state become_following become_leader begin_lead lead_anew update_role handle_vote_resp take_grant lead_by_votes rebuild_replication_streams initiate_replication leader_append_entries proposed update_local_progress try_commit_quorum_accepted commit_by snapshot_where_due trigger_snapshot finish_building_snapshot update_snapshot schedule_policy_based_purge try_purge_log purge_log
its_meta_tells = refl

the_note_is_used_up : built.noted ≡ None
unfolding with_event happens finish played worked place_of initialize elect do_append_entries update_vote update_internal_server_state become_following become_leader begin_lead lead_anew update_role handle_vote_resp take_grant lead_by_votes rebuild_replication_streams initiate_replication leader_append_entries proposed update_local_progress try_commit_quorum_accepted commit_by snapshot_where_due trigger_snapshot finish_building_snapshot update_snapshot schedule_policy_based_purge try_purge_log purge_log
the_note_is_used_up = refl

-- and the log is purged up to the last two entries
the_log_is_purged : built.store.front ≡ Some (lid 1 1 1)
unfolding with_event happens finish played worked place_of initialize elect do_append_entries update_vote update_internal_server_state become_following become_leader begin_lead lead_anew update_role handle_vote_resp take_grant lead_by_votes rebuild_replication_streams initiate_replication leader_append_entries proposed update_local_progress try_commit_quorum_accepted commit_by snapshot_where_due trigger_snapshot finish_building_snapshot update_snapshot schedule_policy_based_purge try_purge_log purge_log
the_log_is_purged = refl

two_entries_stay : built.store.log ≡ (2, value 2 5) ∷ (3, value 3 6) ∷ []
unfolding with_event happens finish played worked place_of initialize elect do_append_entries update_vote update_internal_server_state become_following become_leader begin_lead lead_anew update_role handle_vote_resp take_grant lead_by_votes rebuild_replication_streams initiate_replication leader_append_entries proposed update_local_progress try_commit_quorum_accepted commit_by snapshot_where_due trigger_snapshot finish_building_snapshot update_snapshot schedule_policy_based_purge try_purge_log purge_log
two_entries_stay = refl

-- Three voters, of which the third lags behind; its leader keeps none of what its snapshot covers

abbrev keeping_none : Given
keeping_none = record { ids = 1 ∷ 2 ∷ 3 ∷ []; membership = three; settings = record (settings 1) { max_in_snapshot_log_to_keep = 0; purge_batch_size = 1 } }

-- the request to node 3 fails, and it is sent the snapshot in its place
abbrev catches_up : List Event
catches_up = map event (Init 1 ∷ Deliver 1 ∷ Deliver 3 ∷ Deliver 4 ∷ Deliver 6 ∷ Deliver 7 ∷ Propose 1 (Number 7 ∷ []) ∷ Deliver 10 ∷ Deliver 11 ∷ Deliver 12 ∷ Snapshot 1 ∷ Built 1 ∷ Fail 1 3 ∷ Deliver 15 ∷ Deliver 16 ∷ [])

abbrev node_3 : NodeView
node_3 = elim (node_at (world_after keeping_none catches_up).nodes 3) [ None ↦ new_node (settings 1) 3 | Some n ↦ n ]

it_installs_the_snapshot : node_3.store.snap ≡ first_entry three ∷ blank 1 1 1 ∷ value 2 7 ∷ []
unfolding with_event happens finish played worked place_of initialize elect do_append_entries update_vote update_internal_server_state become_following become_leader begin_lead lead_anew update_role handle_vote_resp take_grant lead_by_votes rebuild_replication_streams initiate_replication leader_append_entries proposed update_local_progress try_commit_quorum_accepted commit_by snapshot_where_due trigger_snapshot handle_vote_req vote_req_answer handle_append_entries handle_commit_entries append_answer follow requests.append_entries following.append_entries following.ensure_log_consecutive following.truncate_logs following.commit_entries update_progress update_success_progress update_leader_clock update_matching update_failed_progress send_next purge_unless_inflight try_purge_log purge_log finish_building_snapshot update_snapshot schedule_policy_based_purge handle_install_full_snapshot install_full_snapshot install_upto
it_installs_the_snapshot = refl

its_log_begins_past_it : node_3.store.front ≡ Some (lid 1 1 2)
unfolding with_event happens finish played worked place_of initialize elect do_append_entries update_vote update_internal_server_state become_following become_leader begin_lead lead_anew update_role handle_vote_resp take_grant lead_by_votes rebuild_replication_streams initiate_replication leader_append_entries proposed update_local_progress try_commit_quorum_accepted commit_by snapshot_where_due trigger_snapshot handle_vote_req vote_req_answer handle_append_entries handle_commit_entries append_answer follow requests.append_entries following.append_entries following.ensure_log_consecutive following.truncate_logs following.commit_entries update_progress update_success_progress update_leader_clock update_matching update_failed_progress send_next purge_unless_inflight try_purge_log purge_log finish_building_snapshot update_snapshot schedule_policy_based_purge handle_install_full_snapshot install_full_snapshot install_upto
its_log_begins_past_it = refl

-- the install is recorded, and so is that its leader had decided all of that
the_install_is_recorded : (world_after keeping_none catches_up).records.installed ≡ record { node = 3; entries = first_entry three ∷ blank 1 1 1 ∷ value 2 7 ∷ [] } ∷ []
unfolding with_event happens finish played worked place_of initialize elect do_append_entries update_vote update_internal_server_state become_following become_leader begin_lead lead_anew update_role handle_vote_resp take_grant lead_by_votes rebuild_replication_streams initiate_replication leader_append_entries proposed update_local_progress try_commit_quorum_accepted commit_by snapshot_where_due trigger_snapshot handle_vote_req vote_req_answer handle_append_entries handle_commit_entries append_answer follow requests.append_entries following.append_entries following.ensure_log_consecutive following.truncate_logs following.commit_entries update_progress update_success_progress update_leader_clock update_matching update_failed_progress send_next purge_unless_inflight try_purge_log purge_log finish_building_snapshot update_snapshot schedule_policy_based_purge handle_install_full_snapshot install_full_snapshot install_upto
the_install_is_recorded = refl

it_was_decided : (world_after keeping_none catches_up).records.decided
    ≡ record { leader_id = leader 1 1; log_id = lid 1 1 1; log = first_entry three ∷ blank 1 1 1 ∷ [] } ∷ record { leader_id = leader 1 1; log_id = lid 1 1 2; log = first_entry three ∷ blank 1 1 1 ∷ value 2 7 ∷ [] } ∷ []
unfolding with_event happens finish played worked place_of initialize elect do_append_entries update_vote update_internal_server_state become_following become_leader begin_lead lead_anew update_role handle_vote_resp take_grant lead_by_votes rebuild_replication_streams initiate_replication leader_append_entries proposed update_local_progress try_commit_quorum_accepted commit_by snapshot_where_due trigger_snapshot handle_vote_req vote_req_answer handle_append_entries handle_commit_entries append_answer follow requests.append_entries following.append_entries following.ensure_log_consecutive following.truncate_logs following.commit_entries update_progress update_success_progress update_leader_clock update_matching update_failed_progress send_next purge_unless_inflight try_purge_log purge_log finish_building_snapshot update_snapshot schedule_policy_based_purge handle_install_full_snapshot install_full_snapshot install_upto
it_was_decided = refl

-- its leader hears of it
the_leader_knows : option_map (λ e. option_map (λ l. map {B = ℕ × Option (LogId ℕ)} (λ row. (row.0, row.1.matching)) l.progress.rows) e.machine.leader) (node_in keeping_none catches_up).engine
    ≡ Some (Some ((1, Some (lid 1 1 2)) ∷ (2, Some (lid 1 1 2)) ∷ (3, Some (lid 1 1 2)) ∷ []))
unfolding with_event happens finish played worked place_of initialize elect do_append_entries update_vote update_internal_server_state become_following become_leader begin_lead lead_anew update_role handle_vote_resp take_grant lead_by_votes rebuild_replication_streams initiate_replication leader_append_entries proposed update_local_progress try_commit_quorum_accepted commit_by snapshot_where_due trigger_snapshot handle_vote_req vote_req_answer handle_append_entries handle_commit_entries append_answer follow requests.append_entries following.append_entries following.ensure_log_consecutive following.truncate_logs following.commit_entries update_progress update_success_progress update_leader_clock update_matching update_failed_progress send_next purge_unless_inflight try_purge_log purge_log finish_building_snapshot update_snapshot schedule_policy_based_purge handle_install_full_snapshot install_full_snapshot install_upto
the_leader_knows = refl
