-- Worked runs of packed nodes, computed: the state machine adds up values. One voter builds a snapshot and starts on it, and a node
-- that lags installs its leader's snapshot.
use Rattle.std.specs.Prelude.{◌≡◌, ◌+◌, ℕ, true, false, List, [], ◌∷◌, ◌++◌, None, Some, find, map, nat_eq, refl}
use Rattle.proof_deeds.specs.raft_steps.Commit.{commit_by}
use Rattle.proof_deeds.specs.raft_steps.Engine.{elect, handle_vote_resp, initialize, lead_by_votes, take_grant}
use Rattle.proof_deeds.specs.raft_steps.FollowingHandler as following
use Rattle.proof_deeds.specs.raft_steps.FollowingHandler.{append_entries, do_append_entries}
use Rattle.proof_deeds.specs.raft_steps.Installs.{handle_install_full_snapshot, install_full_snapshot, install_upto}
use Rattle.proof_deeds.specs.raft_steps.LeaderHandler.{leader_append_entries, proposed}
use Rattle.proof_deeds.specs.raft_steps.LogHandler.{purge_log, schedule_policy_based_purge, try_purge_log}
use Rattle.proof_deeds.specs.raft_steps.Replies.{purge_unless_inflight, send_next, update_failed_progress, update_leader_clock, update_matching, update_progress, update_success_progress}
use Rattle.proof_deeds.specs.raft_steps.ReplicationHandler.{initiate_replication, rebuild_replication_streams, try_commit_quorum_accepted, update_local_progress}
use Rattle.proof_deeds.specs.raft_steps.Requests as requests
use Rattle.proof_deeds.specs.raft_steps.Requests.{append_answer, follow, handle_append_entries, handle_commit_entries, handle_vote_req, vote_req_answer}
use Rattle.proof_deeds.specs.raft_steps.ServerStateHandler.{update_role}
use Rattle.proof_deeds.specs.raft_steps.SnapshotCalls.{finish_building_snapshot}
use Rattle.proof_deeds.specs.raft_steps.SnapshotHandler.{snapshot_where_due, trigger_snapshot, update_snapshot}
use Rattle.proof_deeds.specs.raft_steps.Starts.{startup}
use Rattle.proof_deeds.specs.raft_steps.VoteHandler.{become_following, become_leader, begin_lead, lead_anew, update_internal_server_state, update_vote}
use Rattle.proof_deeds.proofs.raft_steps_proofs.Example.{lid, settings, three}
use Rattle.proof_deeds.specs.raft_store.declared.entry.Entry.{Entry}
use Rattle.proof_deeds.specs.raft_store.declared.entry.Payload.{Payload}
use Rattle.proof_deeds.specs.raft_store.declared.entry.Payload.TheVariants.{Value}
use Rattle.proof_deeds.specs.raft_store.declared.entry.Value.TheVariants.{Number}
use Rattle.proof_deeds.specs.raft_schedule.declared.event.Event.{Event}
use Rattle.proof_deeds.specs.raft_schedule.declared.event.EventKind.TheVariants.{Built, Deliver, Fail, Init, Propose, Restart, Snapshot}
use Rattle.proof_deeds.specs.raft_schedule.declared.event.Start.TheVariants.{Plain}
use Rattle.proof_deeds.specs.raft_node.declared.given.Given.{Given}
use Rattle.proof_deeds.proofs.RunRows.{alone, event}
use Rattle.proof_packed.specs.Nodes.{PackedNode, packed_finish, packed_new_node, packed_played, packed_worked}
use Rattle.proof_packed.specs.Stores.{Application, PackedStore, packed_restarted, packed_started}
use Rattle.proof_packed_worlds.specs.Worlds.{packed_after, packed_happens}

abbrev added : ℕ → Payload → ℕ
added sum (Value (Number n)) = sum + n
added sum _ = sum

abbrev summing : Application ℕ
summing = record { first = 0; apply = λ sum e. added sum e.payload }

abbrev value : ℕ → ℕ → Entry
value i v = record { log_id = lid 1 1 i; payload = Value (Number v) }

abbrev node_in : ℕ → Given → List Event → PackedNode ℕ
node_in id given es = elim (find (λ n. nat_eq n.id id) (packed_after summing given es).nodes) [ None ↦ packed_new_node summing given.settings id | Some n ↦ n ]

-- One voter, which keeps two entries in its log and builds a snapshot of the values 5 and 6

abbrev keeping_two : Given
keeping_two = record { ids = 1 ∷ []; membership = alone; settings = record (settings 1) { max_in_snapshot_log_to_keep = 2; purge_batch_size = 1 } }

abbrev builds : List Event
builds = map event (Init 1 ∷ Propose 1 (Number 5 ∷ []) ∷ Propose 1 (Number 6 ∷ []) ∷ Snapshot 1 ∷ Built 1 ∷ [])

abbrev built : PackedStore ℕ
built = (node_in 1 keeping_two builds).store

its_state : built.snap.state ≡ 11
unfolding packed_happens packed_played packed_finish packed_worked initialize elect do_append_entries update_vote update_internal_server_state become_following become_leader begin_lead lead_anew update_role handle_vote_resp take_grant lead_by_votes rebuild_replication_streams initiate_replication leader_append_entries proposed update_local_progress try_commit_quorum_accepted commit_by snapshot_where_due trigger_snapshot finish_building_snapshot update_snapshot schedule_policy_based_purge try_purge_log purge_log
its_state = refl

its_end : built.snap.end ≡ 4
unfolding packed_happens packed_played packed_finish packed_worked initialize elect do_append_entries update_vote update_internal_server_state become_following become_leader begin_lead lead_anew update_role handle_vote_resp take_grant lead_by_votes rebuild_replication_streams initiate_replication leader_append_entries proposed update_local_progress try_commit_quorum_accepted commit_by snapshot_where_due trigger_snapshot finish_building_snapshot update_snapshot schedule_policy_based_purge try_purge_log purge_log
its_end = refl

its_last_id : built.snap.last_id ≡ Some (lid 1 1 3)
unfolding packed_happens packed_played packed_finish packed_worked initialize elect do_append_entries update_vote update_internal_server_state become_following become_leader begin_lead lead_anew update_role handle_vote_resp take_grant lead_by_votes rebuild_replication_streams initiate_replication leader_append_entries proposed update_local_progress try_commit_quorum_accepted commit_by snapshot_where_due trigger_snapshot finish_building_snapshot update_snapshot schedule_policy_based_purge try_purge_log purge_log
its_last_id = refl

its_membership : built.snap.effective ≡ record { log_id = Some (lid 0 0 0); membership = alone }
unfolding packed_happens packed_played packed_finish packed_worked initialize elect do_append_entries update_vote update_internal_server_state become_following become_leader begin_lead lead_anew update_role handle_vote_resp take_grant lead_by_votes rebuild_replication_streams initiate_replication leader_append_entries proposed update_local_progress try_commit_quorum_accepted commit_by snapshot_where_due trigger_snapshot finish_building_snapshot update_snapshot schedule_policy_based_purge try_purge_log purge_log
its_membership = refl

there_is_none_before : built.snap.before.log_id ≡ None
unfolding packed_happens packed_played packed_finish packed_worked initialize elect do_append_entries update_vote update_internal_server_state become_following become_leader begin_lead lead_anew update_role handle_vote_resp take_grant lead_by_votes rebuild_replication_streams initiate_replication leader_append_entries proposed update_local_progress try_commit_quorum_accepted commit_by snapshot_where_due trigger_snapshot finish_building_snapshot update_snapshot schedule_policy_based_purge try_purge_log purge_log
there_is_none_before = refl

-- its log keeps two entries
two_entries_stay : built.log ≡ (2, value 2 5) ∷ (3, value 3 6) ∷ []
unfolding packed_happens packed_played packed_finish packed_worked initialize elect do_append_entries update_vote update_internal_server_state become_following become_leader begin_lead lead_anew update_role handle_vote_resp take_grant lead_by_votes rebuild_replication_streams initiate_replication leader_append_entries proposed update_local_progress try_commit_quorum_accepted commit_by snapshot_where_due trigger_snapshot finish_building_snapshot update_snapshot schedule_policy_based_purge try_purge_log purge_log
two_entries_stay = refl

-- It commits the value 8 above the snapshot, and starts again: with its saved id that is applied, and without not

abbrev stored : PackedStore ℕ
stored = (node_in 1 keeping_two (builds ++ event (Propose 1 (Number 8 ∷ [])) ∷ [])).store

it_starts_with_the_saved_id : (packed_restarted summing true stored).applied.state ≡ 19
unfolding packed_happens packed_played packed_finish packed_worked initialize elect do_append_entries update_vote update_internal_server_state become_following become_leader begin_lead lead_anew update_role handle_vote_resp take_grant lead_by_votes rebuild_replication_streams initiate_replication leader_append_entries proposed update_local_progress try_commit_quorum_accepted commit_by snapshot_where_due trigger_snapshot finish_building_snapshot update_snapshot schedule_policy_based_purge try_purge_log purge_log
it_starts_with_the_saved_id = refl

it_starts_without : (packed_restarted summing false stored).applied.state ≡ 11
unfolding packed_happens packed_played packed_finish packed_worked initialize elect do_append_entries update_vote update_internal_server_state become_following become_leader begin_lead lead_anew update_role handle_vote_resp take_grant lead_by_votes rebuild_replication_streams initiate_replication leader_append_entries proposed update_local_progress try_commit_quorum_accepted commit_by snapshot_where_due trigger_snapshot finish_building_snapshot update_snapshot schedule_policy_based_purge try_purge_log purge_log
it_starts_without = refl

its_log_is_whole : (packed_started summing false stored).ids ≡ lid 1 1 1 ∷ lid 1 1 2 ∷ lid 1 1 3 ∷ lid 1 1 4 ∷ []
unfolding packed_happens packed_played packed_finish packed_worked initialize elect do_append_entries update_vote update_internal_server_state become_following become_leader begin_lead lead_anew update_role handle_vote_resp take_grant lead_by_votes rebuild_replication_streams initiate_replication leader_append_entries proposed update_local_progress try_commit_quorum_accepted commit_by snapshot_where_due trigger_snapshot finish_building_snapshot update_snapshot schedule_policy_based_purge try_purge_log purge_log
its_log_is_whole = refl

-- it leads on after the start, and so commits all of its log
it_leads_on : (node_in 1 keeping_two (builds ++ event (Propose 1 (Number 8 ∷ [])) ∷ event (Restart 1 Plain) ∷ [])).store.applied.state ≡ 19
unfolding packed_happens packed_played packed_finish packed_worked initialize elect do_append_entries update_vote update_internal_server_state become_following become_leader begin_lead lead_anew update_role handle_vote_resp take_grant lead_by_votes rebuild_replication_streams initiate_replication leader_append_entries proposed update_local_progress try_commit_quorum_accepted commit_by snapshot_where_due trigger_snapshot finish_building_snapshot update_snapshot schedule_policy_based_purge try_purge_log purge_log startup
it_leads_on = refl

-- Three voters, of which the third lags behind: its leader keeps nothing of what its snapshot covers, and sends it the snapshot

abbrev keeping_none : Given
keeping_none = record { ids = 1 ∷ 2 ∷ 3 ∷ []; membership = three; settings = record (settings 1) { max_in_snapshot_log_to_keep = 0; purge_batch_size = 1 } }

abbrev catches_up : List Event
catches_up = map event (Init 1 ∷ Deliver 1 ∷ Deliver 3 ∷ Deliver 4 ∷ Deliver 6 ∷ Deliver 7 ∷ Propose 1 (Number 7 ∷ []) ∷ Deliver 10 ∷ Deliver 11 ∷ Deliver 12 ∷ Snapshot 1 ∷ Built 1 ∷ Fail 1 3 ∷ Deliver 15 ∷ Deliver 16 ∷ [])

abbrev installed : PackedStore ℕ
installed = (node_in 3 keeping_none catches_up).store

-- it has the state of the snapshot, and has applied it
it_installs_the_state : installed.snap.state ≡ 7
unfolding packed_happens packed_played packed_finish packed_worked initialize elect do_append_entries update_vote update_internal_server_state become_following become_leader begin_lead lead_anew update_role handle_vote_resp take_grant lead_by_votes rebuild_replication_streams initiate_replication leader_append_entries proposed update_local_progress try_commit_quorum_accepted commit_by snapshot_where_due trigger_snapshot handle_vote_req vote_req_answer handle_append_entries handle_commit_entries append_answer follow requests.append_entries following.append_entries following.ensure_log_consecutive following.truncate_logs following.commit_entries update_progress update_success_progress update_leader_clock update_matching update_failed_progress send_next purge_unless_inflight try_purge_log purge_log finish_building_snapshot update_snapshot schedule_policy_based_purge handle_install_full_snapshot install_full_snapshot install_upto
it_installs_the_state = refl

it_has_applied_it : installed.applied ≡ installed.snap
unfolding packed_happens packed_played packed_finish packed_worked initialize elect do_append_entries update_vote update_internal_server_state become_following become_leader begin_lead lead_anew update_role handle_vote_resp take_grant lead_by_votes rebuild_replication_streams initiate_replication leader_append_entries proposed update_local_progress try_commit_quorum_accepted commit_by snapshot_where_due trigger_snapshot handle_vote_req vote_req_answer handle_append_entries handle_commit_entries append_answer follow requests.append_entries following.append_entries following.ensure_log_consecutive following.truncate_logs following.commit_entries update_progress update_success_progress update_leader_clock update_matching update_failed_progress send_next purge_unless_inflight try_purge_log purge_log finish_building_snapshot update_snapshot schedule_policy_based_purge handle_install_full_snapshot install_full_snapshot install_upto
it_has_applied_it = refl

its_log_begins_past_it : installed.front ≡ Some (lid 1 1 2)
unfolding packed_happens packed_played packed_finish packed_worked initialize elect do_append_entries update_vote update_internal_server_state become_following become_leader begin_lead lead_anew update_role handle_vote_resp take_grant lead_by_votes rebuild_replication_streams initiate_replication leader_append_entries proposed update_local_progress try_commit_quorum_accepted commit_by snapshot_where_due trigger_snapshot handle_vote_req vote_req_answer handle_append_entries handle_commit_entries append_answer follow requests.append_entries following.append_entries following.ensure_log_consecutive following.truncate_logs following.commit_entries update_progress update_success_progress update_leader_clock update_matching update_failed_progress send_next purge_unless_inflight try_purge_log purge_log finish_building_snapshot update_snapshot schedule_policy_based_purge handle_install_full_snapshot install_full_snapshot install_upto
its_log_begins_past_it = refl

the_install_is_recorded : map {B = ℕ × ℕ} (λ x. (x.node, x.snapshot.state)) (packed_after summing keeping_none catches_up).records.installed ≡ (3, 7) ∷ []
unfolding packed_happens packed_played packed_finish packed_worked initialize elect do_append_entries update_vote update_internal_server_state become_following become_leader begin_lead lead_anew update_role handle_vote_resp take_grant lead_by_votes rebuild_replication_streams initiate_replication leader_append_entries proposed update_local_progress try_commit_quorum_accepted commit_by snapshot_where_due trigger_snapshot handle_vote_req vote_req_answer handle_append_entries handle_commit_entries append_answer follow requests.append_entries following.append_entries following.ensure_log_consecutive following.truncate_logs following.commit_entries update_progress update_success_progress update_leader_clock update_matching update_failed_progress send_next purge_unless_inflight try_purge_log purge_log finish_building_snapshot update_snapshot schedule_policy_based_purge handle_install_full_snapshot install_full_snapshot install_upto
the_install_is_recorded = refl
