-- Worked runs of changes of membership and of reads, computed: one voter becomes two groups, and then another one, under
-- which its leader steps down and node 2 is elected; and a read at a second leader.
use Rattle.std.specs.Prelude.{◌≡◌, ℕ, List, [], ◌∷◌, None, Some, filter, map, nat_eq, refl}
use Rattle.std.specs.Option.{option_map}
use Rattle.raft_node.specs.raft_steps.Commit.{commit_by}
use Rattle.raft_node.specs.raft_steps.Engine.{elect, handle_vote_resp, initialize, lead_by_votes, take_grant}
use Rattle.raft_node.specs.raft_steps.FollowingHandler as following
use Rattle.raft_node.specs.raft_steps.FollowingHandler.{append_entries, do_append_entries}
use Rattle.raft_node.specs.raft_steps.LeaderHandler.{leader_append_entries, proposed}
use Rattle.raft_node.specs.raft_steps.LogHandler.{purge_log, try_purge_log}
use Rattle.raft_node.specs.raft_steps.Replies.{purge_unless_inflight, send_next, update_failed_progress, update_leader_clock, update_matching, update_progress, update_success_progress}
use Rattle.raft_node.specs.raft_steps.ReplicationHandler.{append_membership_led, initiate_replication, rebuild_progresses, rebuild_replication_streams, try_commit_quorum_accepted, update_local_progress}
use Rattle.raft_node.specs.raft_steps.Requests as requests
use Rattle.raft_node.specs.raft_steps.Requests.{append_answer, follow, handle_append_entries, handle_commit_entries, handle_vote_req, vote_req_answer}
use Rattle.raft_node.specs.raft_steps.ServerStateHandler.{update_role}
use Rattle.raft_node.specs.raft_steps.SnapshotHandler.{snapshot_where_due, trigger_snapshot}
use Rattle.raft_node.specs.raft_steps.Starts.{leader_step_down}
use Rattle.raft_node.specs.raft_steps.VoteHandler.{become_following, become_leader, begin_lead, lead_anew, update_internal_server_state, update_vote}
use Rattle.raft_node.proofs.raft_steps_proofs.Example.{lid, settings, three}
use Rattle.raft_node.specs.raft_store.declared.entry.Entry.{Entry}
use Rattle.raft_node.specs.raft_store.declared.entry.Payload.TheVariants.{Membership}
use Rattle.raft_node.specs.raft_schedule.declared.event.Event.{Event}
use Rattle.raft_node.specs.raft_store.declared.entry.Value.TheVariants.{Number}
use Rattle.raft_node.specs.raft_schedule.declared.event.EventKind.TheVariants.{Change, Deliver, Down, Init, Propose, Read, Timeout}
use Rattle.raft_node.specs.Events.{finish, happens, place_of, played}
use Rattle.raft_node.specs.raft_calls.Elections.{first_entry}
use Rattle.raft_node.specs.raft_calls.Memberships.{members_with}
use Rattle.raft_node.specs.Net.{node_at}
use Rattle.raft_node.specs.declared.given.Given.{Given}
use Rattle.raft_node.specs.Runs.{with_event, world_after}
use Rattle.raft_node.specs.Work.{worked}
use Rattle.proof_deeds.proofs.RunRows.{alone, blank, event, leader, trio}

-- Two nodes, of which node 1 is the only voter. It leads, and proposes the groups of node 1 and of node 2, both of which
-- take it; then node 2 alone. Once that is committed by node 2, the leader is no member, and steps down.

abbrev pair : Given
pair = record { ids = 1 ∷ 2 ∷ []; membership = alone; settings = settings 1 }

abbrev changes : List Event
changes = map event (Init 1 ∷ Change 1 ((1 ∷ []) ∷ (2 ∷ []) ∷ []) [] ∷ Deliver 1 ∷ Deliver 2 ∷ Deliver 3 ∷ Change 1 ((2 ∷ []) ∷ []) [] ∷ Deliver 5 ∷ Deliver 6 ∷ Down 1 ∷ Deliver 7 ∷ Timeout 2 ∷ [])

-- an entry with a membership
abbrev changed : ℕ → List (List ℕ) → Entry
changed i groups = record { log_id = lid 1 1 i; payload = Membership (members_with groups []) }

-- what a node has executed
abbrev executed_by : ℕ → List Event → List Entry
executed_by n es = map (λ x. x.entry) (filter (λ x. nat_eq x.node n) (world_after pair es).records.executed)

-- its leader decides each of the two changes
the_changes_are_decided : map (λ r. r.log_id) (world_after pair changes).records.decided ≡ lid 1 1 1 ∷ lid 1 1 2 ∷ lid 1 1 3 ∷ lid 2 2 4 ∷ []
unfolding with_event happens finish played worked place_of initialize elect do_append_entries update_vote update_internal_server_state become_following become_leader begin_lead lead_anew update_role handle_vote_resp take_grant lead_by_votes rebuild_replication_streams initiate_replication leader_append_entries proposed append_membership_led rebuild_progresses update_local_progress try_commit_quorum_accepted commit_by snapshot_where_due trigger_snapshot handle_vote_req vote_req_answer handle_append_entries handle_commit_entries append_answer follow requests.append_entries following.append_entries following.ensure_log_consecutive following.truncate_logs following.commit_entries update_progress update_success_progress update_leader_clock update_matching update_failed_progress send_next purge_unless_inflight try_purge_log purge_log leader_step_down
the_changes_are_decided = refl

-- both nodes execute them, and node 2, which is elected then, its no-op entry
node_1_executes : executed_by 1 changes ≡ first_entry alone ∷ blank 1 1 1 ∷ changed 2 ((1 ∷ []) ∷ (2 ∷ []) ∷ []) ∷ changed 3 ((2 ∷ []) ∷ []) ∷ []
unfolding with_event happens finish played worked place_of initialize elect do_append_entries update_vote update_internal_server_state become_following become_leader begin_lead lead_anew update_role handle_vote_resp take_grant lead_by_votes rebuild_replication_streams initiate_replication leader_append_entries proposed append_membership_led rebuild_progresses update_local_progress try_commit_quorum_accepted commit_by snapshot_where_due trigger_snapshot handle_vote_req vote_req_answer handle_append_entries handle_commit_entries append_answer follow requests.append_entries following.append_entries following.ensure_log_consecutive following.truncate_logs following.commit_entries update_progress update_success_progress update_leader_clock update_matching update_failed_progress send_next purge_unless_inflight try_purge_log purge_log leader_step_down
node_1_executes = refl

node_2_executes : executed_by 2 changes ≡ first_entry alone ∷ blank 1 1 1 ∷ changed 2 ((1 ∷ []) ∷ (2 ∷ []) ∷ []) ∷ changed 3 ((2 ∷ []) ∷ []) ∷ blank 2 2 4 ∷ []
unfolding with_event happens finish played worked place_of initialize elect do_append_entries update_vote update_internal_server_state become_following become_leader begin_lead lead_anew update_role handle_vote_resp take_grant lead_by_votes rebuild_replication_streams initiate_replication leader_append_entries proposed append_membership_led rebuild_progresses update_local_progress try_commit_quorum_accepted commit_by snapshot_where_due trigger_snapshot handle_vote_req vote_req_answer handle_append_entries handle_commit_entries append_answer follow requests.append_entries following.append_entries following.ensure_log_consecutive following.truncate_logs following.commit_entries update_progress update_success_progress update_leader_clock update_matching update_failed_progress send_next purge_unless_inflight try_purge_log purge_log leader_step_down
node_2_executes = refl

-- node 1 leads no more
it_leads_no_more : option_map (λ n. option_map (λ e. e.machine.leader) n.engine) (node_at (world_after pair changes).nodes 1) ≡ Some (Some None)
unfolding with_event happens finish played worked place_of initialize elect do_append_entries update_vote update_internal_server_state become_following become_leader begin_lead lead_anew update_role handle_vote_resp take_grant lead_by_votes rebuild_replication_streams initiate_replication leader_append_entries proposed append_membership_led rebuild_progresses update_local_progress try_commit_quorum_accepted commit_by snapshot_where_due trigger_snapshot handle_vote_req vote_req_answer handle_append_entries handle_commit_entries append_answer follow requests.append_entries following.append_entries following.ensure_log_consecutive following.truncate_logs following.commit_entries update_progress update_success_progress update_leader_clock update_matching update_failed_progress send_next purge_unless_inflight try_purge_log purge_log leader_step_down
it_leads_no_more = refl

-- A read: node 1 leads and decides its no-op entry, then node 2 leads, with it and a no-op entry of its own

abbrev reads : List Event
reads = map event (Init 1 ∷ Deliver 1 ∷ Deliver 3 ∷ Deliver 4 ∷ Deliver 6 ∷ Deliver 7 ∷ Timeout 2 ∷ Deliver 11 ∷ Deliver 12 ∷ Read 2 ∷ [])

-- the answer is the second leader's no-op entry
the_answer : (world_after trio reads).records.answers ≡ record { node = 2; leader_id = leader 2 2; log_id = Some (lid 2 2 2) } ∷ []
unfolding with_event happens finish played worked place_of initialize elect do_append_entries update_vote update_internal_server_state become_following become_leader begin_lead lead_anew update_role handle_vote_resp take_grant lead_by_votes rebuild_replication_streams initiate_replication leader_append_entries proposed append_membership_led rebuild_progresses update_local_progress try_commit_quorum_accepted commit_by snapshot_where_due trigger_snapshot handle_vote_req vote_req_answer handle_append_entries handle_commit_entries append_answer follow requests.append_entries following.append_entries following.ensure_log_consecutive following.truncate_logs following.commit_entries update_progress update_success_progress update_leader_clock update_matching update_failed_progress send_next purge_unless_inflight try_purge_log purge_log leader_step_down
the_answer = refl

-- which stands above what the first one has decided
the_decided : (world_after trio reads).records.decided ≡ record { leader_id = leader 1 1; log_id = lid 1 1 1; log = first_entry three ∷ blank 1 1 1 ∷ [] } ∷ []
unfolding with_event happens finish played worked place_of initialize elect do_append_entries update_vote update_internal_server_state become_following become_leader begin_lead lead_anew update_role handle_vote_resp take_grant lead_by_votes rebuild_replication_streams initiate_replication leader_append_entries proposed append_membership_led rebuild_progresses update_local_progress try_commit_quorum_accepted commit_by snapshot_where_due trigger_snapshot handle_vote_req vote_req_answer handle_append_entries handle_commit_entries append_answer follow requests.append_entries following.append_entries following.ensure_log_consecutive following.truncate_logs following.commit_entries update_progress update_success_progress update_leader_clock update_matching update_failed_progress send_next purge_unless_inflight try_purge_log purge_log leader_step_down
the_decided = refl

-- and with which its log began (leader completeness)
the_established : (world_after trio reads).records.established ≡ record { leader_id = leader 1 1; log = first_entry three ∷ [] } ∷ record { leader_id = leader 2 2; log = first_entry three ∷ blank 1 1 1 ∷ [] } ∷ []
unfolding with_event happens finish played worked place_of initialize elect do_append_entries update_vote update_internal_server_state become_following become_leader begin_lead lead_anew update_role handle_vote_resp take_grant lead_by_votes rebuild_replication_streams initiate_replication leader_append_entries proposed append_membership_led rebuild_progresses update_local_progress try_commit_quorum_accepted commit_by snapshot_where_due trigger_snapshot handle_vote_req vote_req_answer handle_append_entries handle_commit_entries append_answer follow requests.append_entries following.append_entries following.ensure_log_consecutive following.truncate_logs following.commit_entries update_progress update_success_progress update_leader_clock update_matching update_failed_progress send_next purge_unless_inflight try_purge_log purge_log leader_step_down
the_established = refl

-- A leader that has decided a value of its own answers with that, and no longer with its no-op entry.

abbrev own_reads : List Event
own_reads = map event (Init 1 ∷ Propose 1 (Number 7 ∷ []) ∷ Read 1 ∷ [])

the_own_answer : (world_after pair own_reads).records.answers ≡ record { node = 1; leader_id = leader 1 1; log_id = Some (lid 1 1 2) } ∷ []
unfolding with_event happens finish played worked place_of initialize elect do_append_entries update_vote update_internal_server_state become_following become_leader begin_lead lead_anew update_role handle_vote_resp take_grant lead_by_votes rebuild_replication_streams initiate_replication leader_append_entries proposed append_membership_led rebuild_progresses update_local_progress try_commit_quorum_accepted commit_by snapshot_where_due trigger_snapshot handle_vote_req vote_req_answer handle_append_entries handle_commit_entries append_answer follow requests.append_entries following.append_entries following.ensure_log_consecutive following.truncate_logs following.commit_entries update_progress update_success_progress update_leader_clock update_matching update_failed_progress send_next purge_unless_inflight try_purge_log purge_log leader_step_down
the_own_answer = refl

its_own_decisions : map (λ r. r.log_id) (world_after pair own_reads).records.decided ≡ lid 1 1 1 ∷ lid 1 1 2 ∷ []
unfolding with_event happens finish played worked place_of initialize elect do_append_entries update_vote update_internal_server_state become_following become_leader begin_lead lead_anew update_role handle_vote_resp take_grant lead_by_votes rebuild_replication_streams initiate_replication leader_append_entries proposed append_membership_led rebuild_progresses update_local_progress try_commit_quorum_accepted commit_by snapshot_where_due trigger_snapshot handle_vote_req vote_req_answer handle_append_entries handle_commit_entries append_answer follow requests.append_entries following.append_entries following.ensure_log_consecutive following.truncate_logs following.commit_entries update_progress update_success_progress update_leader_clock update_matching update_failed_progress send_next purge_unless_inflight try_purge_log purge_log leader_step_down
its_own_decisions = refl
