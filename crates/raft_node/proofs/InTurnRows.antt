-- A vote is stored before its reply is sent, and a snapshot installed before its reply: worked runs, computed.
use Rattle.std.specs.Prelude.{◌≡◌, ℕ, List, [], ◌∷◌, Option, None, Some, length, map, refl}
use Rattle.std.specs.Option.{option_map}
use Rattle.raft_state.specs.declared.ids.Vote.{Vote}
use Rattle.raft_command.specs.declared.command.CommandKind.TheVariants as kind
use Rattle.raft_command.specs.declared.command.Condition.TheVariants.{StateMachineCommand}
use Rattle.raft_command.specs.Kind.{condition_of, kind_of}
use Rattle.raft_steps.specs.Commit.{commit_by}
use Rattle.raft_steps.specs.Engine.{elect, handle_vote_resp, initialize, lead_by_votes, take_grant}
use Rattle.raft_steps.specs.FollowingHandler as following
use Rattle.raft_steps.specs.FollowingHandler.{append_entries, do_append_entries}
use Rattle.raft_steps.specs.Installs.{handle_install_full_snapshot, install_full_snapshot, install_upto}
use Rattle.raft_steps.specs.Laws.{sequence_number}
use Rattle.raft_steps.specs.LeaderHandler.{leader_append_entries, proposed}
use Rattle.raft_steps.specs.LogHandler.{purge_log, schedule_policy_based_purge, try_purge_log}
use Rattle.raft_steps.specs.Replies.{purge_unless_inflight, send_next, update_failed_progress, update_leader_clock, update_matching, update_progress, update_success_progress}
use Rattle.raft_steps.specs.ReplicationHandler.{initiate_replication, rebuild_replication_streams, try_commit_quorum_accepted, update_local_progress}
use Rattle.raft_steps.specs.Requests as requests
use Rattle.raft_steps.specs.Requests.{append_answer, follow, handle_append_entries, handle_commit_entries, handle_vote_req, vote_req_answer}
use Rattle.raft_steps.specs.ServerStateHandler.{update_role}
use Rattle.raft_steps.specs.SnapshotCalls.{finish_building_snapshot}
use Rattle.raft_steps.specs.SnapshotHandler.{snapshot_where_due, trigger_snapshot, update_snapshot}
use Rattle.raft_steps.specs.Starts.{startup}
use Rattle.raft_steps.specs.VoteHandler.{become_following, become_leader, begin_lead, lead_anew, update_internal_server_state, update_vote}
use Rattle.raft_steps.proofs.Example.{pending, settings, three}
use Rattle.raft_schedule.specs.declared.event.Event.{Event}
use Rattle.raft_store.specs.declared.entry.Value.TheVariants.{Number}
use Rattle.raft_schedule.specs.declared.event.EventKind.{EventKind}
use Rattle.raft_schedule.specs.declared.event.EventKind.TheVariants.{Built, Deliver, Fail, Init, Propose, Restart, Snapshot}
use Rattle.raft_schedule.specs.declared.event.Start.TheVariants.{Plain}
use Rattle.raft_node.specs.declared.given.Given.{Given}
use Rattle.raft_node.specs.Commands.{commands_after}
use Rattle.raft_node.specs.Events.{finish, happens, place_of, played}
use Rattle.raft_node.specs.InTurn.{node_after, store_of}
use Rattle.raft_node.specs.Runs.{moment, with_event}
use Rattle.raft_node.specs.Work.{worked}

abbrev event : EventKind → Event
event kind = record { kind = kind; at = None; stop = None }

-- three voters, whose leaders keep none of what a snapshot covers
abbrev trio : Given
trio = record { ids = 1 ∷ 2 ∷ 3 ∷ []; membership = three; settings = record (settings 1) { max_in_snapshot_log_to_keep = 0; purge_batch_size = 1 } }

-- node 1 asks for votes, and node 2 takes its request

abbrev asks : List Event
asks = map event (Init 1 ∷ Deliver 1 ∷ [])

abbrev vote_at : List Event → ℕ → ℕ → ℕ → Option (Vote ℕ)
vote_at es k n id = option_map (λ u. u.vote) (store_of (moment trio es k n) id)

abbrev sent_at : List Event → ℕ → ℕ → ℕ
sent_at es k n = length (moment trio es k n).records.bag

its_node_is_2 : node_after trio asks 1 ≡ Some 2
unfolding with_event happens finish played worked place_of initialize elect do_append_entries update_vote update_internal_server_state become_following become_leader begin_lead lead_anew update_role handle_vote_resp take_grant lead_by_votes rebuild_replication_streams initiate_replication leader_append_entries proposed update_local_progress try_commit_quorum_accepted commit_by snapshot_where_due trigger_snapshot handle_vote_req vote_req_answer handle_append_entries handle_commit_entries append_answer follow requests.append_entries following.append_entries following.ensure_log_consecutive following.truncate_logs following.commit_entries update_progress update_success_progress update_leader_clock update_matching update_failed_progress send_next purge_unless_inflight try_purge_log purge_log finish_building_snapshot update_snapshot schedule_policy_based_purge handle_install_full_snapshot install_full_snapshot install_upto
its_node_is_2 = refl

-- its vote is stored, and then it replies
it_stores_and_replies : map kind_of (commands_after trio asks 1) ≡ kind.Log ∷ kind.Main ∷ []
unfolding with_event happens finish played worked place_of initialize elect do_append_entries update_vote update_internal_server_state become_following become_leader begin_lead lead_anew update_role handle_vote_resp take_grant lead_by_votes rebuild_replication_streams initiate_replication leader_append_entries proposed update_local_progress try_commit_quorum_accepted commit_by snapshot_where_due trigger_snapshot handle_vote_req vote_req_answer handle_append_entries handle_commit_entries append_answer follow requests.append_entries following.append_entries following.ensure_log_consecutive following.truncate_logs following.commit_entries update_progress update_success_progress update_leader_clock update_matching update_failed_progress send_next purge_unless_inflight try_purge_log purge_log finish_building_snapshot update_snapshot schedule_policy_based_purge handle_install_full_snapshot install_full_snapshot install_upto
it_stores_and_replies = refl

no_vote_is_stored_first : vote_at asks 1 0 2 ≡ Some (pending 0 0)
unfolding with_event happens finish played worked place_of initialize elect do_append_entries update_vote update_internal_server_state become_following become_leader begin_lead lead_anew update_role handle_vote_resp take_grant lead_by_votes rebuild_replication_streams initiate_replication leader_append_entries proposed update_local_progress try_commit_quorum_accepted commit_by snapshot_where_due trigger_snapshot handle_vote_req vote_req_answer handle_append_entries handle_commit_entries append_answer follow requests.append_entries following.append_entries following.ensure_log_consecutive following.truncate_logs following.commit_entries update_progress update_success_progress update_leader_clock update_matching update_failed_progress send_next purge_unless_inflight try_purge_log purge_log finish_building_snapshot update_snapshot schedule_policy_based_purge handle_install_full_snapshot install_full_snapshot install_upto
no_vote_is_stored_first = refl

the_vote_is_stored : vote_at asks 1 1 2 ≡ Some (pending 1 1)
unfolding with_event happens finish played worked place_of initialize elect do_append_entries update_vote update_internal_server_state become_following become_leader begin_lead lead_anew update_role handle_vote_resp take_grant lead_by_votes rebuild_replication_streams initiate_replication leader_append_entries proposed update_local_progress try_commit_quorum_accepted commit_by snapshot_where_due trigger_snapshot handle_vote_req vote_req_answer handle_append_entries handle_commit_entries append_answer follow requests.append_entries following.append_entries following.ensure_log_consecutive following.truncate_logs following.commit_entries update_progress update_success_progress update_leader_clock update_matching update_failed_progress send_next purge_unless_inflight try_purge_log purge_log finish_building_snapshot update_snapshot schedule_policy_based_purge handle_install_full_snapshot install_full_snapshot install_upto
the_vote_is_stored = refl

it_stays : vote_at asks 1 9 2 ≡ Some (pending 1 1)
unfolding with_event happens finish played worked place_of initialize elect do_append_entries update_vote update_internal_server_state become_following become_leader begin_lead lead_anew update_role handle_vote_resp take_grant lead_by_votes rebuild_replication_streams initiate_replication leader_append_entries proposed update_local_progress try_commit_quorum_accepted commit_by snapshot_where_due trigger_snapshot handle_vote_req vote_req_answer handle_append_entries handle_commit_entries append_answer follow requests.append_entries following.append_entries following.ensure_log_consecutive following.truncate_logs following.commit_entries update_progress update_success_progress update_leader_clock update_matching update_failed_progress send_next purge_unless_inflight try_purge_log purge_log finish_building_snapshot update_snapshot schedule_policy_based_purge handle_install_full_snapshot install_full_snapshot install_upto
it_stays = refl

others_keep_theirs : vote_at asks 1 9 3 ≡ Some (pending 0 0)
unfolding with_event happens finish played worked place_of initialize elect do_append_entries update_vote update_internal_server_state become_following become_leader begin_lead lead_anew update_role handle_vote_resp take_grant lead_by_votes rebuild_replication_streams initiate_replication leader_append_entries proposed update_local_progress try_commit_quorum_accepted commit_by snapshot_where_due trigger_snapshot handle_vote_req vote_req_answer handle_append_entries handle_commit_entries append_answer follow requests.append_entries following.append_entries following.ensure_log_consecutive following.truncate_logs following.commit_entries update_progress update_success_progress update_leader_clock update_matching update_failed_progress send_next purge_unless_inflight try_purge_log purge_log finish_building_snapshot update_snapshot schedule_policy_based_purge handle_install_full_snapshot install_full_snapshot install_upto
others_keep_theirs = refl

no_reply_is_sent_first : sent_at asks 1 1 ≡ 2
unfolding with_event happens finish played worked place_of initialize elect do_append_entries update_vote update_internal_server_state become_following become_leader begin_lead lead_anew update_role handle_vote_resp take_grant lead_by_votes rebuild_replication_streams initiate_replication leader_append_entries proposed update_local_progress try_commit_quorum_accepted commit_by snapshot_where_due trigger_snapshot handle_vote_req vote_req_answer handle_append_entries handle_commit_entries append_answer follow requests.append_entries following.append_entries following.ensure_log_consecutive following.truncate_logs following.commit_entries update_progress update_success_progress update_leader_clock update_matching update_failed_progress send_next purge_unless_inflight try_purge_log purge_log finish_building_snapshot update_snapshot schedule_policy_based_purge handle_install_full_snapshot install_full_snapshot install_upto
no_reply_is_sent_first = refl

the_reply_is_sent : sent_at asks 1 2 ≡ 3
unfolding with_event happens finish played worked place_of initialize elect do_append_entries update_vote update_internal_server_state become_following become_leader begin_lead lead_anew update_role handle_vote_resp take_grant lead_by_votes rebuild_replication_streams initiate_replication leader_append_entries proposed update_local_progress try_commit_quorum_accepted commit_by snapshot_where_due trigger_snapshot handle_vote_req vote_req_answer handle_append_entries handle_commit_entries append_answer follow requests.append_entries following.append_entries following.ensure_log_consecutive following.truncate_logs following.commit_entries update_progress update_success_progress update_leader_clock update_matching update_failed_progress send_next purge_unless_inflight try_purge_log purge_log finish_building_snapshot update_snapshot schedule_policy_based_purge handle_install_full_snapshot install_full_snapshot install_upto
the_reply_is_sent = refl

-- the same, where it stops in between

abbrev stops : List Event
stops = event (Init 1) ∷ record { kind = Deliver 1; at = None; stop = Some 1 } ∷ []

one_command_is_executed : length (commands_after trio stops 1) ≡ 1
unfolding with_event happens finish played worked place_of initialize elect do_append_entries update_vote update_internal_server_state become_following become_leader begin_lead lead_anew update_role handle_vote_resp take_grant lead_by_votes rebuild_replication_streams initiate_replication leader_append_entries proposed update_local_progress try_commit_quorum_accepted commit_by snapshot_where_due trigger_snapshot handle_vote_req vote_req_answer handle_append_entries handle_commit_entries append_answer follow requests.append_entries following.append_entries following.ensure_log_consecutive following.truncate_logs following.commit_entries update_progress update_success_progress update_leader_clock update_matching update_failed_progress send_next purge_unless_inflight try_purge_log purge_log finish_building_snapshot update_snapshot schedule_policy_based_purge handle_install_full_snapshot install_full_snapshot install_upto
one_command_is_executed = refl

its_vote_is_stored : vote_at stops 1 9 2 ≡ Some (pending 1 1)
unfolding with_event happens finish played worked place_of initialize elect do_append_entries update_vote update_internal_server_state become_following become_leader begin_lead lead_anew update_role handle_vote_resp take_grant lead_by_votes rebuild_replication_streams initiate_replication leader_append_entries proposed update_local_progress try_commit_quorum_accepted commit_by snapshot_where_due trigger_snapshot handle_vote_req vote_req_answer handle_append_entries handle_commit_entries append_answer follow requests.append_entries following.append_entries following.ensure_log_consecutive following.truncate_logs following.commit_entries update_progress update_success_progress update_leader_clock update_matching update_failed_progress send_next purge_unless_inflight try_purge_log purge_log finish_building_snapshot update_snapshot schedule_policy_based_purge handle_install_full_snapshot install_full_snapshot install_upto
its_vote_is_stored = refl

no_reply_is_sent : sent_at stops 1 9 ≡ 2
unfolding with_event happens finish played worked place_of initialize elect do_append_entries update_vote update_internal_server_state become_following become_leader begin_lead lead_anew update_role handle_vote_resp take_grant lead_by_votes rebuild_replication_streams initiate_replication leader_append_entries proposed update_local_progress try_commit_quorum_accepted commit_by snapshot_where_due trigger_snapshot handle_vote_req vote_req_answer handle_append_entries handle_commit_entries append_answer follow requests.append_entries following.append_entries following.ensure_log_consecutive following.truncate_logs following.commit_entries update_progress update_success_progress update_leader_clock update_matching update_failed_progress send_next purge_unless_inflight try_purge_log purge_log finish_building_snapshot update_snapshot schedule_policy_based_purge handle_install_full_snapshot install_full_snapshot install_upto
no_reply_is_sent = refl

-- a message that was never sent has no node, and does nothing

abbrev awry : List Event
awry = map event (Init 1 ∷ Deliver 9 ∷ [])

there_is_no_node : node_after trio awry 1 ≡ None
unfolding with_event happens finish played worked place_of initialize elect do_append_entries update_vote update_internal_server_state become_following become_leader begin_lead lead_anew update_role handle_vote_resp take_grant lead_by_votes rebuild_replication_streams initiate_replication leader_append_entries proposed update_local_progress try_commit_quorum_accepted commit_by snapshot_where_due trigger_snapshot handle_vote_req vote_req_answer handle_append_entries handle_commit_entries append_answer follow requests.append_entries following.append_entries following.ensure_log_consecutive following.truncate_logs following.commit_entries update_progress update_success_progress update_leader_clock update_matching update_failed_progress send_next purge_unless_inflight try_purge_log purge_log finish_building_snapshot update_snapshot schedule_policy_based_purge handle_install_full_snapshot install_full_snapshot install_upto
there_is_no_node = refl

there_are_no_commands : commands_after trio awry 1 ≡ []
unfolding with_event happens finish played worked place_of initialize elect do_append_entries update_vote update_internal_server_state become_following become_leader begin_lead lead_anew update_role handle_vote_resp take_grant lead_by_votes rebuild_replication_streams initiate_replication leader_append_entries proposed update_local_progress try_commit_quorum_accepted commit_by snapshot_where_due trigger_snapshot handle_vote_req vote_req_answer handle_append_entries handle_commit_entries append_answer follow requests.append_entries following.append_entries following.ensure_log_consecutive following.truncate_logs following.commit_entries update_progress update_success_progress update_leader_clock update_matching update_failed_progress send_next purge_unless_inflight try_purge_log purge_log finish_building_snapshot update_snapshot schedule_policy_based_purge handle_install_full_snapshot install_full_snapshot install_upto
there_are_no_commands = refl

nothing_is_sent : sent_at awry 1 9 ≡ 2
unfolding with_event happens finish played worked place_of initialize elect do_append_entries update_vote update_internal_server_state become_following become_leader begin_lead lead_anew update_role handle_vote_resp take_grant lead_by_votes rebuild_replication_streams initiate_replication leader_append_entries proposed update_local_progress try_commit_quorum_accepted commit_by snapshot_where_due trigger_snapshot handle_vote_req vote_req_answer handle_append_entries handle_commit_entries append_answer follow requests.append_entries following.append_entries following.ensure_log_consecutive following.truncate_logs following.commit_entries update_progress update_success_progress update_leader_clock update_matching update_failed_progress send_next purge_unless_inflight try_purge_log purge_log finish_building_snapshot update_snapshot schedule_policy_based_purge handle_install_full_snapshot install_full_snapshot install_upto
nothing_is_sent = refl

-- node 3 lags behind and is sent a snapshot: it takes its leader's vote, installs, purges, and then replies

abbrev catches_up : List Event
catches_up = map event (Init 1 ∷ Deliver 1 ∷ Deliver 3 ∷ Deliver 4 ∷ Deliver 6 ∷ Deliver 7 ∷ Propose 1 (Number 7 ∷ []) ∷ Deliver 10 ∷ Deliver 11 ∷ Deliver 12 ∷ Snapshot 1 ∷ Built 1 ∷ Fail 1 3 ∷ Deliver 15 ∷ [])

its_node_is_3 : node_after trio catches_up 13 ≡ Some 3
unfolding with_event happens finish played worked place_of initialize elect do_append_entries update_vote update_internal_server_state become_following become_leader begin_lead lead_anew update_role handle_vote_resp take_grant lead_by_votes rebuild_replication_streams initiate_replication leader_append_entries proposed update_local_progress try_commit_quorum_accepted commit_by snapshot_where_due trigger_snapshot handle_vote_req vote_req_answer handle_append_entries handle_commit_entries append_answer follow requests.append_entries following.append_entries following.ensure_log_consecutive following.truncate_logs following.commit_entries update_progress update_success_progress update_leader_clock update_matching update_failed_progress send_next purge_unless_inflight try_purge_log purge_log finish_building_snapshot update_snapshot schedule_policy_based_purge handle_install_full_snapshot install_full_snapshot install_upto
its_node_is_3 = refl

its_commands : map kind_of (commands_after trio catches_up 13) ≡ kind.Log ∷ kind.StateMachine ∷ kind.Log ∷ kind.Main ∷ []
unfolding with_event happens finish played worked place_of initialize elect do_append_entries update_vote update_internal_server_state become_following become_leader begin_lead lead_anew update_role handle_vote_resp take_grant lead_by_votes rebuild_replication_streams initiate_replication leader_append_entries proposed update_local_progress try_commit_quorum_accepted commit_by snapshot_where_due trigger_snapshot handle_vote_req vote_req_answer handle_append_entries handle_commit_entries append_answer follow requests.append_entries following.append_entries following.ensure_log_consecutive following.truncate_logs following.commit_entries update_progress update_success_progress update_leader_clock update_matching update_failed_progress send_next purge_unless_inflight try_purge_log purge_log finish_building_snapshot update_snapshot schedule_policy_based_purge handle_install_full_snapshot install_full_snapshot install_upto
its_commands = refl

the_install_is_number_1 : map sequence_number (commands_after trio catches_up 13) ≡ None ∷ Some 1 ∷ None ∷ None ∷ []
unfolding with_event happens finish played worked place_of initialize elect do_append_entries update_vote update_internal_server_state become_following become_leader begin_lead lead_anew update_role handle_vote_resp take_grant lead_by_votes rebuild_replication_streams initiate_replication leader_append_entries proposed update_local_progress try_commit_quorum_accepted commit_by snapshot_where_due trigger_snapshot handle_vote_req vote_req_answer handle_append_entries handle_commit_entries append_answer follow requests.append_entries following.append_entries following.ensure_log_consecutive following.truncate_logs following.commit_entries update_progress update_success_progress update_leader_clock update_matching update_failed_progress send_next purge_unless_inflight try_purge_log purge_log finish_building_snapshot update_snapshot schedule_policy_based_purge handle_install_full_snapshot install_full_snapshot install_upto
the_install_is_number_1 = refl

the_reply_waits_for_it : map condition_of (commands_after trio catches_up 13) ≡ None ∷ None ∷ None ∷ Some (StateMachineCommand 1) ∷ []
unfolding with_event happens finish played worked place_of initialize elect do_append_entries update_vote update_internal_server_state become_following become_leader begin_lead lead_anew update_role handle_vote_resp take_grant lead_by_votes rebuild_replication_streams initiate_replication leader_append_entries proposed update_local_progress try_commit_quorum_accepted commit_by snapshot_where_due trigger_snapshot handle_vote_req vote_req_answer handle_append_entries handle_commit_entries append_answer follow requests.append_entries following.append_entries following.ensure_log_consecutive following.truncate_logs following.commit_entries update_progress update_success_progress update_leader_clock update_matching update_failed_progress send_next purge_unless_inflight try_purge_log purge_log finish_building_snapshot update_snapshot schedule_policy_based_purge handle_install_full_snapshot install_full_snapshot install_upto
the_reply_waits_for_it = refl

-- a stopped node that restarts has its vote, and follows: no command is executed

abbrev restarts : List Event
restarts = event (Init 1) ∷ record { kind = Deliver 1; at = None; stop = Some 1 } ∷ event (Restart 2 Plain) ∷ []

its_node_is_2_again : node_after trio restarts 2 ≡ Some 2
unfolding with_event happens finish played worked place_of initialize elect do_append_entries update_vote update_internal_server_state become_following become_leader begin_lead lead_anew update_role handle_vote_resp take_grant lead_by_votes rebuild_replication_streams initiate_replication leader_append_entries proposed update_local_progress try_commit_quorum_accepted commit_by snapshot_where_due trigger_snapshot handle_vote_req vote_req_answer handle_append_entries handle_commit_entries append_answer follow requests.append_entries following.append_entries following.ensure_log_consecutive following.truncate_logs following.commit_entries update_progress update_success_progress update_leader_clock update_matching update_failed_progress send_next purge_unless_inflight try_purge_log purge_log finish_building_snapshot update_snapshot schedule_policy_based_purge handle_install_full_snapshot install_full_snapshot install_upto startup
its_node_is_2_again = refl

it_follows : commands_after trio restarts 2 ≡ []
unfolding with_event happens finish played worked place_of initialize elect do_append_entries update_vote update_internal_server_state become_following become_leader begin_lead lead_anew update_role handle_vote_resp take_grant lead_by_votes rebuild_replication_streams initiate_replication leader_append_entries proposed update_local_progress try_commit_quorum_accepted commit_by snapshot_where_due trigger_snapshot handle_vote_req vote_req_answer handle_append_entries handle_commit_entries append_answer follow requests.append_entries following.append_entries following.ensure_log_consecutive following.truncate_logs following.commit_entries update_progress update_success_progress update_leader_clock update_matching update_failed_progress send_next purge_unless_inflight try_purge_log purge_log finish_building_snapshot update_snapshot schedule_policy_based_purge handle_install_full_snapshot install_full_snapshot install_upto startup
it_follows = refl

its_vote_is_as_stored : vote_at restarts 2 0 2 ≡ Some (pending 1 1)
unfolding with_event happens finish played worked place_of initialize elect do_append_entries update_vote update_internal_server_state become_following become_leader begin_lead lead_anew update_role handle_vote_resp take_grant lead_by_votes rebuild_replication_streams initiate_replication leader_append_entries proposed update_local_progress try_commit_quorum_accepted commit_by snapshot_where_due trigger_snapshot handle_vote_req vote_req_answer handle_append_entries handle_commit_entries append_answer follow requests.append_entries following.append_entries following.ensure_log_consecutive following.truncate_logs following.commit_entries update_progress update_success_progress update_leader_clock update_matching update_failed_progress send_next purge_unless_inflight try_purge_log purge_log finish_building_snapshot update_snapshot schedule_policy_based_purge handle_install_full_snapshot install_full_snapshot install_upto startup
its_vote_is_as_stored = refl
