-- Worked runs of leaders, computed: among three voters a value is proposed, replicated, chosen, decided and executed; a
-- request that failed is sent again; and a leader steps down for a higher vote in a reply.
use Rattle.std.specs.Prelude.{◌≡◌, ◌<◌, ℕ, true, List, [], ◌∷◌, Contains, length, Option, None, Some, is_some, map, refl, slice_get}
use Rattle.std.proofs.Common.{◌⊎◌, inl, inr}
use Rattle.std.specs.Option.{option_map}
use Rattle.std.specs.Ordering.{nat_cmp}
use Rattle.std.proofs.lemmas.List.Elements.{All-from_recursion}
use Rattle.std.proofs.lemmas.Option.{slice_get_within, get_or_from_slice_get}
use Rattle.raft_node.specs.raft_progress.Quorum.{is_quorum}
use Rattle.raft_node.specs.raft_command.declared.message.AppendEntriesResponse.TheVariants.{Success}
use Rattle.raft_node.specs.raft_command.declared.replication.ReplicationSessionId.{ReplicationSessionId}
use Rattle.raft_node.specs.raft_command.declared.replication.RequestId.TheVariants.{AppendEntries}
use Rattle.raft_node.specs.raft_steps.Commit.{commit_by}
use Rattle.raft_node.specs.raft_steps.Engine.{elect, handle_vote_resp, initialize, lead_by_votes, take_grant}
use Rattle.raft_node.specs.raft_steps.FollowingHandler as following
use Rattle.raft_node.specs.raft_steps.FollowingHandler.{append_entries, do_append_entries}
use Rattle.raft_node.specs.raft_steps.LeaderHandler.{leader_append_entries, proposed}
use Rattle.raft_node.specs.raft_steps.LogHandler.{purge_log, try_purge_log}
use Rattle.raft_node.specs.raft_steps.Replies.{purge_unless_inflight, send_next, update_failed_progress, update_leader_clock, update_matching, update_progress, update_success_progress}
use Rattle.raft_node.specs.raft_steps.ReplicationHandler.{initiate_replication, rebuild_replication_streams, try_commit_quorum_accepted, update_local_progress}
use Rattle.raft_node.specs.raft_steps.Requests as requests
use Rattle.raft_node.specs.raft_steps.Requests.{append_answer, follow, handle_append_entries, handle_commit_entries, handle_vote_req, vote_req_answer}
use Rattle.raft_node.specs.raft_steps.ServerStateHandler.{update_role}
use Rattle.raft_node.specs.raft_steps.SnapshotHandler.{snapshot_where_due, trigger_snapshot}
use Rattle.raft_node.specs.raft_steps.VoteHandler.{become_following, become_leader, begin_lead, lead_anew, update_internal_server_state, update_vote}
use Rattle.raft_node.proofs.raft_steps_proofs.Example.{committed, lid, pending, settings, three}
use Rattle.raft_node.specs.raft_store.declared.entry.Entry.{Entry}
use Rattle.raft_node.specs.raft_store.declared.entry.Payload.TheVariants.{Value}
use Rattle.raft_node.specs.raft_store.Entries.{entry_meaning}
use Rattle.raft_node.specs.raft_store.Store.{holds}
use Rattle.raft_node.specs.raft_schedule.declared.event.Event.{Event}
use Rattle.raft_node.specs.raft_store.declared.entry.Value.TheVariants.{Number}
use Rattle.raft_node.specs.raft_schedule.declared.event.EventKind.TheVariants.{Deliver, Fail, Heartbeat, Init, Propose, Timeout}
use Rattle.raft_node.specs.Chosen.{ChosenAt, AcknowledgedUpTo, effective_in}
use Rattle.raft_node.specs.raft_calls.declared.message.Body.TheVariants.{AppendReply, AppendRequest}
use Rattle.raft_node.specs.raft_calls.declared.message.Message.{Message}
use Rattle.raft_node.specs.declared.record.Executed.{Executed}
use Rattle.raft_node.specs.Events.{finish, happens, place_of, played}
use Rattle.raft_node.specs.raft_calls.Elections.{first_entry}
use Rattle.raft_node.specs.Net.{NodeView, new_node, node_at}
use Rattle.raft_node.specs.Runs.{moment, with_event, world_after}
use Rattle.raft_node.specs.Work.{worked}
use Rattle.proof_deeds.proofs.RunRows.{blank, event, leader, trio}

-- node 1 is elected by node 2, and has its no-op entry committed with it; then a value, which node 2 takes too
abbrev replicates : List Event
replicates = map event (Init 1 ∷ Deliver 1 ∷ Deliver 3 ∷ Deliver 4 ∷ Deliver 6 ∷ Deliver 7 ∷ Propose 1 (Number 7 ∷ []) ∷ Deliver 10 ∷ Deliver 11 ∷ Deliver 12 ∷ [])

abbrev value : Entry
value = record { log_id = lid 1 1 2; payload = Value (Number 7) }

abbrev executed_at : ℕ → Entry → Executed
executed_at n e = record { node = n; entry = e }

-- the session of node 1 as leader
abbrev session : ReplicationSessionId ℕ
session = record { vote = committed 1 1; membership_log_id = Some (lid 0 0 0) }

abbrev success : Message
success = record { from = 2; to = 1; body = AppendReply (record { session_id = session; request_id = AppendEntries 2; sent_at = 0 }) Success (Some (lid 1 1 1)) (Some (lid 1 1 2)) }

-- two nodes execute it
the_value_is_executed : (world_after trio replicates).records.executed
    ≡ executed_at 1 (first_entry three) ∷ executed_at 1 (blank 1 1 1) ∷ executed_at 2 (first_entry three) ∷ executed_at 2 (blank 1 1 1) ∷ executed_at 1 value ∷ executed_at 2 value ∷ []
unfolding with_event happens finish played worked place_of initialize elect do_append_entries update_vote update_internal_server_state become_following become_leader begin_lead lead_anew update_role handle_vote_resp take_grant lead_by_votes rebuild_replication_streams initiate_replication leader_append_entries proposed update_local_progress try_commit_quorum_accepted commit_by snapshot_where_due trigger_snapshot handle_vote_req vote_req_answer handle_append_entries handle_commit_entries append_answer follow requests.append_entries following.append_entries following.ensure_log_consecutive following.truncate_logs following.commit_entries update_progress update_success_progress update_leader_clock update_matching update_failed_progress send_next purge_unless_inflight try_purge_log purge_log
the_value_is_executed = refl

-- its leader has decided it
the_value_is_decided : (world_after trio replicates).records.decided
    ≡ record { leader_id = leader 1 1; log_id = lid 1 1 1; log = first_entry three ∷ blank 1 1 1 ∷ [] } ∷ record { leader_id = leader 1 1; log_id = lid 1 1 2; log = first_entry three ∷ blank 1 1 1 ∷ value ∷ [] } ∷ []
unfolding with_event happens finish played worked place_of initialize elect do_append_entries update_vote update_internal_server_state become_following become_leader begin_lead lead_anew update_role handle_vote_resp take_grant lead_by_votes rebuild_replication_streams initiate_replication leader_append_entries proposed update_local_progress try_commit_quorum_accepted commit_by snapshot_where_due trigger_snapshot handle_vote_req vote_req_answer handle_append_entries handle_commit_entries append_answer follow requests.append_entries following.append_entries following.ensure_log_consecutive following.truncate_logs following.commit_entries update_progress update_success_progress update_leader_clock update_matching update_failed_progress send_next purge_unless_inflight try_purge_log purge_log
the_value_is_decided = refl

-- the node of its leader, once it was proposed
abbrev proposer : NodeView
proposer = elim (node_at (moment trio replicates 7 0).nodes 1) [ None ↦ new_node (settings 1) 1 | Some n ↦ n ]

-- it leads then, with the value
it_leads : is_some (node_at (moment trio replicates 7 0).nodes 1) ≡ true
unfolding with_event happens finish played worked place_of initialize elect do_append_entries update_vote update_internal_server_state become_following become_leader begin_lead lead_anew update_role handle_vote_resp take_grant lead_by_votes rebuild_replication_streams initiate_replication leader_append_entries proposed update_local_progress try_commit_quorum_accepted commit_by snapshot_where_due trigger_snapshot handle_vote_req vote_req_answer handle_append_entries handle_commit_entries append_answer follow requests.append_entries following.append_entries following.ensure_log_consecutive following.truncate_logs following.commit_entries update_progress update_success_progress update_leader_clock update_matching update_failed_progress send_next purge_unless_inflight try_purge_log purge_log
it_leads = refl

its_vote : proposer.store.vote ≡ committed 1 1
unfolding with_event happens finish played worked place_of initialize elect do_append_entries update_vote update_internal_server_state become_following become_leader begin_lead lead_anew update_role handle_vote_resp take_grant lead_by_votes rebuild_replication_streams initiate_replication leader_append_entries proposed update_local_progress try_commit_quorum_accepted commit_by snapshot_where_due trigger_snapshot handle_vote_req vote_req_answer handle_append_entries handle_commit_entries append_answer follow requests.append_entries following.append_entries following.ensure_log_consecutive following.truncate_logs following.commit_entries update_progress update_success_progress update_leader_clock update_matching update_failed_progress send_next purge_unless_inflight try_purge_log purge_log
its_vote = refl

it_holds_the_value : holds nat_cmp entry_meaning proposer.store (lid 1 1 2) ≡ true
unfolding with_event happens finish played worked place_of initialize elect do_append_entries update_vote update_internal_server_state become_following become_leader begin_lead lead_anew update_role handle_vote_resp take_grant lead_by_votes rebuild_replication_streams initiate_replication leader_append_entries proposed update_local_progress try_commit_quorum_accepted commit_by snapshot_where_due trigger_snapshot handle_vote_req vote_req_answer handle_append_entries handle_commit_entries append_answer follow requests.append_entries following.append_entries following.ensure_log_consecutive following.truncate_logs following.commit_entries update_progress update_success_progress update_leader_clock update_matching update_failed_progress send_next purge_unless_inflight try_purge_log purge_log
it_holds_the_value = refl

two_are_a_quorum : is_quorum nat_cmp (effective_in proposer.store).groups (1 ∷ 2 ∷ []) ≡ true
unfolding with_event happens finish played worked place_of initialize elect do_append_entries update_vote update_internal_server_state become_following become_leader begin_lead lead_anew update_role handle_vote_resp take_grant lead_by_votes rebuild_replication_streams initiate_replication leader_append_entries proposed update_local_progress try_commit_quorum_accepted commit_by snapshot_where_due trigger_snapshot handle_vote_req vote_req_answer handle_append_entries handle_commit_entries append_answer follow requests.append_entries following.append_entries following.ensure_log_consecutive following.truncate_logs following.commit_entries update_progress update_success_progress update_leader_clock update_matching update_failed_progress send_next purge_unless_inflight try_purge_log purge_log
two_are_a_quorum = refl

-- node 2 has acknowledged it
the_reply_is_sent : slice_get (world_after trio replicates).records.bag 10 ≡ Some success
unfolding with_event happens finish played worked place_of initialize elect do_append_entries update_vote update_internal_server_state become_following become_leader begin_lead lead_anew update_role handle_vote_resp take_grant lead_by_votes rebuild_replication_streams initiate_replication leader_append_entries proposed update_local_progress try_commit_quorum_accepted commit_by snapshot_where_due trigger_snapshot handle_vote_req vote_req_answer handle_append_entries handle_commit_entries append_answer follow requests.append_entries following.append_entries following.ensure_log_consecutive following.truncate_logs following.commit_entries update_progress update_success_progress update_leader_clock update_matching update_failed_progress send_next purge_unless_inflight try_purge_log purge_log
the_reply_is_sent = refl

some_of : (o : Option NodeView) (d : NodeView) → is_some o ≡ true → o ≡ Some (elim o as (λ _. NodeView) [ None ↦ d | Some n ↦ n ])
some_of None d h = cc
some_of (Some n) d h = refl

sent : Contains (world_after trio replicates).records.bag success
sent = let m : 10 < length (world_after trio replicates).records.bag = slice_get_within (world_after trio replicates).records.bag 10 success the_reply_is_sent in (10, m, get_or_from_slice_get (world_after trio replicates).records.bag 10 success success the_reply_is_sent)

-- so it is chosen, by these two
the_value_is_chosen : ChosenAt trio replicates (leader 1 1) (lid 1 1 2)
the_value_is_chosen = record {
  events = 7;
  commands = 0;
  node = proposer;
  is = some_of (node_at (moment trio replicates 7 0).nodes 1) (new_node (settings 1) 1) it_leads;
  vote = its_vote;
  own = refl;
  holds_it = it_holds_the_value;
  nodes = 1 ∷ 2 ∷ [];
  quorum = two_are_a_quorum;
  each = All-from_recursion (λ n. (n ≡ 1) ⊎ AcknowledgedUpTo (world_after trio replicates).records.bag n (leader 1 1) (lid 1 1 2)) (1 ∷ 2 ∷ [])
      (inl refl, (inr (record { message = success; sent = sent; from = refl; upto = lid 1 1 2; reaches = refl; acknowledges = (refl, refl, refl) }), tt));
}

-- A heartbeat, and the failure of the request to node 3, which it hasn't answered: it is sent anew, with the value

abbrev sent_again : Message
sent_again = record { from = 1; to = 3; body = AppendRequest (record { session_id = session; request_id = AppendEntries 2; sent_at = 0 }) None (first_entry three ∷ blank 1 1 1 ∷ value ∷ []) (Some (lid 1 1 2)) }

a_failed_request_is_sent_again : slice_get (world_after trio (map event (Init 1 ∷ Deliver 1 ∷ Deliver 3 ∷ Deliver 4 ∷ Deliver 6 ∷ Deliver 7 ∷ Propose 1 (Number 7 ∷ []) ∷ Deliver 10 ∷ Deliver 11 ∷ Deliver 12 ∷ Heartbeat 1 ∷ Fail 1 3 ∷ []))).records.bag 15 ≡ Some sent_again
unfolding with_event happens finish played worked place_of initialize elect do_append_entries update_vote update_internal_server_state become_following become_leader begin_lead lead_anew update_role handle_vote_resp take_grant lead_by_votes rebuild_replication_streams initiate_replication leader_append_entries proposed update_local_progress try_commit_quorum_accepted commit_by snapshot_where_due trigger_snapshot handle_vote_req vote_req_answer handle_append_entries handle_commit_entries append_answer follow requests.append_entries following.append_entries following.ensure_log_consecutive following.truncate_logs following.commit_entries update_progress update_success_progress update_leader_clock update_matching update_failed_progress send_next purge_unless_inflight try_purge_log purge_log
a_failed_request_is_sent_again = refl

-- A higher vote in a reply: node 2 asks for votes, and refuses its leader's request, which comes again

abbrev outvoted : List Event
outvoted = map event (Init 1 ∷ Deliver 1 ∷ Deliver 3 ∷ Deliver 4 ∷ Timeout 2 ∷ Deliver 4 ∷ Deliver 9 ∷ [])

abbrev steps_down : List Event → NodeView
steps_down es = elim (node_at (world_after trio es).nodes 1) [ None ↦ new_node (settings 1) 1 | Some n ↦ n ]

-- node 1 takes the vote without its mark, and leads no more
the_leader_steps_down : (steps_down outvoted).store.vote ≡ pending 2 2
unfolding with_event happens finish played worked place_of initialize elect do_append_entries update_vote update_internal_server_state become_following become_leader begin_lead lead_anew update_role handle_vote_resp take_grant lead_by_votes rebuild_replication_streams initiate_replication leader_append_entries proposed update_local_progress try_commit_quorum_accepted commit_by snapshot_where_due trigger_snapshot handle_vote_req vote_req_answer handle_append_entries handle_commit_entries append_answer follow requests.append_entries following.append_entries following.ensure_log_consecutive following.truncate_logs following.commit_entries update_progress update_success_progress update_leader_clock update_matching update_failed_progress send_next purge_unless_inflight try_purge_log purge_log
the_leader_steps_down = refl

it_leads_no_more : option_map (λ e. e.machine.leader) (steps_down outvoted).engine ≡ Some None
unfolding with_event happens finish played worked place_of initialize elect do_append_entries update_vote update_internal_server_state become_following become_leader begin_lead lead_anew update_role handle_vote_resp take_grant lead_by_votes rebuild_replication_streams initiate_replication leader_append_entries proposed update_local_progress try_commit_quorum_accepted commit_by snapshot_where_due trigger_snapshot handle_vote_req vote_req_answer handle_append_entries handle_commit_entries append_answer follow requests.append_entries following.append_entries following.ensure_log_consecutive following.truncate_logs following.commit_entries update_progress update_success_progress update_leader_clock update_matching update_failed_progress send_next purge_unless_inflight try_purge_log purge_log
it_leads_no_more = refl
