-- A worked run, computed: among three voters two values are proposed by one event, appended by one command, and applied: two
-- operations of clients.
use Rattle.proof_deeds.specs.raft_steps.Commit.{commit_by}
use Rattle.proof_deeds.specs.raft_steps.Engine.{elect, handle_vote_resp, initialize, lead_by_votes, take_grant}
use Rattle.proof_deeds.specs.raft_steps.FollowingHandler as following
use Rattle.proof_deeds.specs.raft_steps.FollowingHandler.{append_entries, do_append_entries}
use Rattle.proof_deeds.specs.raft_steps.LeaderHandler.{leader_append_entries, proposed}
use Rattle.proof_deeds.specs.raft_steps.LogHandler.{purge_log, try_purge_log}
use Rattle.proof_deeds.specs.raft_steps.Replies.{purge_unless_inflight, send_next, update_failed_progress, update_leader_clock, update_matching, update_progress, update_success_progress}
use Rattle.proof_deeds.specs.raft_steps.ReplicationHandler.{initiate_replication, rebuild_replication_streams, try_commit_quorum_accepted, update_local_progress}
use Rattle.proof_deeds.specs.raft_steps.Requests as requests
use Rattle.proof_deeds.specs.raft_steps.Requests.{append_answer, follow, handle_append_entries, handle_commit_entries, handle_vote_req, vote_req_answer}
use Rattle.proof_deeds.specs.raft_steps.ServerStateHandler.{update_role}
use Rattle.proof_deeds.specs.raft_steps.SnapshotHandler.{snapshot_where_due, trigger_snapshot}
use Rattle.proof_deeds.specs.raft_steps.VoteHandler.{become_following, become_leader, begin_lead, lead_anew, update_internal_server_state, update_vote}
use Rattle.proof_deeds.proofs.raft_steps_proofs.Example.{committed, lid, settings, three}
use Rattle.proof_deeds.specs.raft_store.declared.entry.Entry.{Entry}
use Rattle.proof_deeds.specs.raft_store.declared.entry.Payload.TheVariants as payload
use Rattle.proof_deeds.specs.raft_store.Store.{whole}
use Rattle.proof_deeds.specs.raft_schedule.declared.event.Event.{Event}
use Rattle.proof_deeds.specs.raft_node.Events.{finish, happens, place_of, played}
use Rattle.proof_deeds.specs.raft_calls.Elections.{first_entry}
use Rattle.proof_deeds.specs.raft_node.Net.{NodeView, new_node, node_at}
use Rattle.proof_deeds.specs.raft_node.Runs.{moment, with_event}
use Rattle.proof_deeds.specs.raft_node.Work.{worked}
use Rattle.proof_deeds.proofs.Nodes.{node_found}
use Rattle.proof_deeds.proofs.RunRows.{blank, event, leader, trio}
use Rattle.proof_clients.specs.Appends.{Appended}
use Rattle.std.specs.Prelude.{◌≡◌, ℕ, true, List, [], ◌∷◌, ◌++◌, Contains, None, Option, Some, is_some, map, refl, slice_get, take}
use Rattle.std.proofs.Common.{inr, arith, subst, sym, ap, ◌∙◌}
use Rattle.std.proofs.lemmas.List.Elements.{All-contains_itself, recursion_from_All}
use Rattle.proof_deeds.specs.raft_state.declared.ids.LeaderId.{LeaderId}
use Rattle.proof_deeds.specs.raft_state.declared.ids.LogId.{LogId}
use Rattle.proof_deeds.specs.raft_state.declared.ids.Vote.{Vote}
use Rattle.proof_deeds.specs.raft_store.declared.entry.Value.TheVariants.{Number}
use Rattle.proof_deeds.specs.raft_schedule.declared.event.EventKind.TheVariants.{Deliver, Init, Propose}
use Rattle.proof_clients.specs.Histories.{IsAsked, IsHistory, IsUpdate}
use Rattle.proof_clients.specs.Objects.{Operation, Update, state_after}
use Rattle.proof_clients.proofs.Rows.{counter}
use Rattle.proof_clients.proofs.Sequences.{element}

-- node 1 is elected by node 2, and has its no-op entry committed with it; then two values, which node 2 takes by one request
abbrev batch : List Event
batch = map event (Init 1 ∷ Deliver 1 ∷ Deliver 3 ∷ Deliver 4 ∷ Deliver 6 ∷ Deliver 7 ∷ Propose 1 (Number 7 ∷ Number 5 ∷ []) ∷ Deliver 10 ∷ Deliver 11 ∷ Deliver 12 ∷ [])

-- an entry at an index with a number, and the operation that adds it, and answers what was there before
abbrev entry : ℕ → ℕ → Entry
entry i n = record { log_id = lid 1 1 i; payload = payload.Value (Number n) }

abbrev adds : ℕ → ℕ → ℕ → Operation ℕ
adds i n before = record { call = 6; ask = Update (Number n) (entry i n); returned = Some (record { events = 10; commands = 0; taken = 4; result = before }) }

-- a node at a moment
abbrev node_then : ℕ → ℕ → ℕ → NodeView
node_then k n id = elim (node_at (moment trio batch k n).nodes id) [ None ↦ new_node (settings id) id | Some m ↦ m ]

some_of : (o : Option NodeView) (d : NodeView) → is_some o ≡ true → o ≡ Some (elim o as (λ _. NodeView) [ None ↦ d | Some n ↦ n ])
some_of None d h = cc
some_of (Some n) d h = refl

it_is_there : is_some (node_at (moment trio batch 6 0).nodes 1) ≡ true
unfolding with_event happens finish played worked place_of initialize elect do_append_entries update_vote update_internal_server_state become_following become_leader begin_lead lead_anew update_role handle_vote_resp take_grant lead_by_votes rebuild_replication_streams initiate_replication leader_append_entries proposed update_local_progress try_commit_quorum_accepted commit_by snapshot_where_due trigger_snapshot handle_vote_req vote_req_answer handle_append_entries handle_commit_entries append_answer follow requests.append_entries following.append_entries following.ensure_log_consecutive following.truncate_logs following.commit_entries update_progress update_success_progress update_leader_clock update_matching update_failed_progress send_next purge_unless_inflight try_purge_log purge_log
it_is_there = refl

it_is_there_then : is_some (node_at (moment trio batch 6 1).nodes 1) ≡ true
unfolding with_event happens finish played worked place_of initialize elect do_append_entries update_vote update_internal_server_state become_following become_leader begin_lead lead_anew update_role handle_vote_resp take_grant lead_by_votes rebuild_replication_streams initiate_replication leader_append_entries proposed update_local_progress try_commit_quorum_accepted commit_by snapshot_where_due trigger_snapshot handle_vote_req vote_req_answer handle_append_entries handle_commit_entries append_answer follow requests.append_entries following.append_entries following.ensure_log_consecutive following.truncate_logs following.commit_entries update_progress update_success_progress update_leader_clock update_matching update_failed_progress send_next purge_unless_inflight try_purge_log purge_log
it_is_there_then = refl

it_leads : (node_then 6 0 1).store.vote ≡ committed 1 1
unfolding with_event happens finish played worked place_of initialize elect do_append_entries update_vote update_internal_server_state become_following become_leader begin_lead lead_anew update_role handle_vote_resp take_grant lead_by_votes rebuild_replication_streams initiate_replication leader_append_entries proposed update_local_progress try_commit_quorum_accepted commit_by snapshot_where_due trigger_snapshot handle_vote_req vote_req_answer handle_append_entries handle_commit_entries append_answer follow requests.append_entries following.append_entries following.ensure_log_consecutive following.truncate_logs following.commit_entries update_progress update_success_progress update_leader_clock update_matching update_failed_progress send_next purge_unless_inflight try_purge_log purge_log
it_leads = refl

its_log : whole (node_then 6 0 1).store ≡ first_entry three ∷ blank 1 1 1 ∷ []
unfolding with_event happens finish played worked place_of initialize elect do_append_entries update_vote update_internal_server_state become_following become_leader begin_lead lead_anew update_role handle_vote_resp take_grant lead_by_votes rebuild_replication_streams initiate_replication leader_append_entries proposed update_local_progress try_commit_quorum_accepted commit_by snapshot_where_due trigger_snapshot handle_vote_req vote_req_answer handle_append_entries handle_commit_entries append_answer follow requests.append_entries following.append_entries following.ensure_log_consecutive following.truncate_logs following.commit_entries update_progress update_success_progress update_leader_clock update_matching update_failed_progress send_next purge_unless_inflight try_purge_log purge_log
its_log = refl

-- one command appends both
its_log_then : whole (node_then 6 1 1).store ≡ first_entry three ∷ blank 1 1 1 ∷ entry 2 7 ∷ entry 3 5 ∷ []
unfolding with_event happens finish played worked place_of initialize elect do_append_entries update_vote update_internal_server_state become_following become_leader begin_lead lead_anew update_role handle_vote_resp take_grant lead_by_votes rebuild_replication_streams initiate_replication leader_append_entries proposed update_local_progress try_commit_quorum_accepted commit_by snapshot_where_due trigger_snapshot handle_vote_req vote_req_answer handle_append_entries handle_commit_entries append_answer follow requests.append_entries following.append_entries following.ensure_log_consecutive following.truncate_logs following.commit_entries update_progress update_success_progress update_leader_clock update_matching update_failed_progress send_next purge_unless_inflight try_purge_log purge_log
its_log_then = refl

appended : (i : ℕ) (x : Entry) → slice_get (entry 2 7 ∷ entry 3 5 ∷ []) i ≡ Some x → x.log_id.leader_id ≡ leader 1 1 → Appended trio batch 6 i x
appended i x slot own = record {
  commands = 0;
  entries = entry 2 7 ∷ entry 3 5 ∷ [];
  slot = slot;
  before = node_then 6 0 1;
  after = node_then 6 1 1;
  is = subst (λ (l : LeaderId ℕ). node_at (moment trio batch 6 0).nodes l.node_id ≡ Some (node_then 6 0 1)) (sym own) (some_of (node_at (moment trio batch 6 0).nodes 1) (new_node (settings 1) 1) it_is_there);
  is_after = subst (λ (l : LeaderId ℕ). node_at (moment trio batch 6 1).nodes l.node_id ≡ Some (node_then 6 1 1)) (sym own) (some_of (node_at (moment trio batch 6 1).nodes 1) (new_node (settings 1) 1) it_is_there_then);
  leads = it_leads ∙ ap (λ (l : LeaderId ℕ). let v : Vote ℕ = record { leader_id = l; committed = true } in v) (sym own);
  appended = its_log_then ∙ ap (λ es. es ++ entry 2 7 ∷ entry 3 5 ∷ []) (sym its_log);
}

two_is_there : is_some (node_at (moment trio batch 10 0).nodes 2) ≡ true
unfolding with_event happens finish played worked place_of initialize elect do_append_entries update_vote update_internal_server_state become_following become_leader begin_lead lead_anew update_role handle_vote_resp take_grant lead_by_votes rebuild_replication_streams initiate_replication leader_append_entries proposed update_local_progress try_commit_quorum_accepted commit_by snapshot_where_due trigger_snapshot handle_vote_req vote_req_answer handle_append_entries handle_commit_entries append_answer follow requests.append_entries following.append_entries following.ensure_log_consecutive following.truncate_logs following.commit_entries update_progress update_success_progress update_leader_clock update_matching update_failed_progress send_next purge_unless_inflight try_purge_log purge_log
two_is_there = refl

both_are_applied : (node_then 10 0 2).store.applied ≡ first_entry three ∷ blank 1 1 1 ∷ entry 2 7 ∷ entry 3 5 ∷ []
unfolding with_event happens finish played worked place_of initialize elect do_append_entries update_vote update_internal_server_state become_following become_leader begin_lead lead_anew update_role handle_vote_resp take_grant lead_by_votes rebuild_replication_streams initiate_replication leader_append_entries proposed update_local_progress try_commit_quorum_accepted commit_by snapshot_where_due trigger_snapshot handle_vote_req vote_req_answer handle_append_entries handle_commit_entries append_answer follow requests.append_entries following.append_entries following.ensure_log_consecutive following.truncate_logs following.commit_entries update_progress update_success_progress update_leader_clock update_matching update_failed_progress send_next purge_unless_inflight try_purge_log purge_log
both_are_applied = refl

two_then : Contains (moment trio batch 10 0).nodes (node_then 10 0 2)
two_then =
    (node_found (moment trio batch 10 0).nodes 2 (node_then 10 0 2) (Contains (moment trio batch 10 0).nodes)
    (recursion_from_All (Contains (moment trio batch 10 0).nodes) (moment trio batch 10 0).nodes (All-contains_itself (moment trio batch 10 0).nodes))
    (some_of (node_at (moment trio batch 10 0).nodes 2) (new_node (settings 2) 2) two_is_there)).0

is_first : IsUpdate counter trio batch (adds 2 7 0) (Number 7) (entry 2 7)
is_first = record {
  proposal = event (Propose 1 (Number 7 ∷ Number 5 ∷ []));
  invoked = refl;
  values = Number 7 ∷ Number 5 ∷ [];
  proposed = refl;
  place = 0;
  value = refl;
  appended = appended 0 (entry 2 7) refl refl;
  payload = refl;
  returned = record { node = node_then 10 0 2; there = two_then; applied = ap (λ es. slice_get es 2) both_are_applied; result = sym (ap (λ es. state_after counter 0 (take 2 es)) both_are_applied) };
}

is_second : IsUpdate counter trio batch (adds 3 5 7) (Number 5) (entry 3 5)
is_second = record {
  proposal = event (Propose 1 (Number 7 ∷ Number 5 ∷ []));
  invoked = refl;
  values = Number 7 ∷ Number 5 ∷ [];
  proposed = refl;
  place = 1;
  value = refl;
  appended = appended 1 (entry 3 5) refl refl;
  payload = refl;
  returned = record { node = node_then 10 0 2; there = two_then; applied = ap (λ es. slice_get es 3) both_are_applied; result = sym (ap (λ es. state_after counter 0 (take 3 es)) both_are_applied) };
}

-- they are a history: two operations of one event, by its two values
two_operations : IsHistory counter trio batch (adds 2 7 0 ∷ adds 3 5 7 ∷ [])
two_operations = record {
  each = λ o c. element (λ (p : Operation ℕ). IsAsked counter trio batch p p.ask) (adds 2 7 0 ∷ adds 3 5 7 ∷ []) o (is_first, (is_second, tt)) c;
  once = ((inr (λ e. let z : 2 ≡ 3 = ap (λ (x : LogId ℕ). x.index) e in omega (arith, z)), tt), (tt, tt));
}
