-- Worked runs of restarts, computed: a leader that stopped before its entry was stored leads on, and its entry is
-- decided; and what a start leaves of a node's committed id, with its saved one and without.
use Rattle.std.specs.Prelude.{◌≡◌, ℕ, List, [], ◌∷◌, ◌++◌, Option, None, Some, map, refl}
use Rattle.std.specs.Option.{option_map}
use Rattle.raft_node.specs.raft_state.declared.ids.LogId.{LogId}
use Rattle.raft_node.specs.raft_steps.Commit.{commit_by}
use Rattle.raft_node.specs.raft_steps.Engine.{elect, handle_vote_resp, initialize, lead_by_votes, take_grant}
use Rattle.raft_node.specs.raft_steps.FollowingHandler as following
use Rattle.raft_node.specs.raft_steps.FollowingHandler.{append_entries, do_append_entries}
use Rattle.raft_node.specs.raft_steps.LeaderHandler.{leader_append_entries, proposed}
use Rattle.raft_node.specs.raft_steps.LogHandler.{purge_log, try_purge_log}
use Rattle.raft_node.specs.raft_steps.Replies.{purge_unless_inflight, send_next, update_leader_clock, update_matching, update_progress, update_success_progress}
use Rattle.raft_node.specs.raft_steps.ReplicationHandler.{initiate_replication, rebuild_replication_streams, try_commit_quorum_accepted, update_local_progress}
use Rattle.raft_node.specs.raft_steps.Requests as requests
use Rattle.raft_node.specs.raft_steps.Requests.{append_answer, follow, handle_append_entries, handle_commit_entries, handle_vote_req, vote_req_answer}
use Rattle.raft_node.specs.raft_steps.ServerStateHandler.{update_role}
use Rattle.raft_node.specs.raft_steps.SnapshotHandler.{snapshot_where_due, trigger_snapshot}
use Rattle.raft_node.specs.raft_steps.Starts.{startup}
use Rattle.raft_node.specs.raft_steps.VoteHandler.{become_following, become_leader, begin_lead, lead_anew, update_internal_server_state, update_vote}
use Rattle.raft_node.proofs.raft_steps_proofs.Example.{committed, lid, pending, settings, three}
use Rattle.raft_node.specs.raft_schedule.declared.event.Event.{Event}
use Rattle.raft_node.specs.raft_schedule.declared.event.EventKind.{EventKind}
use Rattle.raft_node.specs.raft_schedule.declared.event.EventKind.TheVariants.{Deliver, Init, Restart}
use Rattle.raft_node.specs.raft_schedule.declared.event.Start.{Start}
use Rattle.raft_node.specs.raft_schedule.declared.event.Start.TheVariants.{Plain, Saved, Bare}
use Rattle.raft_node.specs.declared.given.Given.{Given}
use Rattle.raft_node.specs.Events.{finish, happens, place_of, played}
use Rattle.raft_node.specs.raft_calls.Elections.{first_entry}
use Rattle.raft_node.specs.Net.{NodeView, new_node, node_at}
use Rattle.raft_node.specs.Runs.{with_event, world_after}
use Rattle.raft_node.specs.Work.{worked}
use Rattle.proof_deeds.proofs.RunRows.{alone, blank, event, leader, trio}

-- the node stops after so many commands
abbrev stopping : ℕ → EventKind → Event
stopping commands kind = record (event kind) { stop = Some commands }

abbrev node_of : ℕ → Given → List Event → NodeView
node_of id given es = elim (node_at (world_after given es).nodes id) [ None ↦ new_node given.settings id | Some n ↦ n ]

-- One voter, which is stopped once its committed vote is saved, and again within its start

abbrev one : Given
one = record { ids = 1 ∷ []; membership = alone; settings = settings 1 }

abbrev stopped_twice : List Event
stopped_twice = stopping 6 (Init 1) ∷ stopping 2 (Restart 1 Plain) ∷ []

its_vote_is_saved : (node_of 1 one stopped_twice).store.vote ≡ committed 1 1
unfolding with_event happens finish played worked place_of initialize elect do_append_entries update_vote update_internal_server_state become_following become_leader begin_lead lead_anew update_role handle_vote_resp take_grant lead_by_votes rebuild_replication_streams initiate_replication leader_append_entries proposed update_local_progress try_commit_quorum_accepted commit_by snapshot_where_due trigger_snapshot startup
its_vote_is_saved = refl

it_runs_no_more : (node_of 1 one stopped_twice).engine ≡ None
unfolding with_event happens finish played worked place_of initialize elect do_append_entries update_vote update_internal_server_state become_following become_leader begin_lead lead_anew update_role handle_vote_resp take_grant lead_by_votes rebuild_replication_streams initiate_replication leader_append_entries proposed update_local_progress try_commit_quorum_accepted commit_by snapshot_where_due trigger_snapshot startup
it_runs_no_more = refl

-- it leads on, and its entry is stored and decided
it_leads_on : (world_after one (stopped_twice ++ event (Restart 1 Plain) ∷ [])).records.decided ≡ record { leader_id = leader 1 1; log_id = lid 1 1 1; log = first_entry alone ∷ blank 1 1 1 ∷ [] } ∷ []
unfolding with_event happens finish played worked place_of initialize elect do_append_entries update_vote update_internal_server_state become_following become_leader begin_lead lead_anew update_role handle_vote_resp take_grant lead_by_votes rebuild_replication_streams initiate_replication leader_append_entries proposed update_local_progress try_commit_quorum_accepted commit_by snapshot_where_due trigger_snapshot startup
it_leads_on = refl

-- Three voters: node 1 leads, and has decided and applied its first two entries

abbrev decides : List Event
decides = map event (Init 1 ∷ Deliver 1 ∷ Deliver 3 ∷ Deliver 4 ∷ Deliver 6 ∷ [])

abbrev restarts : ℕ → Start → List Event
restarts id start = decides ++ event (Restart id start) ∷ []

-- without its saved id it has applied nothing, until they are committed anew
it_forgets : (node_of 1 trio (restarts 1 Plain)).store.applied ≡ []
unfolding with_event happens finish played worked place_of initialize elect do_append_entries update_vote update_internal_server_state become_following become_leader begin_lead lead_anew update_role handle_vote_resp take_grant lead_by_votes rebuild_replication_streams initiate_replication leader_append_entries proposed update_local_progress try_commit_quorum_accepted commit_by snapshot_where_due trigger_snapshot handle_vote_req vote_req_answer handle_append_entries handle_commit_entries append_answer follow requests.append_entries following.append_entries following.ensure_log_consecutive following.truncate_logs following.commit_entries update_progress update_success_progress update_leader_clock update_matching send_next purge_unless_inflight try_purge_log purge_log startup
it_forgets = refl

-- with it, both
it_recalls : (node_of 1 trio (restarts 1 Saved)).store.applied ≡ first_entry three ∷ blank 1 1 1 ∷ []
unfolding with_event happens finish played worked place_of initialize elect do_append_entries update_vote update_internal_server_state become_following become_leader begin_lead lead_anew update_role handle_vote_resp take_grant lead_by_votes rebuild_replication_streams initiate_replication leader_append_entries proposed update_local_progress try_commit_quorum_accepted commit_by snapshot_where_due trigger_snapshot handle_vote_req vote_req_answer handle_append_entries handle_commit_entries append_answer follow requests.append_entries following.append_entries following.ensure_log_consecutive following.truncate_logs following.commit_entries update_progress update_success_progress update_leader_clock update_matching send_next purge_unless_inflight try_purge_log purge_log startup
it_recalls = refl

-- a bare start forgets it, and the node, which led, asks for votes in the next term
it_saves_none : (node_of 1 trio (restarts 1 Bare)).store.saved ≡ None
unfolding with_event happens finish played worked place_of initialize elect do_append_entries update_vote update_internal_server_state become_following become_leader begin_lead lead_anew update_role handle_vote_resp take_grant lead_by_votes rebuild_replication_streams initiate_replication leader_append_entries proposed update_local_progress try_commit_quorum_accepted commit_by snapshot_where_due trigger_snapshot handle_vote_req vote_req_answer handle_append_entries handle_commit_entries append_answer follow requests.append_entries following.append_entries following.ensure_log_consecutive following.truncate_logs following.commit_entries update_progress update_success_progress update_leader_clock update_matching send_next purge_unless_inflight try_purge_log purge_log startup
it_saves_none = refl

it_stands_anew : (node_of 1 trio (restarts 1 Bare)).store.vote ≡ pending 2 1
unfolding with_event happens finish played worked place_of initialize elect do_append_entries update_vote update_internal_server_state become_following become_leader begin_lead lead_anew update_role handle_vote_resp take_grant lead_by_votes rebuild_replication_streams initiate_replication leader_append_entries proposed update_local_progress try_commit_quorum_accepted commit_by snapshot_where_due trigger_snapshot handle_vote_req vote_req_answer handle_append_entries handle_commit_entries append_answer follow requests.append_entries following.append_entries following.ensure_log_consecutive following.truncate_logs following.commit_entries update_progress update_success_progress update_leader_clock update_matching send_next purge_unless_inflight try_purge_log purge_log startup
it_stands_anew = refl

-- A follower that starts has the first entry's membership as its committed one, though it knows of no entry as committed

a_membership_not_yet_committed : option_map (λ e. let ids : Option (LogId ℕ) × Option (LogId ℕ) = (e.machine.core.state.cm.log_id, e.machine.core.state.committed) in ids) (node_of 2 trio (restarts 2 Saved)).engine ≡ Some (Some (lid 0 0 0), None)
unfolding with_event happens finish played worked place_of initialize elect do_append_entries update_vote update_internal_server_state become_following become_leader begin_lead lead_anew update_role handle_vote_resp take_grant lead_by_votes rebuild_replication_streams initiate_replication leader_append_entries proposed update_local_progress try_commit_quorum_accepted commit_by snapshot_where_due trigger_snapshot handle_vote_req vote_req_answer handle_append_entries handle_commit_entries append_answer follow requests.append_entries following.append_entries following.ensure_log_consecutive following.truncate_logs following.commit_entries update_progress update_success_progress update_leader_clock update_matching send_next purge_unless_inflight try_purge_log purge_log startup
a_membership_not_yet_committed = refl
