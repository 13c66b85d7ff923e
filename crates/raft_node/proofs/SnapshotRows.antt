-- A worked run, computed: one voter commits two values, builds a snapshot of all, and keeps the last two entries of it.
use Rattle.std.specs.Prelude.{◌≡◌, ℕ, List, [], ◌∷◌, None, Some, length, map, refl}
use Rattle.raft_state.specs.declared.membership.Members.{Members}
use Rattle.raft_command.specs.declared.config.EngineConfig.{EngineConfig}
use Rattle.raft_steps.specs.Commit.{commit_by}
use Rattle.raft_steps.specs.Engine.{elect, handle_vote_resp, initialize, lead_by_votes, take_grant}
use Rattle.raft_steps.specs.FollowingHandler.{do_append_entries}
use Rattle.raft_steps.specs.LeaderHandler.{leader_append_entries, proposed}
use Rattle.raft_steps.specs.LogHandler.{purge_log, schedule_policy_based_purge, try_purge_log}
use Rattle.raft_steps.specs.ReplicationHandler.{initiate_replication, rebuild_replication_streams, try_commit_quorum_accepted, update_local_progress}
use Rattle.raft_steps.specs.ServerStateHandler.{update_role}
use Rattle.raft_steps.specs.SnapshotCalls.{finish_building_snapshot}
use Rattle.raft_steps.specs.SnapshotHandler.{snapshot_where_due, trigger_snapshot, update_snapshot}
use Rattle.raft_steps.specs.VoteHandler.{become_following, become_leader, begin_lead, lead_anew, update_internal_server_state, update_vote}
use Rattle.raft_steps.proofs.Example.{lid, nodes_of, settings}
use Rattle.raft_schedule.specs.declared.event.Event.{Event}
use Rattle.raft_store.specs.declared.entry.Value.TheVariants.{Number}
use Rattle.raft_schedule.specs.declared.event.EventKind.{EventKind}
use Rattle.raft_schedule.specs.declared.event.EventKind.TheVariants.{Built, Init, Propose, Snapshot}
use Rattle.raft_node.specs.declared.given.Given.{Given}
use Rattle.raft_node.specs.Events.{finish, happens, place_of, played}
use Rattle.raft_node.specs.Net.{NodeView, new_node, node_at}
use Rattle.raft_node.specs.Runs.{with_event, world_after}
use Rattle.raft_node.specs.Work.{worked}

abbrev alone : Members ℕ (Unit {0})
alone = record { groups = (1 ∷ []) ∷ []; nodes = nodes_of (1 ∷ []) }

abbrev keeping_two : EngineConfig ℕ
keeping_two = record (settings 1) { max_in_snapshot_log_to_keep = 2; purge_batch_size = 1 }

abbrev one : Given
one = record { ids = 1 ∷ []; membership = alone; settings = keeping_two }

abbrev event : EventKind → Event
event kind = record { kind = kind; at = None; stop = None }

abbrev events : List Event
events = event (Init 1) ∷ event (Propose 1 (Number 5 ∷ [])) ∷ event (Propose 1 (Number 6 ∷ [])) ∷ event (Snapshot 1) ∷ event (Built 1) ∷ []

abbrev node : NodeView
node = elim (node_at (world_after one events).nodes 1) [ None ↦ new_node keeping_two 1 | Some n ↦ n ]

the_log_is_purged : node.store.front ≡ Some (lid 1 1 1)
unfolding happens finish played worked place_of with_event initialize elect do_append_entries update_vote update_internal_server_state become_following become_leader begin_lead lead_anew update_role handle_vote_resp take_grant lead_by_votes rebuild_replication_streams initiate_replication leader_append_entries proposed update_local_progress try_commit_quorum_accepted commit_by snapshot_where_due trigger_snapshot finish_building_snapshot update_snapshot schedule_policy_based_purge try_purge_log purge_log
the_log_is_purged = refl

two_entries_are_left : map (λ p. p.0) node.store.log ≡ 2 ∷ 3 ∷ []
unfolding happens finish played worked place_of with_event initialize elect do_append_entries update_vote update_internal_server_state become_following become_leader begin_lead lead_anew update_role handle_vote_resp take_grant lead_by_votes rebuild_replication_streams initiate_replication leader_append_entries proposed update_local_progress try_commit_quorum_accepted commit_by snapshot_where_due trigger_snapshot finish_building_snapshot update_snapshot schedule_policy_based_purge try_purge_log purge_log
two_entries_are_left = refl

the_snapshot_has_all : length node.store.snap ≡ 4
unfolding happens finish played worked place_of with_event initialize elect do_append_entries update_vote update_internal_server_state become_following become_leader begin_lead lead_anew update_role handle_vote_resp take_grant lead_by_votes rebuild_replication_streams initiate_replication leader_append_entries proposed update_local_progress try_commit_quorum_accepted commit_by snapshot_where_due trigger_snapshot finish_building_snapshot update_snapshot schedule_policy_based_purge try_purge_log purge_log
the_snapshot_has_all = refl

nothing_is_noted : node.noted ≡ None
unfolding happens finish played worked place_of with_event initialize elect do_append_entries update_vote update_internal_server_state become_following become_leader begin_lead lead_anew update_role handle_vote_resp take_grant lead_by_votes rebuild_replication_streams initiate_replication leader_append_entries proposed update_local_progress try_commit_quorum_accepted commit_by snapshot_where_due trigger_snapshot finish_building_snapshot update_snapshot schedule_policy_based_purge try_purge_log purge_log
nothing_is_noted = refl
