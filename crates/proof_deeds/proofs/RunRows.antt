-- Worked runs, computed: one voter, whose entry is chosen at its seventh command and not at its sixth; and two
-- elections among three.
use Rattle.std.specs.Prelude.{◌≡◌, ℕ, false, List, [], ◌∷◌, None, Some, map, refl}
use Rattle.std.proofs.Common.{◌⊎◌, inl}
use Rattle.std.specs.Ordering.{nat_cmp}
use Rattle.std.proofs.lemmas.List.Elements.{All-from_recursion}
use Rattle.raft_node.specs.raft_state.declared.ids.LeaderId.{LeaderId}
use Rattle.raft_node.specs.raft_state.declared.membership.Members.{Members}
use Rattle.raft_node.specs.raft_steps.Commit.{commit_by}
use Rattle.raft_node.specs.raft_steps.Engine.{elect, handle_vote_resp, initialize, lead_by_votes, take_grant}
use Rattle.raft_node.specs.raft_steps.FollowingHandler.{append_entries, do_append_entries}
use Rattle.raft_node.specs.raft_steps.LeaderHandler.{leader_append_entries, proposed}
use Rattle.raft_node.specs.raft_steps.ReplicationHandler.{initiate_replication, rebuild_replication_streams, try_commit_quorum_accepted, update_local_progress}
use Rattle.raft_node.specs.raft_steps.Requests as requests
use Rattle.raft_node.specs.raft_steps.Requests.{append_answer, follow, handle_append_entries, handle_commit_entries, handle_vote_req, vote_req_answer}
use Rattle.raft_node.specs.raft_steps.FollowingHandler as following
use Rattle.raft_node.specs.raft_steps.ServerStateHandler.{update_role}
use Rattle.raft_node.specs.raft_steps.SnapshotHandler.{snapshot_where_due, trigger_snapshot}
use Rattle.raft_node.specs.raft_steps.VoteHandler.{become_following, become_leader, begin_lead, lead_anew, update_internal_server_state, update_vote}
use Rattle.raft_node.proofs.raft_steps_proofs.Example.{committed, lid, nodes_of, settings, three}
use Rattle.raft_node.specs.raft_store.declared.entry.Entry.{Entry}
use Rattle.raft_node.specs.raft_store.declared.entry.Payload.TheVariants.{Blank}
use Rattle.raft_node.specs.raft_store.Entries.{entry_meaning}
use Rattle.raft_node.specs.raft_store.Store.{holds, whole}
use Rattle.raft_node.specs.raft_schedule.declared.event.Event.{Event}
use Rattle.raft_node.specs.raft_schedule.declared.event.EventKind.{EventKind}
use Rattle.raft_node.specs.raft_schedule.declared.event.EventKind.TheVariants.{Deliver, Init, Timeout}
use Rattle.raft_node.specs.Chosen.{ChosenAt, AcknowledgedUpTo}
use Rattle.raft_node.specs.Events.{finish, happens, place_of, played}
use Rattle.raft_node.specs.raft_calls.Elections.{first_entry}
use Rattle.raft_node.specs.Net.{NodeView, new_node, node_at}
use Rattle.raft_node.specs.declared.given.Given.{Given}
use Rattle.raft_node.specs.Runs.{moment, with_event, world_after}
use Rattle.raft_node.specs.Work.{worked}

abbrev pub event : EventKind → Event
event kind = record { kind = kind; at = None; stop = None }

abbrev pub blank : ℕ → ℕ → ℕ → Entry
blank t n i = record { log_id = lid t n i; payload = Blank }

abbrev pub leader : ℕ → ℕ → LeaderId ℕ
leader t n = record { term = t; node_id = n }

-- One voter, which is given the first entry

abbrev pub alone : Members ℕ (Unit {0})
alone = record { groups = (1 ∷ []) ∷ []; nodes = nodes_of (1 ∷ []) }

abbrev one : Given
one = record { ids = 1 ∷ []; membership = alone; settings = settings 1 }

-- its node after so many commands
abbrev node_after : ℕ → NodeView
node_after commands = elim (node_at (moment one (event (Init 1) ∷ []) 0 commands).nodes 1) [ None ↦ new_node (settings 1) 1 | Some n ↦ n ]

at_the_sixth_it_leads : (node_after 6).store.vote ≡ committed 1 1
unfolding happens finish played worked place_of initialize elect do_append_entries update_vote update_internal_server_state become_following become_leader begin_lead lead_anew update_role handle_vote_resp take_grant lead_by_votes rebuild_replication_streams initiate_replication leader_append_entries proposed update_local_progress try_commit_quorum_accepted commit_by snapshot_where_due trigger_snapshot
at_the_sixth_it_leads = refl

at_the_sixth_it_lacks_the_entry : holds nat_cmp entry_meaning (node_after 6).store (lid 1 1 1) ≡ false
unfolding happens finish played worked place_of initialize elect do_append_entries update_vote update_internal_server_state become_following become_leader begin_lead lead_anew update_role handle_vote_resp take_grant lead_by_votes rebuild_replication_streams initiate_replication leader_append_entries proposed update_local_progress try_commit_quorum_accepted commit_by snapshot_where_due trigger_snapshot
at_the_sixth_it_lacks_the_entry = refl

at_the_seventh_it_is_chosen : ChosenAt one (event (Init 1) ∷ []) (leader 1 1) (lid 1 1 1)
unfolding happens finish played worked place_of initialize elect do_append_entries update_vote update_internal_server_state become_following become_leader begin_lead lead_anew update_role handle_vote_resp take_grant lead_by_votes rebuild_replication_streams initiate_replication leader_append_entries proposed update_local_progress try_commit_quorum_accepted commit_by snapshot_where_due trigger_snapshot
at_the_seventh_it_is_chosen = record {
  events = 0;
  commands = 7;
  node = node_after 7;
  is = refl;
  vote = refl;
  own = refl;
  holds_it = refl;
  nodes = 1 ∷ [];
  quorum = refl;
  each = All-from_recursion (λ n. (n ≡ 1) ⊎ AcknowledgedUpTo (world_after one (event (Init 1) ∷ [])).records.bag n (leader 1 1) (lid 1 1 1)) (1 ∷ []) (inl refl, tt);
}

it_is_decided : (world_after one (event (Init 1) ∷ [])).records.decided ≡ record { leader_id = leader 1 1; log_id = lid 1 1 1; log = first_entry alone ∷ blank 1 1 1 ∷ [] } ∷ []
unfolding with_event happens finish played worked place_of initialize elect do_append_entries update_vote update_internal_server_state become_following become_leader begin_lead lead_anew update_role handle_vote_resp take_grant lead_by_votes rebuild_replication_streams initiate_replication leader_append_entries proposed update_local_progress try_commit_quorum_accepted commit_by snapshot_where_due trigger_snapshot
it_is_decided = refl

-- Three voters: node 1 is elected by node 2, which takes its entries; then node 2 by node 3

abbrev pub trio : Given
trio = record { ids = 1 ∷ 2 ∷ 3 ∷ []; membership = three; settings = settings 1 }

abbrev elections : List Event
elections = map event (Init 1 ∷ Deliver 1 ∷ Deliver 3 ∷ Deliver 4 ∷ Timeout 2 ∷ Deliver 8 ∷ Deliver 9 ∷ [])

-- the second leader holds what the first one wrote
both_are_established : (world_after trio elections).records.established
    ≡ record { leader_id = leader 1 1; log = first_entry three ∷ [] } ∷ record { leader_id = leader 2 2; log = first_entry three ∷ blank 1 1 1 ∷ [] } ∷ []
unfolding with_event happens finish played worked place_of initialize elect do_append_entries update_vote update_internal_server_state become_following become_leader begin_lead lead_anew update_role handle_vote_resp take_grant lead_by_votes rebuild_replication_streams initiate_replication leader_append_entries proposed update_local_progress try_commit_quorum_accepted commit_by snapshot_where_due trigger_snapshot handle_vote_req vote_req_answer handle_append_entries handle_commit_entries append_answer follow requests.append_entries following.append_entries following.ensure_log_consecutive following.truncate_logs following.commit_entries
both_are_established = refl

-- whole logs that hold one id are the same up to it
whole_logs_match : map (λ (n : NodeView). whole n.store) (world_after trio elections).nodes
    ≡ (first_entry three ∷ blank 1 1 1 ∷ []) ∷ (first_entry three ∷ blank 1 1 1 ∷ blank 2 2 2 ∷ []) ∷ [] ∷ []
unfolding with_event happens finish played worked place_of initialize elect do_append_entries update_vote update_internal_server_state become_following become_leader begin_lead lead_anew update_role handle_vote_resp take_grant lead_by_votes rebuild_replication_streams initiate_replication leader_append_entries proposed update_local_progress try_commit_quorum_accepted commit_by snapshot_where_due trigger_snapshot handle_vote_req vote_req_answer handle_append_entries handle_commit_entries append_answer follow requests.append_entries following.append_entries following.ensure_log_consecutive following.truncate_logs following.commit_entries
whole_logs_match = refl
