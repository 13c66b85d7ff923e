-- Worked worlds, computed: among three voters, one that can be elected, a choice, and one that leads by its stored vote; and a
-- choice of two groups.
use Rattle.std.proofs.Common.{inl, inr, false, List, [], ◌∷◌, arith, refl, subst}
use Rattle.std.specs.Prelude.{map, ℕ, ◌≡◌}
use Rattle.std.specs.List.{AllByRecursion}
use Rattle.proof_deeds.specs.raft_state.Order.{next}
use Rattle.proof_deeds.specs.raft_steps.Commit.{commit_by}
use Rattle.proof_deeds.specs.raft_steps.Engine.{elect, handle_vote_resp, initialize, lead_by_votes, take_grant}
use Rattle.proof_deeds.specs.raft_steps.FollowingHandler.{do_append_entries}
use Rattle.proof_deeds.specs.raft_steps.LeaderHandler.{leader_append_entries, proposed}
use Rattle.proof_deeds.specs.raft_steps.ReplicationHandler.{append_membership_led, initiate_replication, rebuild_progresses, rebuild_replication_streams, try_commit_quorum_accepted, update_local_progress}
use Rattle.proof_deeds.specs.raft_steps.FollowingHandler as following
use Rattle.proof_deeds.specs.raft_steps.FollowingHandler.{append_entries}
use Rattle.proof_deeds.specs.raft_steps.Requests as requests
use Rattle.proof_deeds.specs.raft_steps.Requests.{append_answer, follow, handle_append_entries, handle_commit_entries, handle_vote_req, vote_req_answer}
use Rattle.proof_deeds.specs.raft_steps.ServerStateHandler.{update_role}
use Rattle.proof_deeds.specs.raft_steps.SnapshotHandler.{snapshot_where_due, trigger_snapshot}
use Rattle.proof_deeds.specs.raft_steps.Starts.{startup}
use Rattle.proof_deeds.specs.raft_steps.VoteHandler.{become_following, become_leader, begin_lead, lead_anew, update_internal_server_state, update_vote}
use Rattle.proof_deeds.proofs.raft_steps_proofs.Example.{settings}
use Rattle.proof_deeds.specs.raft_schedule.declared.event.Event.{Event}
use Rattle.proof_deeds.specs.raft_schedule.declared.event.EventKind.TheVariants.{Change, Deliver, Init, Timeout}
use Rattle.proof_deeds.specs.raft_node.declared.given.Given.{Given}
use Rattle.proof_deeds.specs.raft_node.Events.{finish, happens, place_of, played}
use Rattle.proof_deeds.specs.raft_node.Net.{NodeView}
use Rattle.proof_deeds.specs.raft_node.Runs.{with_event, world_after}
use Rattle.proof_deeds.specs.raft_node.WellFormed.{IsWellFormed}
use Rattle.proof_deeds.specs.raft_node.Work.{worked}
use Rattle.std.proofs.lemmas.List.Elements.{All-from_recursion}
use Rattle.std.specs.Prelude.{◌<◌, ◌^◌}
use Rattle.proof_deeds.proofs.RunRows.{alone, event, leader, trio}
use Rattle.proof_progress.specs.Choices.{HasRoom, IsChoice, IsElected, IsUndisputed, MayHear, VotesUpTo}
use Rattle.proof_progress.specs.Continuations.{At, LeadsIn, goes_on}
use Rattle.proof_progress.specs.Elections.{CanBeElected}
use Rattle.proof_progress.specs.GoesOn.{CanGoOn, CanGoOnAlone, found}
use Rattle.proof_progress.specs.Majorities.{CanGoOnAmong}
use Rattle.proof_progress.proofs.Heard.{worlds_elect}
use Rattle.proof_progress.proofs.Electable.{electable_lead}

-- Node 1 of three voters has the first entry, and asks for votes in term 1

abbrev begun : List Event
begun = event (Init 1) ∷ []

may_be_elected : CanBeElected (world_after trio begun) 0 1
unfolding with_event happens finish played worked place_of initialize elect do_append_entries update_vote update_internal_server_state become_following become_leader begin_lead lead_anew update_role handle_vote_resp take_grant lead_by_votes rebuild_replication_streams initiate_replication leader_append_entries proposed append_membership_led rebuild_progresses update_local_progress try_commit_quorum_accepted commit_by snapshot_where_due trigger_snapshot handle_vote_req vote_req_answer startup
may_be_elected = record {
  engine = _;
  runs = record { node = _; at = inl (refl, refl); moment = omega arith; runs = refl; own = refl };
  may = record { idle = record { rest = refl; unspent = refl }; unled = refl; role = λ z. cc; voter = inl refl; term = refl; index = refl };
  voters = 2 ∷ [];
  apart = ((λ z. omega (arith, z)), tt, tt);
  would = (
    record {
      voter = inr (inl refl);
      engine = _;
      runs = record { node = _; at = inr ((λ z. omega (arith, z)), inl (refl, refl)); moment = omega arith; runs = refl; own = refl };
      may = record { idle = record { rest = refl; unspent = refl }; greater = refl; unleased = refl; ahead = refl };
    },
    tt,
  );
  quorum = refl;
}

-- so it is elected in term 2
it_is_elected : (es : List Event) × LeadsIn (goes_on trio es (world_after trio begun)) (leader 2 1) 1
unfolding with_event happens finish played worked place_of initialize elect do_append_entries update_vote update_internal_server_state become_following become_leader begin_lead lead_anew update_role handle_vote_resp take_grant lead_by_votes rebuild_replication_streams initiate_replication leader_append_entries proposed append_membership_led rebuild_progresses update_local_progress try_commit_quorum_accepted commit_by snapshot_where_due trigger_snapshot handle_vote_req vote_req_answer startup may_be_elected
it_is_elected = electable_lead trio (world_after trio begun) 0 1 may_be_elected

-- with node 3 it is a choice, too
is_choice : IsChoice trio false (world_after trio begun) 1
unfolding with_event happens finish played worked place_of initialize elect do_append_entries update_vote update_internal_server_state become_following become_leader begin_lead lead_anew update_role handle_vote_resp take_grant lead_by_votes rebuild_replication_streams initiate_replication leader_append_entries proposed append_membership_led rebuild_progresses update_local_progress try_commit_quorum_accepted commit_by snapshot_where_due trigger_snapshot handle_vote_req vote_req_answer startup
is_choice = record {
  node = _;
  at = inl (refl, refl);
  voter = inl refl;
  voters = 3 ∷ [];
  apart = ((λ z. omega (arith, z)), tt, tt);
  follow = (record { voter = inr (inr (inl refl)); node = _; at = inr ((λ z. omega (arith, z)), inr ((λ z. omega (arith, z)), inl (refl, refl))); ahead = refl }, tt);
  quorum = refl;
}

undisputed : IsUndisputed trio false (world_after trio begun) is_choice
unfolding with_event happens finish played worked place_of initialize elect do_append_entries update_vote update_internal_server_state become_following become_leader begin_lead lead_anew update_role handle_vote_resp take_grant lead_by_votes rebuild_replication_streams initiate_replication leader_append_entries proposed append_membership_led rebuild_progresses update_local_progress try_commit_quorum_accepted commit_by snapshot_where_due trigger_snapshot handle_vote_req vote_req_answer startup is_choice
undisputed = inl refl

-- Node 1 is elected by node 2, and leads by its stored vote

abbrev pub led : List Event
led = map event (Init 1 ∷ Deliver 1 ∷ Deliver 3 ∷ [])

is_leader_by_store : IsChoice trio false (world_after trio led) 1
unfolding with_event happens finish played worked place_of initialize elect do_append_entries update_vote update_internal_server_state become_following become_leader begin_lead lead_anew update_role handle_vote_resp take_grant lead_by_votes rebuild_replication_streams initiate_replication leader_append_entries proposed append_membership_led rebuild_progresses update_local_progress try_commit_quorum_accepted commit_by snapshot_where_due trigger_snapshot handle_vote_req vote_req_answer startup
is_leader_by_store = record {
  node = _;
  at = inl (refl, refl);
  voter = inl refl;
  voters = 2 ∷ [];
  apart = ((λ z. omega (arith, z)), tt, tt);
  follow = (record { voter = inr (inl refl); node = _; at = inr ((λ z. omega (arith, z)), inl (refl, refl)); ahead = refl }, tt);
  quorum = refl;
}

-- no later vote is stored
latest_by_store : IsUndisputed trio false (world_after trio led) is_leader_by_store
unfolding with_event happens finish played worked place_of initialize elect do_append_entries update_vote update_internal_server_state become_following become_leader begin_lead lead_anew update_role handle_vote_resp take_grant lead_by_votes rebuild_replication_streams initiate_replication leader_append_entries proposed append_membership_led rebuild_progresses update_local_progress try_commit_quorum_accepted commit_by snapshot_where_due trigger_snapshot handle_vote_req vote_req_answer startup is_leader_by_store
latest_by_store = inr ((λ N at. go N at), tt)
  where
    go : (N : NodeView) → At (world_after trio led).nodes 2 N → VotesUpTo (leader 1 1) N
    go N (inl p) = absurd (omega (arith, p.0))
    go N (inr (d, inl p)) = subst (VotesUpTo (leader 1 1)) p.1 refl
    go N (inr (d, inr (e, inl p))) = absurd (omega (arith, p.0))
    go N (inr (d, inr (e, inr (f, p)))) = absurd p

-- there is room for a term and an index
rooms : AllByRecursion (HasRoom false) (world_after trio led).nodes
unfolding with_event happens finish played worked place_of initialize elect do_append_entries update_vote update_internal_server_state become_following become_leader begin_lead lead_anew update_role handle_vote_resp take_grant lead_by_votes rebuild_replication_streams initiate_replication leader_append_entries proposed append_membership_led rebuild_progresses update_local_progress try_commit_quorum_accepted commit_by snapshot_where_due trigger_snapshot handle_vote_req vote_req_answer startup
rooms = (record { term = omega arith; index = omega arith }, (record { term = omega arith; index = omega arith }, (record { term = omega arith; index = omega arith }, tt)))

pub well_formed : IsWellFormed trio
well_formed = record {
  named = All-from_recursion (λ id. id < 2 ^ 64) (1 ∷ 2 ∷ 3 ∷ []) (omega arith, (omega arith, (omega arith, tt)));
  once = refl;
  voters = refl;
}

-- so it leads again
it_leads_again : IsElected trio led ((1 ∷ 2 ∷ 3 ∷ []) ∷ []) 1
unfolding with_event happens finish played worked place_of initialize elect do_append_entries update_vote update_internal_server_state become_following become_leader begin_lead lead_anew update_role handle_vote_resp take_grant lead_by_votes rebuild_replication_streams initiate_replication leader_append_entries proposed append_membership_led rebuild_progresses update_local_progress try_commit_quorum_accepted commit_by snapshot_where_due trigger_snapshot handle_vote_req vote_req_answer startup is_leader_by_store
it_leads_again = worlds_elect trio well_formed led false 1 is_leader_by_store (inl latest_by_store) rooms

-- Node 2 has the leader's entries, and stands in term 2

abbrev stood : List Event
stood = map event (Init 1 ∷ Deliver 1 ∷ Deliver 3 ∷ Deliver 4 ∷ Timeout 2 ∷ [])

is_deposed : IsChoice trio false (world_after trio stood) 1
unfolding with_event happens finish played worked place_of initialize elect do_append_entries update_vote update_internal_server_state become_following become_leader begin_lead lead_anew update_role handle_vote_resp take_grant lead_by_votes rebuild_replication_streams initiate_replication leader_append_entries proposed append_membership_led rebuild_progresses update_local_progress try_commit_quorum_accepted commit_by snapshot_where_due trigger_snapshot handle_vote_req vote_req_answer startup handle_append_entries handle_commit_entries append_answer follow requests.append_entries following.append_entries following.ensure_log_consecutive following.truncate_logs following.commit_entries
is_deposed = record {
  node = _;
  at = inl (refl, refl);
  voter = inl refl;
  voters = 2 ∷ [];
  apart = ((λ z. omega (arith, z)), tt, tt);
  follow = (record { voter = inr (inl refl); node = _; at = inr ((λ z. omega (arith, z)), inl (refl, refl)); ahead = refl }, tt);
  quorum = refl;
}

-- node 1 still leads by its stored vote, and asks node 2 first as it starts
it_hears : MayHear trio false (world_after trio stood) 1 is_deposed
unfolding with_event happens finish played worked place_of initialize elect do_append_entries update_vote update_internal_server_state become_following become_leader begin_lead lead_anew update_role handle_vote_resp take_grant lead_by_votes rebuild_replication_streams initiate_replication leader_append_entries proposed append_membership_led rebuild_progresses update_local_progress try_commit_quorum_accepted commit_by snapshot_where_due trigger_snapshot handle_vote_req vote_req_answer startup handle_append_entries handle_commit_entries append_answer follow requests.append_entries following.append_entries following.ensure_log_consecutive following.truncate_logs following.commit_entries is_deposed
it_hears = record { from = 2; one = inl refl; node = _; at = inr ((λ z. omega (arith, z)), inl (refl, refl)); later = refl; asked = inr (inr (inl refl)); room = omega arith }

-- Two groups: node 1, the only voter, has proposed that of node 2 beside its own

abbrev pair : Given
pair = record { ids = 1 ∷ 2 ∷ []; membership = alone; settings = settings 1 }

abbrev joint : List Event
joint = map event (Init 1 ∷ Change 1 ((1 ∷ []) ∷ (2 ∷ []) ∷ []) [] ∷ [])

needs_both : IsChoice pair false (world_after pair joint) 1
unfolding with_event happens finish played worked place_of initialize elect do_append_entries update_vote update_internal_server_state become_following become_leader begin_lead lead_anew update_role handle_vote_resp take_grant lead_by_votes rebuild_replication_streams initiate_replication leader_append_entries proposed append_membership_led rebuild_progresses update_local_progress try_commit_quorum_accepted commit_by snapshot_where_due trigger_snapshot handle_vote_req vote_req_answer startup
needs_both = record {
  node = _;
  at = inl (refl, refl);
  voter = inl refl;
  voters = 2 ∷ [];
  apart = ((λ z. omega (arith, z)), tt, tt);
  follow = (record { voter = inr (inl refl); node = _; at = inr ((λ z. omega (arith, z)), inl (refl, refl)); ahead = refl }, tt);
  quorum = refl;
}

-- Where node 1 still leads by its stored vote, node 2 can be elected with its vote, and commit at node 3 as well

two_goes_on : CanGoOn trio (world_after trio stood) 2 1
unfolding with_event happens finish played worked place_of initialize elect do_append_entries update_vote update_internal_server_state become_following become_leader begin_lead lead_anew update_role handle_vote_resp take_grant lead_by_votes rebuild_replication_streams initiate_replication leader_append_entries proposed append_membership_led rebuild_progresses update_local_progress try_commit_quorum_accepted commit_by snapshot_where_due trigger_snapshot handle_vote_req vote_req_answer startup handle_append_entries handle_commit_entries append_answer follow requests.append_entries following.append_entries following.ensure_log_consecutive following.truncate_logs following.commit_entries
two_goes_on = record {
  node = _;
  at = inr ((λ z. omega (arith, z)), inl (refl, refl));
  voter = 1;
  voters = [];
  others = 3 ∷ [];
  once = (((λ z. omega (arith, z)), ((λ z. omega (arith, z)), tt)), (((λ z. omega (arith, z)), tt), (tt, tt)));
  votes = inr (inl refl);
  follow = (record { voter = inl refl; node = _; at = inl (refl, refl); ahead = refl }, tt);
  quorum = refl;
  few = refl;
  serve = (
    record { member = inl refl; node = _; at = inl (refl, refl); others = inr refl; reaches = omega arith },
    (record { member = inr (inr (inl refl)); node = _; at = inr ((λ z. omega (arith, z)), inr ((λ z. omega (arith, z)), inl (refl, refl))); others = inl refl; reaches = omega arith }, tt),
  );
  payload = omega arith;
  terms = (record { terms = omega arith; index = omega arith }, (record { terms = omega arith; index = omega arith }, (record { terms = omega arith; index = omega arith }, tt)));
  indexes = omega arith;
  numbers = omega arith;
}

-- So nodes 1 and 2 go on by themselves: nothing of their logs is purged

nothing_purged : (n : ℕ) (N : NodeView) → At (world_after trio stood).nodes n N → next (found trio N).machine.core.state.purge_to ≡ 0
unfolding with_event happens finish played worked place_of initialize elect do_append_entries update_vote update_internal_server_state become_following become_leader begin_lead lead_anew update_role handle_vote_resp take_grant lead_by_votes rebuild_replication_streams initiate_replication leader_append_entries proposed append_membership_led rebuild_progresses update_local_progress try_commit_quorum_accepted commit_by snapshot_where_due trigger_snapshot handle_vote_req vote_req_answer startup handle_append_entries handle_commit_entries append_answer follow requests.append_entries following.append_entries following.ensure_log_consecutive following.truncate_logs following.commit_entries
nothing_purged n N (inl p) = subst (λ (M : NodeView). next (found trio M).machine.core.state.purge_to ≡ 0) p.1 refl
nothing_purged n N (inr (d, inl p)) = subst (λ (M : NodeView). next (found trio M).machine.core.state.purge_to ≡ 0) p.1 refl
nothing_purged n N (inr (d, inr (e, inl p))) = subst (λ (M : NodeView). next (found trio M).machine.core.state.purge_to ≡ 0) p.1 refl
nothing_purged n N (inr (d, inr (e, inr (f, p)))) = absurd p

two_go_on : CanGoOnAmong trio trio.membership.groups (world_after trio stood) (1 ∷ 2 ∷ []) 1
unfolding with_event happens finish played worked place_of initialize elect do_append_entries update_vote update_internal_server_state become_following become_leader begin_lead lead_anew update_role handle_vote_resp take_grant lead_by_votes rebuild_replication_streams initiate_replication leader_append_entries proposed append_membership_led rebuild_progresses update_local_progress try_commit_quorum_accepted commit_by snapshot_where_due trigger_snapshot handle_vote_req vote_req_answer startup handle_append_entries handle_commit_entries append_answer follow requests.append_entries following.append_entries following.ensure_log_consecutive following.truncate_logs following.commit_entries
two_go_on = record {
  once = (((λ z. omega (arith, z)), tt), (tt, tt));
  nodes = (inl refl, (inr (inl refl), tt));
  quorum = refl;
  log = record { voter = 1; one = inl refl; among = refl; node = _; at = inl (refl, refl); some = λ z. cc };
  reach = λ n t N T a b h k. let q : next (found trio N).machine.core.state.purge_to ≡ 0 = nothing_purged n N h in omega (arith, q);
  payload = omega arith;
  terms = (record { terms = omega arith; index = omega arith }, (record { terms = omega arith; index = omega arith }, (record { terms = omega arith; index = omega arith }, tt)));
  room = (record { indexes = omega arith; numbers = omega arith }, (record { indexes = omega arith; numbers = omega arith }, (record { indexes = omega arith; numbers = omega arith }, tt)));
}

-- The only voter goes on alone

abbrev lone : Given
lone = record { ids = 1 ∷ []; membership = alone; settings = settings 1 }

one_goes_on : CanGoOnAlone lone (world_after lone begun) 1 1
unfolding with_event happens finish played worked place_of initialize elect do_append_entries update_vote update_internal_server_state become_following become_leader begin_lead lead_anew update_role handle_vote_resp take_grant lead_by_votes rebuild_replication_streams initiate_replication leader_append_entries proposed append_membership_led rebuild_progresses update_local_progress try_commit_quorum_accepted commit_by snapshot_where_due trigger_snapshot handle_vote_req vote_req_answer startup
one_goes_on = record { node = _; at = inl (refl, refl); votes = inl refl; alone = refl; payload = omega arith; terms = omega arith; indexes = omega arith }
