-- Computed examples of memberships and reads: a leader of one voter has node 2 learn, and answers a read.
use Rattle.std.specs.Prelude.{◌≡◌, ℕ, List, [], ◌∷◌, None, Some, map, refl}
use Rattle.raft_state.specs.declared.membership.Members.{Members}
use Rattle.raft_steps.specs.Commit.{commit_by}
use Rattle.raft_steps.specs.Engine.{elect, handle_vote_resp, initialize, lead_by_votes, take_grant}
use Rattle.raft_steps.specs.FollowingHandler.{do_append_entries}
use Rattle.raft_steps.specs.LeaderHandler.{leader_append_entries, proposed}
use Rattle.raft_steps.specs.ReplicationHandler.{append_membership_led, initiate_replication, rebuild_progresses, rebuild_replication_streams, try_commit_quorum_accepted, update_local_progress}
use Rattle.raft_steps.specs.ServerStateHandler.{update_role}
use Rattle.raft_steps.specs.SnapshotHandler.{snapshot_where_due, trigger_snapshot}
use Rattle.raft_steps.specs.VoteHandler.{become_following, become_leader, begin_lead, lead_anew, update_internal_server_state, update_vote}
use Rattle.raft_steps.proofs.Example.{lid, nodes_of, settings}
use Rattle.raft_schedule.specs.declared.event.Event.{Event}
use Rattle.raft_schedule.specs.declared.event.EventKind.{EventKind}
use Rattle.raft_schedule.specs.declared.event.EventKind.TheVariants.{Change, Down, Init, Member, Read}
use Rattle.raft_schedule.specs.declared.event.Outcome.{Outcome}
use Rattle.raft_schedule.specs.declared.event.Outcome.TheVariants.{Refused, Skipped}
use Rattle.raft_schedule.specs.declared.event.SkipReason.TheVariants.{BadGroups, BadLearners, NoSharedGroup, NotLeader}
use Rattle.raft_node.specs.declared.given.Given.{Given}
use Rattle.raft_node.specs.Events.{finish, happens, place_of, played}
use Rattle.raft_calls.specs.Memberships.{members_with, skip_members}
use Rattle.raft_node.specs.Runs.{with_event, world_after, run, start, whole_logs}
use Rattle.raft_node.specs.Work.{worked}

abbrev alone : Members ℕ (Unit {0})
alone = record { groups = (1 ∷ []) ∷ []; nodes = nodes_of (1 ∷ []) }

abbrev given : Given
given = record { ids = 1 ∷ 2 ∷ []; membership = alone; settings = settings 1 }

abbrev event : EventKind → Event
event kind = record { kind = kind; at = None; stop = None }

abbrev outcomes : List EventKind → List Outcome
outcomes kinds = map (λ p. p.outcome) (run whole_logs given (map event kinds) (start given)).past

-- the read waits for the membership, which the leader alone commits
the_answer_of_a_read : (world_after given (event (Init 1) ∷ event (Member 1 (2 ∷ [])) ∷ event (Read 1) ∷ [])).records.answers
    ≡ record { node = 1; leader_id = record { term = 1; node_id = 1 }; log_id = Some (lid 1 1 2) } ∷ []
unfolding with_event happens place_of played finish worked initialize do_append_entries elect update_vote update_internal_server_state become_following become_leader lead_anew begin_lead update_role handle_vote_resp take_grant lead_by_votes leader_append_entries proposed append_membership_led rebuild_progresses rebuild_replication_streams initiate_replication try_commit_quorum_accepted update_local_progress commit_by snapshot_where_due trigger_snapshot
the_answer_of_a_read = refl

-- without a leader it is refused, and so is a change; a step down is skipped
without_a_leader : outcomes (Read 2 ∷ Member 2 [] ∷ Change 2 ((2 ∷ []) ∷ []) [] ∷ Down 2 ∷ []) ≡ Refused 17 ∷ Refused 17 ∷ Refused 17 ∷ Skipped NotLeader ∷ []
unfolding with_event happens place_of played finish worked
without_a_leader = refl

abbrev three : Members ℕ (Unit {0})
three = members_with ((1 ∷ 2 ∷ 3 ∷ []) ∷ []) []

-- a group is shared whatever its order, and however often it has an id
the_same_group : skip_members three ((3 ∷ 1 ∷ 2 ∷ 3 ∷ []) ∷ (2 ∷ 3 ∷ 4 ∷ []) ∷ []) (5 ∷ 5 ∷ []) ≡ None
the_same_group = refl

another_group : skip_members three ((1 ∷ 2 ∷ []) ∷ []) [] ≡ Some NoSharedGroup
another_group = refl

five_groups : skip_members three ((1 ∷ 2 ∷ 3 ∷ []) ∷ (1 ∷ []) ∷ (2 ∷ []) ∷ (3 ∷ []) ∷ (4 ∷ []) ∷ []) [] ≡ Some BadGroups
five_groups = refl

a_learner_who_votes : skip_members three ((1 ∷ 2 ∷ 3 ∷ []) ∷ []) (4 ∷ 2 ∷ []) ≡ Some BadLearners
a_learner_who_votes = refl
