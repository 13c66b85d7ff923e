-- Computed examples of one voter's first path: it initialises, is elected, and commits its no-op entry.
use Rattle.std.specs.Prelude.{◌≡◌, ℕ, true, List, [], ◌∷◌, ◌++◌, None, Some, refl}
use Rattle.std.specs.Ordering.{nat_cmp}
use Rattle.raft_state.specs.declared.membership.Members.{Members}
use Rattle.raft_state.specs.State.{empty}
use Rattle.raft_command.specs.declared.command.Command.TheVariants.{AppendInputEntries, SaveVote, SendVote, RebuildReplicationStreams, BecomeLeader, ReplicateCommitted, Commit}
use Rattle.raft_steps.specs.declared.plain.Entry.{Entry}
use Rattle.raft_steps.specs.declared.plain.Payload.TheVariants.{Membership}
use Rattle.raft_steps.specs.Parts.{on_leader}
use Rattle.raft_steps.specs.ServerStateHandler.{update_role}
use Rattle.raft_steps.specs.Commit.{commit_by}
use Rattle.raft_steps.specs.SnapshotHandler.{snapshot_where_due, trigger_snapshot}
use Rattle.raft_steps.specs.FollowingHandler.{do_append_entries}
use Rattle.raft_steps.specs.ReplicationHandler.{rebuild_replication_streams, initiate_replication, update_local_progress, try_commit_quorum_accepted}
use Rattle.raft_steps.specs.LeaderHandler.{leader_append_entries, proposed}
use Rattle.raft_steps.specs.VoteHandler.{become_following, begin_lead, lead_anew, become_leader, update_internal_server_state, update_vote}
use Rattle.raft_steps.specs.Engine.{initialize, elect, lead_by_votes, take_grant, handle_vote_resp}
use Rattle.raft_steps.proofs.Example.{PlainMachine, PlainCommand, plain, lid, pending, committed, settings, machine, nodes_of, blank}

alone : Members ℕ (Unit {0})
alone = record { groups = (1 ∷ []) ∷ []; nodes = nodes_of (1 ∷ []) }

first : Entry
unfolding alone
first = record { log_id = lid 7 7 7; payload = Membership alone }

initialized : PlainMachine
initialized = initialize nat_cmp plain (settings 1) 0 first 3 (machine (empty 0))

elected : PlainMachine
elected = handle_vote_resp nat_cmp plain (settings 1) 1 (record { vote = pending 1 1; vote_granted = true; last_log_id = None }) 3 initialized

committed_blank : PlainMachine
committed_blank = on_leader (update_local_progress nat_cmp (settings 1) (Some (lid 1 1 1))) elected

first_commands : List PlainCommand
unfolding first
first_commands =
    AppendInputEntries (pending 0 0) (record first { log_id = lid 0 0 0 } ∷ []) ∷ SaveVote (pending 1 1)
    ∷ SendVote (record { vote = pending 1 1; last_log_id = Some (lid 0 0 0) }) ∷ []

more_commands : List PlainCommand
more_commands =
    RebuildReplicationStreams [] ∷ SaveVote (committed 1 1) ∷ BecomeLeader ∷ AppendInputEntries (committed 1 1) (blank (lid 1 1 1) ∷ [])
    ∷ ReplicateCommitted (Some (lid 1 1 1)) ∷ Commit 1 None (lid 1 1 1) ∷ []

initializing_queues : initialized.core.output.items ≡ first_commands
unfolding initialized first_commands first alone initialize do_append_entries elect update_vote update_internal_server_state become_following become_leader begin_lead lead_anew update_role
initializing_queues = refl

one_voter_commits_its_blank_entry : committed_blank.core.output.items ≡ first_commands ++ more_commands
unfolding committed_blank elected initialized first_commands more_commands first alone initialize do_append_entries elect handle_vote_resp take_grant lead_by_votes rebuild_replication_streams initiate_replication leader_append_entries proposed update_local_progress try_commit_quorum_accepted commit_by snapshot_where_due trigger_snapshot update_vote update_internal_server_state become_following become_leader begin_lead lead_anew update_role
one_voter_commits_its_blank_entry = refl
