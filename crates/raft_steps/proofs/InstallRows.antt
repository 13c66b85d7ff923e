-- Computed examples of a leader's snapshot.
use Rattle.std.specs.Prelude.{◌≡◌, ℕ, [], ◌∷◌, None, Some, refl}
use Rattle.std.specs.Ordering.{nat_cmp}
use Rattle.raft_state.specs.declared.state.RaftState.{RaftState}
use Rattle.raft_command.specs.declared.command.Command.TheVariants as command
use Rattle.raft_command.specs.declared.message.Token.{Token}
use Rattle.raft_steps.specs.FollowingHandler.{truncate_logs}
use Rattle.raft_steps.specs.InstallRefusals.{refusals_of_install}
use Rattle.raft_steps.specs.InstallLaws.{installing, reply_waiting}
use Rattle.raft_steps.specs.Installs.{handle_install_full_snapshot, install_full_snapshot, install_upto, truncate_contradicted}
use Rattle.raft_steps.specs.LogHandler.{purge_log}
use Rattle.raft_steps.specs.ServerStateHandler.{update_role}
use Rattle.raft_steps.specs.VoteHandler.{become_following, become_leader, begin_lead, lead_anew, update_internal_server_state, update_vote}
use Rattle.raft_steps.proofs.Example.{PlainMachine, plain, lid, committed, settings, state, core, machine, snapshot}

token : Token
token = record { 0 = 4 }

-- a log that contradicts a snapshot of the leader (4,2) at its last index, and before it
contradicted : RaftState ℕ (Unit {0})
contradicted = record (state (committed 4 2) (lid 0 0 0 ∷ lid 1 1 1 ∷ lid 1 1 2 ∷ lid 3 3 3 ∷ lid 3 3 4 ∷ [])) { committed = Some (lid 1 1 1) }

installed : PlainMachine
unfolding contradicted token
installed = handle_install_full_snapshot nat_cmp plain (settings 5) (committed 4 2) (snapshot (lid 4 2 3)) token 8 (machine contradicted)

it_is_not_refused : refusals_of_install nat_cmp (settings 5) (committed 4 2) (snapshot (lid 4 2 3)).meta (machine contradicted) ≡ None
unfolding contradicted
it_is_not_refused = refl

a_log_is_deleted_from_the_snapshots_last_index : installed.core.output.items ≡ command.DeleteConflictLog (lid 3 3 3) ∷ installing (snapshot (lid 4 2 3)) 1 ∷ command.PurgeLog (lid 4 2 3) ∷ reply_waiting (committed 4 2) (record { 0 = 4 }) 1 ∷ []
unfolding installed contradicted token handle_install_full_snapshot install_full_snapshot install_upto truncate_logs purge_log update_vote update_internal_server_state become_following become_leader lead_anew begin_lead update_role
a_log_is_deleted_from_the_snapshots_last_index = refl

what_stands_below_it_is_not_deleted : (truncate_contradicted nat_cmp (settings 5) (lid 4 2 3) (core contradicted)).state.ids ≡ lid 0 0 0 ∷ lid 1 1 1 ∷ lid 1 1 2 ∷ []
unfolding contradicted truncate_logs update_role
what_stands_below_it_is_not_deleted = refl

the_snapshot_then_takes_its_place : installed.core.state.ids ≡ lid 4 2 3 ∷ []
unfolding installed contradicted token handle_install_full_snapshot install_full_snapshot install_upto truncate_logs purge_log update_vote update_internal_server_state become_following become_leader lead_anew begin_lead update_role
the_snapshot_then_takes_its_place = refl
