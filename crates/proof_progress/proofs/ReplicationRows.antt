-- Computed: a leader of three has its log in flight to a node; with that node's answer its no-op entry is committed.
use Rattle.std.specs.Prelude.{ℕ, ◌≡◌, false, [], ◌∷◌, None, Some, Ok, refl}
use Rattle.std.proofs.Common.{arith}
use Rattle.std.specs.Ordering.{nat_cmp}
use Rattle.proof_deeds.specs.raft_proposer.Leader.{leader_of}
use Rattle.proof_deeds.specs.raft_progress_entry.declared.entry.Inflight.TheVariants as inflight
use Rattle.proof_deeds.specs.raft_command.declared.replication.RequestId.TheVariants as request
use Rattle.proof_deeds.specs.raft_steps.declared.plain.Entry.{Entry}
use Rattle.proof_deeds.specs.raft_steps.Commit.{commit_by}
use Rattle.proof_deeds.specs.raft_steps.Invariants.{IsSoundLed}
use Rattle.proof_deeds.specs.raft_steps.LogHandler.{purge_log, try_purge_log}
use Rattle.proof_deeds.specs.raft_steps.Replies.{purge_unless_inflight, send_next, update_leader_clock, update_matching, update_progress, update_success_progress}
use Rattle.proof_deeds.specs.raft_steps.ReplicationHandler.{initiate_replication, try_commit_quorum_accepted, update_local_progress}
use Rattle.proof_deeds.specs.raft_steps.SnapshotHandler.{snapshot_where_due, trigger_snapshot}
use Rattle.proof_deeds.proofs.raft_steps_proofs.Example.{PlainLed, committed, core, lid, settings, state}
use Rattle.proof_progress.specs.Replication.{IsAsked, IsMatched, Replicates, Rounds, answered}

abbrev begun : PlainLed
begun = record {
  leader = leader_of nat_cmp (committed 1 1) ((1 ∷ 2 ∷ 3 ∷ []) ∷ []) (1 ∷ 2 ∷ 3 ∷ []) [] (lid 1 1 1 ∷ []);
  core = core (state (committed 1 1) (lid 0 0 0 ∷ lid 1 1 1 ∷ []));
}

-- its own log is acknowledged, and the others are sent theirs
abbrev old : PlainLed
old = initiate_replication nat_cmp (settings 1) false (update_local_progress nat_cmp (settings 1) (Some (lid 1 1 1)) begun)

abbrev new : PlainLed
new = answered nat_cmp (settings 1) 2 (request.AppendEntries 1) 5 (Ok (Some (lid 1 1 1))) old

uncommitted : old.core.state.committed ≡ None
unfolding initiate_replication update_local_progress try_commit_quorum_accepted commit_by snapshot_where_due trigger_snapshot
uncommitted = refl

sound : IsSoundLed nat_cmp (settings 1) old
unfolding initiate_replication update_local_progress try_commit_quorum_accepted commit_by snapshot_where_due trigger_snapshot
sound = record {
  sound = record {
    log = record { by_vote = (refl, (refl, tt)); rising = (refl, (refl, tt)); run = (refl, (refl, tt)); below_end = (omega arith, (omega arith, tt)); first = tt };
    marks = record { at_purged = refl; at_target = refl; at_snapshot = refl; at_committed = refl; target_fits = refl; snapshot_fits = refl; committed_fits = refl };
    accepted = tt;
  };
  leader_fits = record {
    committed = refl;
    own = refl;
    noop = refl;
    last_id = refl;
    progress = record { set = refl; ids = refl; voters = refl };
    ungranted = refl;
    clock = record { set = refl; ids = refl; voters = refl };
    entries = (record { matching = refl; above = omega arith; below = omega arith; ahead = refl }, (record { matching = refl; above = omega arith; below = omega arith; ahead = refl }, (record { matching = refl; above = omega arith; below = omega arith; ahead = refl }, tt)));
  };
}

asked : IsAsked nat_cmp 2 old
unfolding initiate_replication update_local_progress try_commit_quorum_accepted commit_by snapshot_where_due trigger_snapshot
asked = record { entry = record { matching = None; searching_end = 2; inflight = inflight.Logs 1 (record { prev = None; last = Some (lid 1 1 1) }); last_inflight_id = 1 }; has = refl; busy = λ q. cc }

replicates : Replicates (Unit {0}) (Unit {0}) Entry ℕ ℕ ℕ nat_cmp (settings 1) 2 old
unfolding asked initiate_replication update_local_progress try_commit_quorum_accepted commit_by snapshot_where_due trigger_snapshot
replicates = record { payload = omega arith; sound = sound; unpurged = omega arith; asked = asked; behind = λ e. cc }

one_round : Rounds nat_cmp (settings 1) 2 1 old new
unfolding asked initiate_replication update_local_progress try_commit_quorum_accepted commit_by snapshot_where_due trigger_snapshot
one_round = (new, record { asked = asked; time = 5; result = Ok (Some (lid 1 1 1)); answers = refl; unrefused = refl; leader = refl; state = refl }, refl)

matched : IsMatched nat_cmp 2 new
unfolding initiate_replication update_local_progress try_commit_quorum_accepted commit_by snapshot_where_due trigger_snapshot update_progress update_success_progress update_leader_clock update_matching purge_unless_inflight try_purge_log purge_log send_next
matched = record { entry = record { matching = Some (lid 1 1 1); searching_end = 2; inflight = _; last_inflight_id = 1 }; has = refl; free = refl; matching = refl }

its_no_op_is_committed : new.core.state.committed ≡ Some (lid 1 1 1)
unfolding initiate_replication update_local_progress try_commit_quorum_accepted commit_by snapshot_where_due trigger_snapshot update_progress update_success_progress update_leader_clock update_matching purge_unless_inflight try_purge_log purge_log send_next
its_no_op_is_committed = refl
