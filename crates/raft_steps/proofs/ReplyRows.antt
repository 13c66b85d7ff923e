-- Computed examples of replies, purges and snapshots.
use Rattle.std.specs.Prelude.{◌≡◌, ℕ, ◌-◌, true, List, [], ◌∷◌, Option, None, Some, Result, Ok, map, refl}
use Rattle.std.specs.Ordering.{nat_cmp}
use Rattle.raft_state.specs.declared.ids.LogId.{LogId}
use Rattle.raft_state.specs.State.{empty}
use Rattle.raft_progress_entry.specs.raft_error.declared.error.EngineError.TheVariants.{ForeignInflight, OutsideInflight, UnknownTarget, CounterEnd}
use Rattle.raft_progress_entry.specs.declared.entry.ProgressEntry.{ProgressEntry}
use Rattle.raft_progress_entry.specs.declared.entry.Inflight.TheVariants as inflight
use Rattle.raft_progress_entry.specs.Entry as entry
use Rattle.raft_command.specs.declared.command.Command.TheVariants as command
use Rattle.raft_command.specs.declared.message.Token.{Token}
use Rattle.raft_command.specs.declared.sm.CommandPayload.TheVariants.{BuildSnapshot}
use Rattle.raft_command.specs.declared.replication.RequestId.TheVariants as request
use Rattle.raft_command.specs.declared.replication.ReplicationResult.{ReplicationResult}
use Rattle.raft_steps.specs.Refusals.{refusals_of_counter}
use Rattle.raft_proposer.specs.Leader.{leader_of}
use Rattle.raft_steps.specs.LogHandler.{calc_purge_upto, purge_log, try_purge_log}
use Rattle.raft_steps.specs.Replies.{update_leader_clock, update_matching, update_success_progress, purge_unless_inflight, send_next, update_progress}
use Rattle.raft_steps.specs.ReplicationHandler.{try_commit_quorum_accepted}
use Rattle.raft_steps.specs.ReplyRefusals.{refusals_of_progress}
use Rattle.raft_steps.specs.SnapshotCalls.{handle_begin_receiving_snapshot}
use Rattle.raft_steps.specs.SnapshotHandler.{trigger_snapshot}
use Rattle.raft_steps.proofs.Example.{PlainCore, PlainLed, PlainMachine, lid, pending, committed, settings, state, core, machine, quiet, snapshot_meta, u64_end}

-- a range is in flight to node 2
ids : List (LogId ℕ)
ids = lid 0 0 0 ∷ map (lid 1 1) (1 ∷ 2 ∷ 3 ∷ 4 ∷ 5 ∷ 6 ∷ 7 ∷ 8 ∷ 9 ∷ [])

busy : ProgressEntry ℕ
busy = record {
  matching = Some (lid 1 1 4);
  searching_end = 10;
  inflight = inflight.Logs 3 (record { prev = Some (lid 1 1 4); last = Some (lid 1 1 9) });
  last_inflight_id = 3;
}

led : PlainLed
unfolding ids busy
led = record {
  leader = record (leader_of nat_cmp (committed 1 1) ((1 ∷ 2 ∷ 3 ∷ []) ∷ []) (1 ∷ 2 ∷ 3 ∷ []) [] ids) {
    progress = record {
      set = (1 ∷ 2 ∷ 3 ∷ []) ∷ [];
      rows = (1, entry.empty 10) ∷ (2, busy) ∷ (3, entry.empty 10) ∷ [];
      voters = 3;
      default = None;
    };
  };
  core = core (state (committed 1 1) ids);
}

matching : LogId ℕ → Result (ReplicationResult ℕ) ℕ
matching x = Ok (record { sending_time = 1; result = Ok (Some x) })

a_foreign_number_is_refused : refusals_of_progress nat_cmp (settings 1) 2 (request.AppendEntries 2) (matching (lid 1 1 6)) led ≡ Some ForeignInflight
unfolding led matching busy ids
a_foreign_number_is_refused = refl

an_id_outside_the_range_is_refused : refusals_of_progress nat_cmp (settings 1) 2 (request.AppendEntries 3) (matching (lid 1 1 3)) led ≡ Some OutsideInflight
unfolding led matching busy ids
an_id_outside_the_range_is_refused = refl

this_node_is_no_target : refusals_of_progress nat_cmp (settings 2) 2 (request.AppendEntries 3) (matching (lid 1 1 6)) led ≡ Some UnknownTarget
unfolding led matching busy ids
this_node_is_no_target = refl

an_id_inside_the_range_is_taken : refusals_of_progress nat_cmp (settings 1) 2 (request.AppendEntries 3) (matching (lid 1 1 6)) led ≡ None
unfolding led matching busy ids
an_id_inside_the_range_is_taken = refl

the_rest_stays_on_its_way_under_its_number :
    (update_progress nat_cmp (settings 1) 2 (request.AppendEntries 3) (matching (lid 1 1 6)) led).leader.progress.rows
    ≡ (1, entry.empty 10) ∷ (2, record busy { matching = Some (lid 1 1 6); inflight = inflight.Logs 3 (record { prev = Some (lid 1 1 6); last = Some (lid 1 1 9) }) }) ∷ (3, entry.empty 10) ∷ []
unfolding led matching busy ids update_progress update_success_progress update_leader_clock update_matching try_commit_quorum_accepted purge_unless_inflight try_purge_log purge_log send_next
the_rest_stays_on_its_way_under_its_number = refl

-- how far a log is purged by the settings
long : List (LogId ℕ)
long = lid 0 0 0 ∷ lid 1 0 1 ∷ lid 1 0 2 ∷ lid 3 0 3 ∷ lid 3 0 4 ∷ lid 5 0 5 ∷ []

purged_upto : ℕ → ℕ → Option (LogId ℕ) → Option (LogId ℕ) → Option (LogId ℕ)
purged_upto batch keep snap purged =
    calc_purge_upto (record (settings 1) { purge_batch_size = batch; max_in_snapshot_log_to_keep = keep })
    (record (state (pending 5 0) long) { purged = purged; snap = snapshot_meta snap })

two_are_kept : purged_upto 1 2 (Some (lid 3 0 4)) None ≡ Some (lid 1 0 2)
unfolding purged_upto long
two_are_kept = refl

no_whole_batch_is_left : purged_upto 1 2 (Some (lid 3 0 4)) (Some (lid 1 0 2)) ≡ None
unfolding purged_upto long
no_whole_batch_is_left = refl

one_goes_and_one_is_kept : purged_upto 1 1 (Some (lid 1 0 1)) None ≡ Some (lid 0 0 0)
unfolding purged_upto long
one_goes_and_one_is_kept = refl

without_a_snapshot_nothing_goes : purged_upto 0 1000 None None ≡ None
unfolding purged_upto long
without_a_snapshot_nothing_goes = refl

all_may_be_kept : purged_upto 1 u64_end (Some (lid 3 0 4)) None ≡ None
unfolding purged_upto long
all_may_be_kept = refl

a_batch_may_be_of_the_greatest_number : purged_upto u64_end 0 (Some (lid 3 0 9)) None ≡ None
unfolding purged_upto long
a_batch_may_be_of_the_greatest_number = refl

-- a snapshot is built once
a_snapshot_is_built : (trigger_snapshot (core (empty 0))).output.items ≡ command.StateMachine (record { seq = 1; payload = BuildSnapshot }) ∷ []
unfolding trigger_snapshot
a_snapshot_is_built = refl

while_one_is_built_no_other_is : (c : PlainCore) → c.state.building ≡ true → trigger_snapshot c ≡ c
unfolding trigger_snapshot
while_one_is_built_no_other_is c h = rw h refl

-- numbers at their ends
token : Token
token = record { 0 = 9 }

numbered_to : ℕ → PlainMachine
numbered_to n = record (machine (empty 0)) { core = record { state = empty 0; output = record quiet { seq = n } } }

eight_numbers_are_left : refusals_of_counter (numbered_to (u64_end - 8)) ≡ None
unfolding numbered_to
eight_numbers_are_left = refl

the_next_number_is_drawn : (handle_begin_receiving_snapshot token (numbered_to (u64_end - 8))).core.output.seq ≡ u64_end - 7
unfolding numbered_to token handle_begin_receiving_snapshot
the_next_number_is_drawn = refl

seven_numbers_are_too_few : refusals_of_counter (numbered_to (u64_end - 7)) ≡ Some CounterEnd
unfolding numbered_to
seven_numbers_are_too_few = refl
