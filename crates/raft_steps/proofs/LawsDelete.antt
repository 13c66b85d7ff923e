-- Replies and purges delete nothing from the log.
use Rattle.std.specs.Prelude.{ℕ, List, [], ◌∷◌, Option, Some, Result, min, nat_lt, refl}
use Rattle.std.proofs.Common.{ap}
use Rattle.std.specs.declared.cmp.Ordering.{Ordering}
use Rattle.std.specs.Ordering.{is_gt}
use Rattle.raft_state.specs.declared.ids.LogId.{LogId}
use Rattle.raft_state.specs.declared.membership.SnapshotMeta.{SnapshotMeta}
use Rattle.raft_state.specs.Log.{at}
use Rattle.raft_state.specs.Order.{last_id_cmp, next}
use Rattle.raft_state.specs.State.{purge}
use Rattle.raft_progress_entry.specs.declared.entry.ProgressEntry.{ProgressEntry}
use Rattle.raft_progress_entry.specs.Entry.{conflicted}
use Rattle.raft_command.specs.declared.command.Command.TheVariants as command
use Rattle.raft_command.specs.declared.config.EngineConfig.{EngineConfig}
use Rattle.raft_command.specs.declared.replication.ReplicationResult.{ReplicationResult}
use Rattle.raft_command.specs.declared.replication.RequestId.{RequestId}
use Rattle.raft_command.specs.Push.{with_command}
use Rattle.raft_steps.specs.Refusals.{rows_in}
use Rattle.raft_steps.specs.Laws.{DeletesNothing}
use Rattle.raft_steps.specs.LogHandler.{is_target_inflight, purge_log, schedule_policy_based_purge, try_purge_log, update_purge_upto}
use Rattle.raft_steps.specs.Parts.{Core, Led, Machine}
use Rattle.raft_steps.specs.Replies.{purge_unless_inflight, take_reply, update_conflicting, update_leader_clock, update_progress}
use Rattle.raft_steps.specs.SnapshotCalls.{built, finish_building_snapshot, purge_where_free, trigger_purge_log}
use Rattle.raft_steps.specs.SnapshotHandler.{is_newer_snapshot, update_snapshot}
use Rattle.raft_steps.proofs.Allowed.{only_here, only_of, only_then}
use Rattle.raft_steps.proofs.Kept.{either, either_option}
use Rattle.raft_steps.proofs.LawsFollow.{Undeleting, undeleting}
use Rattle.raft_steps.proofs.LawsPurge.{reply_only, sends_only}
use Rattle.raft_steps.proofs.LawsReply.{entry_core}

module _ {C NID N E D R S : Type 0} (cmp : NID → NID → Ordering) where
  -- purges
  pub purge_deletes : (c : Core C NID N E D R S) → DeletesNothing c (purge_log cmp c)
  unfolding purge_log
  purge_deletes c =
      either_option (DeletesNothing c) c.state.purge_to c _ (only_here Undeleting c c refl)
      (λ x. either (DeletesNothing c) (is_gt (last_id_cmp cmp (Some x) c.state.purged)) _ _
      (only_of Undeleting (command.PurgeLog x ∷ []) c (record { state = purge cmp c.state x; output = with_command c.output (command.PurgeLog x) }) refl (refl, tt)) (only_here Undeleting c c refl))

  try_purge_deletes : (rows : List (NID × ProgressEntry NID)) (c : Core C NID N E D R S) → DeletesNothing c (try_purge_log cmp rows c)
  unfolding try_purge_log
  try_purge_deletes rows c = either (DeletesNothing c) (is_target_inflight cmp rows c.state) c (purge_log cmp c) (only_here Undeleting c c refl) (purge_deletes c)

  pub purge_upto_deletes : (x : Option (LogId NID)) (c : Core C NID N E D R S) → DeletesNothing c (update_purge_upto x c)
  purge_upto_deletes x c = only_here Undeleting c _ refl

  pub unless_deletes : (l : Led C NID N E D R S) → DeletesNothing l.core (purge_unless_inflight cmp l).core
  unfolding purge_unless_inflight
  unless_deletes l = try_purge_deletes l.leader.progress.rows l.core

  pub where_free_deletes : (m : Machine C NID N E D R S) → DeletesNothing m.core (purge_where_free cmp m).core
  unfolding purge_where_free
  where_free_deletes m = try_purge_deletes (rows_in m) m.core

  pub trigger_deletes : (i : ℕ) (m : Machine C NID N E D R S) → DeletesNothing m.core (trigger_purge_log cmp i m).core
  unfolding trigger_purge_log
  trigger_deletes i m =
      either_option (DeletesNothing m.core) m.core.state.snap.last_log_id m.core _ (only_here Undeleting m.core m.core refl)
      (λ x. either (DeletesNothing m.core) (nat_lt i (next m.core.state.purge_to)) _ _ (only_here Undeleting m.core m.core refl)
      (let targeted = update_purge_upto (at m.core.state.ids (min i x.index)) m.core in
      only_then Undeleting m.core targeted _ (only_here Undeleting m.core targeted refl) (try_purge_deletes (rows_in m) targeted)))

  pub recorded_deletes : (meta : SnapshotMeta NID N) (c : Core C NID N E D R S) → DeletesNothing c (update_snapshot cmp meta c)
  unfolding update_snapshot
  recorded_deletes meta c = either (DeletesNothing c) (is_newer_snapshot cmp c.state meta) _ _ (only_here Undeleting c _ refl) (only_here Undeleting c c refl)

  -- replies that commit nothing
  pub clock_deletes : (target : NID) (time : ℕ) (l : Led C NID N E D R S) → DeletesNothing l.core (update_leader_clock cmp target time l).core
  unfolding update_leader_clock
  clock_deletes target time l = only_here Undeleting l.core l.core refl

  pub conflicting_deletes : (target : NID) (number : Option ℕ) (x : LogId NID) (l : Led C NID N E D R S) → DeletesNothing l.core (update_conflicting cmp target number x l).core
  unfolding update_conflicting
  conflicting_deletes target number x l = only_here Undeleting l.core _ (ap (λ (c : Core C NID N E D R S). c.output.items) (entry_core cmp target (λ e. conflicted e number x.index) l))

module _ {C NID N E D R S : Type 0} (cmp : NID → NID → Ordering) (config : EngineConfig NID) where
  pub schedule_deletes : (c : Core C NID N E D R S) → DeletesNothing c (schedule_policy_based_purge cmp config c)
  unfolding schedule_policy_based_purge
  schedule_deletes c = only_here Undeleting c _ refl

  pub finish_deletes : (meta : SnapshotMeta NID N) (m : Machine C NID N E D R S) → DeletesNothing m.core (finish_building_snapshot cmp config meta m).core
  unfolding finish_building_snapshot
  finish_deletes meta m =
      let b = built m.core in
      let recorded = update_snapshot cmp meta b in
      let scheduled = schedule_policy_based_purge cmp config recorded in
      either (DeletesNothing m.core) (is_newer_snapshot cmp b.state meta) _ _
      (only_then Undeleting m.core b _ (only_here Undeleting m.core b refl)
      (only_then Undeleting b recorded _ (recorded_deletes cmp meta b)
      (only_then Undeleting recorded scheduled _ (schedule_deletes recorded) (try_purge_deletes cmp (rows_in m) scheduled))))
      (only_here Undeleting m.core b refl)

  -- replies
  pub progress_deletes : {T : Type 0} (target : NID) (id : RequestId) (reply : Result (ReplicationResult NID) T) (l : Led C NID N E D R S) → DeletesNothing l.core (update_progress cmp config target id reply l).core
  unfolding update_progress
  progress_deletes target id reply l =
      let taken = take_reply cmp config target id reply l in
      let freed = purge_unless_inflight cmp taken in
      only_then Undeleting l.core freed.core _
      (only_then Undeleting l.core taken.core freed.core (reply_only Undeleting cmp config undeleting target id reply l) (unless_deletes cmp taken))
      (sends_only Undeleting cmp config undeleting target freed).0
