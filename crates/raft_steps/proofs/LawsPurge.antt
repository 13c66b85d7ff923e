-- What the calls that purge have queued by then, and what replies queue besides.
use Rattle.std.specs.Prelude.{◌≡◌, ℕ, Bool, true, false, [], ◌++◌, Option, None, Some, Result, Ok, Err, filter_map, min, nat_lt, refl, if◌then◌else◌}
use Rattle.std.proofs.Common.{ap, append-nil, subst, sym, ◌∙◌}
use Rattle.std.proofs.lemmas.List.Elements.{filter_map-append}
use Rattle.std.specs.List.{AllByRecursion}
use Rattle.std.specs.declared.cmp.Ordering.{Ordering}
use Rattle.std.specs.declared.cmp.Ordering.TheVariants.{Equal}
use Rattle.std.specs.Cmp.{IsTotalOrder}
use Rattle.raft_state.specs.declared.ids.LogId.{LogId}
use Rattle.raft_state.specs.declared.membership.SnapshotMeta.{SnapshotMeta}
use Rattle.raft_state.specs.Fits.{fits, is_within}
use Rattle.raft_state.specs.Invariants.{IsSoundState}
use Rattle.raft_state.specs.Log.{at}
use Rattle.raft_state.specs.Order.{next}
use Rattle.raft_progress_entry.specs.declared.entry.ProgressEntry.{ProgressEntry}
use Rattle.raft_progress_entry.specs.Entry.{conflicted, matched, next_send, silenced}
use Rattle.raft_proposer.specs.raft_progress.Quorum.{is_quorum}
use Rattle.raft_proposer.specs.raft_progress.Table.{get}
use Rattle.raft_command.specs.declared.command.Command.{Command}
use Rattle.raft_command.specs.declared.config.EngineConfig.{EngineConfig}
use Rattle.raft_command.specs.declared.replication.ReplicationResult.{ReplicationResult}
use Rattle.raft_command.specs.declared.replication.RequestId.{RequestId}
use Rattle.raft_command.specs.Replication.{number_of}
use Rattle.raft_steps.specs.Refusals.{rows_in}
use Rattle.raft_steps.specs.Invariants.{IsSound, IsSoundLed}
use Rattle.raft_steps.specs.Laws.{QueuesOnly}
use Rattle.raft_proposer.specs.Leader.{granted_id}
use Rattle.raft_steps.specs.LogHandler.{schedule_policy_based_purge, try_purge_log, update_purge_upto}
use Rattle.raft_steps.specs.Parts.{Core, Led, Machine, on_core}
use Rattle.raft_steps.specs.Replies.{on_entry, purge_unless_inflight, send_next, take_reply, update_conflicting, update_failed_progress, update_leader_clock, update_matching, update_progress, update_success_progress}
use Rattle.raft_steps.specs.ReplicationHandler.{send_commands}
use Rattle.raft_steps.specs.ReplyRefusals.{refusals_of_entry, refusals_of_result}
use Rattle.raft_steps.specs.ReplyLaws.{PurgesWithin, purged_by}
use Rattle.raft_steps.specs.SnapshotCalls.{built, finish_building_snapshot, purge_where_free, trigger_purge_log}
use Rattle.raft_steps.specs.SnapshotHandler.{is_newer_snapshot, update_snapshot}
use Rattle.raft_steps.proofs.Allowed.{AllowsLeading, both_behind, none_given, only_here, only_of, only_then, send_each, try_commit_only}
use Rattle.raft_steps.proofs.Kept.{either, either_option}
use Rattle.raft_steps.proofs.KeptPurge.{asked_sound, recorded_is_sound, scheduled_is_sound}
use Rattle.raft_steps.proofs.KeptReplies.{reply_kept}
use Rattle.raft_steps.proofs.LawsInstall.{Unpurging, unpurging, within_then}
use Rattle.raft_steps.proofs.LawsQueue.{append_none}
use Rattle.raft_steps.proofs.LawsReply.{entry_core, try_within, unless_within}

module _ {C NID N E D R S : Type 0} (P : Command C NID N E D R S → Type 0) (cmp : NID → NID → Ordering) (config : EngineConfig NID) (allows : AllowsLeading P) where
  abbrev Only : Led C NID N E D R S → Led C NID N E D R S → Type 0
  Only old new = QueuesOnly P old.core new.core

  entry_only : (target : NID) (f : ProgressEntry NID → ProgressEntry NID) (l : Led C NID N E D R S) → Only l (on_entry cmp target f l)
  entry_only target f l = only_here P l.core _ (ap (λ (c : Core C NID N E D R S). c.output.items) (entry_core cmp target f l))

  -- a reply
  pub matching_only : (target : NID) (x : Option (LogId NID)) (l : Led C NID N E D R S) → Only l (update_matching cmp config target x l)
  unfolding update_matching
  matching_only target x l =
      let noted = on_entry cmp target (λ e. matched cmp e x) l in
      only_then P l.core noted.core _ (entry_only target (λ e. matched cmp e x) l) (try_commit_only P cmp config allows (granted_id cmp (is_quorum cmp) noted.leader) noted.core)

  pub success_only : (target : NID) (id : RequestId) (answer : ReplicationResult NID) (l : Led C NID N E D R S) → Only l (update_success_progress cmp config target id answer l)
  unfolding update_success_progress update_leader_clock update_conflicting
  success_only target id answer l = go answer.result (number_of id) where
    clocked : Led C NID N E D R S
    clocked = update_leader_clock cmp target answer.sending_time l

    go : (r : Result (Option (LogId NID)) (LogId NID)) (number : Option ℕ) → (let n = (elim r as (λ _. Led C NID N E D R S) [
      | Ok x ↦ elim number [ None ↦ clocked | Some _ ↦ update_matching cmp config target x clocked ]
      | Err x ↦ update_conflicting cmp target number x clocked
    ]) in Only l n)
    go (Ok x) None = only_here P l.core l.core refl
    go (Ok x) (Some number) = matching_only target x clocked
    go (Err x) number = entry_only target (λ e. conflicted e number x.index) clocked

  pub reply_only : {T : Type 0} (target : NID) (id : RequestId) (reply : Result (ReplicationResult NID) T) (l : Led C NID N E D R S) → Only l (take_reply cmp config target id reply l)
  unfolding update_failed_progress
  reply_only target id (Ok answer) l = success_only target id answer l
  reply_only target id (Err _) l = either_option (Only l) (number_of id) l _ (only_here P l.core l.core refl) (λ number. entry_only target silenced l)

  -- a send, which leaves the snapshot
  pub sends_only : (target : NID) (l : Led C NID N E D R S) → Only l (send_next cmp config target l) × ((send_next cmp config target l).core.state.snap ≡ l.core.state.snap)
  unfolding send_next
  sends_only target l =
      either_option (λ (n : Led C NID N E D R S). Only l n × (n.core.state.snap ≡ l.core.state.snap)) (get cmp l.leader.progress target) l _ (only_here P l.core l.core refl, refl)
      (λ e.
      let commands = send_commands false target (next_send l.core.state config.max_payload_entries e) in
      (only_of P commands l.core _ refl (send_each P cmp config allows false target (next_send l.core.state config.max_payload_entries e)), refl))

module _ {C NID N E D R S : Type 0} (cmp : NID → NID → Ordering) where
  -- what purges within the snapshot: from the same queue, and then what purges nothing
  within_from : (a b c : Core C NID N E D R S) → b.output.items ≡ a.output.items → PurgesWithin cmp b c → PurgesWithin cmp a c
  within_from a b c e k = record { added = k.added; behind = k.behind ∙ ap (λ xs. xs ++ k.added) e; within = k.within }

  then_unpurging : (a b c : Core C NID N E D R S) → PurgesWithin cmp a b → QueuesOnly Unpurging b c → c.state.snap ≡ b.state.snap → PurgesWithin cmp a c
  then_unpurging a b c h k e = record {
    added = h.added ++ k.added;
    behind = both_behind a.output.items b.output.items c.output.items h.added k.added h.behind k.behind;
    within = subst (λ (meta : SnapshotMeta NID N). AllByRecursion (λ (x : LogId NID). is_within cmp (Some x) meta.last_log_id ≡ true) (filter_map purged_by (h.added ++ k.added))) (sym e)
        (subst (AllByRecursion (λ (x : LogId NID). is_within cmp (Some x) b.state.snap.last_log_id ≡ true))
        (sym (filter_map-append purged_by h.added k.added ∙ ap (λ ys. filter_map purged_by h.added ++ ys) (none_given purged_by k.added k.each) ∙ append-nil (filter_map purged_by h.added))) h.within);
  }

  nothing_purged : (a b : Core C NID N E D R S) → b.output.items ≡ a.output.items → PurgesWithin cmp a b
  nothing_purged a b e = record { added = []; behind = e ∙ append_none a.output.items; within = tt }

module _ {C NID N E D R S : Type 0} (cmp : NID → NID → Ordering) (total : IsTotalOrder cmp) (same : (a b : NID) → cmp a b ≡ Equal → a ≡ b) where
  -- no purge of these calls passes the snapshot
  pub where_free_within : (m : Machine C NID N E D R S) → IsSoundState cmp m.core.state → PurgesWithin cmp m.core (purge_where_free cmp m).core
  unfolding purge_where_free
  where_free_within m h = try_within cmp total same (rows_in m) m.core h

  pub trigger_within : (i : ℕ) (m : Machine C NID N E D R S) → IsSoundState cmp m.core.state → PurgesWithin cmp m.core (trigger_purge_log cmp i m).core
  unfolding trigger_purge_log
  trigger_within i m h = go m.core.state.snap.last_log_id refl where
    go : (o : Option (LogId NID)) → m.core.state.snap.last_log_id ≡ o → PurgesWithin cmp m.core (elim o as (λ _. Core C NID N E D R S) [
      | None ↦ m.core
      | Some x ↦ (if nat_lt i (next m.core.state.purge_to) then m.core else try_purge_log cmp (rows_in m) (update_purge_upto (at m.core.state.ids (min i x.index)) m.core))
    ])
    go None q = nothing_purged cmp m.core m.core refl
    go (Some x) q = by (nat_lt i (next m.core.state.purge_to)) refl where
      targeted : Core C NID N E D R S
      targeted = update_purge_upto (at m.core.state.ids (min i x.index)) m.core

      by : (b : Bool) → nat_lt i (next m.core.state.purge_to) ≡ b → PurgesWithin cmp m.core (if b then m.core else try_purge_log cmp (rows_in m) targeted)
      by true l = nothing_purged cmp m.core m.core refl
      by false l = within_from cmp m.core targeted _ refl (try_within cmp total same (rows_in m) targeted (asked_sound cmp total same m.core.state h i x q l))

module _ {C NID N E D R S : Type 0} (cmp : NID → NID → Ordering) (total : IsTotalOrder cmp) (same : (a b : NID) → cmp a b ≡ Equal → a ≡ b) (config : EngineConfig NID) where
  pub progress_within : {T : Type 0} (target : NID) (id : RequestId) (reply : Result (ReplicationResult NID) T) (l : Led C NID N E D R S)
      → refusals_of_entry cmp target (λ e. refusals_of_result cmp l.core.state e id reply) l.leader ≡ None → IsSoundLed cmp config l → PurgesWithin cmp l.core (update_progress cmp config target id reply l).core
  unfolding update_progress
  progress_within target id reply l a h =
      let taken = take_reply cmp config target id reply l in
      let freed = purge_unless_inflight cmp taken in
      let sent = sends_only Unpurging cmp config unpurging target freed in
      then_unpurging cmp l.core freed.core _
      (within_then cmp l.core taken.core freed.core (reply_only Unpurging cmp config unpurging target id reply l) (unless_within cmp total same taken (reply_kept cmp total same config target id reply l a h).sound))
      sent.0 sent.1

  pub finish_within : (meta : SnapshotMeta NID N) (m : Machine C NID N E D R S) → fits cmp m.core.state.ids m.core.state.purged meta.last_log_id ≡ true
      → is_within cmp meta.last_log_id m.core.state.committed ≡ true → IsSound cmp config m → PurgesWithin cmp m.core (finish_building_snapshot cmp config meta m).core
  unfolding finish_building_snapshot schedule_policy_based_purge update_snapshot
  finish_within meta m f w h =
      let b : Machine C NID N E D R S = on_core built m in
      let k : IsSound cmp config b = record { sound = h.sound; lead = record { leader_fits = h.lead.leader_fits; candidate_fits = h.lead.candidate_fits } } in
      let recorded = on_core (update_snapshot cmp meta) b in
      let scheduled = on_core (schedule_policy_based_purge cmp config) recorded in
      either (PurgesWithin cmp m.core) (is_newer_snapshot cmp b.core.state meta) _ _
      (within_from cmp m.core scheduled.core _ (either (λ (c : Core C NID N E D R S). c.output.items ≡ m.core.output.items) (is_newer_snapshot cmp b.core.state meta) _ _ refl refl)
      (try_within cmp total same (rows_in m) scheduled.core (scheduled_is_sound cmp total same config recorded (recorded_is_sound cmp total same config meta b f w k)).sound))
      (nothing_purged cmp m.core b.core refl)
