-- The laws of replies and purges, for the step of each call.
use Rattle.std.specs.Prelude.{◌≡◌, ℕ, Bool, true, false, List, ◌++◌, Option, None, Some, is_some, Result, Ok, Err, filter_map}
use Rattle.std.specs.List.{AllByRecursion}
use Rattle.std.specs.declared.cmp.Ordering.{Ordering}
use Rattle.raft_state.specs.declared.ids.LogId.{LogId}
use Rattle.raft_state.specs.declared.membership.SnapshotMeta.{SnapshotMeta}
use Rattle.raft_state.specs.Fits.{fits, is_within}
use Rattle.raft_state.specs.Invariants.{IsSoundState}
use Rattle.raft_command.specs.Replication.{number_of}
use Rattle.raft_command.specs.declared.command.Command.{Command}
use Rattle.raft_command.specs.declared.command.Command.TheVariants as command
use Rattle.raft_command.specs.declared.config.EngineConfig.{EngineConfig}
use Rattle.raft_command.specs.declared.message.Token.{Token}
use Rattle.raft_command.specs.declared.replication.ReplicationResult.{ReplicationResult}
use Rattle.raft_command.specs.declared.replication.RequestId.{RequestId}
use Rattle.raft_steps.specs.Refusals.{rows_in}
use Rattle.raft_steps.specs.Invariants.{IsSound, IsSoundLed}
use Rattle.raft_steps.specs.Laws.{CommitsLatest, QueuesOnly}
use Rattle.raft_steps.specs.LogHandler.{is_target_inflight, purge_log, schedule_policy_based_purge, update_purge_upto}
use Rattle.raft_steps.specs.Parts.{Core, Led, Machine}
use Rattle.raft_steps.specs.Replies.{update_leader_clock, update_matching, update_conflicting, update_success_progress, purge_unless_inflight, update_progress}
use Rattle.raft_steps.specs.ReplyRefusals.{refusals_of_entry, refusals_of_acknowledged, refusals_of_answer, refusals_of_result}
use Rattle.raft_steps.specs.SnapshotCalls.{handle_begin_receiving_snapshot, purge_where_free, trigger_purge_log, finish_building_snapshot}
use Rattle.raft_steps.specs.SnapshotHandler.{update_snapshot}

module _ {C NID N E D R S : Type 0} where
  -- the id up to which a command purges the log
  abbrev pub purged_by : Command C NID N E D R S → Option (LogId NID)
  purged_by (command.PurgeLog upto) = Some upto
  purged_by _ = None

  -- a call purges nothing
  abbrev pub PurgesNothing : Core C NID N E D R S → Core C NID N E D R S → Type 0
  PurgesNothing = QueuesOnly (λ x. purged_by x ≡ None)

module _ {NID : Type 0} where
  -- an answer says that the log matches: it has no conflict, and its request had a number (a heartbeat has none)
  abbrev pub answer_matches : RequestId → ReplicationResult NID → Bool
  answer_matches id answer = elim answer.result [ Ok _ ↦ is_some (number_of id) | Err _ ↦ false ]

  -- so does a reply, which is an answer or the failure of the request
  abbrev pub takes_matching : {T : Type 0} → RequestId → Result (ReplicationResult NID) T → Bool
  takes_matching id (Ok answer) = answer_matches id answer
  takes_matching id (Err _) = false

module _ {C NID N E D R S : Type 0} (cmp : NID → NID → Ordering) where
  -- no purge that a call queues goes above the snapshot's last id
  pub record PurgesWithin (old new : Core C NID N E D R S) : Type 0 where
    pub added : List (Command C NID N E D R S)
    pub behind : new.output.items ≡ old.output.items ++ added
    pub within : AllByRecursion (λ (x : LogId NID). is_within cmp (Some x) new.state.snap.last_log_id ≡ true) (filter_map purged_by added)

module _ {NID : Type 0} (C N E D R S T : Type 0) (cmp : NID → NID → Ordering) where
  -- each call for replies, snapshots and purges does this to the core
  pub record ReplyCalls (Does : Core C NID N E D R S → Core C NID N E D R S → Type 0) : Type 0 where
    pub by_clock : (target : NID) (time : ℕ) (l : Led C NID N E D R S) → Does l.core (update_leader_clock cmp target time l).core
    pub by_matching : (config : EngineConfig NID) (target : NID) (x : Option (LogId NID)) (l : Led C NID N E D R S) → Does l.core (update_matching cmp config target x l).core
    pub by_conflicting : (target : NID) (number : Option ℕ) (x : LogId NID) (l : Led C NID N E D R S) → Does l.core (update_conflicting cmp target number x l).core
    pub by_success : (config : EngineConfig NID) (target : NID) (id : RequestId) (answer : ReplicationResult NID) (l : Led C NID N E D R S) → Does l.core (update_success_progress cmp config target id answer l).core
    pub by_progress : (config : EngineConfig NID) (target : NID) (id : RequestId) (reply : Result (ReplicationResult NID) T) (l : Led C NID N E D R S) → Does l.core (update_progress cmp config target id reply l).core
    pub by_purge_log : (c : Core C NID N E D R S) → Does c (purge_log cmp c)
    pub by_purge_upto : (x : Option (LogId NID)) (c : Core C NID N E D R S) → Does c (update_purge_upto x c)
    pub by_schedule : (config : EngineConfig NID) (c : Core C NID N E D R S) → Does c (schedule_policy_based_purge cmp config c)
    pub by_purge_unless_inflight : (l : Led C NID N E D R S) → Does l.core (purge_unless_inflight cmp l).core
    pub by_purge_where_free : (m : Machine C NID N E D R S) → Does m.core (purge_where_free cmp m).core
    pub by_trigger_purge : (i : ℕ) (m : Machine C NID N E D R S) → Does m.core (trigger_purge_log cmp i m).core
    pub by_update_snapshot : (meta : SnapshotMeta NID N) (c : Core C NID N E D R S) → Does c (update_snapshot cmp meta c)
    pub by_finish : (config : EngineConfig NID) (meta : SnapshotMeta NID N) (m : Machine C NID N E D R S) → Does m.core (finish_building_snapshot cmp config meta m).core
    pub by_begin_receiving : (token : Token) (m : Machine C NID N E D R S) → Does m.core (handle_begin_receiving_snapshot token m).core

  -- after a target's match the latest of what may be committed is committed, and so it is at the end of the whole call
  -- (Raft paper, sections 5.3 and 5.4.2); after any other reply the committed id stays
  pub record RepliesCommit : Type 0 where
    pub by_matching : (config : EngineConfig NID) (target : NID) (number : ℕ) (x : Option (LogId NID)) (l : Led C NID N E D R S)
        → refusals_of_entry cmp target (λ e. refusals_of_acknowledged cmp l.core.state e number x) l.leader ≡ None → IsSoundLed cmp config l
        → CommitsLatest cmp l.core.state.committed (update_matching cmp config target x l)
    pub by_success : (config : EngineConfig NID) (target : NID) (id : RequestId) (answer : ReplicationResult NID) (l : Led C NID N E D R S) → answer_matches id answer ≡ true
        → refusals_of_entry cmp target (λ e. refusals_of_answer cmp l.core.state e id answer) l.leader ≡ None → IsSoundLed cmp config l
        → CommitsLatest cmp l.core.state.committed (update_success_progress cmp config target id answer l)
    pub by_progress : (config : EngineConfig NID) (target : NID) (id : RequestId) (reply : Result (ReplicationResult NID) T) (l : Led C NID N E D R S) → takes_matching id reply ≡ true
        → refusals_of_entry cmp target (λ e. refusals_of_result cmp l.core.state e id reply) l.leader ≡ None → IsSoundLed cmp config l
        → CommitsLatest cmp l.core.state.committed (update_progress cmp config target id reply l)
    pub else_stays : (config : EngineConfig NID) (target : NID) (id : RequestId) (reply : Result (ReplicationResult NID) T) (l : Led C NID N E D R S) → takes_matching id reply ≡ false
        → (update_progress cmp config target id reply l).core.state.committed ≡ l.core.state.committed

  -- what is purged is in the snapshot (Raft paper, section 7); while its target is in flight only `purge_log` purges
  pub record PurgesWait : Type 0 where
    pub in_snapshot : (c : Core C NID N E D R S) → IsSoundState cmp c.state → PurgesWithin cmp c (purge_log cmp c)
    pub of_leader_in_snapshot : (l : Led C NID N E D R S) → IsSoundState cmp l.core.state → PurgesWithin cmp l.core (purge_unless_inflight cmp l).core
    pub while_inflight : (l : Led C NID N E D R S) → is_target_inflight cmp l.leader.progress.rows l.core.state ≡ true → purge_unless_inflight cmp l ≡ l
    pub engine_while_inflight : (m : Machine C NID N E D R S) → is_target_inflight cmp (rows_in m) m.core.state ≡ true → purge_where_free cmp m ≡ m
    pub trigger_while_inflight : (i : ℕ) (m : Machine C NID N E D R S)
        → (let new = trigger_purge_log cmp i m in is_target_inflight cmp (rows_in m) new.core.state ≡ true → new.core.output ≡ m.core.output)
    pub finish_while_inflight : (config : EngineConfig NID) (meta : SnapshotMeta NID N) (m : Machine C NID N E D R S)
        → (let new = finish_building_snapshot cmp config meta m in is_target_inflight cmp (rows_in m) new.core.state ≡ true → new.core.output ≡ m.core.output)
    pub by_progress : (config : EngineConfig NID) (target : NID) (id : RequestId) (reply : Result (ReplicationResult NID) T) (l : Led C NID N E D R S)
        → refusals_of_entry cmp target (λ e. refusals_of_result cmp l.core.state e id reply) l.leader ≡ None → IsSoundLed cmp config l → PurgesWithin cmp l.core (update_progress cmp config target id reply l).core
    pub by_purge_where_free : (m : Machine C NID N E D R S) → IsSoundState cmp m.core.state → PurgesWithin cmp m.core (purge_where_free cmp m).core
    pub by_trigger_purge : (i : ℕ) (m : Machine C NID N E D R S) → IsSoundState cmp m.core.state → PurgesWithin cmp m.core (trigger_purge_log cmp i m).core
    pub by_finish : (config : EngineConfig NID) (meta : SnapshotMeta NID N) (m : Machine C NID N E D R S) → fits cmp m.core.state.ids m.core.state.purged meta.last_log_id ≡ true
        → is_within cmp meta.last_log_id m.core.state.committed ≡ true → IsSound cmp config m → PurgesWithin cmp m.core (finish_building_snapshot cmp config meta m).core
    pub by_begin_receiving : (token : Token) (m : Machine C NID N E D R S) → PurgesNothing m.core (handle_begin_receiving_snapshot token m).core
