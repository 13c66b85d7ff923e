-- What replies and purges queue, and what a leader commits by replies.
use Rattle.std.specs.Prelude.{◌≡◌, ℕ, ◌+◌, Bool, true, false, List, [], ◌∷◌, Option, None, Some, is_some, Result, Ok, Err, refl, min, nat_lt, if◌then◌else◌}
use Rattle.std.proofs.Common.{ap, subst, sym, ◌∙◌}
use Rattle.std.specs.declared.cmp.Ordering.{Ordering}
use Rattle.std.specs.declared.cmp.Ordering.TheVariants.{Equal}
use Rattle.std.specs.Ordering.{is_gt}
use Rattle.std.specs.Cmp.{IsTotalOrder}
use Rattle.raft_state.specs.declared.ids.LogId.{LogId}
use Rattle.raft_state.specs.declared.membership.SnapshotMeta.{SnapshotMeta}
use Rattle.raft_state.specs.declared.state.RaftState.{RaftState}
use Rattle.raft_state.specs.Fits.{is_within}
use Rattle.raft_state.specs.Invariants.{IsSoundState}
use Rattle.raft_state.specs.Log.{at, from, last}
use Rattle.raft_state.specs.Order.{last_id_cmp, next}
use Rattle.raft_state.specs.State.{purge}
use Rattle.raft_progress_entry.specs.declared.entry.ProgressEntry.{ProgressEntry}
use Rattle.raft_progress_entry.specs.raft_error.declared.error.EngineError.{EngineError}
use Rattle.raft_progress_entry.specs.Entry.{refusals_of_conflicted, conflicted, matched, next_send, silenced}
use Rattle.raft_proposer.specs.raft_progress.Quorum.{is_quorum}
use Rattle.raft_proposer.specs.raft_progress.Table.{get}
use Rattle.raft_command.specs.declared.command.Command.TheVariants.{PurgeLog, StateMachine}
use Rattle.raft_command.specs.declared.config.EngineConfig.{EngineConfig}
use Rattle.raft_command.specs.declared.message.Token.{Token}
use Rattle.raft_command.specs.declared.replication.ReplicationResult.{ReplicationResult}
use Rattle.raft_command.specs.declared.replication.RequestId.{RequestId}
use Rattle.raft_command.specs.declared.sm.CommandPayload.TheVariants.{BeginReceivingSnapshot}
use Rattle.raft_command.specs.Push.{with_command}
use Rattle.raft_command.specs.Queue.{queued}
use Rattle.raft_command.specs.Replication.{number_of}
use Rattle.raft_steps.specs.Refusals.{rows_in}
use Rattle.raft_steps.specs.Invariants.{IsSoundLed}
use Rattle.raft_steps.specs.Laws.{CommitsLatest, Queues}
use Rattle.raft_proposer.specs.Leader.{granted_id}
use Rattle.raft_steps.specs.LogHandler.{is_target_inflight, purge_log, schedule_policy_based_purge, try_purge_log, update_purge_upto}
use Rattle.raft_steps.specs.Parts.{Core, Led, Machine}
use Rattle.raft_steps.specs.Replies.{on_entry, purge_unless_inflight, send_next, take_reply, update_conflicting, update_failed_progress, update_leader_clock, update_matching, update_progress, update_success_progress}
use Rattle.raft_steps.specs.ReplicationHandler.{commit_granted, send_commands}
use Rattle.raft_steps.specs.ReplyRefusals.{refusals_of_acknowledged, refusals_of_answer, refusals_of_entry, refusals_of_result}
use Rattle.raft_steps.specs.ReplyLaws.{PurgesWithin, answer_matches, takes_matching}
use Rattle.raft_steps.specs.SnapshotCalls.{built, finish_building_snapshot, handle_begin_receiving_snapshot, purge_where_free, trigger_purge_log}
use Rattle.raft_steps.specs.SnapshotHandler.{is_newer_snapshot, update_snapshot}
use Rattle.raft_steps.proofs.Kept.{either, either_option}
use Rattle.raft_steps.proofs.KeptPurge.{purge_is}
use Rattle.raft_steps.proofs.KeptReplies.{clock_kept, noted_kept}
use Rattle.raft_steps.proofs.LawsCommit.{granted_law}
use Rattle.raft_steps.proofs.Matchings.{AreAlike, noted_alike, same_commits, send_commits}
use Rattle.raft_steps.proofs.LawsQueue.{append_none, queues_then, send_silent, silent, still, try_commit_queues}

module _ {NID N : Type 0} (cmp : NID → NID → Ordering) where
  -- what holds of a state after a purge, whichever ids are left
  pub purge_leaves : (P : RaftState NID N → Type 0) (s : RaftState NID N) (x : LogId NID) → P (record s { purged = Some x; ids = from x.index s.ids }) → P (record s { purged = Some x; ids = x ∷ [] }) → P (purge cmp s x)
  purge_leaves P s x p q = either P (nat_lt x.index (next (last s.ids))) (record s { purged = Some x; ids = from x.index s.ids }) (record s { purged = Some x; ids = x ∷ [] }) p q

module _ {C NID N E D R S : Type 0} (cmp : NID → NID → Ordering) where
  self_queues : (c : Core C NID N E D R S) → Queues cmp c c
  self_queues c = still cmp c c refl refl refl

  -- another entry of a target leaves the core
  pub entry_core : (target : NID) (f : ProgressEntry NID → ProgressEntry NID) (l : Led C NID N E D R S) → (on_entry cmp target f l).core ≡ l.core
  entry_core target f l = either_option (λ (n : Led C NID N E D R S). n.core ≡ l.core) (get cmp l.leader.progress target) l _ refl (λ e. refl)

  entry_queues : (target : NID) (f : ProgressEntry NID → ProgressEntry NID) (l : Led C NID N E D R S) → Queues cmp l.core (on_entry cmp target f l).core
  entry_queues target f l = subst (λ (c : Core C NID N E D R S). Queues cmp l.core c) (sym (entry_core target f l)) (self_queues l.core)

  pub clock_queues : (target : NID) (time : ℕ) (l : Led C NID N E D R S) → Queues cmp l.core (update_leader_clock cmp target time l).core
  unfolding update_leader_clock
  clock_queues target time l = self_queues l.core

  pub conflicting_queues : (target : NID) (number : Option ℕ) (x : LogId NID) (l : Led C NID N E D R S) → Queues cmp l.core (update_conflicting cmp target number x l).core
  unfolding update_conflicting
  conflicting_queues target number x l = entry_queues target (λ e. conflicted e number x.index) l

  failed_queues : (target : NID) (id : RequestId) (l : Led C NID N E D R S) → Queues cmp l.core (update_failed_progress cmp target id l).core
  unfolding update_failed_progress
  failed_queues target id l = either_option (λ (n : Led C NID N E D R S). Queues cmp l.core n.core) (number_of id) l _ (self_queues l.core) (λ number. entry_queues target silenced l)

  -- a purge
  pub purge_queues : (c : Core C NID N E D R S) → Queues cmp c (purge_log cmp c)
  unfolding purge_log
  purge_queues c =
      either_option (Queues cmp c) c.state.purge_to c _ (self_queues c)
      (λ x. either (Queues cmp c) (is_gt (last_id_cmp cmp (Some x) c.state.purged)) _ _ (purged x) (self_queues c)) where
        purged : (x : LogId NID) → Queues cmp c (record { state = purge cmp c.state x; output = with_command c.output (PurgeLog x) })
        purged x =
            silent cmp (PurgeLog x ∷ []) c (record { state = purge cmp c.state x; output = with_command c.output (PurgeLog x) }) refl refl
            (purge_leaves cmp (λ (s : RaftState NID N). s.vote ≡ c.state.vote) c.state x refl refl) (record { no_votes = refl; no_numbers = refl; no_deletes = refl })

  pub try_purge_queues : (rows : List (NID × ProgressEntry NID)) (c : Core C NID N E D R S) → Queues cmp c (try_purge_log cmp rows c)
  unfolding try_purge_log
  try_purge_queues rows c = either (Queues cmp c) (is_target_inflight cmp rows c.state) c (purge_log cmp c) (self_queues c) (purge_queues c)

  pub unless_queues : (l : Led C NID N E D R S) → Queues cmp l.core (purge_unless_inflight cmp l).core
  unfolding purge_unless_inflight
  unless_queues l = try_purge_queues l.leader.progress.rows l.core

  pub purge_where_free_queues : (m : Machine C NID N E D R S) → Queues cmp m.core (purge_where_free cmp m).core
  unfolding purge_where_free
  purge_where_free_queues m = try_purge_queues (rows_in m) m.core

  pub trigger_purge_queues : (i : ℕ) (m : Machine C NID N E D R S) → Queues cmp m.core (trigger_purge_log cmp i m).core
  unfolding trigger_purge_log
  trigger_purge_queues i m =
      either_option (Queues cmp m.core) m.core.state.snap.last_log_id m.core _ (self_queues m.core)
      (λ x. either (Queues cmp m.core) (nat_lt i (next m.core.state.purge_to)) _ _ (self_queues m.core) (targeted (at m.core.state.ids (min i x.index)))) where
        targeted : (x : Option (LogId NID)) → Queues cmp m.core (try_purge_log cmp (rows_in m) (update_purge_upto x m.core))
        targeted x = queues_then cmp m.core (update_purge_upto x m.core) _ (still cmp m.core (update_purge_upto x m.core) refl refl refl) (try_purge_queues (rows_in m) (update_purge_upto x m.core))

  pub begin_receiving_queues : (token : Token) (m : Machine C NID N E D R S) → Queues cmp m.core (handle_begin_receiving_snapshot token m).core
  unfolding handle_begin_receiving_snapshot
  begin_receiving_queues token m = record { added = StateMachine (record { seq = m.core.output.seq + 1; payload = BeginReceivingSnapshot token }) ∷ []; behind = refl; votes = refl; numbers = (refl, refl) }

  -- a snapshot is recorded
  pub recorded_queues : (meta : SnapshotMeta NID N) (c : Core C NID N E D R S) → Queues cmp c (update_snapshot cmp meta c)
  unfolding update_snapshot
  recorded_queues meta c = either (Queues cmp c) (is_newer_snapshot cmp c.state meta) _ _ (still cmp c (record c { state = record c.state { snap = meta } }) refl refl refl) (self_queues c)

  pub purge_upto_queues : (x : Option (LogId NID)) (c : Core C NID N E D R S) → Queues cmp c (update_purge_upto x c)
  purge_upto_queues x c = still cmp c _ refl refl refl

  -- while the purge target is in flight, nothing is purged
  pub waits : (l : Led C NID N E D R S) → is_target_inflight cmp l.leader.progress.rows l.core.state ≡ true → purge_unless_inflight cmp l ≡ l
  unfolding purge_unless_inflight try_purge_log
  waits l e = rw e refl

  pub engine_waits : (m : Machine C NID N E D R S) → is_target_inflight cmp (rows_in m) m.core.state ≡ true → purge_where_free cmp m ≡ m
  unfolding purge_where_free try_purge_log
  engine_waits m e = rw e refl

  -- nor is it where the target, as it is left, is in flight
  left_target : (c : Core C NID N E D R S) → (purge_log cmp c).state.purge_to ≡ c.state.purge_to
  unfolding purge_log
  left_target c =
      let Same = λ (d : Core C NID N E D R S). d.state.purge_to ≡ c.state.purge_to in
      either_option Same c.state.purge_to c _ refl
      (λ x. either Same (is_gt (last_id_cmp cmp (Some x) c.state.purged)) (record { state = purge cmp c.state x; output = with_command c.output (PurgeLog x) }) c
      (purge_leaves cmp (λ (s : RaftState NID N). s.purge_to ≡ c.state.purge_to) c.state x refl refl) refl)

  try_waits : (rows : List (NID × ProgressEntry NID)) (c : Core C NID N E D R S) → is_target_inflight cmp rows (try_purge_log cmp rows c).state ≡ true → (try_purge_log cmp rows c).output ≡ c.output
  unfolding try_purge_log
  try_waits rows c = go (is_target_inflight cmp rows c.state) refl where
    go : (b : Bool) → is_target_inflight cmp rows c.state ≡ b
        → (let d = (if b then c else purge_log cmp c) in is_target_inflight cmp rows d.state ≡ true → d.output ≡ c.output)
    go true e h = refl
    go false e h = let f : is_target_inflight cmp rows (purge_log cmp c).state ≡ false = rw (left_target c) e in cc

  pub trigger_waits : (i : ℕ) (m : Machine C NID N E D R S)
      → (let new = trigger_purge_log cmp i m in is_target_inflight cmp (rows_in m) new.core.state ≡ true → new.core.output ≡ m.core.output)
  unfolding trigger_purge_log
  trigger_waits i m =
      let Waits = λ (c : Core C NID N E D R S). is_target_inflight cmp (rows_in m) c.state ≡ true → c.output ≡ m.core.output in
      either_option Waits m.core.state.snap.last_log_id m.core _ (λ h. refl)
      (λ x. either Waits (nat_lt i (next m.core.state.purge_to)) _ _ (λ h. refl) (try_waits (rows_in m) (update_purge_upto (at m.core.state.ids (min i x.index)) m.core)))

  -- a purge leaves the committed id and the vote
  LeavesCommits : Core C NID N E D R S → Core C NID N E D R S → Type 0
  LeavesCommits old new = (new.state.committed ≡ old.state.committed) × (new.state.vote ≡ old.state.vote)

  purged_commits : (c : Core C NID N E D R S) → LeavesCommits c (purge_log cmp c)
  unfolding purge_log LeavesCommits
  purged_commits c =
      either_option (LeavesCommits c) c.state.purge_to c _ (refl, refl)
      (λ x. either (LeavesCommits c) (is_gt (last_id_cmp cmp (Some x) c.state.purged)) (record { state = purge cmp c.state x; output = with_command c.output (PurgeLog x) }) c
      (purge_leaves cmp (λ (s : RaftState NID N). (s.committed ≡ c.state.committed) × (s.vote ≡ c.state.vote)) c.state x (refl, refl) (refl, refl)) (refl, refl))

  try_purge_commits : (rows : List (NID × ProgressEntry NID)) (c : Core C NID N E D R S) → LeavesCommits c (try_purge_log cmp rows c)
  unfolding try_purge_log LeavesCommits
  try_purge_commits rows c = either (LeavesCommits c) (is_target_inflight cmp rows c.state) c (purge_log cmp c) (refl, refl) (purged_commits c)

module _ {C NID N E D R S : Type 0} (cmp : NID → NID → Ordering) (config : EngineConfig NID) where
  pub schedule_queues : (c : Core C NID N E D R S) → Queues cmp c (schedule_policy_based_purge cmp config c)
  unfolding schedule_policy_based_purge
  schedule_queues c = still cmp c (schedule_policy_based_purge cmp config c) refl refl refl

  pub finish_queues : (meta : SnapshotMeta NID N) (m : Machine C NID N E D R S) → Queues cmp m.core (finish_building_snapshot cmp config meta m).core
  unfolding finish_building_snapshot
  finish_queues meta m =
      queues_then cmp m.core begun _ (still cmp m.core begun refl refl refl)
      (either (Queues cmp begun) (is_newer_snapshot cmp begun.state meta) _ _
      (queues_then cmp begun recorded _ (recorded_queues cmp meta begun)
      (queues_then cmp recorded (schedule_policy_based_purge cmp config recorded) _ (schedule_queues recorded) (try_purge_queues cmp (rows_in m) (schedule_policy_based_purge cmp config recorded))))
      (self_queues cmp begun)) where
        begun : Core C NID N E D R S
        begun = built m.core

        recorded : Core C NID N E D R S
        recorded = update_snapshot cmp meta begun

  pub finish_waits : (meta : SnapshotMeta NID N) (m : Machine C NID N E D R S)
      → (let new = finish_building_snapshot cmp config meta m in is_target_inflight cmp (rows_in m) new.core.state ≡ true → new.core.output ≡ m.core.output)
  unfolding finish_building_snapshot schedule_policy_based_purge update_snapshot
  finish_waits meta m =
      let b = built m.core in
      let scheduled = schedule_policy_based_purge cmp config (update_snapshot cmp meta b) in
      let same : scheduled.output ≡ m.core.output = either (λ (c : Core C NID N E D R S). c.output ≡ m.core.output) (is_newer_snapshot cmp b.state meta) _ _ refl refl in
      either (λ (c : Core C NID N E D R S). is_target_inflight cmp (rows_in m) c.state ≡ true → c.output ≡ m.core.output) (is_newer_snapshot cmp b.state meta) _ _
      (λ h. try_waits cmp (rows_in m) scheduled h ∙ same) (λ h. refl)

module _ {C NID N E D R S : Type 0} (cmp : NID → NID → Ordering) (total : IsTotalOrder cmp) (config : EngineConfig NID) where
  pub matching_queues : (target : NID) (x : Option (LogId NID)) (l : Led C NID N E D R S) → Queues cmp l.core (update_matching cmp config target x l).core
  unfolding update_matching
  matching_queues target x l =
      let noted = on_entry cmp target (λ e. matched cmp e x) l in
      queues_then cmp l.core noted.core _ (entry_queues cmp target (λ e. matched cmp e x) l) (try_commit_queues cmp total config (granted_id cmp (is_quorum cmp) noted.leader) noted.core)

  pub success_queues : (target : NID) (id : RequestId) (answer : ReplicationResult NID) (l : Led C NID N E D R S) → Queues cmp l.core (update_success_progress cmp config target id answer l).core
  unfolding update_success_progress update_leader_clock
  success_queues target id answer l = go answer.result (number_of id) where
    clocked : Led C NID N E D R S
    clocked = update_leader_clock cmp target answer.sending_time l

    go : (r : Result (Option (LogId NID)) (LogId NID)) (number : Option ℕ) → (let n = (elim r as (λ _. Led C NID N E D R S) [
      | Ok x ↦ elim number [ None ↦ clocked | Some _ ↦ update_matching cmp config target x clocked ]
      | Err x ↦ update_conflicting cmp target number x clocked
    ]) in Queues cmp l.core n.core)
    go (Ok x) None = self_queues cmp l.core
    go (Ok x) (Some number) = matching_queues target x clocked
    go (Err x) number = conflicting_queues cmp target number x clocked

  reply_queues : {T : Type 0} (target : NID) (id : RequestId) (reply : Result (ReplicationResult NID) T) (l : Led C NID N E D R S) → Queues cmp l.core (take_reply cmp config target id reply l).core
  reply_queues target id (Ok answer) l = success_queues target id answer l
  reply_queues target id (Err _) l = failed_queues cmp target id l

  send_next_queues : (target : NID) (l : Led C NID N E D R S) → Queues cmp l.core (send_next cmp config target l).core
  unfolding send_next
  send_next_queues target l =
      either_option (λ (n : Led C NID N E D R S). Queues cmp l.core n.core) (get cmp l.leader.progress target) l _ (self_queues cmp l.core)
      (λ e.
      let commands = send_commands false target (next_send l.core.state config.max_payload_entries e) in
      silent cmp commands l.core (record l.core { output = queued l.core.output commands }) refl refl refl (send_silent false target (next_send l.core.state config.max_payload_entries e)))

  pub progress_queues : {T : Type 0} (target : NID) (id : RequestId) (reply : Result (ReplicationResult NID) T) (l : Led C NID N E D R S) → Queues cmp l.core (update_progress cmp config target id reply l).core
  unfolding update_progress
  progress_queues target id reply l =
      let taken = take_reply cmp config target id reply l in
      let freed = purge_unless_inflight cmp taken in
      queues_then cmp l.core taken.core _ (reply_queues target id reply l) (queues_then cmp taken.core freed.core _ (unless_queues cmp taken) (send_next_queues target freed))

  -- a reply of which nothing matches leaves the committed id
  success_stays : (target : NID) (id : RequestId) (answer : ReplicationResult NID) (l : Led C NID N E D R S) → answer_matches id answer ≡ false
      → (update_success_progress cmp config target id answer l).core.state.committed ≡ l.core.state.committed
  unfolding update_success_progress update_leader_clock update_conflicting
  success_stays target id answer l t = go answer.result (number_of id) t where
    clocked : Led C NID N E D R S
    clocked = update_leader_clock cmp target answer.sending_time l

    go : (r : Result (Option (LogId NID)) (LogId NID)) (number : Option ℕ) → ◌≡◌ {A = Bool} (elim r [ Ok _ ↦ is_some number | Err _ ↦ false ]) false → (let n = (elim r as (λ _. Led C NID N E D R S) [
      | Ok x ↦ elim number [ None ↦ clocked | Some _ ↦ update_matching cmp config target x clocked ]
      | Err x ↦ update_conflicting cmp target number x clocked
    ]) in n.core.state.committed ≡ l.core.state.committed)
    go (Ok x) None t = refl
    go (Ok x) (Some number) t = cc
    go (Err x) number t = ap (λ (c : Core C NID N E D R S). c.state.committed) (entry_core cmp target (λ e. conflicted e number x.index) clocked)

  failed_stays : (target : NID) (id : RequestId) (l : Led C NID N E D R S) → (update_failed_progress cmp target id l).core.state.committed ≡ l.core.state.committed
  unfolding update_failed_progress
  failed_stays target id l =
      either_option (λ (n : Led C NID N E D R S). n.core.state.committed ≡ l.core.state.committed) (number_of id) l _ refl
      (λ number. ap (λ (c : Core C NID N E D R S). c.state.committed) (entry_core cmp target silenced l))

  reply_stays : {T : Type 0} (target : NID) (id : RequestId) (reply : Result (ReplicationResult NID) T) (l : Led C NID N E D R S) → takes_matching id reply ≡ false
      → (take_reply cmp config target id reply l).core.state.committed ≡ l.core.state.committed
  reply_stays target id (Ok answer) l t = success_stays target id answer l t
  reply_stays target id (Err _) l t = failed_stays target id l

  pub else_stays : {T : Type 0} (target : NID) (id : RequestId) (reply : Result (ReplicationResult NID) T) (l : Led C NID N E D R S) → takes_matching id reply ≡ false
      → (update_progress cmp config target id reply l).core.state.committed ≡ l.core.state.committed
  unfolding update_progress send_next purge_unless_inflight LeavesCommits
  else_stays target id reply l t =
      let taken = take_reply cmp config target id reply l in
      let freed = purge_unless_inflight cmp taken in
      let sent : (send_next cmp config target freed).core.state.committed ≡ freed.core.state.committed =
      either_option (λ (n : Led C NID N E D R S). n.core.state.committed ≡ freed.core.state.committed) (get cmp freed.leader.progress target) freed _ refl (λ e. refl) in
      sent ∙ (try_purge_commits cmp taken.leader.progress.rows taken.core).0 ∙ reply_stays target id reply l t

module _ {C NID N E D R S : Type 0} (cmp : NID → NID → Ordering) (total : IsTotalOrder cmp) (same : (a b : NID) → cmp a b ≡ Equal → a ≡ b) where
  -- what is purged is in the snapshot
  pub purges_within : (c : Core C NID N E D R S) → IsSoundState cmp c.state → PurgesWithin cmp c (purge_log cmp c)
  unfolding purge_log
  purges_within c h = go c.state.purge_to refl where
    nothing : PurgesWithin cmp c c
    nothing = record { added = []; behind = append_none c.output.items; within = tt }

    go : (o : Option (LogId NID)) → c.state.purge_to ≡ o
        → PurgesWithin cmp c (elim o [
          | None ↦ c
          | Some upto ↦ (if is_gt (last_id_cmp cmp (Some upto) c.state.purged) then record { state = purge cmp c.state upto; output = with_command c.output (PurgeLog upto) } else c)
        ])
    go None e = nothing
    go (Some x) e =
        either (PurgesWithin cmp c) (is_gt (last_id_cmp cmp (Some x) c.state.purged)) _ _
        (subst (λ (s : RaftState NID N). PurgesWithin cmp c (record { state = s; output = with_command c.output (PurgeLog x) })) (sym (purge_is cmp total same c.state h x e))
        (record { added = PurgeLog x ∷ []; behind = refl; within = (subst (λ o. is_within cmp o c.state.snap.last_log_id ≡ true) e h.marks.at_target, tt) }))
        nothing

  pub try_within : (rows : List (NID × ProgressEntry NID)) (c : Core C NID N E D R S) → IsSoundState cmp c.state → PurgesWithin cmp c (try_purge_log cmp rows c)
  unfolding try_purge_log
  try_within rows c h =
      either (PurgesWithin cmp c) (is_target_inflight cmp rows c.state) c (purge_log cmp c) (record { added = []; behind = append_none c.output.items; within = tt }) (purges_within c h)

  pub unless_within : (l : Led C NID N E D R S) → IsSoundState cmp l.core.state → PurgesWithin cmp l.core (purge_unless_inflight cmp l).core
  unfolding purge_unless_inflight
  unless_within l h = try_within l.leader.progress.rows l.core h

module _ {C NID N E D R S : Type 0} (cmp : NID → NID → Ordering) (total : IsTotalOrder cmp) (same : (a b : NID) → cmp a b ≡ Equal → a ≡ b) (config : EngineConfig NID) where
  -- once an acknowledgement is taken, the latest is committed
  pub matching_law : (target : NID) (number : ℕ) (x : Option (LogId NID)) (l : Led C NID N E D R S)
      → refusals_of_entry cmp target (λ e. refusals_of_acknowledged cmp l.core.state e number x) l.leader ≡ None → IsSoundLed cmp config l
      → CommitsLatest cmp l.core.state.committed (update_matching cmp config target x l)
  unfolding update_matching
  matching_law target number x l a h =
      let noted = on_entry cmp target (λ e. matched cmp e x) l in
      subst (λ (c : Core C NID N E D R S). CommitsLatest cmp c.state.committed (commit_granted cmp config noted)) (entry_core cmp target (λ e. matched cmp e x) l)
      (granted_law cmp total same config noted (noted_kept cmp total same config target number x l a h))

  -- and so where it comes with the moment of sending
  pub success_law : (target : NID) (id : RequestId) (answer : ReplicationResult NID) (l : Led C NID N E D R S) → answer_matches id answer ≡ true
      → refusals_of_entry cmp target (λ e. refusals_of_answer cmp l.core.state e id answer) l.leader ≡ None → IsSoundLed cmp config l
      → CommitsLatest cmp l.core.state.committed (update_success_progress cmp config target id answer l)
  unfolding update_success_progress update_leader_clock
  success_law target id answer l t a h = go answer.result (number_of id) t a where
    clocked : Led C NID N E D R S
    clocked = update_leader_clock cmp target answer.sending_time l

    go : (r : Result (Option (LogId NID)) (LogId NID)) (number : Option ℕ) → ◌≡◌ {A = Bool} (elim r [ Ok _ ↦ is_some number | Err _ ↦ false ]) true
        → refusals_of_entry cmp target (λ e. elim r as (λ _. Option (EngineError NID N)) [
          | Ok x ↦ elim number [ None ↦ None | Some k ↦ refusals_of_acknowledged cmp l.core.state e k x ]
          | Err x ↦ refusals_of_conflicted e number x.index
        ]) l.leader ≡ None
        → CommitsLatest cmp l.core.state.committed (elim r as (λ _. Led C NID N E D R S) [
          | Ok x ↦ elim number [ None ↦ clocked | Some _ ↦ update_matching cmp config target x clocked ]
          | Err x ↦ update_conflicting cmp target number x clocked
        ])
    go (Ok x) None t a = cc
    go (Ok x) (Some k) t a = matching_law target k x clocked a (clock_kept cmp total same config target answer.sending_time l h)
    go (Err x) number t a = cc

  -- what a reply takes leaves the target's rows alike
  success_alike : (target : NID) (id : RequestId) (answer : ReplicationResult NID) (l : Led C NID N E D R S) → answer_matches id answer ≡ true
      → AreAlike cmp target (update_success_progress cmp config target id answer l).leader.progress.rows
  unfolding update_success_progress update_leader_clock update_matching
  success_alike target id answer l t = go answer.result (number_of id) t where
    clocked : Led C NID N E D R S
    clocked = update_leader_clock cmp target answer.sending_time l

    go : (r : Result (Option (LogId NID)) (LogId NID)) (number : Option ℕ) → ◌≡◌ {A = Bool} (elim r [ Ok _ ↦ is_some number | Err _ ↦ false ]) true
        → (let n = (elim r as (λ _. Led C NID N E D R S) [
          | Ok x ↦ elim number [ None ↦ clocked | Some _ ↦ update_matching cmp config target x clocked ]
          | Err x ↦ update_conflicting cmp target number x clocked
        ]) in AreAlike cmp target n.leader.progress.rows)
    go (Ok x) None t = cc
    go (Ok x) (Some k) t = noted_alike cmp target (λ e. matched cmp e x) clocked
    go (Err x) number t = cc

  -- the purge and the send that follow leave what may be committed
  pub progress_law : {T : Type 0} (target : NID) (id : RequestId) (reply : Result (ReplicationResult NID) T) (l : Led C NID N E D R S) → takes_matching id reply ≡ true
      → refusals_of_entry cmp target (λ e. refusals_of_result cmp l.core.state e id reply) l.leader ≡ None → IsSoundLed cmp config l
      → CommitsLatest cmp l.core.state.committed (update_progress cmp config target id reply l)
  unfolding update_progress purge_unless_inflight LeavesCommits
  progress_law target id (Ok answer) l t a h =
      let taken = update_success_progress cmp config target id answer l in
      let freed = purge_unless_inflight cmp taken in
      let same = try_purge_commits cmp taken.leader.progress.rows taken.core in
      send_commits cmp config l.core.state.committed target freed (success_alike target id answer l t)
      (same_commits cmp l.core.state.committed taken freed refl same.0 same.1 (success_law target id answer l t a h))
  progress_law target id (Err _) l t a h = cc
