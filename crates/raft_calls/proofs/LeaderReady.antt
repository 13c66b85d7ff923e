-- A leader's calls at an event leave its engine ready.
use Rattle.std.specs.Prelude.{ℕ, ◌≡◌, ◌≤◌, ◌==◌, Bool, true, false, not, ◌&&◌, List, [], ◌∷◌, ◌++◌, length, map, Option, None, Some, Result, Ok, Err, IfSome, flat_map, refl, if◌then◌else◌}
use Rattle.std.specs.List.{AllByRecursion}
use Rattle.std.proofs.Common.{sym, subst, arith}
use Rattle.std.proofs.lemmas.Bool.{cond_both}
use Rattle.std.proofs.lemmas.Cmp.{nat_cmp_total}
use Rattle.std.proofs.lemmas.List.{append-nil}
use Rattle.std.specs.declared.cmp.Ordering.{Ordering}
use Rattle.std.specs.declared.cmp.Ordering.TheVariants.{Less, Equal, Greater}
use Rattle.std.specs.Option.{option_map, option_or}
use Rattle.std.specs.Ordering.{is_eq, is_gt, is_le, nat_cmp}
use Rattle.raft_state.specs.declared.ids.LogId.{LogId}
use Rattle.raft_state.specs.declared.ids.Vote.{Vote}
use Rattle.raft_state.specs.declared.membership.StoredMembership.{StoredMembership}
use Rattle.raft_state.specs.declared.state.RaftState.{RaftState}
use Rattle.raft_state.specs.Order.{last_id_cmp, leader_id_cmp, vote_cmp}
use Rattle.raft_state.specs.Policy.{should_snapshot}
use Rattle.raft_state.specs.Same.{nat_same}
use Rattle.raft_state.specs.State.{append_membership, commit, commits, extend, purge}
use Rattle.raft_progress_entry.specs.declared.entry.Inflight.{Inflight}
use Rattle.raft_progress_entry.specs.declared.entry.Inflight.TheVariants as inflight
use Rattle.raft_progress_entry.specs.declared.entry.ProgressEntry.{ProgressEntry}
use Rattle.raft_error.specs.declared.error.EngineError.{EngineError}
use Rattle.raft_error.specs.declared.error.EngineError.TheVariants.{IndexEnd, Spent, UnknownTarget}
use Rattle.raft_progress_entry.specs.Entry.{conflicted, matched, next_send, sent, silenced}
use Rattle.raft_progress.specs.Quorum.{is_quorum}
use Rattle.raft_progress.specs.Table.{get}
use Rattle.raft_command.specs.Push.{committed_upto, ordered, with_command}
use Rattle.raft_command.specs.Queue.{queued}
use Rattle.raft_command.specs.Replication as replication
use Rattle.raft_command.specs.declared.command.Command.TheVariants.{AppendInputEntries, BecomeLeader, Commit, DeleteConflictLog, PurgeLog, QuitLeader, RebuildReplicationStreams, Replicate, ReplicateCommitted, Respond, SaveVote, SendVote, StateMachine}
use Rattle.raft_command.specs.declared.config.EngineConfig.{EngineConfig}
use Rattle.raft_command.specs.declared.replication.ReplicationResult.{ReplicationResult}
use Rattle.raft_command.specs.declared.replication.RequestId.{RequestId}
use Rattle.raft_command.specs.declared.sm.CommandPayload.TheVariants.{BuildSnapshot}
use Rattle.raft_steps.specs.raft_proposer.Leader.{granted_id}
use Rattle.raft_steps.specs.Commit.{commit_by}
use Rattle.raft_steps.specs.raft_proposer.Leader.{assigned}
use Rattle.raft_steps.specs.FollowingHandler.{memberships_in}
use Rattle.raft_steps.specs.Conditions.{MayPropose, may_change_membership, shares_group}
use Rattle.raft_steps.specs.Engine.{as_uncommitted}
use Rattle.raft_steps.specs.Invariants.{IsSound, IsSoundLed, LeaderFits}
use Rattle.raft_steps.specs.LeaderHandler.{joined, last_proposed, leader_append_entries, proposed}
use Rattle.raft_steps.specs.LogHandler.{is_target_inflight, purge_log, try_purge_log}
use Rattle.raft_steps.specs.Parts.{Core, led_in, led_of, leading, on_leader, then_command, under, with_state}
use Rattle.raft_steps.specs.Refusals.{is_spent, refusals_of_counter_led, refusals_of_propose, refusals_of_update_vote}
use Rattle.raft_steps.specs.Replies.{on_entry, purge_unless_inflight, send_next, take_reply, update_conflicting, update_failed_progress, update_leader_clock, update_matching, update_progress, update_success_progress}
use Rattle.raft_steps.specs.ReplicationHandler.{append_membership_led, initiate_replication, is_other, rebuild_progresses, rebuild_replication_streams, send_commands, sends_of, try_commit_quorum_accepted, with_entry}
use Rattle.raft_steps.specs.ReplyRefusals.{refusals_of_entry, refusals_of_progress, refusals_of_result}
use Rattle.raft_steps.specs.SnapshotHandler.{snapshot_where_due, trigger_snapshot}
use Rattle.raft_steps.specs.Starts.{is_settled, leader_step_down, refusals_of_step_down}
use Rattle.raft_steps.specs.VoteHandler.{update_internal_server_state, update_vote}
use Rattle.raft_steps.proofs.Kept.{TakesIds}
use Rattle.raft_steps.proofs.KeptCommit.{leader_append_is_sound}
use Rattle.raft_steps.proofs.KeptEngine.{initiate_is_sound, leading_is_sound, update_vote_is_sound}
use Rattle.raft_steps.proofs.KeptPurge.{progress_kept, progress_sight}
use Rattle.raft_steps.proofs.Sights.{candidate_sees}
use Rattle.raft_steps.proofs.Started.{step_down_is_sound}
use Rattle.raft_steps.proofs.Unrefused.{neither, second_fails, test_fails}
use Rattle.raft_store.specs.declared.entry.Value.{Value}
use Rattle.raft_store.specs.declared.config.WorldConfig.{WorldConfig}
use Rattle.raft_store.specs.declared.entry.Entry.{Entry}
use Rattle.raft_store.specs.Entries.{entry_meaning}
use Rattle.raft_store.specs.Types.{EngineView, WorldCommand, WorldLeader, WorldMachine}
use Rattle.raft_schedule.specs.declared.event.SkipReason.{SkipReason}
use Rattle.raft_schedule.specs.declared.event.SkipReason.TheVariants.{NotOwnVote}
use Rattle.raft_calls.specs.Deliveries.{answered, led_call, progressed, take_append_reply, take_conflict, take_higher_vote, take_result, unled_number, with_machine}
use Rattle.raft_calls.specs.Feeds.{WorldLed, feed_of}
use Rattle.raft_calls.specs.Held.{AllHeld, Held, IsReady}
use Rattle.raft_calls.specs.LeaderCalls.{entries_proposed, entry_proposed, failed, heartbeats_sent, inflight_to, request_of, skip_propose, stepped_down, value_entry}
use Rattle.raft_calls.specs.Memberships.{members_with, membership_entry, skip_change, skip_members, skip_pending}
use Rattle.raft_calls.proofs.Follows.{last_held}
use Rattle.raft_calls.proofs.Stored.{ids_in}
use Rattle.raft_calls.proofs.Grows.{Grown, Silent, grown-none, grown-silent, grown-then, grown_held, initiate-grows, internal-grows, rebuild-grows, silent-append, update_vote-grows}
use Rattle.raft_command.specs.declared.message.AppendEntriesResponse.{AppendEntriesResponse}
use Rattle.raft_command.specs.declared.message.AppendEntriesResponse.TheVariants.{Success, PartialSuccess, Conflict, HigherVote}
use Rattle.raft_calls.specs.declared.message.Origin.{Origin}

abbrev WorldCore : Type 0
WorldCore = Core WorldConfig ℕ (Unit {0}) Entry ℕ ℕ (List Entry)

-- entries more, which one command stores
grown-many : (v : Vote ℕ) (es : List Entry) (c : WorldCore) → Grown c (then_command (with_state c (extend c.state (ids_in es))) (AppendInputEntries v es))
grown-many v es c = record {
  extra = ids_in es;
  more = AppendInputEntries v es ∷ [];
  ids = refl;
  purged = refl;
  items = refl;
  held = (last_held v c.state.ids es, tt);
  stored = append-nil (ids_in es);
  plain = (tt, tt);
}

-- an entry takes the id that it is given
takes : TakesIds entry_meaning
takes e id = (refl, refl)

-- commands that store no entries
abbrev pub Quiet : WorldCommand → Type 0
Quiet (AppendInputEntries _ _) = ⊥
Quiet _ = Unit {0}

abbrev pub AllQuiet : List WorldCommand → Type 0
AllQuiet cs = AllByRecursion Quiet cs

quiet_one : (ids : List (LogId ℕ)) (c : WorldCommand) → Quiet c → Held ids (feed_of c)
quiet_one ids (AppendInputEntries v es) h = absurd h
quiet_one ids (DeleteConflictLog x) h = tt
quiet_one ids (PurgeLog x) h = tt
quiet_one ids (StateMachine c) h = tt
quiet_one ids BecomeLeader h = tt
quiet_one ids QuitLeader h = tt
quiet_one ids (ReplicateCommitted x) h = tt
quiet_one ids (Commit seq already upto) h = tt
quiet_one ids (Replicate target req) h = tt
quiet_one ids (RebuildReplicationStreams targets) h = tt
quiet_one ids (SaveVote v) h = tt
quiet_one ids (SendVote req) h = tt
quiet_one ids (Respond when reply) h = tt

pub quiet_held : (ids : List (LogId ℕ)) (cs : List WorldCommand) → AllQuiet cs → AllHeld ids cs
quiet_held ids [] h = tt
quiet_held ids (c ∷ cs) h = (quiet_one ids c h.0, quiet_held ids cs h.1)

pub quiet-append : (xs ys : List WorldCommand) → AllQuiet xs → AllQuiet ys → AllQuiet (xs ++ ys)
quiet-append [] ys h k = k
quiet-append (x ∷ xs) ys h k = (h.0, quiet-append xs ys h.1 k)

abbrev pub IsQuiet : WorldCore → Type 0
IsQuiet c = AllQuiet c.output.items

module _ (config : EngineConfig ℕ) where
  due-quiet : (c : WorldCore) → IsQuiet c → IsQuiet (snapshot_where_due config c)
  unfolding snapshot_where_due trigger_snapshot
  due-quiet c h =
      cond_both (should_snapshot config.snapshot_policy c.state) (trigger_snapshot c) c IsQuiet
      (λ _. cond_both c.state.building c (record { state = record c.state { building = true }; output = ordered c.output BuildSnapshot }) IsQuiet (λ _. h)
      (λ _. quiet-append c.output.items _ h (tt, tt)))
      (λ _. h)

  try-quiet : (x : Option (LogId ℕ)) (c : WorldCore) → IsQuiet c → IsQuiet (try_commit_quorum_accepted nat_cmp config x c)
  unfolding try_commit_quorum_accepted commit_by
  try-quiet None c h = h
  try-quiet (Some x) c h =
      let after : WorldCore = record { state = commit nat_cmp c.state (Some x); output = committed_upto (queued c.output (ReplicateCommitted (Some x) ∷ [])) c.state.committed x } in
      cond_both (is_eq (leader_id_cmp nat_cmp x.leader_id c.state.vote.leader_id)) (commit_by nat_cmp config (ReplicateCommitted (Some x) ∷ []) (Some x) c) c IsQuiet
      (λ _. cond_both (commits nat_cmp c.state (Some x)) (snapshot_where_due config after) c IsQuiet
      (λ _. due-quiet after (quiet-append (c.output.items ++ ReplicateCommitted (Some x) ∷ []) _ (quiet-append c.output.items (ReplicateCommitted (Some x) ∷ []) h (tt, tt)) (tt, tt)))
      (λ _. h))
      (λ _. h)

  purge-quiet : (c : WorldCore) → IsQuiet c → IsQuiet (purge_log nat_cmp c)
  unfolding purge_log
  purge-quiet c h = go c.state.purge_to where
    go : (o : Option (LogId ℕ)) → (let n = (elim o as (λ _. WorldCore) [
      | None ↦ c
      | Some upto ↦ (if is_gt (last_id_cmp nat_cmp (Some upto) c.state.purged) then record { state = purge nat_cmp c.state upto; output = with_command c.output (PurgeLog upto) } else c)
    ]) in IsQuiet n)
    go None = h
    go (Some x) = cond_both (is_gt (last_id_cmp nat_cmp (Some x) c.state.purged)) (record { state = purge nat_cmp c.state x; output = with_command c.output (PurgeLog x) }) c IsQuiet (λ _. quiet-append c.output.items _ h (tt, tt)) (λ _. h)

  pub try_purge-quiet : (rows : List (ℕ × ProgressEntry ℕ)) (c : WorldCore) → IsQuiet c → IsQuiet (try_purge_log nat_cmp rows c)
  unfolding try_purge_log
  try_purge-quiet rows c h = cond_both (is_target_inflight nat_cmp rows c.state) c (purge_log nat_cmp c) IsQuiet (λ _. h) (λ _. purge-quiet c h)

  entry-quiet : (target : ℕ) (f : ProgressEntry ℕ → ProgressEntry ℕ) (l : WorldLed) → IsQuiet l.core → IsQuiet (on_entry nat_cmp target f l).core
  entry-quiet target f l h = go (get nat_cmp l.leader.progress target) where
    go : (r : Option (ProgressEntry ℕ)) → (let n = (elim r as (λ _. WorldLed) [ None ↦ l | Some e ↦ with_entry nat_cmp l target (f e) ]) in IsQuiet n.core)
    go None = h
    go (Some e) = h

  success-quiet : (target : ℕ) (id : RequestId) (answer : ReplicationResult ℕ) (l : WorldLed) → IsQuiet l.core → IsQuiet (update_success_progress nat_cmp config target id answer l).core
  unfolding update_success_progress update_leader_clock update_matching update_conflicting
  success-quiet target id answer l h = go answer.result (replication.number_of id) where
    clocked : WorldLed
    clocked = update_leader_clock nat_cmp target answer.sending_time l

    go : (r : Result (Option (LogId ℕ)) (LogId ℕ)) (number : Option ℕ)
        → (let n = (elim r as (λ _. WorldLed) [
          | Ok x ↦ elim number [ None ↦ clocked | Some _ ↦ update_matching nat_cmp config target x clocked ]
          | Err x ↦ update_conflicting nat_cmp target number x clocked
        ]) in IsQuiet n.core)
    go (Ok x) None = h
    go (Ok x) (Some i) = let noted : WorldLed = on_entry nat_cmp target (λ e. matched nat_cmp e x) clocked in try-quiet (granted_id nat_cmp (is_quorum nat_cmp) noted.leader) noted.core (entry-quiet target (λ e. matched nat_cmp e x) clocked h)
    go (Err x) number = entry-quiet target (λ e. conflicted e number x.index) clocked h

  reply-quiet : (target : ℕ) (id : RequestId) (reply : Result (ReplicationResult ℕ) (Unit {0})) (l : WorldLed) → IsQuiet l.core → IsQuiet (take_reply nat_cmp config target id reply l).core
  unfolding update_failed_progress
  reply-quiet target id (Ok answer) l h = success-quiet target id answer l h
  reply-quiet target id (Err e) l h = go (replication.number_of id) where
    go : (o : Option ℕ) → (let n = (elim o as (λ _. WorldLed) [ None ↦ l | Some _ ↦ on_entry nat_cmp target silenced l ]) in IsQuiet n.core)
    go None = h
    go (Some i) = entry-quiet target silenced l h

  sends-quiet : (target : ℕ) (r : Result (Inflight ℕ) (Inflight ℕ)) → AllQuiet (send_commands false target r)
  sends-quiet target (Ok f) = (tt, tt)
  sends-quiet target (Err inflight.None) = tt
  sends-quiet target (Err (inflight.Logs i r)) = tt
  sends-quiet target (Err (inflight.Snapshot i r)) = tt

  send_next-quiet : (target : ℕ) (l : WorldLed) → IsQuiet l.core → IsQuiet (send_next nat_cmp config target l).core
  unfolding send_next
  send_next-quiet target l h = go (get nat_cmp l.leader.progress target) where
    go : (r : Option (ProgressEntry ℕ)) → (let n = (elim r as (λ _. WorldLed) [
      | None ↦ l
      | Some e ↦
          let r = next_send l.core.state config.max_payload_entries e in
          under (λ c. record c { output = queued c.output (send_commands false target r) }) (with_entry nat_cmp l target (sent e r))
    ]) in IsQuiet n.core)
    go None = h
    go (Some e) = quiet-append l.core.output.items _ h (sends-quiet target (next_send l.core.state config.max_payload_entries e))

  progress-quiet : (target : ℕ) (id : RequestId) (reply : Result (ReplicationResult ℕ) (Unit {0})) (l : WorldLed) → IsQuiet l.core → IsQuiet (update_progress nat_cmp config target id reply l).core
  unfolding update_progress purge_unless_inflight
  progress-quiet target id reply l h =
      let taken : WorldLed = take_reply nat_cmp config target id reply l in
      send_next-quiet target (purge_unless_inflight nat_cmp taken) (try_purge-quiet taken.leader.progress.rows taken.core (reply-quiet target id reply l h))

  -- with force
  forced_silent : (target : ℕ) (r : Result (Inflight ℕ) (Inflight ℕ)) → Silent (send_commands true target r)
  forced_silent target (Ok f) = (tt, tt)
  forced_silent target (Err inflight.None) = (tt, tt)
  forced_silent target (Err (inflight.Logs i r)) = tt
  forced_silent target (Err (inflight.Snapshot i r)) = tt

  forced_row : (s : RaftState ℕ (Unit {0})) (row : ℕ × ProgressEntry ℕ) → Silent (sends_of nat_cmp config true s row)
  forced_row s row = go (is_other nat_cmp config row) where
    go : (b : Bool) → Silent (if b then send_commands true row.0 (next_send s config.max_payload_entries row.1) else [])
    go true = forced_silent row.0 (next_send s config.max_payload_entries row.1)
    go false = tt

  forced_all : (s : RaftState ℕ (Unit {0})) (rows : List (ℕ × ProgressEntry ℕ)) → Silent (flat_map (sends_of nat_cmp config true s) rows)
  forced_all s [] = tt
  forced_all s (row ∷ rows) = silent-append (sends_of nat_cmp config true s row) _ (forced_row s row) (forced_all s rows)

  heartbeats-grow : (l : WorldLed) → Grown l.core (initiate_replication nat_cmp config true l).core
  unfolding initiate_replication
  heartbeats-grow l = grown-silent l.core (initiate_replication nat_cmp config true l).core _ refl refl refl (forced_all l.core.state l.leader.progress.rows)

  -- a membership takes effect, if there is one
  joined-grows : (o : Option (StoredMembership ℕ (Unit {0}))) (l : WorldLed) → Grown l.core (joined nat_cmp config o l).core
  unfolding append_membership_led rebuild_progresses
  joined-grows None l = grown-none l.core
  joined-grows (Some m) l =
      let tabled : WorldLed = rebuild_progresses nat_cmp (under (λ c. with_state c (append_membership c.state m)) l) in
      let rebuilt : WorldLed = rebuild_replication_streams nat_cmp config tabled in
      grown-then l.core tabled.core _ (grown-silent l.core tabled.core [] refl refl (sym (append-nil l.core.output.items)) tt)
      (grown-then tabled.core rebuilt.core _ (rebuild-grows config tabled) (initiate-grows config rebuilt))

  -- proposed entries
  entries-grow : (es : List Entry) (l : WorldLed) → Grown l.core (leader_append_entries nat_cmp entry_meaning config es l).core
  unfolding leader_append_entries proposed
  entries-grow es l =
      let taken : WorldLed = proposed entry_meaning es l in
      let after : WorldLed = joined nat_cmp config (last_proposed entry_meaning l.leader es) taken in
      cond_both (length es == 0) l (initiate_replication nat_cmp config false after) (λ (q : WorldLed). Grown l.core q.core) (λ _. grown-none l.core)
      (λ _. grown-then l.core taken.core _ (grown-many l.leader.vote (assigned entry_meaning l.leader es) l.core)
      (grown-then taken.core after.core _ (joined-grows (last_proposed entry_meaning l.leader es) taken) (initiate-grows config after)))

  -- stepping down
  step_down-grows : (m : WorldMachine) → Grown m.core (leader_step_down nat_cmp entry_meaning config m).core
  unfolding leader_step_down
  step_down-grows m =
      cond_both (is_settled nat_cmp m.core.state) (update_internal_server_state nat_cmp entry_meaning config m) m (λ (q : WorldMachine). Grown m.core q.core)
      (λ _. internal-grows config m) (λ _. grown-none m.core)

-- the leader, where there is one, may propose the entries
abbrev MayProposeWith : List Entry → EngineView → Option WorldLeader → Type 0
MayProposeWith entries e o = IfSome (option_map {U = WorldLed} (λ (l : WorldLeader). record { leader = l; core = e.machine.core }) o) (λ l. MayPropose nat_cmp entry_meaning l entries)

abbrev pub MayProposeAll : List Entry → EngineView → Type 0
MayProposeAll entries e = IfSome (led_in e.machine) (λ l. MayPropose nat_cmp entry_meaning l entries)

abbrev pub MayProposeIn : Entry → EngineView → Type 0
MayProposeIn entry e = MayProposeAll (entry ∷ []) e

-- a leader that proposes without a reason to skip does it under the node's vote
unskipped_own : (e : EngineView) (l : WorldLeader) → e.machine.leader ≡ Some l → skip_propose e ≡ None → is_eq (vote_cmp nat_cmp l.vote e.machine.core.state.vote) ≡ true
unskipped_own e l is none =
    pick (is_eq (vote_cmp nat_cmp l.vote e.machine.core.state.vote))
    (subst (λ (o : Option WorldLeader). (elim o as (λ _. Option SkipReason) [ None ↦ None | Some l ↦ (if is_eq (vote_cmp nat_cmp l.vote e.machine.core.state.vote) then None else Some NotOwnVote) ]) ≡ None) is none)
  where
    pick : (b : Bool) → ◌≡◌ {A = Option SkipReason} (if b then None else Some NotOwnVote) None → b ≡ true
    pick true q = refl
    pick false q = cc

-- values have no membership among them
pub no_members : (values : List Value) → memberships_in entry_meaning (map value_entry values) ≡ []
no_members [] = refl
no_members (v ∷ values) = no_members values

-- so it may propose values
pub values_may : (values : List Value) (e : EngineView) → skip_propose e ≡ None → MayProposeAll (map value_entry values) e
values_may values e none = go e.machine.leader refl
  where
    go : (o : Option WorldLeader) → e.machine.leader ≡ o → MayProposeWith (map value_entry values) e o
    go None is = tt
    go (Some l) is = record {
      own_vote = unskipped_own e l is none;
      at_most_one = subst (λ (ms : List (StoredMembership ℕ (Unit {0}))). length ms ≤ 1) (sym (no_members values)) (omega arith);
      change = subst (λ (ms : List (StoredMembership ℕ (Unit {0}))). AllByRecursion (λ m. may_change_membership nat_cmp (led_of l e.machine.core.state e.machine.core.output) m.membership ≡ true) ms) (sym (no_members values)) tt;
    }

-- and, without a reason to skip a change, the membership
module _ (groups : List (List ℕ)) (learners : List ℕ) (e : EngineView) where
  not_above : (o : Ordering) → is_gt o ≡ false → is_le o ≡ true
  not_above Less q = refl
  not_above Equal q = refl
  not_above Greater q = cc

  not_false : (b : Bool) → not b ≡ false → b ≡ true
  not_false true q = refl
  not_false false q = cc

  all_hold : (a b c : Bool) → a ≡ true → b ≡ true → c ≡ true → (a && (b && c)) ≡ true
  all_hold true true true p q r = refl
  all_hold true true false p q r = cc
  all_hold true false c p q r = cc
  all_hold false b c p q r = cc

  change_allowed : (l : WorldLeader) → option_or (skip_pending l.noop_log_id e.machine.core.state) (skip_members e.machine.core.state.em.membership groups learners) ≡ None
      → may_change_membership nat_cmp (led_of l e.machine.core.state e.machine.core.output) (members_with groups learners) ≡ true
  change_allowed l none =
      let s = e.machine.core.state in
      let parts = neither (skip_pending l.noop_log_id s) (skip_members s.em.membership groups learners) none in
      let pending = test_fails _ _ _ parts.0 in
      let noop = test_fails _ _ _ pending.1 in
      let shared = test_fails _ _ _ (test_fails _ _ _ parts.1).1 in
      all_hold _ _ _ (not_above (last_id_cmp nat_cmp s.em.log_id s.committed) pending.0) (not_above (last_id_cmp nat_cmp (Some l.noop_log_id) s.committed) noop.0)
      (not_false (shares_group nat_cmp s.em.membership (members_with groups learners)) shared.0)

  pub change_may : skip_change groups learners e ≡ None → MayProposeIn (membership_entry (members_with groups learners)) e
  change_may none = go e.machine.leader refl
    where
      left : (l : WorldLeader) → e.machine.leader ≡ Some l
          → option_or (skip_propose e) (option_or (skip_pending l.noop_log_id e.machine.core.state) (skip_members e.machine.core.state.em.membership groups learners)) ≡ None
      left l is = subst (λ (o : Option WorldLeader). (elim o as (λ _. Option SkipReason) [
        | None ↦ None
        | Some l ↦ option_or (skip_propose e) (option_or (skip_pending l.noop_log_id e.machine.core.state) (skip_members e.machine.core.state.em.membership groups learners))
      ]) ≡ None) is none

      go : (o : Option WorldLeader) → e.machine.leader ≡ o → MayProposeWith (membership_entry (members_with groups learners) ∷ []) e o
      go None is = tt
      go (Some l) is =
          let parts = neither (skip_propose e) _ (left l is) in
          record { own_vote = unskipped_own e l is parts.0; at_most_one = omega arith; change = (change_allowed l parts.1, tt) }

-- an engine after a call of its leader
led_ready : (asks : WorldLed → Option (EngineError ℕ (Unit {0}))) (step : WorldLed → WorldLed) (e : EngineView) → IsReady e
    → ((l : WorldLeader) → e.machine.leader ≡ Some l → asks (led_of l e.machine.core.state e.machine.core.output) ≡ None → IsReady (with_machine e (leading e.machine (step (led_of l e.machine.core.state e.machine.core.output)))))
    → IsReady (led_call asks step e).1
led_ready asks step e h f = go e.machine.leader refl where
  after : Option ℕ × EngineView → EngineView
  after r = r.1

  call : (l : WorldLeader) → e.machine.leader ≡ Some l → (a : Option (EngineError ℕ (Unit {0}))) → asks (led_of l e.machine.core.state e.machine.core.output) ≡ a
      → IsReady (answered a e (with_machine e (leading e.machine (step (led_of l e.machine.core.state e.machine.core.output))))).1
  call l is None a = f l is a
  call l is (Some x) a = h

  go : (o : Option WorldLeader) → e.machine.leader ≡ o → (let r : Option ℕ × EngineView = elim o as (λ _. Option ℕ × EngineView) [
    | None ↦ (Some (unled_number e), e)
    | Some l ↦ answered (asks (led_of l e.machine.core.state e.machine.core.output)) e (with_machine e (leading e.machine (step (led_of l e.machine.core.state e.machine.core.output))))
  ] in IsReady r.1)
  go None is = h
  go (Some l) is = call l is (asks (led_of l e.machine.core.state e.machine.core.output)) refl

module _ (e : EngineView) (h : IsReady e) where
  abbrev led : WorldLeader → WorldLed
  led l = led_of l e.machine.core.state e.machine.core.output

  led_sound : (l : WorldLeader) → e.machine.leader ≡ Some l → IsSoundLed nat_cmp e.config (led l)
  led_sound l is = record { sound = h.sound.sound; leader_fits = subst (λ o. IfSome o (LeaderFits nat_cmp e.config.id e.machine.core.state.ids e.machine.core.state.purged e.machine.core.state.em.membership)) is h.sound.lead.leader_fits }

  -- what holds of the engine after a step of its leader
  stepped : (f : WorldLed → WorldLed) (l : WorldLeader) → e.machine.leader ≡ Some l → IsSound nat_cmp e.config (on_leader f e.machine) → IsSound nat_cmp e.config (leading e.machine (f (led l)))
  stepped f l is k = subst (λ (o : Option WorldLeader). IsSound nat_cmp e.config (elim o as (λ _. WorldMachine) [ None ↦ e.machine | Some l ↦ leading e.machine (f (led l)) ])) is k

  -- entries that the leader may propose
  pub entries_ready : (entries : List Entry) → MayProposeAll entries e → IsReady (entries_proposed entries e).1
  entries_ready entries may =
      led_ready (refusals_of_propose (length entries)) (leader_append_entries nat_cmp entry_meaning e.config entries) e h
      (λ l is asks. record {
        sound = stepped (leader_append_entries nat_cmp entry_meaning e.config entries) l is
            (leader_append_is_sound nat_cmp nat_cmp_total nat_same entry_meaning takes e.config entries l e.machine is
            (subst (λ (o : Option WorldLeader). MayProposeWith entries e o) is may) asks h.sound);
        held = grown_held e.machine.core _ (entries-grow e.config entries (led l)) h.held;
      })

  pub entry_ready : (entry : Entry) → MayProposeIn entry e → IsReady (entry_proposed entry e).1
  entry_ready entry may = entries_ready (entry ∷ []) may

  -- stepping down
  pub stepped_down_ready : IsReady (stepped_down e).1
  stepped_down_ready = go (refusals_of_step_down nat_cmp e.config e.machine) refl where
    go : (o : Option (EngineError ℕ (Unit {0}))) → refusals_of_step_down nat_cmp e.config e.machine ≡ o → IsReady (answered o e (with_machine e (leader_step_down nat_cmp entry_meaning e.config e.machine))).1
    go None asks = record {
      sound = step_down_is_sound nat_cmp nat_cmp_total nat_same entry_meaning takes e.config e.machine asks h.sound;
      held = grown_held e.machine.core _ (step_down-grows e.config e.machine) h.held;
    }
    go (Some x) asks = h

  -- heartbeats
  pub heartbeats_ready : IsReady (heartbeats_sent e).1
  heartbeats_ready =
      led_ready refusals_of_counter_led (initiate_replication nat_cmp e.config true) e h
      (λ l is asks. record {
        sound = stepped (initiate_replication nat_cmp e.config true) l is (initiate_is_sound nat_cmp nat_cmp_total nat_same e.config true e.machine h.sound);
        held = grown_held e.machine.core _ (heartbeats-grow e.config (led l)) h.held;
      })

  -- a higher vote
  pub higher_ready : (v : Vote ℕ) (now : ℕ) → IsReady (take_higher_vote v now e).1
  higher_ready v now = go (refusals_of_update_vote nat_cmp e.config (as_uncommitted v) e.machine) refl where
    go : (o : Option (EngineError ℕ (Unit {0}))) → refusals_of_update_vote nat_cmp e.config (as_uncommitted v) e.machine ≡ o → IsReady (answered o e (with_machine e (update_vote nat_cmp entry_meaning e.config (as_uncommitted v) now e.machine))).1
    go None asks = record {
      sound = update_vote_is_sound nat_cmp nat_cmp_total nat_same entry_meaning takes e.config (as_uncommitted v) now e.machine (second_fails (is_spent e.machine) _ Spent IndexEnd None asks) h.sound;
      held = grown_held e.machine.core _ (update_vote-grows e.config (as_uncommitted v) now e.machine) h.held;
    }
    go (Some x) asks = h

  module _ (queue : e.machine.core.output.items ≡ []) where
    -- a reply, or the failure of a request
    pub progressed_ready : (target : ℕ) (id : RequestId) (reply : Result (ReplicationResult ℕ) (Unit {0})) → IsReady (progressed target id reply e).1
    progressed_ready target id reply =
        led_ready (refusals_of_progress nat_cmp e.config target id reply) (update_progress nat_cmp e.config target id reply) e h
        (λ l is asks.
        let a : refusals_of_entry nat_cmp target (λ p. refusals_of_result nat_cmp e.machine.core.state p id reply) l ≡ None = entry_asks (is_eq (nat_cmp e.config.id target)) _ (neither _ _ asks).1 in
        let n : WorldLed = update_progress nat_cmp e.config target id reply (led l) in
        record {
          sound = leading_is_sound nat_cmp nat_cmp_total nat_same e.config e.machine n (progress_kept nat_cmp nat_cmp_total nat_same e.config target id reply (led l) a (led_sound l is))
              (candidate_sees nat_cmp e.config.id e.machine.core.state n.core.state e.machine.candidate (progress_sight nat_cmp nat_cmp_total nat_same e.config target id reply (led l) a (led_sound l is)) h.sound.lead.candidate_fits);
          held = quiet_held n.core.state.ids n.core.output.items (progress-quiet e.config target id reply (led l) (subst AllQuiet (sym queue) tt));
        })
      where
        entry_asks : (b : Bool) (x : Option (EngineError ℕ (Unit {0}))) → (if b then Some UnknownTarget else x) ≡ None → x ≡ None
        entry_asks b x q = (test_fails b UnknownTarget x q).1

    pub failed_ready : (target : ℕ) → IsReady (failed target e).1
    failed_ready target = progressed_ready target (request_of (inflight_to target e)) (Err tt)

    pub result_ready : (from : ℕ) (o : Origin) (result : Result (Option (LogId ℕ)) (LogId ℕ)) → IsReady (take_result from o result e).1
    result_ready from o result = progressed_ready from o.request_id (Ok (record { sending_time = o.sent_at; result = result }))

    conflict_ready : (from : ℕ) (o : Origin) (prev : Option (LogId ℕ)) → IsReady (take_conflict from o prev e).1
    conflict_ready from o None = h
    conflict_ready from o (Some x) = result_ready from o (Err x)

    -- a reply to an append request
    pub reply_ready : (from : ℕ) (o : Origin) (reply : AppendEntriesResponse ℕ) (prev upto : Option (LogId ℕ)) (now : ℕ) → IsReady (take_append_reply from o reply prev upto now e).1
    reply_ready from o Success prev upto now = result_ready from o (Ok upto)
    reply_ready from o (PartialSuccess x) prev upto now = result_ready from o (Ok x)
    reply_ready from o Conflict prev upto now = conflict_ready from o prev
    reply_ready from o (HigherVote v) prev upto now = higher_ready v now
