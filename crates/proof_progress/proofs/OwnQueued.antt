-- What an engine queues: without a leader it sends no requests; a leader's log ends with an entry of its own, or of a later leader, and
-- before that is stored nothing is sent, and after it nothing that changes the log.
use Rattle.std.proofs.Common.{ℕ, suc, ◌+◌, ◌≡◌, arith, Bool, true, false, not, List, [], ◌∷◌, ◌++◌, refl, sym, ap, ◌∙◌, subst, Option, None, Some, Result, Ok, Err}
use Rattle.std.specs.Prelude.{◌==◌, IfSome, filter, flat_map, if◌then◌else◌, length, map, min, nat_lt}
use Rattle.std.specs.List.{AllByRecursion}
use Rattle.std.specs.Ordering.{is_eq, is_ge, is_gt, is_le, is_lt, nat_cmp}
use Rattle.std.specs.Cmp.{tied_itself}
use Rattle.std.proofs.lemmas.Bool.{and_parts}
use Rattle.std.proofs.lemmas.Bool.Decides.{nat_tests}
use Rattle.std.proofs.lemmas.Cmp.{nat_cmp_total}
use Rattle.proof_deeds.specs.raft_state.declared.ids.LeaderId.{LeaderId}
use Rattle.proof_deeds.specs.raft_state.declared.ids.LogId.{LogId}
use Rattle.proof_deeds.specs.raft_state.declared.ids.Vote.{Vote}
use Rattle.proof_deeds.specs.raft_state.declared.membership.SnapshotMeta.{SnapshotMeta}
use Rattle.proof_deeds.specs.raft_state.declared.membership.StoredMembership.{StoredMembership}
use Rattle.proof_deeds.specs.raft_state.declared.state.ServerState.{ServerState}
use Rattle.proof_deeds.specs.raft_state.declared.state.ServerState.TheVariants as role
use Rattle.proof_deeds.specs.raft_state.Log.{at, last}
use Rattle.proof_deeds.specs.raft_state.Order.{last_id_cmp, leader_id_cmp, next, vote_cmp}
use Rattle.proof_deeds.specs.raft_state.Policy.{should_snapshot}
use Rattle.proof_deeds.specs.raft_state.Same.{leader_id_same, nat_same}
use Rattle.proof_deeds.specs.raft_state.State.{accept, append_membership, by_last_leader, commit, commits, has_log_id, is_leader, is_leading, truncate, undoes_membership}
use Rattle.proof_deeds.proofs.raft_state_proofs.LogLists.{each_append}
use Rattle.proof_deeds.proofs.raft_state_proofs.Orders.{is_equal, last_total, le_of_not_lt, le_refl, leader_total}
use Rattle.proof_deeds.specs.raft_progress_entry.declared.entry.Inflight.{Inflight}
use Rattle.proof_deeds.specs.raft_progress_entry.declared.entry.Inflight.TheVariants as inflight
use Rattle.proof_deeds.specs.raft_progress_entry.declared.entry.ProgressEntry.{ProgressEntry}
use Rattle.proof_deeds.specs.raft_progress_entry.Entry.{conflicted, matched, next_send, silenced}
use Rattle.proof_deeds.specs.raft_progress.Quorum.{is_quorum}
use Rattle.proof_deeds.specs.raft_progress.Table.{get}
use Rattle.proof_deeds.specs.raft_command.declared.command.Command.TheVariants as command
use Rattle.proof_deeds.specs.raft_command.declared.config.EngineConfig.{EngineConfig}
use Rattle.proof_deeds.specs.raft_command.declared.message.Token.{Token}
use Rattle.proof_deeds.specs.raft_command.declared.message.VoteRequest.{VoteRequest}
use Rattle.proof_deeds.specs.raft_command.declared.message.VoteResponse.{VoteResponse}
use Rattle.proof_deeds.specs.raft_command.declared.replication.ReplicationResult.{ReplicationResult}
use Rattle.proof_deeds.specs.raft_command.declared.replication.RequestId.{RequestId}
use Rattle.proof_deeds.specs.raft_command.declared.sm.CommandPayload.TheVariants as payload
use Rattle.proof_deeds.specs.raft_command.Push.{committed_upto, ordered, with_command}
use Rattle.proof_deeds.specs.raft_command.Queue.{queued}
use Rattle.proof_deeds.specs.raft_command.Replication.{number_of}
use Rattle.proof_deeds.specs.raft_proposer.Candidate.{as_committed, candidate_of, grant_by, into_leader, is_granted}
use Rattle.proof_deeds.specs.raft_proposer.Leader.{assigned, granted_id, leader_in}
use Rattle.proof_deeds.specs.raft_steps.Commit.{commit_by}
use Rattle.proof_deeds.specs.raft_steps.Engine.{as_uncommitted, default_log_id, elect, handle_vote_resp, initialize, is_granted_to, lead_by_votes, may_establish, take_grant, take_rejection}
use Rattle.proof_deeds.specs.raft_steps.EstablishHandler.{outvotes}
use Rattle.proof_deeds.specs.raft_steps.FollowingHandler.{commit_entries, commit_target, do_append_entries, ensure_log_consecutive, holds_previous, memberships_in, new_entries, truncate_for, truncate_logs, with_entries}
use Rattle.proof_deeds.specs.raft_steps.FollowingHandler as following
use Rattle.proof_deeds.specs.raft_steps.Installs.{handle_install_full_snapshot, has_other_at, held_upto, install_and_reply, install_full_snapshot, install_upto, installs, replaces_log, reply_install, truncate_contradicted, with_memberships_of}
use Rattle.proof_deeds.specs.raft_steps.Laws.{later}
use Rattle.proof_deeds.specs.raft_steps.LeaderHandler.{joined, last_proposed, leader_append_entries, proposed}
use Rattle.proof_deeds.specs.raft_steps.LogHandler.{is_target_inflight, purge_log, schedule_policy_based_purge, try_purge_log, update_purge_upto}
use Rattle.proof_deeds.specs.raft_steps.Parts.{leading, on_core, on_leader, then_command, under, with_state}
use Rattle.proof_deeds.specs.raft_steps.Refusals.{rows_in}
use Rattle.proof_deeds.specs.raft_steps.Replies.{on_entry, purge_unless_inflight, send_next, take_reply, update_conflicting, update_failed_progress, update_leader_clock, update_matching, update_progress, update_success_progress}
use Rattle.proof_deeds.specs.raft_steps.ReplicationHandler.{append_membership_led, commit_granted, initiate_replication, is_other, own_matched, rebuild_progresses, rebuild_replication_streams, send_commands, sends_of, silenced_row, update_local_progress, with_entry}
use Rattle.proof_deeds.specs.raft_steps.Requests.{append_entries, follow, handle_append_entries, handle_commit_entries, handle_vote_req, refuses_vote_req}
use Rattle.proof_deeds.specs.raft_steps.ServerStateHandler.{role_commands, update_role}
use Rattle.proof_deeds.specs.raft_steps.SnapshotCalls.{built, finish_building_snapshot, trigger_purge_log}
use Rattle.proof_deeds.specs.raft_steps.SnapshotHandler.{is_newer_snapshot, snapshot_where_due, trigger_snapshot, update_snapshot}
use Rattle.proof_deeds.specs.raft_steps.Starts.{is_settled, lead_on, leader_step_down, startup}
use Rattle.proof_deeds.specs.raft_steps.VoteHandler.{become_following, become_leader, begin_lead, lead_anew, rejects_vote, take_vote, update_internal_server_state, update_vote}
use Rattle.proof_deeds.proofs.raft_steps_proofs.EntryLaws.{log_le_leader}
use Rattle.proof_deeds.proofs.raft_steps_proofs.Kept.{either, either_option}
use Rattle.proof_deeds.proofs.raft_steps_proofs.KeptFollow.{heard_case}
use Rattle.proof_deeds.proofs.raft_steps_proofs.LawsQueue.{append_append, append_none}
use Rattle.proof_deeds.proofs.raft_steps_proofs.Leads.{vote_same}
use Rattle.proof_deeds.specs.raft_store.declared.config.WorldConfig.{WorldConfig}
use Rattle.proof_deeds.specs.raft_store.declared.entry.Entry.{Entry}
use Rattle.proof_deeds.specs.raft_store.Entries.{entry_meaning}
use Rattle.proof_deeds.specs.raft_store.Types.{WorldCandidate, WorldCommand, WorldLeader, WorldMachine, WorldPayload, WorldSnapshot}
use Rattle.proof_deeds.specs.raft_calls.Feeds.{WorldLed}
use Rattle.proof_deeds.proofs.raft_calls_proofs.Falls.{WorldCore}
use Rattle.proof_progress.proofs.LeaderStarts.{blank_own}
use Rattle.proof_progress.proofs.LedQueue.{IsLedCommand, LedQueues, before_sent, granted_queues}

-- Commands

-- the command sends no request to other nodes
abbrev pub NoSend : WorldCommand → Type 0
NoSend (command.Replicate target f) = ⊥
NoSend (command.ReplicateCommitted x) = ⊥
NoSend _ = Unit {0}

abbrev pub NoInstall : WorldPayload → Type 0
NoInstall (payload.InstallFullSnapshot s) = ⊥
NoInstall _ = Unit {0}

-- the command leaves the stored vote and the whole log
abbrev pub NoStore : WorldCommand → Type 0
NoStore (command.SaveVote v) = ⊥
NoStore (command.AppendInputEntries v es) = ⊥
NoStore (command.DeleteConflictLog since) = ⊥
NoStore (command.StateMachine c) = NoInstall c.payload
NoStore _ = Unit {0}

-- some commands that send nothing, and then some that leave vote and log
pub record OwnFirst (cs : List WorldCommand) : Type 0 where
  pub before : List WorldCommand
  pub after : List WorldCommand
  pub is : cs ≡ before ++ after
  pub unsent : AllByRecursion NoSend before
  pub unstored : AllByRecursion NoStore after

-- a log ends with an entry of this leader id, or of a later one
abbrev pub EndsBy : LeaderId ℕ → Option (LogId ℕ) → Type 0
EndsBy d None = ⊥
EndsBy d (Some x) = is_le (leader_id_cmp nat_cmp d x.leader_id) ≡ true

-- a leader's log ends so
abbrev pub HasOwn : WorldLeader → Type 0
HasOwn l = EndsBy l.vote.leader_id l.last_log_id

-- what an engine with this leader, or none, has queued
abbrev pub SendsOwn : Option WorldLeader → List WorldCommand → Type 0
SendsOwn None cs = AllByRecursion NoSend cs
SendsOwn (Some l) cs = HasOwn l × OwnFirst cs

abbrev pub Unsent : WorldCore → Type 0
Unsent c = AllByRecursion NoSend c.output.items

abbrev pub InOrder : WorldMachine → Type 0
InOrder m = SendsOwn m.leader m.core.output.items

abbrev pub LedInOrder : WorldLed → Type 0
LedInOrder l = HasOwn l.leader × OwnFirst l.core.output.items

unsent_first : (cs : List WorldCommand) → AllByRecursion NoSend cs → OwnFirst cs
unsent_first cs h = record { before = cs; after = []; is = append_none cs; unsent = h; unstored = tt }

unstored_first : (cs : List WorldCommand) → AllByRecursion NoStore cs → OwnFirst cs
unstored_first cs h = record { before = []; after = cs; is = refl; unsent = tt; unstored = h }

first_more : (xs ys : List WorldCommand) → AllByRecursion NoStore ys → OwnFirst xs → OwnFirst (xs ++ ys)
first_more xs ys h k = record {
  before = k.before;
  after = k.after ++ ys;
  is = ap (λ zs. zs ++ ys) k.is ∙ append_append k.before k.after ys;
  unsent = k.unsent;
  unstored = each_append NoStore k.after ys k.unstored h;
}

-- a queue that sends nothing is in order, whoever leads
pub unsent_own : (o : Option WorldLeader) (cs : List WorldCommand) → IfSome o HasOwn → AllByRecursion NoSend cs → SendsOwn o cs
unsent_own None cs h k = k
unsent_own (Some l) cs h k = (h, unsent_first cs k)

-- a command that neither sends nor stores
abbrev pub Plain : WorldCommand → Type 0
Plain c = NoSend c × NoStore c

plain_unsent : (xs : List WorldCommand) → AllByRecursion Plain xs → AllByRecursion NoSend xs
plain_unsent [] h = tt
plain_unsent (x ∷ xs) h = (h.0.0, plain_unsent xs h.1)

plain_unstored : (xs : List WorldCommand) → AllByRecursion Plain xs → AllByRecursion NoStore xs
plain_unstored [] h = tt
plain_unstored (x ∷ xs) h = (h.0.1, plain_unstored xs h.1)

-- with such commands behind it
pub plain_more : (o : Option WorldLeader) (xs ys : List WorldCommand) → AllByRecursion Plain ys → SendsOwn o xs → SendsOwn o (xs ++ ys)
plain_more None xs ys h s = each_append NoSend xs ys s (plain_unsent ys h)
plain_more (Some l) xs ys h s = (s.0, first_more xs ys (plain_unstored ys h) s.1)

role_plain : (a b : ServerState) → AllByRecursion Plain (role_commands a b)
role_plain role.Leader role.Leader = tt
role_plain role.Leader role.Candidate = ((tt, tt), tt)
role_plain role.Leader role.Follower = ((tt, tt), tt)
role_plain role.Leader role.Learner = ((tt, tt), tt)
role_plain role.Candidate role.Leader = ((tt, tt), tt)
role_plain role.Candidate role.Candidate = tt
role_plain role.Candidate role.Follower = tt
role_plain role.Candidate role.Learner = tt
role_plain role.Follower role.Leader = ((tt, tt), tt)
role_plain role.Follower role.Candidate = tt
role_plain role.Follower role.Follower = tt
role_plain role.Follower role.Learner = tt
role_plain role.Learner role.Leader = ((tt, tt), tt)
role_plain role.Learner role.Candidate = tt
role_plain role.Learner role.Follower = tt
role_plain role.Learner role.Learner = tt

-- Steps that neither send nor store, whoever leads
module _ (o : Option WorldLeader) where
  abbrev On : WorldCore → Type 0
  On c = SendsOwn o c.output.items

  pub then_plain : (c : WorldCore) (x : WorldCommand) → Plain x → On c → On (then_command c x)
  then_plain c x h s = plain_more o c.output.items (x ∷ []) (h, tt) s

  pub trigger_on : (c : WorldCore) → On c → On (trigger_snapshot c)
  unfolding trigger_snapshot
  trigger_on c h = either On c.state.building _ _ h (plain_more o c.output.items (command.StateMachine (record { seq = c.output.seq + 1; payload = payload.BuildSnapshot }) ∷ []) ((tt, tt), tt) h)

  purge_on : (c : WorldCore) → On c → On (purge_log nat_cmp c)
  unfolding purge_log
  purge_on c h = either_option On c.state.purge_to c _ h (λ x. either On (is_gt (last_id_cmp nat_cmp (Some x) c.state.purged)) _ _ (then_plain c (command.PurgeLog x) (tt, tt) h) h)

  try_purge_on : (rows : List (ℕ × ProgressEntry ℕ)) (c : WorldCore) → On c → On (try_purge_log nat_cmp rows c)
  unfolding try_purge_log
  try_purge_on rows c h = either On (is_target_inflight nat_cmp rows c.state) c _ h (purge_on c h)

  module _ (config : EngineConfig ℕ) where
    recorded_on : (rows : List (ℕ × ProgressEntry ℕ)) (meta : SnapshotMeta ℕ (Unit {0})) (c : WorldCore) → On c → On (try_purge_log nat_cmp rows (schedule_policy_based_purge nat_cmp config (update_snapshot nat_cmp meta c)))
    unfolding update_snapshot schedule_policy_based_purge
    recorded_on rows meta c h =
        try_purge_on rows (schedule_policy_based_purge nat_cmp config (update_snapshot nat_cmp meta c)) (either On (is_newer_snapshot nat_cmp c.state meta) _ _ h h)

    role_on : (c : WorldCore) → On c → On (update_role nat_cmp config c)
    unfolding update_role
    role_on c h = plain_more o c.output.items _ (role_plain c.state.role _) h

    commit_on : (x : Option (LogId ℕ)) (c : WorldCore) → On c → On (commit_by nat_cmp config [] x c)
    unfolding commit_by snapshot_where_due
    commit_on None c h = h
    commit_on (Some x) c h =
        let after : WorldCore = record { state = commit nat_cmp c.state (Some x); output = committed_upto (queued c.output []) c.state.committed x } in
        let q : On after = plain_more o (queued c.output []).items _ ((tt, tt), tt) (plain_more o c.output.items [] tt h) in
        either On (commits nat_cmp c.state (Some x)) _ _ (either On (should_snapshot config.snapshot_policy after.state) _ _ (trigger_on after q) q) h

-- Without a leader
module _ (config : EngineConfig ℕ) where
  then_unsent : (c : WorldCore) (x : WorldCommand) → NoSend x → Unsent c → Unsent (then_command c x)
  then_unsent c x n h = each_append NoSend c.output.items (x ∷ []) h (n, tt)

  role_kept : (c : WorldCore) → Unsent c → Unsent (update_role nat_cmp config c)
  role_kept c h = role_on None config c h

  truncate_kept : (i : ℕ) (c : WorldCore) → Unsent c → Unsent (truncate_logs nat_cmp config i c)
  unfolding truncate_logs
  truncate_kept i c h =
      either_option Unsent (at c.state.ids i) _ _ h
      (λ first.
      let cut : WorldCore = record { state = truncate c.state i; output = with_command c.output (command.DeleteConflictLog first) } in
      let q : Unsent cut = then_unsent c (command.DeleteConflictLog first) tt h in
      either Unsent (not (undoes_membership c.state i)) _ _ q (role_kept cut q))

  do_append_kept : (es : List Entry) (c : WorldCore) → Unsent c → Unsent (do_append_entries nat_cmp entry_meaning config es c)
  unfolding do_append_entries
  do_append_kept es c h =
      let taken : WorldCore = with_state c (with_entries entry_meaning c.state es) in
      let settled : WorldCore = if length (memberships_in entry_meaning es) == 0 then taken else update_role nat_cmp config taken in
      either Unsent (length es == 0) _ _ h
      (then_unsent settled (command.AppendInputEntries c.state.vote es) tt (either Unsent (length (memberships_in entry_meaning es) == 0) _ _ h (role_kept taken h)))

  truncate_for_kept : (es : List Entry) (c : WorldCore) → Unsent c → Unsent (truncate_for nat_cmp entry_meaning config es c)
  truncate_for_kept [] c h = h
  truncate_for_kept (e ∷ es) c h = truncate_kept (entry_meaning.id_of e).index c h

  follow_kept : (prev : Option (LogId ℕ)) (es : List Entry) (c : WorldCore) → Unsent c → Unsent (follow nat_cmp entry_meaning config prev es c)
  unfolding follow following.append_entries ensure_log_consecutive
  follow_kept prev es c h =
      let noted = with_state c (accept nat_cmp c.state (later nat_cmp prev (last (map entry_meaning.id_of es)))) in
      let new = new_entries nat_cmp entry_meaning c.state es in
      either Unsent (holds_previous nat_cmp c.state prev) _ _ (do_append_kept new (truncate_for nat_cmp entry_meaning config new noted) (truncate_for_kept new noted h)) (cut prev)
    where
      cut : (prev : Option (LogId ℕ)) → Unsent (ensure_log_consecutive nat_cmp config prev c)
      cut None = h
      cut (Some x) = either Unsent (has_log_id nat_cmp c.state x) _ _ h (truncate_kept x.index c h)

  install_upto_kept : (x : LogId ℕ) (snapshot : WorldSnapshot) (c : WorldCore) → Unsent c → Unsent (install_upto nat_cmp config x snapshot c)
  unfolding install_upto
  install_upto_kept x snapshot c h =
      let begun : WorldCore = with_state c (record c.state { snap = snapshot.meta }) in
      let cut : WorldCore = truncate_contradicted nat_cmp config x begun in
      let held : WorldCore = with_state cut (with_memberships_of snapshot.meta.last_membership x (replaces_log nat_cmp c.state x) (held_upto nat_cmp x cut.state)) in
      let settled : WorldCore = update_role nat_cmp config held in
      let queuing : WorldCore = record settled { output = ordered settled.output (payload.InstallFullSnapshot snapshot) } in
      let q : Unsent cut = either Unsent (has_other_at nat_cmp begun.state x) _ _ (truncate_kept x.index begun h) h in
      purge_on None (update_purge_upto (Some x) queuing)
      (each_append NoSend settled.output.items (command.StateMachine (record { seq = settled.output.seq + 1; payload = payload.InstallFullSnapshot snapshot }) ∷ []) (role_kept held q) (tt, tt))

  install_kept : (snapshot : WorldSnapshot) (c : WorldCore) → Unsent c → Unsent (install_full_snapshot nat_cmp config snapshot c)
  unfolding install_full_snapshot
  install_kept snapshot c h =
      either_option Unsent snapshot.meta.last_log_id _ _ h (λ x. either Unsent (installs nat_cmp c.state snapshot.meta) _ _ (install_upto_kept x snapshot c h) h)

-- A leader sends
module _ (config : EngineConfig ℕ) where
  send_unstored : (force : Bool) (target : ℕ) (r : Result (Inflight ℕ) (Inflight ℕ)) → AllByRecursion NoStore (send_commands force target r)
  send_unstored force target (Ok f) = (tt, tt)
  send_unstored true target (Err inflight.None) = (tt, tt)
  send_unstored false target (Err inflight.None) = tt
  send_unstored force target (Err (inflight.Logs id range)) = tt
  send_unstored force target (Err (inflight.Snapshot id upto)) = tt

  sends_unstored : (force : Bool) (s : _) (rows : List (ℕ × ProgressEntry ℕ)) → AllByRecursion NoStore (flat_map (sends_of nat_cmp config force s) rows)
  sends_unstored force s [] = tt
  sends_unstored force s (r ∷ rs) =
      each_append NoStore (sends_of nat_cmp config force s r) (flat_map (sends_of nat_cmp config force s) rs)
      (either (AllByRecursion NoStore) (is_other nat_cmp config r) _ _ (send_unstored force r.0 (next_send s config.max_payload_entries r.1)) tt) (sends_unstored force s rs)

  pub initiates : (force : Bool) (l : WorldLed) → LedInOrder l → LedInOrder (initiate_replication nat_cmp config force l)
  unfolding initiate_replication
  initiates force l h = (h.0, first_more l.core.output.items (flat_map (sends_of nat_cmp config force l.core.state) l.leader.progress.rows) (sends_unstored force l.core.state l.leader.progress.rows) h.1)

  rebuilds : (l : WorldLed) → LedInOrder l → LedInOrder (rebuild_replication_streams nat_cmp config l)
  unfolding rebuild_replication_streams
  rebuilds l h = (h.0, first_more l.core.output.items (command.RebuildReplicationStreams (filter (is_other nat_cmp config) (map (silenced_row nat_cmp config) l.leader.progress.rows)) ∷ []) (tt, tt) h.1)

  joins : (m : StoredMembership ℕ (Unit {0})) (l : WorldLed) → LedInOrder l → LedInOrder (append_membership_led nat_cmp config m l)
  unfolding append_membership_led rebuild_progresses
  joins m l h =
      let taken : WorldLed = rebuild_progresses nat_cmp (under (λ c. with_state c (append_membership c.state m)) l) in
      initiates false (rebuild_replication_streams nat_cmp config taken) (rebuilds taken h)

  -- a leader that has sent nothing appends entries of its own
  pub leader_appends : (e : Entry) (es : List Entry) (l : WorldLed) → Unsent l.core → LedInOrder (leader_append_entries nat_cmp entry_meaning config (e ∷ es) l)
  unfolding leader_append_entries proposed
  leader_appends e es l h =
      let taken : WorldLed = proposed entry_meaning (e ∷ es) l in
      let t : LedInOrder taken = (
        le_refl (leader_total nat_cmp nat_cmp_total) l.leader.vote.leader_id,
        unsent_first (l.core.output.items ++ command.AppendInputEntries l.leader.vote (assigned entry_meaning l.leader (e ∷ es)) ∷ []) (each_append NoSend l.core.output.items (command.AppendInputEntries l.leader.vote (assigned entry_meaning l.leader (e ∷ es)) ∷ []) h (tt, tt)),
      ) in
      go (length (e ∷ es) == 0) (some e es) _
      (initiates false (joined nat_cmp config (last_proposed entry_meaning l.leader (e ∷ es)) taken)
      (either_option LedInOrder (last_proposed entry_meaning l.leader (e ∷ es)) taken (λ m. append_membership_led nat_cmp config m taken) t (λ m. joins m taken t)))
    where
      some : (x : Entry) (xs : List Entry) → (length (x ∷ xs) == 0) ≡ false
      some x xs = let z : (suc (length xs) == 0) ≡ false = grind (arith, nat_tests) in z

      go : (b : Bool) → b ≡ false → (n : WorldLed) → LedInOrder n → LedInOrder (if b then l else n)
      go true e n k = cc
      go false e n k = k

  -- without any it appends nothing
  appends_none : (l : WorldLed) → HasOwn l.leader → Unsent l.core → LedInOrder (leader_append_entries nat_cmp entry_meaning config [] l)
  unfolding leader_append_entries
  appends_none l own h = (own, unsent_first l.core.output.items h)

  pub leader_appends_any : (es : List Entry) (l : WorldLed) → HasOwn l.leader → Unsent l.core → LedInOrder (leader_append_entries nat_cmp entry_meaning config es l)
  leader_appends_any [] l own h = appends_none l own h
  leader_appends_any (e ∷ es) l own h = leader_appends e es l h

-- Votes

-- a log that isn't below a no-op entry's id ends with an entry of its leader, or of a later one
ends_past : (x : Option (LogId ℕ)) (y : LogId ℕ) → is_lt (last_id_cmp nat_cmp x (Some y)) ≡ false → EndsBy y.leader_id x
ends_past None y h = cc
ends_past (Some x) y h = log_le_leader nat_cmp y x (le_of_not_lt (last_total nat_cmp nat_cmp_total) (Some x) (Some y) h)

module _ (config : EngineConfig ℕ) where
  begins : (l : WorldLed) → (l.leader.noop_log_id.leader_id ≡ l.leader.vote.leader_id) → Unsent l.core → LedInOrder (begin_lead nat_cmp entry_meaning config l)
  unfolding begin_lead rebuild_replication_streams
  begins l own h = go (is_lt (last_id_cmp nat_cmp l.leader.last_log_id (Some l.leader.noop_log_id))) refl
    where
      led : WorldLed
      led = rebuild_replication_streams nat_cmp config (under (update_role nat_cmp config) l)

      k : Unsent (rebuild_replication_streams nat_cmp config (under (update_role nat_cmp config) l)).core
      k = then_unsent config (update_role nat_cmp config l.core) _ tt (role_kept config l.core h)

      go : (b : Bool) → is_lt (last_id_cmp nat_cmp l.leader.last_log_id (Some l.leader.noop_log_id)) ≡ b
          → LedInOrder (if b then leader_append_entries nat_cmp entry_meaning config (entry_meaning.blank l.leader.noop_log_id ∷ []) (rebuild_replication_streams nat_cmp config (under (update_role nat_cmp config) l)) else rebuild_replication_streams nat_cmp config (under (update_role nat_cmp config) l))
      go true e = leader_appends config (entry_meaning.blank l.leader.noop_log_id) [] (rebuild_replication_streams nat_cmp config (under (update_role nat_cmp config) l)) k
      go false e = (subst (λ d. EndsBy d l.leader.last_log_id) own (ends_past l.leader.last_log_id l.leader.noop_log_id e), unsent_first _ k)

  leads_anew : (m : WorldMachine) → Unsent m.core → InOrder (lead_anew nat_cmp entry_meaning config m)
  unfolding lead_anew
  leads_anew m h =
      begins (record { leader = leader_in nat_cmp m.core.state.vote m.core.state.em.membership (by_last_leader nat_cmp m.core.state.ids); core = m.core })
      (blank_own m.core.state.vote (by_last_leader nat_cmp m.core.state.ids)) h

  -- whoever leads, and whatever vote was taken
  leads : (m : WorldMachine) → IfSome m.leader HasOwn → Unsent m.core → InOrder (become_leader nat_cmp entry_meaning config m)
  unfolding become_leader
  leads m own h = go m.leader own
    where
      machine_in : WorldMachine → WorldMachine
      machine_in x = x

      by : (l : WorldLeader) (b : Bool) → is_eq (leader_id_cmp nat_cmp l.vote.leader_id m.core.state.vote.leader_id) ≡ b → HasOwn l
          → InOrder (if b then on_core (update_role nat_cmp config) (record m { leader = Some (record l { vote = m.core.state.vote }) }) else lead_anew nat_cmp entry_meaning config m)
      by l true e k =
          let same : l.vote.leader_id ≡ m.core.state.vote.leader_id = leader_id_same nat_cmp nat_same l.vote.leader_id m.core.state.vote.leader_id (is_equal _ e) in
          (subst (λ d. EndsBy d l.last_log_id) same k, unsent_first _ (role_kept config m.core h))
      by l false e k = leads_anew m h

      go : (o : Option WorldLeader) → IfSome o HasOwn
          → InOrder (elim o as (λ _. WorldMachine) [
            | None ↦ lead_anew nat_cmp entry_meaning config m
            | Some l ↦
                (if is_eq (leader_id_cmp nat_cmp l.vote.leader_id m.core.state.vote.leader_id) then on_core (update_role nat_cmp config) (record m { leader = Some (record l { vote = m.core.state.vote }) })
                else lead_anew nat_cmp entry_meaning config m)
          ])
      go None k = leads_anew m h
      go (Some l) k = by l (is_eq (leader_id_cmp nat_cmp l.vote.leader_id m.core.state.vote.leader_id)) refl k

  pub internal_own : (m : WorldMachine) → IfSome m.leader HasOwn → Unsent m.core → InOrder (update_internal_server_state nat_cmp entry_meaning config m)
  unfolding update_internal_server_state become_following
  internal_own m own h =
      either InOrder (is_leader nat_cmp m.core.state config.id) _ _ (leads m own h)
      (either InOrder (is_leading nat_cmp m.core.state config.id) _ _ (unsent_own m.leader m.core.output.items own h) (role_kept config m.core h))

  taken_kept : (v : Vote ℕ) (now : ℕ) (c : WorldCore) → Unsent c → Unsent (take_vote nat_cmp config v now c)
  taken_kept v now c h = either Unsent (is_gt (vote_cmp nat_cmp v c.state.vote)) _ _ (each_append NoSend c.output.items (command.SaveVote v ∷ []) h (tt, tt)) h

  pub vote_own : (v : Vote ℕ) (now : ℕ) (m : WorldMachine) → IfSome m.leader HasOwn → Unsent m.core → InOrder (update_vote nat_cmp entry_meaning config v now m)
  unfolding update_vote
  vote_own v now m own h =
      either InOrder (rejects_vote nat_cmp m.core.state v) _ _ (unsent_own m.leader m.core.output.items own h)
      (internal_own (on_core (take_vote nat_cmp config v now) m) own (taken_kept v now m.core h))

  -- what a leader of another node sends: if its vote is adopted, the node follows
  heard_unled : (v : Vote ℕ) (now : ℕ) (m : WorldMachine) → rejects_vote nat_cmp m.core.state v ≡ false → is_eq (nat_cmp v.leader_id.node_id config.id) ≡ false → (update_vote nat_cmp entry_meaning config v now m).leader ≡ None
  heard_unled v now m low other = heard_case nat_cmp nat_cmp_total nat_same entry_meaning config (λ n. n.leader ≡ None) v now m low other (λ r q. refl)

  heard_unsent : (v : Vote ℕ) (now : ℕ) (m : WorldMachine) → IfSome m.leader HasOwn → Unsent m.core → rejects_vote nat_cmp m.core.state v ≡ false → is_eq (nat_cmp v.leader_id.node_id config.id) ≡ false
      → Unsent (update_vote nat_cmp entry_meaning config v now m).core
  heard_unsent v now m own h low other =
      let n : WorldMachine = update_vote nat_cmp entry_meaning config v now m in
      subst (λ o. SendsOwn o n.core.output.items) (heard_unled v now m low other) (vote_own v now m own h)

  -- Elections

  pub elect_own : (now : ℕ) (m : WorldMachine) → IfSome m.leader HasOwn → Unsent m.core → InOrder (elect nat_cmp entry_meaning config now m)
  unfolding elect
  elect_own now m own h =
      let s = m.core.state in
      let v : Vote ℕ = record { leader_id = record { term = s.vote.leader_id.term + 1; node_id = config.id }; committed = false } in
      let standing : WorldMachine = record m { candidate = Some (candidate_of nat_cmp now v (last s.ids) s.em.membership) } in
      let voted : WorldMachine = update_vote nat_cmp entry_meaning config v now standing in
      let ask : WorldCommand = command.SendVote (record { vote = v; last_log_id = last s.ids }) in
      role_on voted.leader config (then_command voted.core ask) (then_plain voted.leader voted.core ask (tt, tt) (vote_own v now standing own h))

  pub initialize_own : (first : ℕ) (e : Entry) (now : ℕ) (m : WorldMachine) → m.leader ≡ None → Unsent m.core → InOrder (initialize nat_cmp entry_meaning config first e now m)
  unfolding initialize
  initialize_own first e now m unled h =
      let es : List Entry = entry_meaning.with_id e (default_log_id first) ∷ [] in
      elect_own now (on_core (do_append_entries nat_cmp entry_meaning config es) m) (subst (λ o. IfSome o HasOwn) (sym unled) tt) (do_append_kept config es m.core h)

  pub vote_req_own : (req : VoteRequest ℕ) (now : ℕ) (m : WorldMachine) → IfSome m.leader HasOwn → Unsent m.core → InOrder (handle_vote_req nat_cmp entry_meaning config req now m)
  unfolding handle_vote_req
  vote_req_own req now m own h = either InOrder (refuses_vote_req nat_cmp config m.core.state req now) _ _ (unsent_own m.leader m.core.output.items own h) (vote_own req.vote now m own h)

  -- under a vote of its leader id a leader leads on
  internal_unsent : (m : WorldMachine) (l : WorldLeader) → m.leader ≡ Some l → l.vote.leader_id ≡ m.core.state.vote.leader_id → Unsent m.core → Unsent (update_internal_server_state nat_cmp entry_meaning config m).core
  unfolding update_internal_server_state become_leader become_following
  internal_unsent m l led same h =
      either (λ (n : WorldMachine). Unsent n.core) (is_leader nat_cmp m.core.state config.id) _ _ (go m.leader led)
      (either (λ (n : WorldMachine). Unsent n.core) (is_leading nat_cmp m.core.state config.id) _ _ h (role_kept config m.core h))
    where
      core_in : WorldMachine → WorldCore
      core_in n = n.core

      by : (k : WorldLeader) (b : Bool) → b ≡ true
          → Unsent (core_in (if b then on_core (update_role nat_cmp config) (record m { leader = Some (record k { vote = m.core.state.vote }) }) else lead_anew nat_cmp entry_meaning config m))
      by k true e = role_kept config m.core h
      by k false e = cc

      go : (o : Option WorldLeader) → o ≡ Some l
          → Unsent (core_in (elim o as (λ _. WorldMachine) [
            | None ↦ lead_anew nat_cmp entry_meaning config m
            | Some k ↦
                (if is_eq (leader_id_cmp nat_cmp k.vote.leader_id m.core.state.vote.leader_id) then on_core (update_role nat_cmp config) (record m { leader = Some (record k { vote = m.core.state.vote }) })
                else lead_anew nat_cmp entry_meaning config m)
          ]))
      go None e = cc
      go (Some k) e =
          let q : k ≡ l = cc in
          by k (is_eq (leader_id_cmp nat_cmp k.vote.leader_id m.core.state.vote.leader_id))
          (subst (λ d. is_eq (leader_id_cmp nat_cmp d m.core.state.vote.leader_id) ≡ true) (sym (ap (λ (x : WorldLeader). x.vote.leader_id) q ∙ same)) (ap is_eq (tied_itself (leader_total nat_cmp nat_cmp_total) m.core.state.vote.leader_id)))

  -- it does so as its candidate's vote is committed
  established_unsent : (c : WorldCandidate) (now : ℕ) (m : WorldMachine) → c.vote.leader_id ≡ m.core.state.vote.leader_id → (l : WorldLeader) → m.leader ≡ Some l → l.vote.leader_id ≡ c.vote.leader_id → Unsent m.core
      → Unsent (update_vote nat_cmp entry_meaning config (as_committed c.vote) now m).core
  unfolding update_vote
  established_unsent c now m same l led own h =
      either (λ (n : WorldMachine). Unsent n.core) (rejects_vote nat_cmp m.core.state (as_committed c.vote)) _ _ h
      (internal_unsent (on_core (take_vote nat_cmp config (as_committed c.vote) now) m) l led
      (either (λ (x : WorldCore). l.vote.leader_id ≡ x.state.vote.leader_id) (is_gt (vote_cmp nat_cmp (as_committed c.vote) m.core.state.vote)) _ _ own (own ∙ same))
      (taken_kept (as_committed c.vote) now m.core h))

  lead_by_votes_own : (c : WorldCandidate) (now : ℕ) (m : WorldMachine) → IfSome m.leader HasOwn → Unsent m.core → InOrder (lead_by_votes nat_cmp entry_meaning config c now m)
  unfolding lead_by_votes rebuild_replication_streams
  lead_by_votes_own c now m own h = go (may_establish nat_cmp m.core.state m.leader c) refl
    where
      begun : WorldLed
      begun = record { leader = into_leader nat_cmp c; core = m.core }

      led : WorldMachine
      led = leading (record m { candidate = None }) (rebuild_replication_streams nat_cmp config begun)

      unsent : Unsent led.core
      unsent = then_unsent config m.core _ tt h

      appends : (n : WorldMachine) (e : Entry) → Unsent n.core → InOrder (on_leader (leader_append_entries nat_cmp entry_meaning config (e ∷ [])) n)
      appends n e k = go n.leader refl
        where
          machine_in : WorldMachine → WorldMachine
          machine_in x = x

          go : (o : Option WorldLeader) → n.leader ≡ o → InOrder (elim o as (λ _. WorldMachine) [ None ↦ n | Some l ↦ leading n (leader_append_entries nat_cmp entry_meaning config (e ∷ []) (record { leader = l; core = n.core })) ])
          go None q = subst (λ o. SendsOwn o n.core.output.items) (sym q) k
          go (Some l) q = leader_appends config e [] (record { leader = l; core = n.core }) k

      go : (b : Bool) → may_establish nat_cmp m.core.state m.leader c ≡ b
          → InOrder (if b
          then on_leader (leader_append_entries nat_cmp entry_meaning config (entry_meaning.blank (into_leader {C = WorldConfig} {N = Unit {0}} {E = Entry} {D = ℕ} {R = ℕ} {S = List Entry} nat_cmp c).noop_log_id ∷ []))
          (update_vote nat_cmp entry_meaning config (as_committed c.vote) now led)
          else record m { candidate = None })
      go false q = unsent_own m.leader m.core.output.items own h
      go true q = appends (update_vote nat_cmp entry_meaning config (as_committed c.vote) now led) _
          (established_unsent c now led
          (ap (λ (v : Vote ℕ). v.leader_id) (vote_same nat_cmp nat_same c.vote m.core.state.vote (is_equal _ (and_parts (is_eq (vote_cmp nat_cmp c.vote m.core.state.vote)) (outvotes nat_cmp m.leader c) q).0)))
          (rebuild_replication_streams nat_cmp config begun).leader refl refl unsent)

  pub vote_resp_own : (target : ℕ) (resp : VoteResponse ℕ) (now : ℕ) (m : WorldMachine) → IfSome m.leader HasOwn → Unsent m.core → InOrder (handle_vote_resp nat_cmp entry_meaning config target resp now m)
  unfolding handle_vote_resp take_grant take_rejection
  vote_resp_own target resp now m own h =
      either_option InOrder m.candidate _ _ (unsent_own m.leader m.core.output.items own h)
      (λ c. either InOrder (is_granted_to nat_cmp resp c.vote) _ _
      (either InOrder (is_granted (is_quorum nat_cmp) (grant_by nat_cmp c target)) _ _ (lead_by_votes_own (grant_by nat_cmp c target) now m own h) (unsent_own m.leader m.core.output.items own h))
      (vote_own (as_uncommitted resp.vote) now m own h))

  -- Requests of leaders

  pub append_own : (v : Vote ℕ) (prev : Option (LogId ℕ)) (es : List Entry) (token : Token) (now : ℕ) (m : WorldMachine) → is_eq (nat_cmp v.leader_id.node_id config.id) ≡ false → IfSome m.leader HasOwn → Unsent m.core
      → InOrder (handle_append_entries nat_cmp entry_meaning config v prev es (Some token) now m)
  unfolding handle_append_entries append_entries
  append_own v prev es token now m other own h =
      let done : WorldMachine = append_entries nat_cmp entry_meaning config v prev es now m in
      plain_more done.leader done.core.output.items _ ((tt, tt), tt) (go (rejects_vote nat_cmp m.core.state v) refl)
    where
      voted : WorldMachine
      voted = update_vote nat_cmp entry_meaning config v now m

      go : (b : Bool) → rejects_vote nat_cmp m.core.state v ≡ b → InOrder (if b then m else on_core (follow nat_cmp entry_meaning config prev es) (update_vote nat_cmp entry_meaning config v now m))
      go true e = unsent_own m.leader m.core.output.items own h
      go false e = subst (λ o. SendsOwn o (follow nat_cmp entry_meaning config prev es voted.core).output.items) (sym (heard_unled v now m e other)) (follow_kept config prev es voted.core (heard_unsent v now m own h e other))

  pub commit_own : (x : Option (LogId ℕ)) (m : WorldMachine) → InOrder m → InOrder (handle_commit_entries nat_cmp entry_meaning config x m)
  unfolding handle_commit_entries commit_entries
  commit_own x m h = commit_on m.leader config (commit_target nat_cmp m.core.state x) m.core h

  pub install_own : (v : Vote ℕ) (snapshot : WorldSnapshot) (token : Token) (now : ℕ) (m : WorldMachine) → is_eq (nat_cmp v.leader_id.node_id config.id) ≡ false → IfSome m.leader HasOwn → Unsent m.core
      → InOrder (handle_install_full_snapshot nat_cmp entry_meaning config v snapshot token now m)
  unfolding handle_install_full_snapshot
  install_own v snapshot token now m other own h = go (rejects_vote nat_cmp m.core.state v) refl
    where
      voted : WorldMachine
      voted = update_vote nat_cmp entry_meaning config v now m

      installed : WorldCore
      installed = install_full_snapshot nat_cmp config snapshot voted.core

      go : (b : Bool) → rejects_vote nat_cmp m.core.state v ≡ b → InOrder (if b then on_core (reply_install None token) m else on_core (install_and_reply nat_cmp entry_meaning config snapshot token) (update_vote nat_cmp entry_meaning config v now m))
      go true e = plain_more m.leader m.core.output.items _ ((tt, tt), tt) (unsent_own m.leader m.core.output.items own h)
      go false e =
          plain_more voted.leader installed.output.items _ ((tt, tt), tt)
          (subst (λ o. SendsOwn o installed.output.items) (sym (heard_unled v now m e other)) (install_kept config snapshot voted.core (heard_unsent v now m own h e other)))

  -- Purges and snapshots

  pub trigger_purge_own : (i : ℕ) (m : WorldMachine) → InOrder m → InOrder (trigger_purge_log nat_cmp i m)
  unfolding trigger_purge_log
  trigger_purge_own i m h =
      either_option (On m.leader) m.core.state.snap.last_log_id m.core _ h
      (λ x. either (On m.leader) (nat_lt i (next m.core.state.purge_to)) _ _ h (try_purge_on m.leader (rows_in m) (update_purge_upto (at m.core.state.ids (min i x.index)) m.core) h))

  pub finish_own : (meta : SnapshotMeta ℕ (Unit {0})) (m : WorldMachine) → InOrder m → InOrder (finish_building_snapshot nat_cmp config meta m)
  unfolding finish_building_snapshot
  finish_own meta m h = either (On m.leader) (is_newer_snapshot nat_cmp (built m.core).state meta) _ _ (recorded_on m.leader config (rows_in m) meta (built m.core) h) h

-- A leader handles answers

led_unstored : (xs : List WorldCommand) → AllByRecursion IsLedCommand xs → AllByRecursion NoStore xs
led_unstored [] h = tt
led_unstored (x ∷ xs) h = (of x h.0, led_unstored xs h.1)
  where
    built_stores : (p : WorldPayload) → p ≡ payload.BuildSnapshot → NoInstall p
    built_stores p q = subst NoInstall (sym q) tt

    of : (x : WorldCommand) → IsLedCommand x → NoStore x
    of (command.Commit seq already upto) k = tt
    of (command.StateMachine c) k = built_stores c.payload k
    of (command.PurgeLog upto) k = tt
    of (command.Replicate target f) k = tt
    of (command.ReplicateCommitted x) k = tt
    of (command.SaveVote v) k = absurd k
    of (command.AppendInputEntries v es) k = absurd k
    of (command.DeleteConflictLog since) k = absurd k
    of (command.SendVote req) k = absurd k
    of (command.RebuildReplicationStreams targets) k = absurd k
    of (command.Respond when reply) k = absurd k
    of command.BecomeLeader k = absurd k
    of command.QuitLeader k = absurd k

module _ (config : EngineConfig ℕ) where
  -- the leader has its vote, and its last id
  abbrev Same : WorldLed → WorldLed → Type 0
  Same l n = (n.leader.vote ≡ l.leader.vote) × (n.leader.last_log_id ≡ l.leader.last_log_id)

  owns_on : (l n : WorldLed) → Same l n → HasOwn l.leader → HasOwn n.leader
  owns_on l n s h = subst (λ (v : Vote ℕ). EndsBy v.leader_id n.leader.last_log_id) (sym s.0) (subst (EndsBy l.leader.vote.leader_id) (sym s.1) h)

  entry_same : (target : ℕ) (f : ProgressEntry ℕ → ProgressEntry ℕ) (l : WorldLed) → Same l (on_entry nat_cmp target f l)
  entry_same target f l = either_option (Same l) (get nat_cmp l.leader.progress target) l _ (refl, refl) (λ e. (refl, refl))

  reply_same : (target : ℕ) (id : RequestId) (reply : Result (ReplicationResult ℕ) (Unit {0})) (l : WorldLed) → Same l (take_reply nat_cmp config {T = Unit {0}} target id reply l)
  unfolding update_failed_progress update_success_progress update_leader_clock update_conflicting update_matching
  reply_same target id (Err _) l = either_option (Same l) (number_of id) l _ (refl, refl) (λ n. entry_same target silenced l)
  reply_same target id (Ok answer) l = go answer.result
    where
      clocked : WorldLed
      clocked = update_leader_clock nat_cmp target answer.sending_time l

      led_in : WorldLed → WorldLed
      led_in n = n

      go : (r : Result (Option (LogId ℕ)) (LogId ℕ)) → Same l (led_in (elim r as (λ _. WorldLed) [
        | Ok x ↦ elim (number_of id) [ None ↦ clocked | Some _ ↦ update_matching nat_cmp config target x clocked ]
        | Err x ↦ update_conflicting nat_cmp target (number_of id) x clocked
      ]))
      go (Ok x) = either_option (Same l) (number_of id) clocked _ (refl, refl) (λ n. entry_same target (λ e. matched nat_cmp e x) clocked)
      go (Err x) = entry_same target (λ e. conflicted e (number_of id) x.index) clocked

  pub progress_own : (target : ℕ) (id : RequestId) (reply : Result (ReplicationResult ℕ) (Unit {0})) (l : WorldLed) → LedInOrder l → LedInOrder (update_progress nat_cmp config {T = Unit {0}} target id reply l)
  unfolding update_progress purge_unless_inflight send_next
  progress_own target id reply l h = (owns_on l sent_then same h.0, first)
    where
      taken : WorldLed
      taken = purge_unless_inflight nat_cmp (take_reply nat_cmp config {T = Unit {0}} target id reply l)

      sent_then : WorldLed
      sent_then = send_next nat_cmp config target taken

      queues : LedQueues 2 l.core taken.core
      queues = before_sent nat_cmp config {T = Unit {0}} target id reply l

      then_first : OwnFirst taken.core.output.items
      then_first = subst OwnFirst (sym queues.behind) (first_more l.core.output.items queues.added (led_unstored queues.added queues.each) h.1)

      same_taken : Same l taken
      same_taken = reply_same target id reply l

      same : Same l sent_then
      same = either_option (Same l) (get nat_cmp taken.leader.progress target) taken _ same_taken (λ e. same_taken)

      first : OwnFirst sent_then.core.output.items
      first =
          either_option (λ (n : WorldLed). OwnFirst n.core.output.items) (get nat_cmp taken.leader.progress target) taken _ then_first
          (λ e. first_more taken.core.output.items _ (send_unstored config false target (next_send taken.core.state config.max_payload_entries e)) then_first)

  pub local_own : (x : Option (LogId ℕ)) (l : WorldLed) → LedInOrder l → LedInOrder (update_local_progress nat_cmp config x l)
  unfolding update_local_progress
  local_own None l h = h
  local_own (Some x) l h =
      either_option LedInOrder (get nat_cmp l.leader.progress config.id) l _ h
      (λ e. either LedInOrder (is_ge (last_id_cmp nat_cmp e.matching (Some x))) l _ h (granted (with_entry nat_cmp l config.id (own_matched nat_cmp (Some x) e)) h))
    where
      granted : (n : WorldLed) → LedInOrder n → LedInOrder (commit_granted nat_cmp config n)
      granted n k =
          let q : LedQueues 2 n.core (commit_granted nat_cmp config n).core = granted_queues nat_cmp config (granted_id nat_cmp (is_quorum nat_cmp) n.leader) n.core in
          (k.0, subst OwnFirst (sym q.behind) (first_more n.core.output.items q.added (led_unstored q.added q.each) k.1))

  lead_on_own : (l : WorldLed) → LedInOrder l → LedInOrder (lead_on nat_cmp config l)
  lead_on_own l h = initiates config false (update_local_progress nat_cmp config (last l.core.state.ids) l) (local_own (last l.core.state.ids) l h)

  -- Starts, and stepping down

  pub startup_own : (m : WorldMachine) → m.leader ≡ None → Unsent m.core → InOrder (startup nat_cmp entry_meaning config m)
  unfolding startup
  startup_own m unled h =
      either InOrder (is_leader nat_cmp m.core.state config.id) _ _ (leads_on (update_internal_server_state nat_cmp entry_meaning config m) (internal_own config m (subst (λ o. IfSome o HasOwn) (sym unled) tt) h))
      (subst (λ o. SendsOwn o m.core.output.items) (sym unled) h)
    where
      leads_on : (n : WorldMachine) → InOrder n → InOrder (on_leader (lead_on nat_cmp config) n)
      leads_on n k = go n.leader refl
        where
          go : (o : Option WorldLeader) → n.leader ≡ o → InOrder (elim o as (λ _. WorldMachine) [ None ↦ n | Some l ↦ leading n (lead_on nat_cmp config (record { leader = l; core = n.core })) ])
          go None q = k
          go (Some l) q = lead_on_own (record { leader = l; core = n.core }) (subst (λ o. SendsOwn o n.core.output.items) q k)

  pub step_down_own : (m : WorldMachine) → IfSome m.leader HasOwn → Unsent m.core → InOrder (leader_step_down nat_cmp entry_meaning config m)
  unfolding leader_step_down
  step_down_own m own h = either InOrder (is_settled nat_cmp m.core.state) _ _ (internal_own config m own h) (unsent_own m.leader m.core.output.items own h)
