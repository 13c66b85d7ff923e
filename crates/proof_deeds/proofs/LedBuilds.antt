-- An engine without a leader has no streams to build in its queue.
use Rattle.std.specs.Prelude.{ℕ, ◌≡◌, ◌+◌, ◌==◌, ◌&&◌, Bool, true, false, not, List, [], ◌∷◌, Option, None, Some, IfSome, length, map, min, nat_lt, refl, if◌then◌else◌}
use Rattle.std.specs.List.{AllByRecursion}
use Rattle.std.specs.Ordering.{is_eq, is_gt, nat_cmp}
use Rattle.std.proofs.Common.{subst}
use Rattle.std.proofs.lemmas.Bool.{and_parts}
use Rattle.raft_node.specs.raft_state.declared.ids.LogId.{LogId}
use Rattle.raft_node.specs.raft_state.declared.ids.Vote.{Vote}
use Rattle.raft_node.specs.raft_state.declared.membership.SnapshotMeta.{SnapshotMeta}
use Rattle.raft_node.specs.raft_state.declared.state.ServerState.{ServerState}
use Rattle.raft_node.specs.raft_state.declared.state.ServerState.TheVariants as role
use Rattle.raft_node.specs.raft_state.Log.{at, last}
use Rattle.raft_node.specs.raft_state.Members.{contains}
use Rattle.raft_node.specs.raft_state.Order.{last_id_cmp, leader_id_cmp, next, vote_cmp}
use Rattle.raft_node.specs.raft_state.Policy.{should_snapshot}
use Rattle.raft_node.specs.raft_state.Same.{nat_same}
use Rattle.raft_node.specs.raft_state.State.{accept, commit, commits, has_log_id, is_leader, is_leading, truncate, undoes_membership}
use Rattle.raft_node.proofs.raft_state_proofs.LogLists.{each_append}
use Rattle.raft_node.proofs.raft_state_proofs.Orders.{both_and, is_equal}
use Rattle.raft_node.specs.raft_progress_entry.declared.entry.ProgressEntry.{ProgressEntry}
use Rattle.raft_node.specs.raft_progress.Quorum.{is_quorum}
use Rattle.raft_node.specs.raft_command.declared.command.Command.TheVariants as command
use Rattle.raft_node.specs.raft_command.declared.config.EngineConfig.{EngineConfig}
use Rattle.raft_node.specs.raft_command.declared.message.Token.{Token}
use Rattle.raft_node.specs.raft_command.declared.message.VoteRequest.{VoteRequest}
use Rattle.raft_node.specs.raft_command.declared.message.VoteResponse.{VoteResponse}
use Rattle.raft_node.specs.raft_command.declared.sm.CommandPayload.TheVariants.{BuildSnapshot, InstallFullSnapshot}
use Rattle.raft_node.specs.raft_command.Push.{committed_upto, ordered, with_command}
use Rattle.raft_node.specs.raft_command.Queue.{queued}
use Rattle.raft_node.specs.raft_proposer.Candidate.{as_committed, candidate_of, grant_by, into_leader, is_granted}
use Rattle.raft_node.specs.raft_steps.Commit.{commit_by}
use Rattle.raft_node.specs.raft_steps.Engine.{as_uncommitted, default_log_id, elect, handle_vote_resp, initialize, is_granted_to, lead_by_votes, may_establish, take_grant, take_rejection}
use Rattle.raft_node.specs.raft_steps.EstablishHandler.{outvotes}
use Rattle.raft_node.specs.raft_steps.FollowingHandler.{commit_entries, commit_target, do_append_entries, ensure_log_consecutive, holds_previous, memberships_in, new_entries, truncate_for, truncate_logs, with_entries}
use Rattle.raft_node.specs.raft_steps.FollowingHandler as following
use Rattle.raft_node.specs.raft_steps.Installs.{handle_install_full_snapshot, has_other_at, held_upto, install_full_snapshot, install_upto, installs, replaces_log, truncate_contradicted, with_memberships_of}
use Rattle.raft_node.specs.raft_steps.Invariants.{CandidateFits, IsSound}
use Rattle.raft_node.specs.raft_steps.Laws.{later}
use Rattle.raft_node.specs.raft_steps.LeaderHandler.{leader_append_entries}
use Rattle.raft_node.specs.raft_steps.LogHandler.{is_target_inflight, purge_log, schedule_policy_based_purge, try_purge_log, update_purge_upto}
use Rattle.raft_node.specs.raft_steps.Parts.{Core, leading, on_core, on_leader, then_command, with_state}
use Rattle.raft_node.specs.raft_steps.Refusals.{rows_in}
use Rattle.raft_node.specs.raft_steps.ReplicationHandler.{rebuild_replication_streams}
use Rattle.raft_node.specs.raft_steps.Requests.{append_entries, follow, handle_append_entries, handle_commit_entries, handle_vote_req, refuses_vote_req}
use Rattle.raft_node.specs.raft_steps.ServerStateHandler.{role_commands, update_role}
use Rattle.raft_node.specs.raft_steps.SnapshotCalls.{built, finish_building_snapshot, trigger_purge_log}
use Rattle.raft_node.specs.raft_steps.SnapshotHandler.{is_newer_snapshot, snapshot_where_due, trigger_snapshot, update_snapshot}
use Rattle.raft_node.specs.raft_steps.Starts.{is_settled, lead_on, leader_step_down, startup}
use Rattle.raft_node.specs.raft_steps.VoteHandler.{become_following, become_leader, lead_anew, rejects_vote, take_vote, update_internal_server_state, update_vote}
use Rattle.raft_node.proofs.raft_steps_proofs.Kept.{either, either_option}
use Rattle.raft_node.proofs.raft_steps_proofs.Leads.{vote_same}
use Rattle.raft_node.specs.raft_store.declared.config.WorldConfig.{WorldConfig}
use Rattle.raft_node.specs.raft_store.declared.entry.Entry.{Entry}
use Rattle.raft_node.specs.raft_store.Entries.{entry_meaning}
use Rattle.raft_node.specs.raft_store.Types.{WorldCandidate, WorldCommand, WorldMachine, WorldSnapshot}
use Rattle.raft_node.specs.raft_calls.Feeds.{WorldLed}

abbrev WorldCore : Type 0
WorldCore = Core WorldConfig ℕ (Unit {0}) Entry ℕ ℕ (List Entry)

-- the command builds no streams
abbrev pub NoRebuild : WorldCommand → Type 0
NoRebuild (command.RebuildReplicationStreams targets) = ⊥
NoRebuild _ = Unit {0}

-- no queued command does
abbrev pub Unbuilding : WorldCore → Type 0
Unbuilding c = AllByRecursion NoRebuild c.output.items

-- none does unless there is a leader
abbrev pub BuildsLed : WorldMachine → Type 0
BuildsLed m = m.leader ≡ None → Unbuilding m.core

-- there is one
abbrev IsLed : WorldMachine → Type 0
IsLed m = m.leader ≡ None → ⊥

-- a change of role builds none
role_each : (a b : ServerState) → AllByRecursion NoRebuild (role_commands a b)
role_each role.Leader role.Leader = tt
role_each role.Leader role.Candidate = (tt, tt)
role_each role.Leader role.Follower = (tt, tt)
role_each role.Leader role.Learner = (tt, tt)
role_each role.Candidate role.Leader = (tt, tt)
role_each role.Candidate role.Candidate = tt
role_each role.Candidate role.Follower = tt
role_each role.Candidate role.Learner = tt
role_each role.Follower role.Leader = (tt, tt)
role_each role.Follower role.Candidate = tt
role_each role.Follower role.Follower = tt
role_each role.Follower role.Learner = tt
role_each role.Learner role.Leader = (tt, tt)
role_each role.Learner role.Candidate = tt
role_each role.Learner role.Follower = tt
role_each role.Learner role.Learner = tt

-- nor does a queue with one more such command
pub then_builds : (c : WorldCore) (x : WorldCommand) → NoRebuild x → Unbuilding c → Unbuilding (then_command c x)
then_builds c x n h = each_append NoRebuild c.output.items (x ∷ []) h (n, tt)

-- nor do snapshots and purges
pub trigger_builds : (c : WorldCore) → Unbuilding c → Unbuilding (trigger_snapshot c)
unfolding trigger_snapshot
trigger_builds c h = either Unbuilding c.state.building _ _ h (each_append NoRebuild c.output.items (command.StateMachine (record { seq = c.output.seq + 1; payload = BuildSnapshot }) ∷ []) h (tt, tt))

purge_builds : (c : WorldCore) → Unbuilding c → Unbuilding (purge_log nat_cmp c)
unfolding purge_log
purge_builds c h = either_option Unbuilding c.state.purge_to c _ h (λ x. either Unbuilding (is_gt (last_id_cmp nat_cmp (Some x) c.state.purged)) _ _ (then_builds c (command.PurgeLog x) tt h) h)

try_purge_builds : (rows : List (ℕ × ProgressEntry ℕ)) (c : WorldCore) → Unbuilding c → Unbuilding (try_purge_log nat_cmp rows c)
unfolding try_purge_log
try_purge_builds rows c h = either Unbuilding (is_target_inflight nat_cmp rows c.state) c _ h (purge_builds c h)

-- a call that leaves the leader
pub on_core_builds : (f : WorldCore → WorldCore) (m : WorldMachine) → ((c : WorldCore) → Unbuilding c → Unbuilding (f c)) → BuildsLed m → BuildsLed (on_core f m)
on_core_builds f m k h e = k m.core (h e)

-- a call of the leader
on_leader_builds : (f : WorldLed → WorldLed) (m : WorldMachine) → BuildsLed m → BuildsLed (on_leader f m)
on_leader_builds f m h = either_option BuildsLed m.leader _ _ h (λ l e. cc)

module _ (config : EngineConfig ℕ) where
  role_builds : (c : WorldCore) → Unbuilding c → Unbuilding (update_role nat_cmp config c)
  unfolding update_role
  role_builds c h = each_append NoRebuild c.output.items _ h (role_each c.state.role _)

  -- commits, and a follower's entries
  commit_builds : (x : Option (LogId ℕ)) (c : WorldCore) → Unbuilding c → Unbuilding (commit_by nat_cmp config [] x c)
  unfolding commit_by snapshot_where_due
  commit_builds None c h = h
  commit_builds (Some x) c h =
      let after : WorldCore = record { state = commit nat_cmp c.state (Some x); output = committed_upto (queued c.output []) c.state.committed x } in
      let q : Unbuilding after = each_append NoRebuild (queued c.output []).items _ (each_append NoRebuild c.output.items [] h tt) (tt, tt) in
      either Unbuilding (commits nat_cmp c.state (Some x)) _ _ (either Unbuilding (should_snapshot config.snapshot_policy after.state) _ _ (trigger_builds after q) q) h

  truncate_builds : (i : ℕ) (c : WorldCore) → Unbuilding c → Unbuilding (truncate_logs nat_cmp config i c)
  unfolding truncate_logs
  truncate_builds i c h =
      either_option Unbuilding (at c.state.ids i) _ _ h
      (λ first.
      let cut : WorldCore = record { state = truncate c.state i; output = with_command c.output (command.DeleteConflictLog first) } in
      let q : Unbuilding cut = then_builds c (command.DeleteConflictLog first) tt h in
      either Unbuilding (not (undoes_membership c.state i)) _ _ q (role_builds cut q))

  do_append_builds : (es : List Entry) (c : WorldCore) → Unbuilding c → Unbuilding (do_append_entries nat_cmp entry_meaning config es c)
  unfolding do_append_entries
  do_append_builds es c h =
      let taken : WorldCore = with_state c (with_entries entry_meaning c.state es) in
      let settled : WorldCore = if length (memberships_in entry_meaning es) == 0 then taken else update_role nat_cmp config taken in
      either Unbuilding (length es == 0) _ _ h
      (then_builds settled (command.AppendInputEntries c.state.vote es) tt (either Unbuilding (length (memberships_in entry_meaning es) == 0) _ _ h (role_builds taken h)))

  truncate_for_builds : (es : List Entry) (c : WorldCore) → Unbuilding c → Unbuilding (truncate_for nat_cmp entry_meaning config es c)
  truncate_for_builds [] c h = h
  truncate_for_builds (e ∷ es) c h = truncate_builds (entry_meaning.id_of e).index c h

  follow_builds : (prev : Option (LogId ℕ)) (es : List Entry) (c : WorldCore) → Unbuilding c → Unbuilding (follow nat_cmp entry_meaning config prev es c)
  unfolding follow following.append_entries ensure_log_consecutive
  follow_builds prev es c h =
      let noted = with_state c (accept nat_cmp c.state (later nat_cmp prev (last (map entry_meaning.id_of es)))) in
      let new = new_entries nat_cmp entry_meaning c.state es in
      either Unbuilding (holds_previous nat_cmp c.state prev) _ _ (do_append_builds new (truncate_for nat_cmp entry_meaning config new noted) (truncate_for_builds new noted h)) (cut prev)
    where
      cut : (prev : Option (LogId ℕ)) → Unbuilding (ensure_log_consecutive nat_cmp config prev c)
      cut None = h
      cut (Some x) = either Unbuilding (has_log_id nat_cmp c.state x) _ _ h (truncate_builds x.index c h)

  -- a snapshot that is built, or installed
  recorded_builds : (rows : List (ℕ × ProgressEntry ℕ)) (meta : SnapshotMeta ℕ (Unit {0})) (c : WorldCore) → Unbuilding c
      → Unbuilding (try_purge_log nat_cmp rows (schedule_policy_based_purge nat_cmp config (update_snapshot nat_cmp meta c)))
  unfolding update_snapshot schedule_policy_based_purge
  recorded_builds rows meta c h =
      try_purge_builds rows (schedule_policy_based_purge nat_cmp config (update_snapshot nat_cmp meta c)) (either Unbuilding (is_newer_snapshot nat_cmp c.state meta) _ _ h h)

  install_upto_builds : (x : LogId ℕ) (snapshot : WorldSnapshot) (c : WorldCore) → Unbuilding c → Unbuilding (install_upto nat_cmp config x snapshot c)
  unfolding install_upto
  install_upto_builds x snapshot c h =
      let begun : WorldCore = with_state c (record c.state { snap = snapshot.meta }) in
      let cut : WorldCore = truncate_contradicted nat_cmp config x begun in
      let held : WorldCore = with_state cut (with_memberships_of snapshot.meta.last_membership x (replaces_log nat_cmp c.state x) (held_upto nat_cmp x cut.state)) in
      let settled : WorldCore = update_role nat_cmp config held in
      let queuing : WorldCore = record settled { output = ordered settled.output (InstallFullSnapshot snapshot) } in
      let q : Unbuilding cut = either Unbuilding (has_other_at nat_cmp begun.state x) _ _ (truncate_builds x.index begun h) h in
      purge_builds (update_purge_upto (Some x) queuing)
      (each_append NoRebuild settled.output.items (command.StateMachine (record { seq = settled.output.seq + 1; payload = InstallFullSnapshot snapshot }) ∷ []) (role_builds held q) (tt, tt))

  install_builds : (snapshot : WorldSnapshot) (c : WorldCore) → Unbuilding c → Unbuilding (install_full_snapshot nat_cmp config snapshot c)
  unfolding install_full_snapshot
  install_builds snapshot c h =
      either_option Unbuilding snapshot.meta.last_log_id _ _ h (λ x. either Unbuilding (installs nat_cmp c.state snapshot.meta) _ _ (install_upto_builds x snapshot c h) h)

  -- votes: a node that becomes leader has one, and another queues no streams to build
  becomes_led : (m : WorldMachine) → IsLed (become_leader nat_cmp entry_meaning config m)
  unfolding become_leader lead_anew
  becomes_led m =
      either_option IsLed m.leader _ _ (λ e. cc)
      (λ l. either IsLed (is_eq (leader_id_cmp nat_cmp l.vote.leader_id m.core.state.vote.leader_id)) _ _ (λ e. cc) (λ e. cc))

  internal_builds : (m : WorldMachine) → Unbuilding m.core → BuildsLed (update_internal_server_state nat_cmp entry_meaning config m)
  unfolding update_internal_server_state become_following
  internal_builds m h =
      either BuildsLed (is_leader nat_cmp m.core.state config.id) _ _ (λ e. absurd (becomes_led m e))
      (either BuildsLed (is_leading nat_cmp m.core.state config.id) _ _ (λ e. h) (λ e. role_builds m.core h))

  taken_builds : (v : Vote ℕ) (now : ℕ) (c : WorldCore) → Unbuilding c → Unbuilding (take_vote nat_cmp config v now c)
  taken_builds v now c h = either Unbuilding (is_gt (vote_cmp nat_cmp v c.state.vote)) _ _ (each_append NoRebuild c.output.items (command.SaveVote v ∷ []) h (tt, tt)) h

  pub update_vote_builds : (v : Vote ℕ) (now : ℕ) (m : WorldMachine) → Unbuilding m.core → BuildsLed (update_vote nat_cmp entry_meaning config v now m)
  unfolding update_vote
  update_vote_builds v now m h =
      either BuildsLed (rejects_vote nat_cmp m.core.state v) _ _ (λ e. h) (internal_builds (on_core (take_vote nat_cmp config v now) m) (taken_builds v now m.core h))

  -- elections
  pub elect_builds : (now : ℕ) (m : WorldMachine) → Unbuilding m.core → BuildsLed (elect nat_cmp entry_meaning config now m)
  unfolding elect
  elect_builds now m h =
      let s = m.core.state in
      let v : Vote ℕ = record { leader_id = record { term = s.vote.leader_id.term + 1; node_id = config.id }; committed = false } in
      let standing : WorldMachine = record m { candidate = Some (candidate_of nat_cmp now v (last s.ids) s.em.membership) } in
      let ask : WorldCommand = command.SendVote (record { vote = v; last_log_id = last s.ids }) in
      on_core_builds (λ c. update_role nat_cmp config (then_command c ask)) (update_vote nat_cmp entry_meaning config v now standing) (λ c k. role_builds (then_command c ask) (then_builds c ask tt k)) (update_vote_builds v now standing h)

  pub initialize_builds : (first : ℕ) (e : Entry) (now : ℕ) (m : WorldMachine) → Unbuilding m.core → BuildsLed (initialize nat_cmp entry_meaning config first e now m)
  unfolding initialize
  initialize_builds first e now m h =
      let es : List Entry = entry_meaning.with_id e (default_log_id first) ∷ [] in
      elect_builds now (on_core (do_append_entries nat_cmp entry_meaning config es) m) (do_append_builds es m.core h)

  pub vote_req_builds : (req : VoteRequest ℕ) (now : ℕ) (m : WorldMachine) → Unbuilding m.core → BuildsLed (handle_vote_req nat_cmp entry_meaning config req now m)
  unfolding handle_vote_req
  vote_req_builds req now m h = either BuildsLed (refuses_vote_req nat_cmp config m.core.state req now) _ _ (λ e. h) (update_vote_builds req.vote now m h)

  -- a node whose vote names it, a member, keeps a leader
  internal_led : (m : WorldMachine) → is_leading nat_cmp m.core.state config.id ≡ true → IsLed m → IsLed (update_internal_server_state nat_cmp entry_meaning config m)
  unfolding update_internal_server_state
  internal_led m leads h = go (is_leading nat_cmp m.core.state config.id) leads where
    go : (b : Bool) → b ≡ true
        → IsLed (if b && m.core.state.vote.committed then become_leader nat_cmp entry_meaning config m else if b then m else become_following nat_cmp config m)
    go true e = either IsLed m.core.state.vote.committed _ _ (becomes_led m) h
    go false e = cc

  update_vote_led : (v : Vote ℕ) (now : ℕ) (m : WorldMachine) → is_leading nat_cmp (take_vote nat_cmp config v now m.core).state config.id ≡ true → IsLed m → IsLed (update_vote nat_cmp entry_meaning config v now m)
  unfolding update_vote
  update_vote_led v now m leads h = either IsLed (rejects_vote nat_cmp m.core.state v) _ _ h (internal_led (on_core (take_vote nat_cmp config v now) m) leads h)

  -- a candidate of the state's vote is the node's own, and a member
  lead_by_votes_builds : (c : WorldCandidate) (now : ℕ) (m : WorldMachine)
      → (is_eq (vote_cmp nat_cmp c.vote m.core.state.vote) ≡ true → (is_eq (nat_cmp c.vote.leader_id.node_id config.id) ≡ true) × (contains nat_cmp m.core.state.em.membership config.id ≡ true))
      → Unbuilding m.core → BuildsLed (lead_by_votes nat_cmp entry_meaning config c now m)
  unfolding lead_by_votes rebuild_replication_streams
  lead_by_votes_builds c now m own h = go (may_establish nat_cmp m.core.state m.leader c) refl where
    begun : WorldLed
    begun = record { leader = into_leader nat_cmp c; core = m.core }

    led : WorldMachine
    led = leading (record m { candidate = None }) (rebuild_replication_streams nat_cmp config begun)

    leads : may_establish nat_cmp m.core.state m.leader c ≡ true → is_leading nat_cmp (take_vote nat_cmp config (as_committed c.vote) now led.core).state config.id ≡ true
    leads q =
        let same = (and_parts (is_eq (vote_cmp nat_cmp c.vote m.core.state.vote)) (outvotes nat_cmp m.leader c) q).0 in
        let k = own same in
        either (λ (x : WorldCore). is_leading nat_cmp x.state config.id ≡ true) (is_gt (vote_cmp nat_cmp (as_committed c.vote) m.core.state.vote)) _ _
        (both_and _ _ k.0 k.1)
        (both_and _ _ (subst (λ (v : Vote ℕ). is_eq (nat_cmp v.leader_id.node_id config.id) ≡ true) (vote_same nat_cmp nat_same c.vote m.core.state.vote (is_equal _ same)) k.0) k.1)

    go : (b : Bool) → may_establish nat_cmp m.core.state m.leader c ≡ b
        → BuildsLed (if b
        then on_leader (leader_append_entries nat_cmp entry_meaning config (entry_meaning.blank (into_leader {C = WorldConfig} {N = Unit {0}} {E = Entry} {D = ℕ} {R = ℕ} {S = List Entry} nat_cmp c).noop_log_id ∷ []))
        (update_vote nat_cmp entry_meaning config (as_committed c.vote) now led)
        else record m { candidate = None })
    go false q = λ e. h
    go true q = on_leader_builds (leader_append_entries nat_cmp entry_meaning config (entry_meaning.blank (into_leader {C = WorldConfig} {N = Unit {0}} {E = Entry} {D = ℕ} {R = ℕ} {S = List Entry} nat_cmp c).noop_log_id ∷ [])) (update_vote nat_cmp entry_meaning config (as_committed c.vote) now led) (λ e. absurd (update_vote_led (as_committed c.vote) now led (leads q) (λ e. cc) e))

  -- a reply to the candidate's vote request
  pub vote_resp_builds : (target : ℕ) (resp : VoteResponse ℕ) (now : ℕ) (m : WorldMachine) → IsSound nat_cmp config m → Unbuilding m.core → BuildsLed (handle_vote_resp nat_cmp entry_meaning config target resp now m)
  unfolding handle_vote_resp take_grant take_rejection
  vote_resp_builds target resp now m sound h = go m.candidate sound.lead.candidate_fits where
    go : (o : Option WorldCandidate) → IfSome o (CandidateFits nat_cmp config.id m.core.state.vote m.core.state.ids m.core.state.em.membership)
        → BuildsLed (elim o as (λ _. WorldMachine) [
          | None ↦ m
          | Some c ↦ (if is_granted_to nat_cmp resp c.vote then take_grant nat_cmp entry_meaning config c target now m else take_rejection nat_cmp entry_meaning config resp now m)
        ])
    go None f = λ e. h
    go (Some c) f =
        either BuildsLed (is_granted_to nat_cmp resp c.vote) _ _
        (either BuildsLed (is_granted (is_quorum nat_cmp) (grant_by nat_cmp c target)) _ _
        (lead_by_votes_builds (grant_by nat_cmp c target) now m (λ q. let k = f.current q in (k.own, k.member)) h) (λ e. h))
        (update_vote_builds (as_uncommitted resp.vote) now m h)

  -- requests of leaders
  pub handle_append_builds : (v : Vote ℕ) (prev : Option (LogId ℕ)) (es : List Entry) (token : Token) (now : ℕ) (m : WorldMachine) → Unbuilding m.core
      → BuildsLed (handle_append_entries nat_cmp entry_meaning config v prev es (Some token) now m)
  unfolding handle_append_entries append_entries
  handle_append_builds v prev es token now m h =
      let done = append_entries nat_cmp entry_meaning config v prev es now m in
      let q : BuildsLed done = either BuildsLed (rejects_vote nat_cmp m.core.state v) _ _ (λ e. h)
      (on_core_builds (follow nat_cmp entry_meaning config prev es) (update_vote nat_cmp entry_meaning config v now m) (follow_builds prev es) (update_vote_builds v now m h)) in
      λ e. each_append NoRebuild done.core.output.items _ (q e) (tt, tt)

  pub commit_entries_builds : (x : Option (LogId ℕ)) (m : WorldMachine) → BuildsLed m → BuildsLed (handle_commit_entries nat_cmp entry_meaning config x m)
  unfolding handle_commit_entries commit_entries
  commit_entries_builds x m h e = commit_builds (commit_target nat_cmp m.core.state x) m.core (h e)

  pub handle_install_builds : (v : Vote ℕ) (snapshot : WorldSnapshot) (token : Token) (now : ℕ) (m : WorldMachine) → Unbuilding m.core
      → BuildsLed (handle_install_full_snapshot nat_cmp entry_meaning config v snapshot token now m)
  unfolding handle_install_full_snapshot
  handle_install_builds v snapshot token now m h =
      let voted = update_vote nat_cmp entry_meaning config v now m in
      either BuildsLed (rejects_vote nat_cmp m.core.state v) _ _ (λ e. each_append NoRebuild m.core.output.items _ h (tt, tt))
      (λ e. each_append NoRebuild (install_full_snapshot nat_cmp config snapshot voted.core).output.items _ (install_builds snapshot voted.core (update_vote_builds v now m h e)) (tt, tt))

  -- purges and snapshots
  pub trigger_purge_builds : (i : ℕ) (m : WorldMachine) → Unbuilding m.core → BuildsLed (trigger_purge_log nat_cmp i m)
  unfolding trigger_purge_log
  trigger_purge_builds i m h e =
      either_option Unbuilding m.core.state.snap.last_log_id m.core _ h
      (λ x. either Unbuilding (nat_lt i (next m.core.state.purge_to)) _ _ h (try_purge_builds (rows_in m) (update_purge_upto (at m.core.state.ids (min i x.index)) m.core) h))

  pub finish_builds : (meta : SnapshotMeta ℕ (Unit {0})) (m : WorldMachine) → Unbuilding m.core → BuildsLed (finish_building_snapshot nat_cmp config meta m)
  unfolding finish_building_snapshot
  finish_builds meta m h e = either Unbuilding (is_newer_snapshot nat_cmp (built m.core).state meta) _ _ (recorded_builds (rows_in m) meta (built m.core) h) h

  -- starts, and stepping down
  pub startup_builds : (m : WorldMachine) → Unbuilding m.core → BuildsLed (startup nat_cmp entry_meaning config m)
  unfolding startup
  startup_builds m h = either BuildsLed (is_leader nat_cmp m.core.state config.id) _ _ (on_leader_builds (lead_on nat_cmp config) (update_internal_server_state nat_cmp entry_meaning config m) (internal_builds m h)) (λ e. h)

  pub step_down_builds : (m : WorldMachine) → Unbuilding m.core → BuildsLed (leader_step_down nat_cmp entry_meaning config m)
  unfolding leader_step_down
  step_down_builds m h = either BuildsLed (is_settled nat_cmp m.core.state) _ _ (internal_builds m h) (λ e. h)
