-- Between the commands of a turn: streams to build are queued only where there is a leader, so that a leader builds them.
use Rattle.std.specs.Prelude.{ℕ, ◌≡◌, Bool, true, false, List, [], ◌∷◌, length, Option, None, Some, Result, Ok, Err, map, refl, if◌then◌else◌}
use Rattle.std.specs.List.{AllByRecursion}
use Rattle.std.specs.Ordering.{is_eq, is_gt, nat_cmp}
use Rattle.std.specs.Result.{is_ok}
use Rattle.std.proofs.Common.{sym, subst}
use Rattle.raft_node.specs.raft_state.declared.ids.LogId.{LogId}
use Rattle.raft_node.specs.raft_state.declared.ids.Vote.{Vote}
use Rattle.raft_node.specs.raft_state.declared.membership.Members.{Members}
use Rattle.raft_node.specs.raft_state.Order.{vote_cmp}
use Rattle.raft_node.specs.raft_error.declared.error.EngineError.{EngineError}
use Rattle.raft_node.specs.raft_error.Number.{number_of}
use Rattle.raft_node.specs.raft_command.declared.command.Command.TheVariants as command
use Rattle.raft_node.specs.raft_command.declared.config.EngineConfig.{EngineConfig}
use Rattle.raft_node.specs.raft_command.declared.message.AppendEntriesResponse.{AppendEntriesResponse}
use Rattle.raft_node.specs.raft_command.declared.message.AppendEntriesResponse.TheVariants.{Success, PartialSuccess, Conflict, HigherVote}
use Rattle.raft_node.specs.raft_command.declared.replication.ReplicationResult.{ReplicationResult}
use Rattle.raft_node.specs.raft_command.declared.replication.RequestId.{RequestId}
use Rattle.raft_node.specs.raft_steps.Engine.{as_uncommitted, elect, handle_vote_resp, initialize}
use Rattle.raft_node.specs.raft_steps.InstallRefusals.{refusals_of_install}
use Rattle.raft_node.specs.raft_steps.Installs.{handle_install_full_snapshot}
use Rattle.raft_node.specs.raft_steps.Invariants.{IsSound}
use Rattle.raft_node.specs.raft_steps.LeaderHandler.{leader_append_entries}
use Rattle.raft_node.specs.raft_steps.Parts.{led_of, leading, on_core}
use Rattle.raft_node.specs.raft_steps.Refusals.{refusals_of_counter_led, refusals_of_elect, refusals_of_initialize, refusals_of_local_progress, refusals_of_propose, refusals_of_spent, refusals_of_trigger_snapshot, refusals_of_update_vote, refusals_of_vote_resp}
use Rattle.raft_node.specs.raft_steps.Replies.{update_progress}
use Rattle.raft_node.specs.raft_steps.ReplicationHandler.{initiate_replication, update_local_progress}
use Rattle.raft_node.specs.raft_steps.ReplyRefusals.{refusals_of_progress}
use Rattle.raft_node.specs.raft_steps.RequestRefusals.{refusals_of_append, refusals_of_commit, refusals_of_vote_req}
use Rattle.raft_node.specs.raft_steps.Requests.{append_answer, handle_commit_entries, handle_vote_req, vote_req_answer}
use Rattle.raft_node.specs.raft_steps.SnapshotCalls.{trigger_purge_log}
use Rattle.raft_node.specs.raft_steps.SnapshotHandler.{trigger_snapshot}
use Rattle.raft_node.specs.raft_steps.Starts.{leader_step_down, refusals_of_startup, refusals_of_step_down, startup}
use Rattle.raft_node.specs.raft_steps.VoteHandler.{update_vote}
use Rattle.raft_node.specs.raft_store.declared.entry.Entry.{Entry}
use Rattle.raft_node.specs.raft_store.Entries.{entry_meaning}
use Rattle.raft_node.specs.raft_store.Types.{EngineView, WorldCandidate, WorldCommand, WorldLeader, WorldMachine}
use Rattle.raft_node.specs.raft_calls.declared.feed.Feed.{Feed}
use Rattle.raft_node.specs.raft_calls.declared.feed.Feed.TheVariants.{Saved, Stored, Nothing}
use Rattle.raft_node.specs.raft_calls.declared.message.Body.{Body}
use Rattle.raft_node.specs.raft_calls.declared.message.Body.TheVariants as body
use Rattle.raft_node.specs.raft_calls.declared.message.Origin.{Origin}
use Rattle.raft_node.specs.raft_calls.Deliveries.{answered, appended, deliver, led_call, progressed, reply_token, take_append, take_append_reply, take_commit, take_higher_vote, take_result, unled_number, vote_replied, vote_reply, vote_requested, with_machine}
use Rattle.raft_node.specs.raft_calls.Elections.{elected, first_entry, initialized}
use Rattle.raft_node.specs.raft_calls.Feeds.{WorldLed, asks_itself, called, fed, grant_own, hold_own, own_grant}
use Rattle.raft_node.specs.raft_calls.LeaderCalls.{entries_proposed, entry_proposed, heartbeats_sent, stepped_down}
use Rattle.raft_node.specs.Net.{NodeView}
use Rattle.raft_node.specs.raft_calls.Snapshots.{purge_triggered, snapshot_triggered}
use Rattle.raft_node.specs.raft_calls.Starts.{begun_anew, resumed}
use Rattle.raft_node.specs.Starts.{engine_on}
use Rattle.raft_node.specs.raft_calls.Engines.{with_queue}
use Rattle.raft_node.proofs.raft_calls_proofs.StartReady.{begun_one}
use Rattle.proof_deeds.specs.Chains.{LeaderFor}
use Rattle.proof_deeds.specs.Knows.{Alone}
use Rattle.proof_deeds.proofs.LedBuilds.{BuildsLed, NoRebuild, Unbuilding, commit_entries_builds, elect_builds, handle_append_builds, handle_install_builds, initialize_builds, on_core_builds, startup_builds, step_down_builds, then_builds, trigger_builds, trigger_purge_builds, update_vote_builds, vote_req_builds, vote_resp_builds}

-- the first command of a queue has the leader that it needs, once it is popped
pub leader_for : (c : WorldCommand) (cs : List WorldCommand) (e : EngineView) → e.machine.core.output.items ≡ c ∷ cs → BuildsLed e.machine → LeaderFor c (with_queue e (record e.machine.core.output { items = cs }))
leader_for (command.RebuildReplicationStreams targets) cs e is h = go e.machine.leader refl where
  go : (o : Option WorldLeader) → e.machine.leader ≡ o → (l : WorldLeader) × (e.machine.leader ≡ Some l)
  go None q = absurd (subst (AllByRecursion NoRebuild) is (h q)).0
  go (Some l) q = (l, q)
leader_for (command.SaveVote v) cs e is h = tt
leader_for (command.AppendInputEntries v es) cs e is h = tt
leader_for (command.DeleteConflictLog since) cs e is h = tt
leader_for (command.PurgeLog upto) cs e is h = tt
leader_for (command.Commit seq already upto) cs e is h = tt
leader_for (command.StateMachine c) cs e is h = tt
leader_for (command.SendVote req) cs e is h = tt
leader_for (command.Replicate target req) cs e is h = tt
leader_for (command.ReplicateCommitted committed) cs e is h = tt
leader_for (command.Respond when reply) cs e is h = tt
leader_for command.BecomeLeader cs e is h = tt
leader_for command.QuitLeader cs e is h = tt

-- a call, refused or not
answered_builds : (o : Option (EngineError ℕ (Unit {0}))) (e after : EngineView) → BuildsLed e.machine → BuildsLed after.machine → BuildsLed (answered o e after).1.machine
answered_builds None e after h k = k
answered_builds (Some r) e after h k = h

called_builds : (o : Option (EngineError ℕ (Unit {0}))) (e : EngineView) (m : WorldMachine) → BuildsLed e.machine → BuildsLed m → BuildsLed (called o e m).machine
called_builds None e m h k = k
called_builds (Some r) e m h k = h

-- a leader's call
led_call_builds : (asks : WorldLed → Option (EngineError ℕ (Unit {0}))) (step : WorldLed → WorldLed) (e : EngineView) → BuildsLed e.machine → BuildsLed (led_call asks step e).1.machine
led_call_builds asks step e h = go e.machine.leader where
  engine_in : Option ℕ × EngineView → EngineView
  engine_in r = r.1

  go : (o : Option WorldLeader) → BuildsLed (engine_in (elim o as (λ _. Option ℕ × EngineView) [
    | None ↦ (Some (unled_number e), e)
    | Some l ↦
        (let led = led_of l e.machine.core.state e.machine.core.output in
        answered (asks led) e (with_machine e (leading e.machine (step led))))
  ])).machine
  go None = h
  go (Some l) = let led : WorldLed = led_of l e.machine.core.state e.machine.core.output in answered_builds (asks led) e (with_machine e (leading e.machine (step led))) h (λ e. cc)

-- what is fed back to an engine: beside a candidate there is no leader
pub fed_builds : (now : ℕ) (f : Feed) (e : EngineView) → IsSound nat_cmp e.config e.machine → Alone e.machine.leader e.machine.candidate → BuildsLed e.machine → BuildsLed (fed now f e).machine
fed_builds now Nothing e sound alone h = h
fed_builds now (Stored v x) e sound alone h = go e.machine.leader where
  own : (l : WorldLeader) (b : Bool) → BuildsLed (if b then hold_own x l e else e).machine
  own l true =
      let led : WorldLed = led_of l e.machine.core.state e.machine.core.output in
      called_builds (refusals_of_local_progress nat_cmp e.config x led) e (leading e.machine (update_local_progress nat_cmp e.config x led)) h (λ e. cc)
  own l false = h

  go : (o : Option WorldLeader) → BuildsLed (elim o as (λ _. EngineView) [ None ↦ e | Some l ↦ (if is_eq (vote_cmp nat_cmp l.vote v) then hold_own x l e else e) ]).machine
  go None = h
  go (Some l) = own l (is_eq (vote_cmp nat_cmp l.vote v))
fed_builds now (Saved v) e sound alone h = go e.machine.candidate alone where
  unled : (o : Option WorldLeader) (c : WorldCandidate) → Alone o (Some c) → o ≡ None
  unled None c a = refl
  unled (Some l) c a = cc

  own : (b : Bool) → e.machine.leader ≡ None → BuildsLed (if b then grant_own now v e else e).machine
  own true none =
      called_builds (refusals_of_vote_resp nat_cmp e.config e.config.id (own_grant v) e.machine) e (handle_vote_resp nat_cmp entry_meaning e.config e.config.id (own_grant v) now e.machine) h
      (vote_resp_builds e.config e.config.id (own_grant v) now e.machine sound (h none))
  own false none = h

  go : (o : Option WorldCandidate) → Alone e.machine.leader o → BuildsLed (elim o as (λ _. EngineView) [ None ↦ e | Some c ↦ (if asks_itself v c e then grant_own now v e else e) ]).machine
  go None a = h
  go (Some c) a = own (asks_itself v c e) (unled e.machine.leader c a)

-- a start
pub resumed_builds : (settings : EngineConfig ℕ) (saved : Bool) (n : NodeView) → BuildsLed (resumed (engine_on settings saved n)).1.machine
resumed_builds settings saved n =
    let e : EngineView = engine_on settings saved n in
    answered_builds (refusals_of_startup nat_cmp e.config e.machine) e (with_machine e (startup nat_cmp entry_meaning e.config e.machine)) (λ q. tt) (startup_builds e.config e.machine tt)

-- the calls of an event, of an engine with nothing queued
module _ (e : EngineView) (none : e.machine.core.output.items ≡ []) where
  pub free : Unbuilding e.machine.core
  free = subst (AllByRecursion NoRebuild) (sym none) tt

  pub still_builds : BuildsLed e.machine
  still_builds q = free

  pub initialized_builds : (first : Members ℕ (Unit {0})) (now : ℕ) → BuildsLed (initialized first now e).1.machine
  initialized_builds first now =
      answered_builds (refusals_of_initialize nat_cmp entry_meaning e.config 0 (first_entry first) e.machine) e (with_machine e (initialize nat_cmp entry_meaning e.config 0 (first_entry first) now e.machine)) still_builds
      (initialize_builds e.config 0 (first_entry first) now e.machine free)

  pub elected_builds : (now : ℕ) → BuildsLed (elected now e).1.machine
  elected_builds now = answered_builds (refusals_of_elect nat_cmp e.config e.machine) e (with_machine e (elect nat_cmp entry_meaning e.config now e.machine)) still_builds (elect_builds e.config now e.machine free)

  pub entries_build : (entries : List Entry) → BuildsLed (entries_proposed entries e).1.machine
  entries_build entries = led_call_builds (refusals_of_propose (length entries)) (leader_append_entries nat_cmp entry_meaning e.config entries) e still_builds

  pub entry_builds : (entry : Entry) → BuildsLed (entry_proposed entry e).1.machine
  entry_builds entry = entries_build (entry ∷ [])

  pub heartbeats_build : BuildsLed (heartbeats_sent e).1.machine
  heartbeats_build = led_call_builds refusals_of_counter_led (initiate_replication nat_cmp e.config true) e still_builds

  pub progressed_builds : (target : ℕ) (id : RequestId) (result : Result (ReplicationResult ℕ) (Unit {0})) → BuildsLed (progressed target id result e).1.machine
  progressed_builds target id result = led_call_builds (refusals_of_progress nat_cmp e.config target id result) (update_progress nat_cmp e.config target id result) e still_builds

  pub triggered_builds : BuildsLed (snapshot_triggered e).1.machine
  triggered_builds = answered_builds (refusals_of_trigger_snapshot e.machine.core) e (with_machine e (on_core trigger_snapshot e.machine)) still_builds (on_core_builds trigger_snapshot e.machine trigger_builds still_builds)

  pub purged_builds : (i : ℕ) → BuildsLed (purge_triggered i e).1.machine
  purged_builds i = answered_builds (refusals_of_spent e.machine) e (with_machine e (trigger_purge_log nat_cmp i e.machine)) still_builds (trigger_purge_builds e.config i e.machine free)

  pub stepped_builds : BuildsLed (stepped_down e).1.machine
  stepped_builds = answered_builds (refusals_of_step_down nat_cmp e.config e.machine) e (with_machine e (leader_step_down nat_cmp entry_meaning e.config e.machine)) still_builds (step_down_builds e.config e.machine free)

  -- deliveries
  higher_builds : (v : Vote ℕ) (now : ℕ) → BuildsLed (take_higher_vote v now e).1.machine
  higher_builds v now =
      answered_builds (refusals_of_update_vote nat_cmp e.config (as_uncommitted v) e.machine) e (with_machine e (update_vote nat_cmp entry_meaning e.config (as_uncommitted v) now e.machine)) still_builds
      (update_vote_builds e.config (as_uncommitted v) now e.machine free)

  append_builds : (v : Vote ℕ) (prev : Option (LogId ℕ)) (es : List Entry) (committed : Option (LogId ℕ)) (now : ℕ) → BuildsLed (take_append v prev es committed now e).1.machine
  append_builds v prev es committed now = go (refusals_of_append nat_cmp e.config v prev (map (λ x. x.log_id) es) e.machine) where
    new : EngineView
    new = appended v prev es now e

    done : BuildsLed (appended v prev es now e).machine
    done = handle_append_builds e.config v prev es reply_token now e.machine free

    engine_in : Option ℕ × EngineView → EngineView
    engine_in r = r.1

    by : (b : Bool) → BuildsLed (engine_in (if b then take_commit committed (appended v prev es now e) else (None, appended v prev es now e))).machine
    by true = answered_builds (refusals_of_commit nat_cmp committed new.machine) new (with_machine new (handle_commit_entries nat_cmp entry_meaning new.config committed new.machine)) done (commit_entries_builds new.config committed new.machine done)
    by false = done

    go : (o : Option (EngineError ℕ (Unit {0}))) → BuildsLed (engine_in (elim o as (λ _. Option ℕ × EngineView) [
      | Some r ↦ (Some (number_of r), e)
      | None ↦ (if is_ok (append_answer nat_cmp entry_meaning e.config v prev now e.machine) then take_commit committed (appended v prev es now e) else (None, appended v prev es now e))
    ])).machine
    go (Some r) = still_builds
    go None = by (is_ok (append_answer nat_cmp entry_meaning e.config v prev now e.machine))

  append_reply_builds : (from : ℕ) (o : Origin) (reply : AppendEntriesResponse ℕ) (prev upto : Option (LogId ℕ)) (now : ℕ) → BuildsLed (take_append_reply from o reply prev upto now e).1.machine
  append_reply_builds from o Success prev upto now = progressed_builds from o.request_id (Ok (record { sending_time = o.sent_at; result = Ok upto }))
  append_reply_builds from o (PartialSuccess x) prev upto now = progressed_builds from o.request_id (Ok (record { sending_time = o.sent_at; result = Ok x }))
  append_reply_builds from o Conflict None upto now = still_builds
  append_reply_builds from o Conflict (Some x) upto now = progressed_builds from o.request_id (Ok (record { sending_time = o.sent_at; result = Err x }))
  append_reply_builds from o (HigherVote v) prev upto now = higher_builds v now

  pub delivered_builds : (from : ℕ) (b : Body) (now : ℕ) → IsSound nat_cmp e.config e.machine → BuildsLed (deliver from b now e).1.machine
  delivered_builds from (body.VoteRequest req) now sound =
      answered_builds (refusals_of_vote_req nat_cmp e.config req now e.machine) e (vote_requested req now e) still_builds
      (λ q. then_builds (handle_vote_req nat_cmp entry_meaning e.config req now e.machine).core (vote_reply (vote_req_answer nat_cmp entry_meaning e.config req now e.machine)) tt (vote_req_builds e.config req now e.machine free q))
  delivered_builds from (body.VoteReply resp) now sound =
      answered_builds (refusals_of_vote_resp nat_cmp e.config from resp e.machine) e (vote_replied from resp now e) still_builds (vote_resp_builds e.config from resp now e.machine sound free)
  delivered_builds from (body.AppendRequest o prev es committed) now sound = append_builds o.session_id.vote prev es committed now
  delivered_builds from (body.AppendReply o reply prev upto) now sound = append_reply_builds from o reply prev upto now
  delivered_builds from (body.SnapshotRequest o snapshot) now sound =
      answered_builds (refusals_of_install nat_cmp e.config o.session_id.vote snapshot.meta e.machine) e
      (with_machine e (handle_install_full_snapshot nat_cmp entry_meaning e.config o.session_id.vote snapshot reply_token now e.machine)) still_builds
      (handle_install_builds e.config o.session_id.vote snapshot reply_token now e.machine free)
  delivered_builds from (body.SnapshotReply o reply upto) now sound = go (is_gt (vote_cmp nat_cmp reply.vote o.session_id.vote)) where
    engine_in : Option ℕ × EngineView → EngineView
    engine_in r = r.1

    go : (b : Bool) → BuildsLed (engine_in (if b then take_higher_vote reply.vote now e else take_result from o (Ok upto) e)).machine
    go true = higher_builds reply.vote now
    go false = progressed_builds from o.request_id (Ok (record { sending_time = o.sent_at; result = Ok upto }))

-- a start that doesn't lead on
pub begun_builds : (now : ℕ) (settings : EngineConfig ℕ) (saved : Bool) (n : NodeView) → BuildsLed (begun_anew now (engine_on settings saved n)).1.machine
begun_builds now settings saved n =
    let e : EngineView = engine_on settings saved n in
    begun_one (λ r. BuildsLed r.1.machine) now e (λ _. elected_builds e refl now) (still_builds e refl) (resumed_builds settings saved n)
