-- In each reached world a running leader's log ends with an entry of its own, or of a later leader; and while an event's queue is worked
-- off, requests are sent only behind such an entry.
use Rattle.std.proofs.Common.{ℕ, ◌≡◌, Bool, true, false, List, [], ◌∷◌, refl, sym, subst, Option, None, Some, Result, Ok, Err}
use Rattle.std.specs.Prelude.{IfSome, if◌then◌else◌, map}
use Rattle.std.specs.List.{AllByRecursion}
use Rattle.std.specs.Ordering.{is_eq, is_gt, nat_cmp}
use Rattle.std.specs.Result.{is_ok}
use Rattle.proof_deeds.specs.raft_state.declared.ids.LogId.{LogId}
use Rattle.proof_deeds.specs.raft_state.declared.ids.Vote.{Vote}
use Rattle.proof_deeds.specs.raft_state.declared.membership.Members.{Members}
use Rattle.proof_deeds.specs.raft_state.Order.{vote_cmp}
use Rattle.proof_deeds.specs.raft_state.Same.{nat_same}
use Rattle.std.proofs.lemmas.Cmp.{nat_cmp_total}
use Rattle.proof_deeds.specs.raft_error.declared.error.EngineError.{EngineError}
use Rattle.proof_deeds.specs.raft_error.Number.{number_of}
use Rattle.proof_deeds.specs.raft_command.declared.message.AppendEntriesResponse.{AppendEntriesResponse}
use Rattle.proof_deeds.specs.raft_command.declared.message.AppendEntriesResponse.TheVariants.{Conflict, HigherVote, PartialSuccess, Success}
use Rattle.proof_deeds.specs.raft_command.declared.replication.ReplicationResult.{ReplicationResult}
use Rattle.proof_deeds.specs.raft_command.declared.replication.RequestId.{RequestId}
use Rattle.proof_deeds.specs.raft_steps.Engine.{as_uncommitted, elect, handle_vote_resp, initialize}
use Rattle.proof_deeds.specs.raft_steps.Installs.{handle_install_full_snapshot}
use Rattle.proof_deeds.specs.raft_steps.InstallRefusals.{refusals_of_fit, refusals_of_install}
use Rattle.proof_deeds.specs.raft_steps.LeaderHandler.{leader_append_entries}
use Rattle.proof_deeds.specs.raft_steps.Parts.{led_of, leading, on_core}
use Rattle.proof_deeds.specs.raft_steps.Refusals.{refusals_of_counter_led, refusals_of_elect, refusals_of_initialize, refusals_of_local_progress, refusals_of_propose, refusals_of_spent, refusals_of_trigger_snapshot, refusals_of_update_vote, refusals_of_vote_resp}
use Rattle.proof_deeds.specs.raft_steps.Replies.{update_progress}
use Rattle.proof_deeds.specs.raft_steps.ReplicationHandler.{initiate_replication, update_local_progress}
use Rattle.proof_deeds.specs.raft_steps.ReplyRefusals.{refusals_of_progress}
use Rattle.proof_deeds.specs.raft_steps.RequestRefusals.{refusals_of_append, refusals_of_commit, refusals_of_follow, refusals_of_vote_req}
use Rattle.proof_deeds.specs.raft_steps.Requests.{append_answer, handle_commit_entries, handle_vote_req, vote_req_answer}
use Rattle.proof_deeds.specs.raft_steps.SnapshotCalls.{finish_building_snapshot, trigger_purge_log}
use Rattle.proof_deeds.specs.raft_steps.SnapshotHandler.{trigger_snapshot}
use Rattle.proof_deeds.specs.raft_steps.Starts.{leader_step_down, refusals_of_startup, refusals_of_step_down, startup}
use Rattle.proof_deeds.specs.raft_steps.VoteHandler.{update_vote}
use Rattle.proof_deeds.proofs.raft_steps_proofs.KeptFollow.{not_own}
use Rattle.proof_deeds.specs.raft_store.declared.entry.Entry.{Entry}
use Rattle.proof_deeds.specs.raft_store.Built.{meta_of}
use Rattle.proof_deeds.specs.raft_store.Entries.{entry_meaning}
use Rattle.proof_deeds.specs.raft_store.Types.{EngineView, WorldCandidate, WorldCommand, WorldLeader, WorldMachine}
use Rattle.proof_deeds.specs.raft_schedule.declared.event.Start.{Start}
use Rattle.proof_deeds.specs.raft_schedule.declared.event.Start.TheVariants as starts
use Rattle.proof_deeds.specs.raft_schedule.declared.event.SkipReason.{SkipReason}
use Rattle.proof_deeds.specs.raft_schedule.declared.event.SkipReason.TheVariants.{HasLeader}
use Rattle.proof_deeds.specs.raft_calls.declared.feed.Feed.{Feed}
use Rattle.proof_deeds.specs.raft_calls.declared.feed.Feed.TheVariants.{Nothing, Saved, Stored}
use Rattle.proof_deeds.specs.raft_calls.declared.message.Body.{Body}
use Rattle.proof_deeds.specs.raft_calls.declared.message.Body.TheVariants as body
use Rattle.proof_deeds.specs.raft_calls.declared.message.Origin.{Origin}
use Rattle.proof_deeds.specs.raft_calls.Deliveries.{answered, appended, deliver, led_call, progressed, reply_token, take_append, take_append_reply, take_commit, take_higher_vote, take_result, unled_number, vote_replied, vote_reply, vote_requested, with_machine}
use Rattle.proof_deeds.specs.raft_calls.Elections.{elected, first_entry, initialized, skip_initialize}
use Rattle.proof_deeds.specs.raft_calls.Feeds.{WorldLed, asks_itself, called, fed, grant_own, hold_own, own_grant}
use Rattle.proof_deeds.specs.raft_calls.LeaderCalls.{entries_proposed, failed, heartbeats_sent, inflight_to, proposed, read_asked, request_of, stepped_down}
use Rattle.proof_deeds.specs.raft_calls.Memberships.{groups_in, learners_changed, members_with, membership_changed, membership_entry}
use Rattle.proof_deeds.specs.raft_calls.Snapshots.{purge_triggered, snapshot_triggered, told_built}
use Rattle.proof_deeds.specs.raft_calls.Starts.{begun_anew, resumed}
use Rattle.proof_deeds.proofs.raft_calls_proofs.StartReady.{begun_one}
use Rattle.proof_deeds.specs.raft_node.declared.act.Act.{Act}
use Rattle.proof_deeds.specs.raft_node.declared.act.Act.TheVariants.{ChangeLearners, ChangeMembership, Elect, Fail, FinishSnapshot, Initialize, Propose, Read, Restart, SendHeartbeat, StepDown, Stop, Take, TriggerPurge, TriggerSnapshot}
use Rattle.proof_deeds.specs.raft_node.declared.given.Given.{Given}
use Rattle.proof_deeds.specs.raft_node.Events.{calls_at, on_engine, skip_reason}
use Rattle.proof_deeds.specs.raft_node.Net.{NodeView}
use Rattle.proof_deeds.specs.raft_node.Snapshots.{finish_snapshot, kept_built}
use Rattle.proof_deeds.specs.raft_node.Starts.{engine_on, restart, unsaved}
use Rattle.proof_deeds.specs.Knows.{Alone}
use Rattle.proof_progress.proofs.EntriesCalled.{Rested}
use Rattle.proof_progress.proofs.OwnQueued.{HasOwn, InOrder, LedInOrder, SendsOwn, Unsent, append_own, commit_own, elect_own, finish_own, initialize_own, initiates, install_own, leader_appends_any, local_own, progress_own, startup_own, step_down_own, then_plain, trigger_on, trigger_purge_own, vote_own, vote_req_own, vote_resp_own}

abbrev pub Answer : Type 0
Answer = Option ℕ × EngineView

abbrev pub engine_in : Answer → EngineView
engine_in r = r.1

-- who leads has an entry of its own
pub leads_own : (o : Option WorldLeader) (cs : List WorldCommand) → SendsOwn o cs → IfSome o HasOwn
leads_own None cs h = tt
leads_own (Some l) cs h = h.0

-- Calls

answered_own : (asks : Option (EngineError ℕ (Unit {0}))) (e after : EngineView) → InOrder e.machine → (asks ≡ None → InOrder after.machine) → InOrder (engine_in (answered asks e after)).machine
answered_own None e after h k = k refl
answered_own (Some r) e after h k = h

led_call_own : (asks : WorldLed → Option (EngineError ℕ (Unit {0}))) (step : WorldLed → WorldLed) (e : EngineView) → InOrder e.machine
    → ((l : WorldLeader) → e.machine.leader ≡ Some l → LedInOrder (step (led_of l e.machine.core.state e.machine.core.output))) → InOrder (engine_in (led_call asks step e)).machine
led_call_own asks step e h k = go e.machine.leader refl
  where
    go : (o : Option WorldLeader) → e.machine.leader ≡ o → InOrder (engine_in (elim o as (λ _. Answer) [
      | None ↦ (Some (unled_number e), e)
      | Some l ↦
          (let led = led_of l e.machine.core.state e.machine.core.output in
          answered (asks led) e (with_machine e (leading e.machine (step led))))
    ])).machine
    go None q = h
    go (Some l) q = answered_own (asks (led_of l e.machine.core.state e.machine.core.output)) e (with_machine e (leading e.machine (step (led_of l e.machine.core.state e.machine.core.output)))) h (λ _. k l q)

-- of an engine with nothing queued
module _ (e : EngineView) (none : e.machine.core.output.items ≡ []) (h : InOrder e.machine) where
  free : Unsent e.machine.core
  free = subst (AllByRecursion _) (sym none) tt

  own : IfSome e.machine.leader HasOwn
  own = leads_own e.machine.leader e.machine.core.output.items h

  led_own : (l : WorldLeader) → e.machine.leader ≡ Some l → LedInOrder (led_of l e.machine.core.state e.machine.core.output)
  led_own l q = subst (λ o. SendsOwn o e.machine.core.output.items) q h

  pub initialized_own : (first : Members ℕ (Unit {0})) (now : ℕ) → e.machine.leader ≡ None → InOrder (engine_in (initialized first now e)).machine
  initialized_own first now unled =
      answered_own (refusals_of_initialize nat_cmp entry_meaning e.config 0 (first_entry first) e.machine) e (with_machine e (initialize nat_cmp entry_meaning e.config 0 (first_entry first) now e.machine)) h
      (λ _. initialize_own e.config 0 (first_entry first) now e.machine unled free)

  pub elected_own : (now : ℕ) → InOrder (engine_in (elected now e)).machine
  elected_own now = answered_own (refusals_of_elect nat_cmp e.config e.machine) e (with_machine e (elect nat_cmp entry_meaning e.config now e.machine)) h (λ _. elect_own e.config now e.machine own free)

  pub entries_own : (entries : List Entry) → InOrder (engine_in (entries_proposed entries e)).machine
  entries_own entries =
      led_call_own (refusals_of_propose _) (leader_append_entries nat_cmp entry_meaning e.config entries) e h
      (λ l q. leader_appends_any e.config entries (led_of l e.machine.core.state e.machine.core.output) (led_own l q).0 free)

  pub heartbeats_own : InOrder (engine_in (heartbeats_sent e)).machine
  heartbeats_own = led_call_own refusals_of_counter_led (initiate_replication nat_cmp e.config true) e h (λ l q. initiates e.config true (led_of l e.machine.core.state e.machine.core.output) (led_own l q))

  pub progressed_own : (target : ℕ) (id : RequestId) (result : Result (ReplicationResult ℕ) (Unit {0})) → InOrder (engine_in (progressed target id result e)).machine
  progressed_own target id result =
      led_call_own (refusals_of_progress nat_cmp e.config target id result) (update_progress nat_cmp e.config target id result) e h
      (λ l q. progress_own e.config target id result (led_of l e.machine.core.state e.machine.core.output) (led_own l q))

  pub triggered_own : InOrder (engine_in (snapshot_triggered e)).machine
  triggered_own = answered_own (refusals_of_trigger_snapshot e.machine.core) e (with_machine e (on_core trigger_snapshot e.machine)) h (λ _. trigger_on e.machine.leader e.machine.core h)

  pub purged_own : (i : ℕ) → InOrder (engine_in (purge_triggered i e)).machine
  purged_own i = answered_own (refusals_of_spent e.machine) e (with_machine e (trigger_purge_log nat_cmp i e.machine)) h (λ _. trigger_purge_own e.config i e.machine h)

  pub stepped_own : InOrder (engine_in (stepped_down e)).machine
  stepped_own = answered_own (refusals_of_step_down nat_cmp e.config e.machine) e (with_machine e (leader_step_down nat_cmp entry_meaning e.config e.machine)) h (λ _. step_down_own e.config e.machine own free)

  -- Deliveries

  higher_own : (v : Vote ℕ) (now : ℕ) → InOrder (engine_in (take_higher_vote v now e)).machine
  higher_own v now =
      answered_own (refusals_of_update_vote nat_cmp e.config (as_uncommitted v) e.machine) e (with_machine e (update_vote nat_cmp entry_meaning e.config (as_uncommitted v) now e.machine)) h
      (λ _. vote_own e.config (as_uncommitted v) now e.machine own free)

  appends_own : (v : Vote ℕ) (prev : Option (LogId ℕ)) (es : List Entry) (committed : Option (LogId ℕ)) (now : ℕ) → InOrder (engine_in (take_append v prev es committed now e)).machine
  appends_own v prev es committed now = go (refusals_of_append nat_cmp e.config v prev (map (λ x. x.log_id) es) e.machine) refl
    where
      new : EngineView
      new = appended v prev es now e

      done : refusals_of_append nat_cmp e.config v prev (map (λ x. x.log_id) es) e.machine ≡ None → InOrder (appended v prev es now e).machine
      done asks =
          append_own e.config v prev es reply_token now e.machine
          (not_own nat_cmp nat_cmp_total nat_same entry_meaning e.config v (refusals_of_follow nat_cmp e.machine.core.state v prev (map (λ x. x.log_id) es)) e.machine asks) own free

      by : InOrder (appended v prev es now e).machine → (b : Bool) → InOrder (engine_in (if b then take_commit committed (appended v prev es now e) else (None, appended v prev es now e))).machine
      by k true = answered_own (refusals_of_commit nat_cmp committed new.machine) new (with_machine new (handle_commit_entries nat_cmp entry_meaning new.config committed new.machine)) k (λ _. commit_own new.config committed new.machine k)
      by k false = k

      go : (o : Option (EngineError ℕ (Unit {0}))) → refusals_of_append nat_cmp e.config v prev (map (λ x. x.log_id) es) e.machine ≡ o → InOrder (engine_in (elim o as (λ _. Answer) [
        | Some r ↦ (Some (number_of r), e)
        | None ↦ (if is_ok (append_answer nat_cmp entry_meaning e.config v prev now e.machine) then take_commit committed (appended v prev es now e) else (None, appended v prev es now e))
      ])).machine
      go (Some r) q = h
      go None q = by (done q) (is_ok (append_answer nat_cmp entry_meaning e.config v prev now e.machine))

  append_reply_own : (from : ℕ) (o : Origin) (reply : AppendEntriesResponse ℕ) (prev upto : Option (LogId ℕ)) (now : ℕ) → InOrder (engine_in (take_append_reply from o reply prev upto now e)).machine
  append_reply_own from o Success prev upto now = progressed_own from o.request_id (Ok (record { sending_time = o.sent_at; result = Ok upto }))
  append_reply_own from o (PartialSuccess x) prev upto now = progressed_own from o.request_id (Ok (record { sending_time = o.sent_at; result = Ok x }))
  append_reply_own from o Conflict None upto now = h
  append_reply_own from o Conflict (Some x) upto now = progressed_own from o.request_id (Ok (record { sending_time = o.sent_at; result = Err x }))
  append_reply_own from o (HigherVote v) prev upto now = higher_own v now

  pub delivered_own : (from : ℕ) (b : Body) (now : ℕ) → InOrder (engine_in (deliver from b now e)).machine
  delivered_own from (body.VoteRequest req) now =
      answered_own (refusals_of_vote_req nat_cmp e.config req now e.machine) e (vote_requested req now e) h
      (λ _.
      let m : WorldMachine = handle_vote_req nat_cmp entry_meaning e.config req now e.machine in
      then_plain m.leader m.core (vote_reply (vote_req_answer nat_cmp entry_meaning e.config req now e.machine)) (tt, tt) (vote_req_own e.config req now e.machine own free))
  delivered_own from (body.VoteReply resp) now =
      answered_own (refusals_of_vote_resp nat_cmp e.config from resp e.machine) e (vote_replied from resp now e) h (λ _. vote_resp_own e.config from resp now e.machine own free)
  delivered_own from (body.AppendRequest o prev es committed) now = appends_own o.session_id.vote prev es committed now
  delivered_own from (body.AppendReply o reply prev upto) now = append_reply_own from o reply prev upto now
  delivered_own from (body.SnapshotRequest o snapshot) now =
      answered_own (refusals_of_install nat_cmp e.config o.session_id.vote snapshot.meta e.machine) e
      (with_machine e (handle_install_full_snapshot nat_cmp entry_meaning e.config o.session_id.vote snapshot reply_token now e.machine)) h
      (λ asks.
      install_own e.config o.session_id.vote snapshot reply_token now e.machine
      (not_own nat_cmp nat_cmp_total nat_same entry_meaning e.config o.session_id.vote (refusals_of_fit nat_cmp e.machine.core.state o.session_id.vote snapshot.meta) e.machine asks) own free)
  delivered_own from (body.SnapshotReply o reply upto) now = go (is_gt (vote_cmp nat_cmp reply.vote o.session_id.vote))
    where
      go : (b : Bool) → InOrder (engine_in (if b then take_higher_vote reply.vote now e else take_result from o (Ok upto) e)).machine
      go true = higher_own reply.vote now
      go false = progressed_own from o.request_id (Ok (record { sending_time = o.sent_at; result = Ok upto }))

-- a start
resumed_own : (e : EngineView) → e.machine.core.output.items ≡ [] → e.machine.leader ≡ None → InOrder e.machine → InOrder (engine_in (resumed e)).machine
resumed_own e none unled h =
    answered_own (refusals_of_startup nat_cmp e.config e.machine) e (with_machine e (startup nat_cmp entry_meaning e.config e.machine)) h
    (λ _. startup_own e.config e.machine unled (free e none h))

begun_own : (now : ℕ) (e : EngineView) → e.machine.core.output.items ≡ [] → e.machine.leader ≡ None → InOrder e.machine → InOrder (engine_in (begun_anew now e)).machine
begun_own now e none unled h = begun_one (λ r. InOrder (engine_in r).machine) now e (λ _. elected_own e none h now) h (resumed_own e none unled h)

-- At a node

abbrev pub NodeInOrder : Option EngineView → Type 0
NodeInOrder o = IfSome o (λ e. InOrder e.machine)

abbrev pub node_in : Option ℕ × NodeView → NodeView
node_in r = r.1

on_engine_own : (f : EngineView → Answer) (n : NodeView) → Rested n → NodeInOrder n.engine → ((e : EngineView) → n.engine ≡ Some e → e.machine.core.output.items ≡ [] → InOrder e.machine → InOrder (engine_in (f e)).machine) → NodeInOrder (node_in (on_engine f n)).engine
on_engine_own f n r h k = go n.engine refl h
  where
    go : (o : Option EngineView) → n.engine ≡ o → NodeInOrder o
        → NodeInOrder (node_in (elim o as (λ _. Option ℕ × NodeView) [ None ↦ (None, n) | Some e ↦ (let r = f e in (r.0, record n { engine = Some r.1 })) ])).engine
    go None q i = subst NodeInOrder (sym q) tt
    go (Some e) q i = k e q (r e q) i

finish_own_at : (n : NodeView) → NodeInOrder n.engine → NodeInOrder (node_in (finish_snapshot n)).engine
unfolding finish_building_snapshot
finish_own_at n h = go n.engine refl h
  where
    told : (e : EngineView) (es : List Entry) → InOrder e.machine → (o : Option (EngineError ℕ (Unit {0})))
        → NodeInOrder (node_in (kept_built es n (answered o e (with_machine e (finish_building_snapshot nat_cmp e.config (meta_of entry_meaning es) e.machine))))).engine
    told e es i None = finish_own e.config (meta_of entry_meaning es) e.machine i
    told e es i (Some k) = h

    noted : (e : EngineView) → InOrder e.machine → (o : Option (List Entry))
        → NodeInOrder (node_in (elim o as (λ _. Option ℕ × NodeView) [ None ↦ (None, n) | Some es ↦ kept_built es n (told_built es e) ])).engine
    noted e i None = h
    noted e i (Some es) = told e es i (refusals_of_spent e.machine)

    go : (o : Option EngineView) → n.engine ≡ o → NodeInOrder o
        → NodeInOrder (node_in (elim o as (λ _. Option ℕ × NodeView) [ None ↦ (None, n) | Some e ↦ elim n.noted as (λ _. Option ℕ × NodeView) [ None ↦ (None, n) | Some es ↦ kept_built es n (told_built es e) ] ])).engine
    go None q i = h
    go (Some e) q i = noted e i n.noted

restart_own : (given : Given) (start : Start) (n : NodeView) → NodeInOrder (node_in (restart given.settings start n)).engine
restart_own given starts.Plain n = resumed_own (engine_on given.settings false n) refl refl tt
restart_own given starts.Saved n = resumed_own (engine_on given.settings true n) refl refl tt
restart_own given starts.Bare n = begun_own n.moment (engine_on given.settings false (unsaved n)) refl refl tt

-- the first entry is appended where no node leads
unled_first : (n : NodeView) (e : EngineView) → n.engine ≡ Some e → skip_reason Initialize n ≡ None → e.machine.leader ≡ None
unled_first n e is s = go n.engine is s
  where
    of : (o : Option WorldLeader) → (if Rattle.std.specs.Prelude.is_some o then Some HasLeader else None) ≡ None → o ≡ None
    of None z = refl
    of (Some l) z = cc

    go : (o : Option EngineView) → o ≡ Some e → elim o as (λ _. Option SkipReason) [ None ↦ Rattle.proof_deeds.specs.raft_node.Events.skip_stopped Initialize | Some x ↦ skip_initialize x ] ≡ None → e.machine.leader ≡ None
    go None q z = cc
    go (Some x) q z = let same : x ≡ e = cc in subst (λ (x : EngineView). x.machine.leader ≡ None) same (of x.machine.leader z)

pub calls_own : (given : Given) (act : Act) (n : NodeView) → Rested n → skip_reason act n ≡ None → NodeInOrder n.engine → NodeInOrder (node_in (calls_at given act n)).engine
calls_own given Initialize n r s h = on_engine_own (initialized given.membership n.moment) n r h (λ e is none i. initialized_own e none i given.membership n.moment (unled_first n e is s))
calls_own given (Elect candidates) n r s h = on_engine_own (elected n.moment) n r h (λ e is none i. elected_own e none i n.moment)
calls_own given (Take m) n r s h = on_engine_own (deliver m.from m.body n.moment) n r h (λ e is none i. delivered_own e none i m.from m.body n.moment)
calls_own given (Propose values) n r s h = on_engine_own (proposed values) n r h (λ e is none i. entries_own e none i _)
calls_own given SendHeartbeat n r s h = on_engine_own heartbeats_sent n r h (λ e is none i. heartbeats_own e none i)
calls_own given (Fail target) n r s h = on_engine_own (failed target) n r h (λ e is none i. progressed_own e none i target (request_of (inflight_to target e)) (Err tt))
calls_own given TriggerSnapshot n r s h = on_engine_own snapshot_triggered n r h (λ e is none i. triggered_own e none i)
calls_own given FinishSnapshot n r s h = finish_own_at n h
calls_own given (TriggerPurge k) n r s h = on_engine_own (purge_triggered k) n r h (λ e is none i. purged_own e none i k)
calls_own given (Restart start) n r s h = restart_own given start n
calls_own given (ChangeLearners learners) n r s h = on_engine_own (learners_changed learners) n r h (λ e is none i. entries_own e none i (membership_entry (members_with (groups_in e) learners) ∷ []))
calls_own given (ChangeMembership groups learners) n r s h = on_engine_own (membership_changed groups learners) n r h (λ e is none i. entries_own e none i (membership_entry (members_with groups learners) ∷ []))
calls_own given Read n r s h = on_engine_own read_asked n r h (λ e is none i. i)
calls_own given StepDown n r s h = on_engine_own stepped_down n r h (λ e is none i. stepped_own e none i)
calls_own given Stop n r s h = tt

-- What is fed back

called_own : {A : Type 0} (asks : Option A) (e : EngineView) (m : WorldMachine) → InOrder e.machine → InOrder m → InOrder (called asks e m).machine
called_own None e m h k = k
called_own (Some r) e m h k = h

pub fed_own : (now : ℕ) (f : Feed) (e : EngineView) → Alone e.machine.leader e.machine.candidate → InOrder e.machine → InOrder (fed now f e).machine
fed_own now Nothing e alone h = h
fed_own now (Stored v x) e alone h = go e.machine.leader refl
  where
    holds : (l : WorldLeader) → e.machine.leader ≡ Some l → (b : Bool) → InOrder (if b then hold_own x l e else e).machine
    holds l q true =
        let led : WorldLed = led_of l e.machine.core.state e.machine.core.output in
        called_own (refusals_of_local_progress nat_cmp e.config x led) e (leading e.machine (update_local_progress nat_cmp e.config x led)) h (local_own e.config x led (subst (λ o. SendsOwn o e.machine.core.output.items) q h))
    holds l q false = h

    go : (o : Option WorldLeader) → e.machine.leader ≡ o → InOrder (elim o as (λ _. EngineView) [ None ↦ e | Some l ↦ (if is_eq (vote_cmp nat_cmp l.vote v) then hold_own x l e else e) ]).machine
    go None q = h
    go (Some l) q = holds l q (is_eq (vote_cmp nat_cmp l.vote v))
fed_own now (Saved v) e alone h = go e.machine.candidate alone
  where
    unled : (o : Option WorldLeader) (c : WorldCandidate) → Alone o (Some c) → o ≡ None
    unled None c a = refl
    unled (Some l) c a = cc

    grants : (b : Bool) → e.machine.leader ≡ None → InOrder (if b then grant_own now v e else e).machine
    grants true none =
        called_own (refusals_of_vote_resp nat_cmp e.config e.config.id (own_grant v) e.machine) e (handle_vote_resp nat_cmp entry_meaning e.config e.config.id (own_grant v) now e.machine) h
        (vote_resp_own e.config e.config.id (own_grant v) now e.machine (subst (λ o. IfSome o HasOwn) (sym none) tt) (subst (λ o. SendsOwn o e.machine.core.output.items) none h))
    grants false none = h

    go : (o : Option WorldCandidate) → Alone e.machine.leader o → InOrder (elim o as (λ _. EngineView) [ None ↦ e | Some c ↦ (if asks_itself v c e then grant_own now v e else e) ]).machine
    go None a = h
    go (Some c) a = grants (asks_itself v c e) (unled e.machine.leader c a)
