-- The commands that an event queues at a node bring entries of a kind, if those have it that its act brings.
use Rattle.std.specs.Prelude.{Bool, Err, List, None, Ok, Option, Result, Some, [], false, if◌then◌else◌, length, map, refl, true, ℕ, ◌+◌, ◌++◌, ◌∷◌, ◌≡◌}
use Rattle.std.specs.Ordering.{is_gt, nat_cmp}
use Rattle.std.specs.Result.{is_ok}
use Rattle.std.proofs.Common.{ap, subst, sym, ◌∙◌}
use Rattle.proof_deeds.specs.raft_state.declared.ids.LogId.{LogId}
use Rattle.proof_deeds.specs.raft_state.declared.ids.Vote.{Vote}
use Rattle.proof_deeds.specs.raft_state.declared.ids.LeaderId.{LeaderId}
use Rattle.proof_deeds.specs.raft_state.Order.{next, vote_cmp}
use Rattle.proof_deeds.specs.raft_error.declared.error.EngineError.{EngineError}
use Rattle.proof_deeds.specs.raft_error.Number.{number_of}
use Rattle.proof_deeds.specs.raft_command.declared.config.EngineConfig.{EngineConfig}
use Rattle.proof_deeds.specs.raft_command.declared.message.AppendEntriesResponse.{AppendEntriesResponse}
use Rattle.proof_deeds.specs.raft_command.declared.message.AppendEntriesResponse.TheVariants.{Conflict, HigherVote, PartialSuccess, Success}
use Rattle.proof_deeds.specs.raft_command.declared.message.VoteRequest.{VoteRequest}
use Rattle.proof_deeds.specs.raft_command.declared.replication.ReplicationResult.{ReplicationResult}
use Rattle.proof_deeds.specs.raft_command.declared.replication.RequestId.{RequestId}
use Rattle.proof_deeds.specs.raft_proposer.Leader.{numbered}
use Rattle.proof_deeds.specs.raft_steps.Engine.{as_uncommitted, elect, initialize}
use Rattle.proof_deeds.specs.raft_steps.Installs.{handle_install_full_snapshot}
use Rattle.proof_deeds.specs.raft_steps.LeaderHandler.{leader_append_entries}
use Rattle.proof_deeds.specs.raft_steps.Parts.{leading, led_of, on_core}
use Rattle.proof_deeds.specs.raft_steps.Refusals.{refusals_of_counter_led, refusals_of_elect, refusals_of_initialize, refusals_of_propose, refusals_of_spent, refusals_of_trigger_snapshot, refusals_of_update_vote, refusals_of_vote_resp}
use Rattle.proof_deeds.specs.raft_steps.InstallRefusals.{refusals_of_install}
use Rattle.proof_deeds.specs.raft_steps.Replies.{update_progress}
use Rattle.proof_deeds.specs.raft_steps.ReplicationHandler.{initiate_replication}
use Rattle.proof_deeds.specs.raft_steps.ReplyRefusals.{refusals_of_progress}
use Rattle.proof_deeds.specs.raft_steps.RequestRefusals.{refusals_of_append, refusals_of_commit, refusals_of_vote_req}
use Rattle.proof_deeds.specs.raft_steps.Requests.{append_answer, handle_commit_entries, handle_vote_req, vote_req_answer}
use Rattle.proof_deeds.specs.raft_steps.SnapshotCalls.{finish_building_snapshot, trigger_purge_log}
use Rattle.proof_deeds.specs.raft_steps.SnapshotHandler.{trigger_snapshot}
use Rattle.proof_deeds.specs.raft_steps.Starts.{leader_step_down, refusals_of_startup, refusals_of_step_down, startup}
use Rattle.proof_deeds.specs.raft_steps.VoteHandler.{update_vote}
use Rattle.proof_deeds.proofs.raft_steps_proofs.Allowed.{initiate_only, leader_append_only, only_then}
use Rattle.proof_deeds.specs.raft_store.declared.entry.Entry.{Entry}
use Rattle.proof_deeds.specs.raft_store.declared.entry.Value.{Value}
use Rattle.proof_deeds.specs.raft_store.Built.{meta_of}
use Rattle.proof_deeds.specs.raft_store.Entries.{entry_meaning}
use Rattle.proof_deeds.specs.raft_store.Types.{EngineView, WorldLeader}
use Rattle.proof_deeds.specs.raft_schedule.declared.event.Start.{Start}
use Rattle.proof_deeds.specs.raft_schedule.declared.event.Start.TheVariants as starts
use Rattle.proof_deeds.specs.raft_node.declared.act.Act.{Act}
use Rattle.proof_deeds.specs.raft_node.declared.act.Act.TheVariants.{ChangeLearners, ChangeMembership, Elect, Fail, FinishSnapshot, Initialize, Propose, Read, Restart, SendHeartbeat, StepDown, Stop, Take, TriggerPurge, TriggerSnapshot}
use Rattle.proof_deeds.specs.raft_node.declared.given.Given.{Given}
use Rattle.proof_deeds.specs.raft_calls.declared.message.Body.{Body}
use Rattle.proof_deeds.specs.raft_calls.declared.message.Origin.{Origin}
use Rattle.proof_deeds.specs.raft_calls.Deliveries.{answered, appended, deliver, led_call, progressed, reply_token, take_append, take_append_reply, take_commit, take_conflict, take_higher_vote, take_result, unled_number, vote_replied, vote_requested, with_machine}
use Rattle.proof_deeds.specs.raft_node.Events.{calls_at, on_engine}
use Rattle.proof_deeds.specs.raft_calls.Elections.{elected, first_entry, initialized}
use Rattle.proof_deeds.specs.raft_calls.Feeds.{WorldLed}
use Rattle.proof_deeds.specs.raft_calls.LeaderCalls.{failed, heartbeats_sent, inflight_to, proposed, read_asked, read_refusal, request_of, stepped_down, value_entry}
use Rattle.proof_deeds.specs.raft_calls.Memberships.{groups_in, learners_changed, members_with, membership_changed, membership_entry}
use Rattle.proof_deeds.specs.raft_node.Net.{NodeView}
use Rattle.proof_deeds.specs.raft_node.Snapshots.{finish_snapshot, kept_built}
use Rattle.proof_deeds.specs.raft_calls.Snapshots.{purge_triggered, snapshot_triggered, told_built}
use Rattle.proof_deeds.specs.raft_calls.Starts.{begun_anew, resumed}
use Rattle.proof_deeds.specs.raft_node.Starts.{engine_on, restart, started_with, unsaved}
use Rattle.proof_deeds.proofs.raft_calls_proofs.StartReady.{begun_one}
use Rattle.proof_deeds.proofs.raft_calls_proofs.Falls.{WorldCore}
use Rattle.std.specs.List.{AllByRecursion}
use Rattle.proof_progress.proofs.EntriesQueued.{AllowsRequests, BodyOf, Brings, IsCommon, Only, brings_all, brings_leading, commit-only, elect-only, finish-only, handle_append-only, handle_install-only, here, initialize-only, progress-only, respond_only, startup-only, step_down-only, trigger_purge-only, trigger_snapshot-only, update_vote-only, vote_req-only, vote_resp-only}
use Rattle.proof_deeds.specs.raft_command.declared.respond.Respond.TheVariants as respond
use Rattle.proof_deeds.specs.raft_calls.declared.message.Body.TheVariants as body

-- an engine's queue is empty, if it runs
abbrev pub Rested : NodeView → Type 0
Rested n = (e : EngineView) → n.engine ≡ Some e → e.machine.core.output.items ≡ []

-- an entry with the id that a leader gives it next
abbrev pub proposed_by : WorldLeader → Entry → Entry
proposed_by l entry = entry_meaning.with_id entry (record { leader_id = l.vote.leader_id; index = next l.last_log_id })

-- what an act brings is of the kind
abbrev pub ActOf : (Entry → Type 0) → Act → NodeView → Type 0
ActOf K (Take m) n = BodyOf K m.body
ActOf K (ChangeLearners learners) n = (e : EngineView) → n.engine ≡ Some e → (l : WorldLeader) → e.machine.leader ≡ Some l → K (proposed_by l (membership_entry (members_with (groups_in e) learners)))
ActOf K (ChangeMembership groups learners) n = (e : EngineView) → n.engine ≡ Some e → (l : WorldLeader) → e.machine.leader ≡ Some l → K (proposed_by l (membership_entry (members_with groups learners)))
ActOf K _ n = Unit {0}

module _ (K : Entry → Type 0) (common : IsCommon K) where
  allows : AllowsRequests K (Brings K)
  allows = brings_all K common.blank

  abbrev Answer : Type 0
  Answer = Option ℕ × EngineView

  -- what a call leaves of the core
  abbrev core_in : Answer → WorldCore
  core_in r = r.1.machine.core

  -- a call queues such commands alone
  abbrev Plain : EngineView → Answer → Type 0
  Plain e r = Only (Brings K) e.machine.core (core_in r)

  plain_self : (k : Option ℕ) (e : EngineView) → Plain e (k, e)
  plain_self k e = here (Brings K) e.machine.core e.machine.core refl

  answered_plain : (o : Option (EngineError ℕ (Unit {0}))) (old e after : EngineView) → Only (Brings K) old.machine.core e.machine.core → Only (Brings K) old.machine.core after.machine.core → Plain old (answered o e after)
  answered_plain None old e after h k = k
  answered_plain (Some r) old e after h k = h

  call_plain : (o : Option (EngineError ℕ (Unit {0}))) (e after : EngineView) → Only (Brings K) e.machine.core after.machine.core → Plain e (answered o e after)
  call_plain o e after h = answered_plain o e e after (here (Brings K) e.machine.core e.machine.core refl) h

  -- a leader's calls
  led_plain : (asks : WorldLed → Option (EngineError ℕ (Unit {0}))) (step : WorldLed → WorldLed) (e : EngineView) → ((l : WorldLed) → Only (Brings K) l.core (step l).core) → Plain e (led_call asks step e)
  led_plain asks step e h = go e.machine.leader
    where
      go : (o : Option WorldLeader) → Plain e
          (elim o as (λ _. Answer) [
            | None ↦ (Some (unled_number e), e)
            | Some l ↦
                (let led = led_of l e.machine.core.state e.machine.core.output in
                answered (asks led) e (with_machine e (leading e.machine (step led))))
          ])
      go None = plain_self (Some (unled_number e)) e
      go (Some l) =
          let led : WorldLed = led_of l e.machine.core.state e.machine.core.output in
          call_plain (asks led) e (with_machine e (leading e.machine (step led))) (h led)

  -- values are of the kind, once they have their ids
  values_keep : (leader : LeaderId ℕ) (n : ℕ) (values : List Value) → AllByRecursion K (numbered entry_meaning leader n (map value_entry values))
  values_keep leader n [] = tt
  values_keep leader n (v ∷ values) = (common.value (record { leader_id = leader; index = n }) v, values_keep leader (n + 1) values)

  values_plain : (values : List Value) (e : EngineView) → Plain e (proposed values e)
  values_plain values e =
      led_plain (refusals_of_propose (length (map value_entry values))) (leader_append_entries nat_cmp entry_meaning e.config (map value_entry values)) e
      (λ l. leader_append_only (Brings K) nat_cmp e.config (brings_leading K) entry_meaning (map value_entry values) l (values_keep l.leader.vote.leader_id (next l.leader.last_log_id) values))

  progressed_plain : (target : ℕ) (id : RequestId) (result : Result (ReplicationResult ℕ) (Unit {0})) (e : EngineView) → Plain e (progressed target id result e)
  progressed_plain target id result e = led_plain (refusals_of_progress nat_cmp e.config target id result) (update_progress nat_cmp e.config target id result) e (progress-only K (Brings K) allows.own e.config target id result)

  higher_plain : (v : Vote ℕ) (now : ℕ) (e : EngineView) → Plain e (take_higher_vote v now e)
  higher_plain v now e =
      call_plain (refusals_of_update_vote nat_cmp e.config (as_uncommitted v) e.machine) e
      (with_machine e (update_vote nat_cmp entry_meaning e.config (as_uncommitted v) now e.machine)) (update_vote-only K (Brings K) allows.own e.config (as_uncommitted v) now e.machine)

  -- requests and replies
  vote_plain : (req : VoteRequest ℕ) (now : ℕ) (e : EngineView) → Only (Brings K) e.machine.core (vote_requested req now e).machine.core
  vote_plain req now e =
      only_then (Brings K) e.machine.core (handle_vote_req nat_cmp entry_meaning e.config req now e.machine).core _ (vote_req-only K (Brings K) allows.own e.config req now e.machine)
      (respond_only (Brings K) allows.own.replies None (respond.Vote (record { value = vote_req_answer nat_cmp entry_meaning e.config req now e.machine; token = reply_token })) (handle_vote_req nat_cmp entry_meaning e.config req now e.machine).core)

  append_plain : (v : Vote ℕ) (prev : Option (LogId ℕ)) (es : List Entry) → AllByRecursion K es → (committed : Option (LogId ℕ)) (now : ℕ) (e : EngineView) → Plain e (take_append v prev es committed now e)
  append_plain v prev es k committed now e = go (refusals_of_append nat_cmp e.config v prev (map (λ x. x.log_id) es) e.machine)
    where
      new : EngineView
      new = appended v prev es now e

      done : Only (Brings K) e.machine.core new.machine.core
      done = handle_append-only K (Brings K) allows e.config v prev es k reply_token now e.machine

      go : (o : Option (EngineError ℕ (Unit {0}))) → Plain e
          (elim o as (λ _. Answer) [
            | Some r ↦ (Some (number_of r), e)
            | None ↦ (if is_ok (append_answer nat_cmp entry_meaning e.config v prev now e.machine) then take_commit committed new else (None, new))
          ])
      go (Some r) = plain_self (Some (number_of r)) e
      go None = by (is_ok (append_answer nat_cmp entry_meaning e.config v prev now e.machine))
        where
          by : (b : Bool) → Plain e (if b then take_commit committed new else (None, new))
          by true =
              answered_plain (refusals_of_commit nat_cmp committed new.machine) e new (with_machine new (handle_commit_entries nat_cmp entry_meaning new.config committed new.machine)) done
              (only_then (Brings K) e.machine.core new.machine.core _ done (commit-only K (Brings K) allows.own new.config committed new.machine))
          by false = done

  conflict_plain : (from : ℕ) (o : Origin) (prev : Option (LogId ℕ)) (e : EngineView) → Plain e (take_conflict from o prev e)
  conflict_plain from o None e = plain_self None e
  conflict_plain from o (Some x) e = progressed_plain from o.request_id (Ok (record { sending_time = o.sent_at; result = Err x })) e

  append_reply_plain : (from : ℕ) (o : Origin) (reply : AppendEntriesResponse ℕ) (prev upto : Option (LogId ℕ)) (now : ℕ) (e : EngineView) → Plain e (take_append_reply from o reply prev upto now e)
  append_reply_plain from o Success prev upto now e = progressed_plain from o.request_id (Ok (record { sending_time = o.sent_at; result = Ok upto })) e
  append_reply_plain from o (PartialSuccess x) prev upto now e = progressed_plain from o.request_id (Ok (record { sending_time = o.sent_at; result = Ok x })) e
  append_reply_plain from o Conflict prev upto now e = conflict_plain from o prev e
  append_reply_plain from o (HigherVote v) prev upto now e = higher_plain v now e

  -- what a call leaves queued where nothing was queued
  abbrev pub Leaves : Answer → Type 0
  Leaves r = AllByRecursion (Brings K) (core_in r).output.items

  abbrev pub QueueBrings : Option EngineView → Type 0
  QueueBrings o = (e : EngineView) → o ≡ Some e → AllByRecursion (Brings K) e.machine.core.output.items

  plain_leaves : (e : EngineView) (r : Answer) → e.machine.core.output.items ≡ [] → Plain e r → Leaves r
  plain_leaves e r none h = subst (AllByRecursion (Brings K)) (sym (h.behind ∙ ap (λ cs. cs ++ h.added) none)) h.each

  deliver_leaves : (from : ℕ) (b : Body) → BodyOf K b → (now : ℕ) (e : EngineView) → e.machine.core.output.items ≡ [] → Leaves (deliver from b now e)
  deliver_leaves from (body.VoteRequest req) k now e none =
      plain_leaves e (deliver from (body.VoteRequest req) now e) none (call_plain (refusals_of_vote_req nat_cmp e.config req now e.machine) e (vote_requested req now e) (vote_plain req now e))
  deliver_leaves from (body.VoteReply resp) k now e none =
      plain_leaves e (deliver from (body.VoteReply resp) now e) none (call_plain (refusals_of_vote_resp nat_cmp e.config from resp e.machine) e (vote_replied from resp now e) (vote_resp-only K (Brings K) allows.own e.config from resp now e.machine))
  deliver_leaves from (body.AppendRequest o prev es committed) k now e none = plain_leaves e (deliver from (body.AppendRequest o prev es committed) now e) none (append_plain o.session_id.vote prev es k committed now e)
  deliver_leaves from (body.AppendReply o reply prev upto) k now e none = plain_leaves e (deliver from (body.AppendReply o reply prev upto) now e) none (append_reply_plain from o reply prev upto now e)
  deliver_leaves from (body.SnapshotRequest o snapshot) k now e none =
      plain_leaves e (deliver from (body.SnapshotRequest o snapshot) now e) none
      (call_plain (refusals_of_install nat_cmp e.config o.session_id.vote snapshot.meta e.machine) e (with_machine e (handle_install_full_snapshot nat_cmp entry_meaning e.config o.session_id.vote snapshot reply_token now e.machine)) (handle_install-only K (Brings K) allows e.config snapshot k o.session_id.vote reply_token now e.machine))
  deliver_leaves from (body.SnapshotReply o reply upto) k now e none = plain_leaves e (deliver from (body.SnapshotReply o reply upto) now e) none (go (is_gt (vote_cmp nat_cmp reply.vote o.session_id.vote)))
    where
      go : (b : Bool) → Plain e (if b then take_higher_vote reply.vote now e else take_result from o (Ok upto) e)
      go true = higher_plain reply.vote now e
      go false = progressed_plain from o.request_id (Ok (record { sending_time = o.sent_at; result = Ok upto })) e

  -- a node after a call
  abbrev node_in : Option ℕ × NodeView → NodeView
  node_in r = r.1

  -- the calls of an act
  on_engine_leaves : (f : EngineView → Answer) (n : NodeView) → Rested n → ((e : EngineView) → e.machine.core.output.items ≡ [] → Leaves (f e)) → QueueBrings (on_engine f n).1.engine
  on_engine_leaves f n r h = go n.engine refl
    where
      go : (o : Option EngineView) → n.engine ≡ o
          → QueueBrings (node_in (elim o as (λ _. Option ℕ × NodeView) [ None ↦ (None, n) | Some e ↦ (let r = f e in (r.0, record n { engine = Some r.1 })) ])).engine
      go None q e is = let never : ◌≡◌ {A = Option EngineView} None (Some e) = sym q ∙ is in cc
      go (Some e) q x is = let same : (f e).1 ≡ x = cc in subst (λ (x : EngineView). AllByRecursion (Brings K) x.machine.core.output.items) same (h e (r e q))

  -- the same, where the node's engine is known
  on_engine_led : (f : EngineView → Answer) (n : NodeView) → ((e : EngineView) → n.engine ≡ Some e → Leaves (f e)) → QueueBrings (on_engine f n).1.engine
  on_engine_led f n h = go n.engine refl
    where
      go : (o : Option EngineView) → n.engine ≡ o
          → QueueBrings (node_in (elim o as (λ _. Option ℕ × NodeView) [ None ↦ (None, n) | Some e ↦ (let r = f e in (r.0, record n { engine = Some r.1 })) ])).engine
      go None q e is = let never : ◌≡◌ {A = Option EngineView} None (Some e) = sym q ∙ is in cc
      go (Some e) q x is = let same : (f e).1 ≡ x = cc in subst (λ (x : EngineView). AllByRecursion (Brings K) x.machine.core.output.items) same (h e q)

  -- a change of the membership, at a leader
  changed : (groups : List (List ℕ)) (learners : List ℕ) (e : EngineView) → e.machine.core.output.items ≡ []
      → ((l : WorldLeader) → e.machine.leader ≡ Some l → K (proposed_by l (membership_entry (members_with groups learners)))) → Leaves (membership_changed groups learners e)
  changed groups learners e none h = go e.machine.leader refl
    where
      entry : Entry
      entry = membership_entry (members_with groups learners)

      asks : WorldLed → Option (EngineError ℕ (Unit {0}))
      asks = refusals_of_propose 1

      go : (o : Option WorldLeader) → e.machine.leader ≡ o
          → Leaves
          (elim o as (λ _. Answer) [
            | None ↦ (Some (unled_number e), e)
            | Some l ↦
                (let led = led_of l e.machine.core.state e.machine.core.output in
                answered (refusals_of_propose 1 led) e (with_machine e (leading e.machine (leader_append_entries nat_cmp entry_meaning e.config (entry ∷ []) led))))
          ])
      go None q = plain_leaves e (Some (unled_number e), e) none (plain_self (Some (unled_number e)) e)
      go (Some l) q =
          let led : WorldLed = led_of l e.machine.core.state e.machine.core.output in
          let after : EngineView = with_machine e (leading e.machine (leader_append_entries nat_cmp entry_meaning e.config (entry ∷ []) led)) in
          plain_leaves e (answered (refusals_of_propose 1 led) e after) none (call_plain (refusals_of_propose 1 led) e after (leader_append_only (Brings K) nat_cmp e.config (brings_leading K) entry_meaning (entry ∷ []) led (h l q, tt)))

  finish_leaves : (n : NodeView) → Rested n → QueueBrings (finish_snapshot n).1.engine
  finish_leaves n r = go n.engine refl
    where
      still : QueueBrings n.engine
      still e is = subst (AllByRecursion (Brings K)) (sym (r e is)) tt

      told : (e : EngineView) → n.engine ≡ Some e → (es : List Entry) (o : Option (EngineError ℕ (Unit {0})))
          → QueueBrings (node_in (kept_built es n (answered o e (with_machine e (finish_building_snapshot nat_cmp e.config (meta_of entry_meaning es) e.machine))))).engine
      told e q es None x is =
          let after : EngineView = with_machine e (finish_building_snapshot nat_cmp e.config (meta_of entry_meaning es) e.machine) in
          let same : after ≡ x = cc in
          subst (λ (x : EngineView). AllByRecursion (Brings K) x.machine.core.output.items) same (plain_leaves e (None, after) (r e q) (finish-only (Brings K) e.config allows.own.purges (meta_of entry_meaning es) e.machine))
      told e q es (Some k) x is = still x is

      noted : (e : EngineView) → n.engine ≡ Some e → (o : Option (List Entry))
          → QueueBrings (node_in (elim o as (λ _. Option ℕ × NodeView) [ None ↦ (None, n) | Some es ↦ kept_built es n (told_built es e) ])).engine
      noted e q None = still
      noted e q (Some es) = told e q es (refusals_of_spent e.machine)

      go : (o : Option EngineView) → n.engine ≡ o
          → QueueBrings (node_in (elim o as (λ _. Option ℕ × NodeView) [ None ↦ (None, n) | Some e ↦ elim n.noted as (λ _. Option ℕ × NodeView) [ None ↦ (None, n) | Some es ↦ kept_built es n (told_built es e) ] ])).engine
      go None q = still
      go (Some e) q = noted e q n.noted

  elected_plain : (now : ℕ) (e : EngineView) → Plain e (elected now e)
  elected_plain now e = call_plain (refusals_of_elect nat_cmp e.config e.machine) e (with_machine e (elect nat_cmp entry_meaning e.config now e.machine)) (elect-only K (Brings K) allows.own e.config now e.machine)

  resumed_plain : (e : EngineView) → Plain e (resumed e)
  resumed_plain e = call_plain (refusals_of_startup nat_cmp e.config e.machine) e (with_machine e (startup nat_cmp entry_meaning e.config e.machine)) (startup-only K (Brings K) allows.own e.config e.machine)

  begun_plain : (now : ℕ) (e : EngineView) → Plain e (begun_anew now e)
  begun_plain now e = begun_one (Plain e) now e (λ _. elected_plain now e) (plain_self None e) (resumed_plain e)

  starts_leave : (f : EngineView → Answer) → ((e : EngineView) → Plain e (f e)) → (settings : EngineConfig ℕ) (saved : Bool) (n : NodeView) → QueueBrings (started_with saved n (f (engine_on settings saved n))).1.engine
  starts_leave f plain settings saved n x is =
      let e : EngineView = engine_on settings saved n in
      let same : (f e).1 ≡ x = cc in
      subst (λ (x : EngineView). AllByRecursion (Brings K) x.machine.core.output.items) same (plain_leaves e (f e) refl (plain e))

  restart_leaves : (given : Given) (start : Start) (n : NodeView) → QueueBrings (restart given.settings start n).1.engine
  restart_leaves given starts.Plain n = starts_leave resumed resumed_plain given.settings false n
  restart_leaves given starts.Saved n = starts_leave resumed resumed_plain given.settings true n
  restart_leaves given starts.Bare n = starts_leave (begun_anew n.moment) (begun_plain n.moment) given.settings false (unsaved n)

  pub calls_leave : (given : Given) → K (first_entry given.membership) → (act : Act) (n : NodeView) → ActOf K act n → Rested n → QueueBrings (calls_at given act n).1.engine
  calls_leave given f Initialize n k r =
      on_engine_leaves (initialized given.membership n.moment) n r
      (λ e none. plain_leaves e (initialized given.membership n.moment e) none
      (call_plain (refusals_of_initialize nat_cmp entry_meaning e.config 0 (first_entry given.membership) e.machine) e
      (with_machine e (initialize nat_cmp entry_meaning e.config 0 (first_entry given.membership) n.moment e.machine)) (initialize-only K (Brings K) allows.own e.config 0 (first_entry given.membership) f n.moment e.machine)))
  calls_leave given f (Elect candidates) n k r =
      on_engine_leaves (elected n.moment) n r
      (λ e none. plain_leaves e (elected n.moment e) none (elected_plain n.moment e))
  calls_leave given f (Take m) n k r = on_engine_leaves (deliver m.from m.body n.moment) n r (deliver_leaves m.from m.body k n.moment)
  calls_leave given f (Propose values) n k r =
      on_engine_leaves (proposed values) n r
      (λ e none. plain_leaves e (proposed values e) none (values_plain values e))
  calls_leave given f SendHeartbeat n k r =
      on_engine_leaves heartbeats_sent n r
      (λ e none. plain_leaves e (heartbeats_sent e) none (led_plain refusals_of_counter_led (initiate_replication nat_cmp e.config true) e (initiate_only (Brings K) nat_cmp e.config (brings_leading K) true)))
  calls_leave given f (Fail target) n k r =
      on_engine_leaves (failed target) n r (λ e none. plain_leaves e (failed target e) none (progressed_plain target (request_of (inflight_to target e)) (Err tt) e))
  calls_leave given f TriggerSnapshot n k r =
      on_engine_leaves snapshot_triggered n r
      (λ e none. plain_leaves e (snapshot_triggered e) none
      (call_plain (refusals_of_trigger_snapshot e.machine.core) e (with_machine e (on_core trigger_snapshot e.machine)) (trigger_snapshot-only K (Brings K) allows.own e.config e.machine.core)))
  calls_leave given f FinishSnapshot n k r = finish_leaves n r
  calls_leave given f (TriggerPurge i) n k r =
      on_engine_leaves (purge_triggered i) n r
      (λ e none. plain_leaves e (purge_triggered i e) none
      (call_plain (refusals_of_spent e.machine) e (with_machine e (trigger_purge_log nat_cmp i e.machine)) (trigger_purge-only (Brings K) e.config allows.own.purges i e.machine)))
  calls_leave given f (Restart start) n k r = restart_leaves given start n
  calls_leave given f (ChangeLearners learners) n k r = on_engine_led (learners_changed learners) n (λ e q. changed (groups_in e) learners e (r e q) (k e q))
  calls_leave given f (ChangeMembership groups learners) n k r = on_engine_led (membership_changed groups learners) n (λ e q. changed groups learners e (r e q) (k e q))
  calls_leave given f Read n k r = on_engine_leaves read_asked n r (λ e none. plain_leaves e (read_asked e) none (plain_self (read_refusal e) e))
  calls_leave given f StepDown n k r =
      on_engine_leaves stepped_down n r
      (λ e none. plain_leaves e (stepped_down e) none
      (call_plain (refusals_of_step_down nat_cmp e.config e.machine) e (with_machine e (leader_step_down nat_cmp entry_meaning e.config e.machine)) (step_down-only K (Brings K) allows.own e.config e.machine)))
  calls_leave given f Stop n k r = λ x is. cc
