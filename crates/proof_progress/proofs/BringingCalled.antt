-- What an event that takes no request queues at a node brings the first entry, or the node's own under the vote that it has then.
use Rattle.std.proofs.Common.{ℕ, inr, ◌+◌, ◌≤◌, ◌≡◌, Bool, true, false, List, [], ◌∷◌, ◌++◌, refl, sym, ap, ◌∙◌, subst, Option, None, Some, Result, Ok, Err}
use Rattle.std.specs.Prelude.{IfSome, if◌then◌else◌, map}
use Rattle.std.specs.List.{AllByRecursion}
use Rattle.std.specs.Ordering.{is_eq, is_gt, nat_cmp}
use Rattle.std.specs.Result.{is_ok}
use Rattle.proof_deeds.specs.raft_state.declared.ids.LogId.{LogId}
use Rattle.proof_deeds.specs.raft_state.declared.ids.Vote.{Vote}
use Rattle.proof_deeds.specs.raft_state.Order.{vote_cmp}
use Rattle.proof_deeds.specs.raft_error.declared.error.EngineError.{EngineError}
use Rattle.proof_deeds.specs.raft_error.Number.{number_of}
use Rattle.proof_deeds.specs.raft_command.declared.message.AppendEntriesResponse.{AppendEntriesResponse}
use Rattle.proof_deeds.specs.raft_command.declared.message.AppendEntriesResponse.TheVariants.{Conflict, HigherVote, PartialSuccess, Success}
use Rattle.proof_deeds.specs.raft_command.declared.replication.ReplicationResult.{ReplicationResult}
use Rattle.proof_deeds.specs.raft_command.declared.replication.RequestId.{RequestId}
use Rattle.proof_deeds.specs.raft_steps.Engine.{as_uncommitted, elect, handle_vote_resp, initialize}
use Rattle.proof_deeds.specs.raft_steps.Installs.{handle_install_full_snapshot}
use Rattle.proof_deeds.specs.raft_steps.InstallRefusals.{refusals_of_install}
use Rattle.proof_deeds.specs.raft_steps.LeaderHandler.{leader_append_entries}
use Rattle.proof_deeds.specs.raft_steps.Parts.{led_of, leading, on_core}
use Rattle.proof_deeds.specs.raft_steps.Refusals.{refusals_of_counter_led, refusals_of_elect, refusals_of_initialize, refusals_of_local_progress, refusals_of_propose, refusals_of_spent, refusals_of_trigger_snapshot, refusals_of_update_vote, refusals_of_vote_resp}
use Rattle.proof_deeds.specs.raft_steps.Replies.{update_progress}
use Rattle.proof_deeds.specs.raft_steps.ReplicationHandler.{initiate_replication, update_local_progress}
use Rattle.proof_deeds.specs.raft_steps.ReplyRefusals.{refusals_of_progress}
use Rattle.proof_deeds.specs.raft_steps.RequestRefusals.{refusals_of_append, refusals_of_commit, refusals_of_vote_req}
use Rattle.proof_deeds.specs.raft_steps.Requests.{append_answer, handle_commit_entries, handle_vote_req, vote_req_answer}
use Rattle.proof_deeds.specs.raft_steps.SnapshotCalls.{finish_building_snapshot, trigger_purge_log}
use Rattle.proof_deeds.specs.raft_steps.SnapshotHandler.{trigger_snapshot}
use Rattle.proof_deeds.specs.raft_steps.Starts.{leader_step_down, refusals_of_startup, refusals_of_step_down, startup}
use Rattle.proof_deeds.specs.raft_steps.VoteHandler.{update_vote}
use Rattle.proof_deeds.specs.raft_store.declared.entry.Entry.{Entry}
use Rattle.proof_deeds.specs.raft_store.Built.{meta_of}
use Rattle.proof_deeds.specs.raft_store.Entries.{entry_meaning}
use Rattle.proof_deeds.specs.raft_store.Types.{EngineView, WorldCandidate, WorldLeader, WorldMachine}
use Rattle.proof_deeds.specs.raft_schedule.declared.event.Start.{Start}
use Rattle.proof_deeds.specs.raft_schedule.declared.event.Start.TheVariants as starts
use Rattle.proof_deeds.specs.raft_calls.declared.feed.Feed.{Feed}
use Rattle.proof_deeds.specs.raft_calls.declared.feed.Feed.TheVariants.{Nothing, Saved, Stored}
use Rattle.proof_deeds.specs.raft_calls.declared.message.Body.{Body}
use Rattle.proof_deeds.specs.raft_calls.declared.message.Body.TheVariants as body
use Rattle.proof_deeds.specs.raft_calls.declared.message.Origin.{Origin}
use Rattle.proof_deeds.specs.raft_calls.Deliveries.{answered, appended, deliver, led_call, progressed, reply_token, take_append, take_append_reply, take_commit, take_higher_vote, take_result, unled_number, vote_replied, vote_requested, with_machine}
use Rattle.proof_deeds.specs.raft_calls.Elections.{elected, first_entry, initialized}
use Rattle.proof_deeds.specs.raft_calls.Feeds.{WorldLed, asks_itself, called, fed, grant_own, hold_own, own_grant}
use Rattle.proof_deeds.specs.raft_calls.LeaderCalls.{entries_proposed, failed, heartbeats_sent, inflight_to, proposed, read_asked, request_of, stepped_down}
use Rattle.proof_deeds.specs.raft_calls.Memberships.{groups_in, learners_changed, members_with, membership_changed, membership_entry}
use Rattle.proof_deeds.specs.raft_calls.Snapshots.{purge_triggered, snapshot_triggered, told_built}
use Rattle.proof_deeds.specs.raft_calls.Starts.{begun_anew, resumed}
use Rattle.proof_deeds.proofs.raft_calls_proofs.StartReady.{begun_one}
use Rattle.proof_deeds.specs.raft_node.declared.act.Act.{Act}
use Rattle.proof_deeds.specs.raft_node.declared.act.Act.TheVariants.{ChangeLearners, ChangeMembership, Elect, Fail, FinishSnapshot, Initialize, Propose, Read, Restart, SendHeartbeat, StepDown, Stop, Take, TriggerPurge, TriggerSnapshot}
use Rattle.proof_deeds.specs.raft_node.declared.given.Given.{Given}
use Rattle.proof_deeds.specs.raft_node.Events.{calls_at, on_engine}
use Rattle.proof_deeds.specs.raft_node.Net.{NodeView}
use Rattle.proof_deeds.specs.raft_node.Snapshots.{finish_snapshot, kept_built}
use Rattle.proof_deeds.specs.raft_node.Starts.{engine_on, restart, unsaved}
use Rattle.std.specs.Prelude.{length}
use Rattle.proof_deeds.specs.raft_state.declared.ids.LeaderId.{LeaderId}
use Rattle.proof_deeds.specs.raft_state.Order.{next}
use Rattle.proof_deeds.specs.raft_command.declared.respond.Respond.TheVariants as respond
use Rattle.proof_deeds.specs.raft_proposer.Leader.{numbered}
use Rattle.proof_deeds.specs.raft_steps.Invariants.{CandidateFits, IsSound, LeaderFits}
use Rattle.proof_deeds.specs.raft_steps.VoteHandler.{rejects_vote}
use Rattle.proof_deeds.proofs.raft_steps_proofs.Allowed.{initiate_only, leader_append_only, local_only, only_then}
use Rattle.proof_progress.proofs.OwnCalled.{Answer, engine_in, node_in}
use Rattle.proof_progress.proofs.Tables.{eq_of}
use Rattle.proof_deeds.specs.Images.{number}
use Rattle.proof_progress.proofs.SameVotes.{proposed_vote}
use Rattle.proof_progress.proofs.Bringing.{Brings, Brought, High, Only, Own, brings_leading, commit-only, elect-only, finish-only, handle_append-only, handle_install-only, here, initialize-only, progress-only, respond_only, startup-only, step_down-only, trigger_purge-only, trigger_snapshot-only, update_vote-only, vote_req-only, vote_resp-only}

-- no request is taken: it is refused, or its vote is below the node's
abbrev pub TakesNone : Body → EngineView → Type 0
TakesNone (body.AppendRequest o prev es committed) e =
    refusals_of_append nat_cmp e.config o.session_id.vote prev (map (λ x. x.log_id) es) e.machine ≡ None → rejects_vote nat_cmp e.machine.core.state o.session_id.vote ≡ false → ⊥
TakesNone (body.SnapshotRequest o s) e =
    refusals_of_install nat_cmp e.config o.session_id.vote s.meta e.machine ≡ None → rejects_vote nat_cmp e.machine.core.state o.session_id.vote ≡ false → ⊥
TakesNone _ e = Unit {0}

-- an act takes no request
abbrev pub ActTakesNone : Act → NodeView → Type 0
ActTakesNone (Take m) N = (e : EngineView) → N.engine ≡ Some e → TakesNone m.body e
ActTakesNone _ N = Unit {0}

-- a running engine at rest, of the node
pub record Resting (n : ℕ) (e : EngineView) : Type 0 where
  pub none : e.machine.core.output.items ≡ []
  pub named : e.config.id ≡ n
  pub sound : IsSound nat_cmp e.config e.machine
  pub led : IfSome e.machine.leader (λ l. l.vote ≡ e.machine.core.state.vote)

module _ (n low : ℕ) where
  abbrev pub AllBring : EngineView → Type 0
  AllBring e = AllByRecursion (Brings n low) e.machine.core.output.items

  -- what a call adds, if it leaves a vote that isn't below the number
  abbrev Adds : EngineView → EngineView → Type 0
  Adds e f = High n low f.machine → Only n low e.machine.core f.machine.core

  still : (e : EngineView) → Adds e e
  still e _ = here n low e.machine.core e.machine.core refl

  answered_adds : (asks : Option (EngineError ℕ (Unit {0}))) (old e after : EngineView) → Adds old e → (asks ≡ None → Adds old after) → Adds old (engine_in (answered asks e after))
  answered_adds None old e after h k = k refl
  answered_adds (Some r) old e after h k = h

  -- entries that the node's leader proposes are its own
  own_numbered : (d : LeaderId ℕ) (i : ℕ) (es : List Entry) → Own n low d → AllByRecursion (Brought n low) (numbered entry_meaning d i es)
  own_numbered d i [] q = tt
  own_numbered d i (e ∷ es) q = (inr q, own_numbered d (i + 1) es q)

  module _ (e : EngineView) (named : e.config.id ≡ n) (sound : IsSound nat_cmp e.config e.machine) where
    own_leader : (l : WorldLeader) → e.machine.leader ≡ Some l → l.vote.leader_id.node_id ≡ n
    own_leader l q =
        let f : LeaderFits nat_cmp e.config.id e.machine.core.state.ids e.machine.core.state.purged e.machine.core.state.em.membership l = subst (λ o. IfSome o (LeaderFits nat_cmp e.config.id e.machine.core.state.ids e.machine.core.state.purged e.machine.core.state.em.membership)) q sound.lead.leader_fits in
        eq_of l.vote.leader_id.node_id e.config.id f.own ∙ named

    own_candidate : IfSome e.machine.candidate (λ c. is_eq (vote_cmp nat_cmp c.vote e.machine.core.state.vote) ≡ true → c.vote.leader_id.node_id ≡ n)
    own_candidate = go e.machine.candidate sound.lead.candidate_fits
      where
        go : (o : Option WorldCandidate) → IfSome o (CandidateFits nat_cmp e.config.id e.machine.core.state.vote e.machine.core.state.ids e.machine.core.state.em.membership)
            → IfSome o (λ (c : WorldCandidate). is_eq (vote_cmp nat_cmp c.vote e.machine.core.state.vote) ≡ true → c.vote.leader_id.node_id ≡ n)
        go None f = tt
        go (Some c) f = λ q. eq_of c.vote.leader_id.node_id e.config.id (f.current q).own ∙ named

    led_adds : (asks : WorldLed → Option (EngineError ℕ (Unit {0}))) (step : WorldLed → WorldLed)
        → ((l : WorldLeader) → e.machine.leader ≡ Some l → Adds e (with_machine e (leading e.machine (step (led_of l e.machine.core.state e.machine.core.output))))) → Adds e (engine_in (led_call asks step e))
    led_adds asks step k = go e.machine.leader refl
      where
        go : (o : Option WorldLeader) → e.machine.leader ≡ o → Adds e (engine_in (elim o as (λ _. Answer) [
          | None ↦ (Some (unled_number e), e)
          | Some l ↦
              (let led = led_of l e.machine.core.state e.machine.core.output in
              answered (asks led) e (with_machine e (leading e.machine (step led))))
        ]))
        go None q = still e
        go (Some l) q = answered_adds (asks (led_of l e.machine.core.state e.machine.core.output)) e e (with_machine e (leading e.machine (step (led_of l e.machine.core.state e.machine.core.output)))) (still e) (λ _. k l q)

    entries_add : (entries : List Entry) → IfSome e.machine.leader (λ l. l.vote ≡ e.machine.core.state.vote) → Adds e (engine_in (entries_proposed entries e))
    entries_add entries led =
        led_adds (refusals_of_propose (length entries)) (leader_append_entries nat_cmp entry_meaning e.config entries)
        (λ l q high.
        let same : l.vote ≡ e.machine.core.state.vote = subst (λ o. IfSome o (λ (l : WorldLeader). l.vote ≡ e.machine.core.state.vote)) q led in
        let k : low ≤ number l.vote.leader_id = subst (λ (v : Vote ℕ). low ≤ number v.leader_id) (proposed_vote e.config entries (led_of l e.machine.core.state e.machine.core.output) ∙ sym same) high in
        leader_append_only (Brings n low) nat_cmp e.config (brings_leading n low) entry_meaning entries (led_of l e.machine.core.state e.machine.core.output)
        (own_numbered l.vote.leader_id (next l.last_log_id) entries (own_leader l q, k)))

    progressed_adds : (target : ℕ) (id : RequestId) (result : Result (ReplicationResult ℕ) (Unit {0})) → Adds e (engine_in (progressed target id result e))
    progressed_adds target id result =
        led_adds (refusals_of_progress nat_cmp e.config target id result) (update_progress nat_cmp e.config target id result)
        (λ l q _. progress-only n low e.config named target id result (led_of l e.machine.core.state e.machine.core.output))

    elected_adds : (now : ℕ) → Adds e (engine_in (elected now e))
    elected_adds now = answered_adds (refusals_of_elect nat_cmp e.config e.machine) e e (with_machine e (elect nat_cmp entry_meaning e.config now e.machine)) (still e) (λ _. elect-only n low e.config named now e.machine)

    resumed_adds : Adds e (engine_in (resumed e))
    resumed_adds = answered_adds (refusals_of_startup nat_cmp e.config e.machine) e e (with_machine e (startup nat_cmp entry_meaning e.config e.machine)) (still e) (λ _. startup-only n low e.config named e.machine)

    higher_adds : (v : Vote ℕ) (now : ℕ) → Adds e (engine_in (take_higher_vote v now e))
    higher_adds v now =
        answered_adds (refusals_of_update_vote nat_cmp e.config (as_uncommitted v) e.machine) e e (with_machine e (update_vote nat_cmp entry_meaning e.config (as_uncommitted v) now e.machine)) (still e)
        (λ _. update_vote-only n low e.config named (as_uncommitted v) now e.machine)

    appends_add : (v : Vote ℕ) (prev : Option (LogId ℕ)) (es : List Entry) (committed : Option (LogId ℕ)) (now : ℕ)
        → (refusals_of_append nat_cmp e.config v prev (map (λ x. x.log_id) es) e.machine ≡ None → rejects_vote nat_cmp e.machine.core.state v ≡ false → ⊥) → Adds e (engine_in (take_append v prev es committed now e))
    appends_add v prev es committed now none = go (refusals_of_append nat_cmp e.config v prev (map (λ x. x.log_id) es) e.machine) refl
      where
        new : EngineView
        new = appended v prev es now e

        done : refusals_of_append nat_cmp e.config v prev (map (λ x. x.log_id) es) e.machine ≡ None → Only n low e.machine.core (appended v prev es now e).machine.core
        done asks = handle_append-only n low e.config named v prev es reply_token now e.machine (none asks)

        by : refusals_of_append nat_cmp e.config v prev (map (λ x. x.log_id) es) e.machine ≡ None → (b : Bool) → Adds e (engine_in (if b then take_commit committed (appended v prev es now e) else (None, appended v prev es now e)))
        by asks true =
            answered_adds (refusals_of_commit nat_cmp committed new.machine) e new (with_machine new (handle_commit_entries nat_cmp entry_meaning new.config committed new.machine)) (λ _. done asks)
            (λ _ _. only_then (Brings n low) e.machine.core new.machine.core _ (done asks) (commit-only n low new.config named committed new.machine))
        by asks false = λ _. done asks

        go : (o : Option (EngineError ℕ (Unit {0}))) → refusals_of_append nat_cmp e.config v prev (map (λ x. x.log_id) es) e.machine ≡ o → Adds e (engine_in (elim o as (λ _. Answer) [
          | Some r ↦ (Some (number_of r), e)
          | None ↦ (if is_ok (append_answer nat_cmp entry_meaning e.config v prev now e.machine) then take_commit committed (appended v prev es now e) else (None, appended v prev es now e))
        ]))
        go (Some r) q = still e
        go None q = by q (is_ok (append_answer nat_cmp entry_meaning e.config v prev now e.machine))

    append_reply_adds : (from : ℕ) (o : Origin) (reply : AppendEntriesResponse ℕ) (prev upto : Option (LogId ℕ)) (now : ℕ) → Adds e (engine_in (take_append_reply from o reply prev upto now e))
    append_reply_adds from o Success prev upto now = progressed_adds from o.request_id (Ok (record { sending_time = o.sent_at; result = Ok upto }))
    append_reply_adds from o (PartialSuccess x) prev upto now = progressed_adds from o.request_id (Ok (record { sending_time = o.sent_at; result = Ok x }))
    append_reply_adds from o Conflict None upto now = still e
    append_reply_adds from o Conflict (Some x) upto now = progressed_adds from o.request_id (Ok (record { sending_time = o.sent_at; result = Err x }))
    append_reply_adds from o (HigherVote v) prev upto now = higher_adds v now

    delivered_adds : (from : ℕ) (b : Body) (now : ℕ) → TakesNone b e → Adds e (engine_in (deliver from b now e))
    delivered_adds from (body.VoteRequest req) now none =
        answered_adds (refusals_of_vote_req nat_cmp e.config req now e.machine) e e (vote_requested req now e) (still e)
        (λ _ high.
        let m : WorldMachine = handle_vote_req nat_cmp entry_meaning e.config req now e.machine in
        only_then (Brings n low) e.machine.core m.core _ (vote_req-only n low e.config named req now e.machine high)
        (respond_only n low None (respond.Vote (record { value = vote_req_answer nat_cmp entry_meaning e.config req now e.machine; token = reply_token })) m.core))
    delivered_adds from (body.VoteReply resp) now none =
        answered_adds (refusals_of_vote_resp nat_cmp e.config from resp e.machine) e e (vote_replied from resp now e) (still e) (λ _. vote_resp-only n low e.config named from resp now e.machine own_candidate)
    delivered_adds from (body.AppendRequest o prev es committed) now none = appends_add o.session_id.vote prev es committed now none
    delivered_adds from (body.AppendReply o reply prev upto) now none = append_reply_adds from o reply prev upto now
    delivered_adds from (body.SnapshotRequest o snapshot) now none =
        answered_adds (refusals_of_install nat_cmp e.config o.session_id.vote snapshot.meta e.machine) e e
        (with_machine e (handle_install_full_snapshot nat_cmp entry_meaning e.config o.session_id.vote snapshot reply_token now e.machine)) (still e)
        (λ asks _. handle_install-only n low e.config named snapshot o.session_id.vote reply_token now e.machine (none asks))
    delivered_adds from (body.SnapshotReply o reply upto) now none = go (is_gt (vote_cmp nat_cmp reply.vote o.session_id.vote))
      where
        go : (b : Bool) → Adds e (engine_in (if b then take_higher_vote reply.vote now e else take_result from o (Ok upto) e))
        go true = higher_adds reply.vote now
        go false = progressed_adds from o.request_id (Ok (record { sending_time = o.sent_at; result = Ok upto }))

    -- what is fed back
    called_adds : {A : Type 0} (asks : Option A) (m : WorldMachine) → (High n low m → Only n low e.machine.core m.core) → Adds e (called asks e m)
    called_adds None m k = k
    called_adds (Some r) m k = still e

    pub fed_adds : (now : ℕ) (f : Feed) → Adds e (fed now f e)
    fed_adds now Nothing = still e
    fed_adds now (Stored v x) = go e.machine.leader
      where
        holds : (l : WorldLeader) (b : Bool) → Adds e (if b then hold_own x l e else e)
        holds l true =
            let led : WorldLed = led_of l e.machine.core.state e.machine.core.output in
            called_adds (refusals_of_local_progress nat_cmp e.config x led) (leading e.machine (update_local_progress nat_cmp e.config x led)) (λ _. local_only (Brings n low) nat_cmp e.config (brings_leading n low) x led)
        holds l false = still e

        go : (o : Option WorldLeader) → Adds e (elim o as (λ _. EngineView) [ None ↦ e | Some l ↦ (if is_eq (vote_cmp nat_cmp l.vote v) then hold_own x l e else e) ])
        go None = still e
        go (Some l) = holds l (is_eq (vote_cmp nat_cmp l.vote v))
    fed_adds now (Saved v) = go e.machine.candidate
      where
        grants : (b : Bool) → Adds e (if b then grant_own now v e else e)
        grants true = called_adds (refusals_of_vote_resp nat_cmp e.config e.config.id (own_grant v) e.machine) (handle_vote_resp nat_cmp entry_meaning e.config e.config.id (own_grant v) now e.machine) (vote_resp-only n low e.config named e.config.id (own_grant v) now e.machine own_candidate)
        grants false = still e

        go : (o : Option WorldCandidate) → Adds e (elim o as (λ _. EngineView) [ None ↦ e | Some c ↦ (if asks_itself v c e then grant_own now v e else e) ])
        go None = still e
        go (Some c) = grants (asks_itself v c e)

  -- At a node

  -- what a call leaves
  abbrev Left : EngineView → Type 0
  Left e = High n low e.machine → AllBring e

  brings_all : (e f : EngineView) → e.machine.core.output.items ≡ [] → Adds e f → Left f
  brings_all e f none k high = let h = k high in subst (AllByRecursion (Brings n low)) (sym (h.behind ∙ ap (λ cs. cs ++ h.added) none)) h.each

  abbrev pub NodeBrings : Option EngineView → Type 0
  NodeBrings o = IfSome o Left

  on_engine_brings : (f : EngineView → Answer) (N : NodeView) → IfSome N.engine (Resting n) → ((e : EngineView) → N.engine ≡ Some e → Resting n e → Adds e (engine_in (f e))) → NodeBrings (node_in (on_engine f N)).engine
  on_engine_brings f N r k = go N.engine refl r
    where
      go : (o : Option EngineView) → N.engine ≡ o → IfSome o (Resting n) → NodeBrings (node_in (elim o as (λ _. Option ℕ × NodeView) [ None ↦ (None, N) | Some e ↦ (let r = f e in (r.0, record N { engine = Some r.1 })) ])).engine
      go None q i = subst NodeBrings (sym q) tt
      go (Some e) q i = brings_all e (engine_in (f e)) i.none (k e q i)

  rests_bring : (N : NodeView) → IfSome N.engine (Resting n) → NodeBrings N.engine
  rests_bring N r = go N.engine r
    where
      go : (o : Option EngineView) → IfSome o (Resting n) → NodeBrings o
      go None i = tt
      go (Some e) i = brings_all e e i.none (still e)

  finish_brings : (N : NodeView) → IfSome N.engine (Resting n) → NodeBrings (node_in (finish_snapshot N)).engine
  unfolding finish_building_snapshot
  finish_brings N r = go N.engine refl r
    where
      told : (e : EngineView) (es : List Entry) → Resting n e → (o : Option (EngineError ℕ (Unit {0})))
          → NodeBrings (node_in (kept_built es N (answered o e (with_machine e (finish_building_snapshot nat_cmp e.config (meta_of entry_meaning es) e.machine))))).engine
      told e es i None = brings_all e (with_machine e (finish_building_snapshot nat_cmp e.config (meta_of entry_meaning es) e.machine)) i.none (λ _. finish-only n low e.config i.named (meta_of entry_meaning es) e.machine)
      told e es i (Some k) = rests_bring N r

      noted : (e : EngineView) → Resting n e → (o : Option (List Entry)) → NodeBrings (node_in (elim o as (λ _. Option ℕ × NodeView) [ None ↦ (None, N) | Some es ↦ kept_built es N (told_built es e) ])).engine
      noted e i None = rests_bring N r
      noted e i (Some es) = told e es i (refusals_of_spent e.machine)

      go : (o : Option EngineView) → N.engine ≡ o → IfSome o (Resting n)
          → NodeBrings (node_in (elim o as (λ _. Option ℕ × NodeView) [ None ↦ (None, N) | Some e ↦ elim N.noted as (λ _. Option ℕ × NodeView) [ None ↦ (None, N) | Some es ↦ kept_built es N (told_built es e) ] ])).engine
      go None q i = rests_bring N r
      go (Some e) q i = noted e i N.noted

  restart_brings : (given : Given) (start : Start) (N : NodeView) → N.id ≡ n → NodeBrings (node_in (restart given.settings start N)).engine
  restart_brings given starts.Plain N i = let e : EngineView = engine_on given.settings false N in brings_all e (engine_in (resumed e)) refl (begins e i)
    where
      begins : (e : EngineView) → e.config.id ≡ n → Adds e (engine_in (resumed e))
      begins e i = answered_adds (refusals_of_startup nat_cmp e.config e.machine) e e (with_machine e (startup nat_cmp entry_meaning e.config e.machine)) (still e) (λ _. startup-only n low e.config i e.machine)
  restart_brings given starts.Saved N i = let e : EngineView = engine_on given.settings true N in brings_all e (engine_in (resumed e)) refl (begins e i)
    where
      begins : (e : EngineView) → e.config.id ≡ n → Adds e (engine_in (resumed e))
      begins e i = answered_adds (refusals_of_startup nat_cmp e.config e.machine) e e (with_machine e (startup nat_cmp entry_meaning e.config e.machine)) (still e) (λ _. startup-only n low e.config i e.machine)
  restart_brings given starts.Bare N i =
      let e : EngineView = engine_on given.settings false (unsaved N) in
      brings_all e (engine_in (begun_anew N.moment e)) refl
      (begun_one (λ r. Adds e (engine_in r)) N.moment e (λ _. answered_adds (refusals_of_elect nat_cmp e.config e.machine) e e (with_machine e (elect nat_cmp entry_meaning e.config N.moment e.machine)) (still e) (λ _. elect-only n low e.config i N.moment e.machine)) (still e)
      (answered_adds (refusals_of_startup nat_cmp e.config e.machine) e e (with_machine e (startup nat_cmp entry_meaning e.config e.machine)) (still e) (λ _. startup-only n low e.config i e.machine)))

  pub calls_bring : (given : Given) (act : Act) (N : NodeView) → N.id ≡ n → IfSome N.engine (Resting n) → ActTakesNone act N → NodeBrings (node_in (calls_at given act N)).engine
  calls_bring given Initialize N i r k =
      on_engine_brings (initialized given.membership N.moment) N r
      (λ e is s. answered_adds (refusals_of_initialize nat_cmp entry_meaning e.config 0 (first_entry given.membership) e.machine) e e (with_machine e (initialize nat_cmp entry_meaning e.config 0 (first_entry given.membership) N.moment e.machine)) (still e) (λ _. initialize-only n low e.config s.named 0 (first_entry given.membership) refl N.moment e.machine))
  calls_bring given (Elect candidates) N i r k = on_engine_brings (elected N.moment) N r (λ e is s. elected_adds e s.named s.sound N.moment)
  calls_bring given (Take m) N i r k = on_engine_brings (deliver m.from m.body N.moment) N r (λ e is s. delivered_adds e s.named s.sound m.from m.body N.moment (k e is))
  calls_bring given (Propose values) N i r k = on_engine_brings (proposed values) N r (λ e is s. entries_add e s.named s.sound _ s.led)
  calls_bring given SendHeartbeat N i r k =
      on_engine_brings heartbeats_sent N r
      (λ e is s. led_adds e s.named s.sound refusals_of_counter_led (initiate_replication nat_cmp e.config true) (λ l q _. initiate_only (Brings n low) nat_cmp e.config (brings_leading n low) true (led_of l e.machine.core.state e.machine.core.output)))
  calls_bring given (Fail target) N i r k = on_engine_brings (failed target) N r (λ e is s. progressed_adds e s.named s.sound target (request_of (inflight_to target e)) (Err tt))
  calls_bring given TriggerSnapshot N i r k =
      on_engine_brings snapshot_triggered N r
      (λ e is s. answered_adds (refusals_of_trigger_snapshot e.machine.core) e e (with_machine e (on_core trigger_snapshot e.machine)) (still e) (λ _ _. trigger_snapshot-only n low e.config s.named e.machine.core))
  calls_bring given FinishSnapshot N i r k = finish_brings N r
  calls_bring given (TriggerPurge j) N i r k =
      on_engine_brings (purge_triggered j) N r
      (λ e is s. answered_adds (refusals_of_spent e.machine) e e (with_machine e (trigger_purge_log nat_cmp j e.machine)) (still e) (λ _ _. trigger_purge-only n low e.config s.named j e.machine))
  calls_bring given (Restart start) N i r k = restart_brings given start N i
  calls_bring given (ChangeLearners learners) N i r k = on_engine_brings (learners_changed learners) N r (λ e is s. entries_add e s.named s.sound (membership_entry (members_with (groups_in e) learners) ∷ []) s.led)
  calls_bring given (ChangeMembership groups learners) N i r k = on_engine_brings (membership_changed groups learners) N r (λ e is s. entries_add e s.named s.sound (membership_entry (members_with groups learners) ∷ []) s.led)
  calls_bring given Read N i r k = on_engine_brings read_asked N r (λ e is s. still e)
  calls_bring given StepDown N i r k =
      on_engine_brings stepped_down N r
      (λ e is s. answered_adds (refusals_of_step_down nat_cmp e.config e.machine) e e (with_machine e (leader_step_down nat_cmp entry_meaning e.config e.machine)) (still e) (λ _. step_down-only n low e.config s.named e.machine))
  calls_bring given Stop N i r k = tt
