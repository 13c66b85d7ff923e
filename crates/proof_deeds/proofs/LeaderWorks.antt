-- The calls of a leader's events leave a node at work.
use Rattle.std.proofs.Common.{ℕ, ◌<◌, ◌≡◌, ◌≢◌, Bool, true, false, List, [], length, map, arith, refl, sym, ◌∙◌, subst, Option, None, Some, Result, Ok, Err}
use Rattle.std.specs.Prelude.{if◌then◌else◌}
use Rattle.std.specs.Option.{option_map}
use Rattle.std.specs.Ordering.{is_eq, is_gt, nat_cmp}
use Rattle.std.proofs.lemmas.Bool.{and_parts}
use Rattle.std.proofs.lemmas.Bool.Decides.{nat_tests}
use Rattle.raft_node.specs.raft_state.declared.ids.LogId.{LogId}
use Rattle.raft_node.specs.raft_state.declared.ids.Vote.{Vote}
use Rattle.raft_node.specs.raft_state.declared.membership.Members.{Members}
use Rattle.raft_node.specs.raft_state.Order.{last_id_cmp, vote_cmp}
use Rattle.raft_node.specs.raft_state.Same.{nat_same}
use Rattle.raft_node.proofs.raft_state_proofs.Orders.{is_equal}
use Rattle.raft_node.specs.raft_error.declared.error.EngineError.{EngineError}
use Rattle.raft_node.specs.raft_error.declared.error.EngineError.TheVariants.{UnknownTarget}
use Rattle.raft_node.specs.raft_command.declared.message.AppendEntriesResponse.{AppendEntriesResponse}
use Rattle.raft_node.specs.raft_command.declared.message.AppendEntriesResponse.TheVariants.{Conflict, HigherVote, PartialSuccess, Success}
use Rattle.raft_node.specs.raft_command.declared.message.SnapshotResponse.{SnapshotResponse}
use Rattle.raft_node.specs.raft_command.declared.replication.ReplicationResult.{ReplicationResult}
use Rattle.raft_node.specs.raft_command.declared.replication.ReplicationSessionId.{ReplicationSessionId}
use Rattle.raft_node.specs.raft_command.declared.replication.RequestId.{RequestId}
use Rattle.raft_node.specs.raft_steps.Engine.{as_uncommitted}
use Rattle.raft_node.specs.raft_steps.LeaderHandler.{leader_append_entries}
use Rattle.raft_node.specs.raft_steps.Parts.{leading, led_of}
use Rattle.raft_node.specs.raft_steps.Refusals.{refusals_of_counter_led, refusals_of_propose, refusals_of_update_vote}
use Rattle.raft_node.specs.raft_steps.Replies.{update_progress}
use Rattle.raft_node.specs.raft_steps.ReplyRefusals.{refusals_of_entry, refusals_of_progress, refusals_of_result}
use Rattle.raft_node.specs.raft_steps.ReplicationHandler.{initiate_replication}
use Rattle.raft_node.specs.raft_steps.VoteHandler.{update_vote}
use Rattle.raft_node.proofs.raft_steps_proofs.Leads.{vote_same}
use Rattle.raft_node.proofs.raft_steps_proofs.Unrefused.{neither, test_fails}
use Rattle.raft_node.specs.raft_store.declared.entry.Value.{Value}
use Rattle.raft_node.specs.raft_store.Entries.{entry_meaning}
use Rattle.raft_node.specs.raft_store.Types.{EngineView, WorldLeader, WorldMachine, WorldStore}
use Rattle.proof_mirror.specs.Ready.{Ordered, PendingIn}
use Rattle.raft_node.specs.raft_schedule.declared.event.SkipReason.{SkipReason}
use Rattle.raft_node.specs.raft_schedule.declared.event.SkipReason.TheVariants.{NotOwnVote, StaleSession}
use Rattle.raft_node.specs.raft_calls.declared.message.Body.TheVariants as body
use Rattle.raft_node.specs.raft_calls.declared.message.Message.{Message}
use Rattle.raft_node.specs.raft_calls.declared.message.Origin.{Origin}
use Rattle.raft_node.specs.declared.node.Turn.{Turn}
use Rattle.raft_node.specs.raft_calls.Deliveries.{answered, led_call, progressed, take_append_reply, take_higher_vote, take_result, take_snapshot_reply, unled_number, with_machine, leads_in, same_session, skip_delivery}
use Rattle.raft_node.specs.raft_calls.Feeds.{WorldLed}
use Rattle.raft_node.specs.raft_calls.Held.{IsReady}
use Rattle.raft_node.specs.raft_calls.LeaderCalls.{failed, heartbeats_sent, inflight_to, proposed, request_of, skip_propose, value_entry}
use Rattle.proof_deeds.specs.Chains.{Reached}
use Rattle.proof_deeds.specs.Follows.{AcceptedUpTo, AppendAnswered, SnapshotAnswered, VoteTold}
use Rattle.proof_deeds.specs.Images.{Ideal, setup_of}
use Rattle.proof_deeds.specs.Knows.{CarriedIn, Delivered, Stands}
use Rattle.proof_deeds.specs.LeaderDeeds.{ReplyIs}
use Rattle.proof_deeds.proofs.Calls.{CallLaws, WorldState}
use Rattle.proof_deeds.proofs.Drains.{EngineWorks, stands}
use Rattle.proof_deeds.proofs.LeaderEvents.{heartbeat_pending, higher_pending, may_propose, progress_pending, proposed_pending}
use Rattle.proof_deeds.proofs.LeaderLaws.{ordered_by}
use Rattle.proof_deeds.proofs.Laws.{said}
use Rattle.proof_deeds.proofs.Quorums.{means_setup}
use Rattle.proof_deeds.proofs.Worlds.{has_accepted}

apart : (a b : ℕ) → is_eq (nat_cmp a b) ≡ false → a ≢ b
apart a b h q = grind (arith, nat_tests)

-- what a request to a target that isn't refused says of it
progress_asks : (id target : ℕ) (x : Option (EngineError ℕ (Unit {0}))) → (if is_eq (nat_cmp id target) then Some UnknownTarget else x) ≡ None → (target ≢ id) × (x ≡ None)
progress_asks id target x q = let p : (is_eq (nat_cmp id target) ≡ false) × (x ≡ None) = test_fails (is_eq (nat_cmp id target)) UnknownTarget x q in ((λ e. apart id target p.0 (sym e)), p.1)

-- a leader in a session has its vote
session_vote : (s : ReplicationSessionId ℕ) (e : EngineView) (l : WorldLeader) → leads_in s e ≡ true → e.machine.leader ≡ Some l → s.vote ≡ l.vote
session_vote s e l h is =
    let k : same_session (record { vote = l.vote; membership_log_id = e.machine.core.state.em.log_id }) s ≡ true =
    subst (λ (o : Option WorldLeader). (elim (option_map (λ (l : WorldLeader). let q : ReplicationSessionId ℕ = record { vote = l.vote; membership_log_id = e.machine.core.state.em.log_id } in q) o) as (λ _. Bool) [ None ↦ false | Some q ↦ same_session q s ]) ≡ true) is h in
    sym (vote_same nat_cmp nat_same l.vote s.vote (is_equal _ (and_parts (is_eq (vote_cmp nat_cmp l.vote s.vote)) (is_eq (last_id_cmp nat_cmp e.machine.core.state.em.log_id s.membership_log_id)) k).0))

in_session : (s : ReplicationSessionId ℕ) (e : EngineView) → ◌≡◌ {A = Option SkipReason} (if leads_in s e then None else Some StaleSession) None → leads_in s e ≡ true
in_session s e h = go (leads_in s e) h where
  go : (b : Bool) → ◌≡◌ {A = Option SkipReason} (if b then None else Some StaleSession) None → b ≡ true
  go true q = refl
  go false q = cc

own_vote : (e : EngineView) (l : WorldLeader) → skip_propose e ≡ None → e.machine.leader ≡ Some l → is_eq (vote_cmp nat_cmp l.vote e.machine.core.state.vote) ≡ true
own_vote e l none is =
    pick (is_eq (vote_cmp nat_cmp l.vote e.machine.core.state.vote))
    (subst (λ (o : Option WorldLeader). (elim o as (λ _. Option SkipReason) [ None ↦ None | Some l ↦ (if is_eq (vote_cmp nat_cmp l.vote e.machine.core.state.vote) then None else Some NotOwnVote) ]) ≡ None) is none)
  where
    pick : (b : Bool) → ◌≡◌ {A = Option SkipReason} (if b then None else Some NotOwnVote) None → b ≡ true
    pick true q = refl
    pick false q = cc

module _ (first : Members ℕ (Unit {0})) (Extra : Ideal → WorldState → Type 0) (laws : CallLaws first Extra) (t : Turn) (node : t.id < 18446744073709551616)
    (u : WorldStore) (W : Ideal) (r : Reached (setup_of first) W) (o : Ordered nat_cmp entry_meaning u)
    (e : EngineView) (h : EngineWorks first Extra t u W e) where
  abbrev Working : EngineView → Type 0
  Working f = EngineWorks first Extra t u W f

  abbrev After : WorldMachine → Type 0
  After m = PendingIn nat_cmp entry_meaning (λ es. es) u m × (CarriedIn (setup_of first) t u W m × Extra W m.core.state)

  abbrev led : WorldLeader → WorldLed
  led l = led_of l e.machine.core.state e.machine.core.output

  pub at_work : Stands (setup_of first) t e.config u W e.machine
  at_work = stands first Extra t laws node u W e r o h

  -- a call that isn't refused
  pub call_works : (asks : Option (EngineError ℕ (Unit {0}))) (m : WorldMachine) → (asks ≡ None → After m) → IsReady (answered asks e (with_machine e m)).1 → Working (answered asks e (with_machine e m)).1
  call_works None m f k = let p : After m = f refl in record { id = h.id; ready = k; pending = p.0; carried = p.1.0; extra = p.1.1 }
  call_works (Some x) m f k = h

  -- a call of the leader
  pub led_works : (asks : WorldLed → Option (EngineError ℕ (Unit {0}))) (step : WorldLed → WorldLed) → ((l : WorldLeader) → e.machine.leader ≡ Some l → asks (led l) ≡ None → After (leading e.machine (step (led l)))) → IsReady (led_call asks step e).1 → Working (led_call asks step e).1
  led_works asks step f k = go e.machine.leader refl k where
    after : Option WorldLeader → Option ℕ × EngineView
    after o = elim o [ None ↦ (Some (unled_number e), e) | Some l ↦ answered (asks (led l)) e (with_machine e (leading e.machine (step (led l)))) ]

    go : (o : Option WorldLeader) → e.machine.leader ≡ o → IsReady (after o).1 → Working (after o).1
    go None is k = h
    go (Some l) is k = call_works (asks (led l)) (leading e.machine (step (led l))) (λ a. f l is a) k

  -- values are proposed
  pub proposed_works : (values : List Value) → skip_propose e ≡ None → IsReady (proposed values e).1 → Working (proposed values e).1
  proposed_works values none k =
      led_works (refusals_of_propose (length (map value_entry values))) (leader_append_entries nat_cmp entry_meaning e.config (map value_entry values))
      (λ l is a.
      let own : is_eq (vote_cmp nat_cmp l.vote e.machine.core.state.vote) ≡ true = own_vote e l none is in (
        proposed_pending first t e.config u W e.machine at_work l is values
            (ordered_by (setup_of first) (means_setup first) t e.config u W e.machine at_work l is (map value_entry values) (may_propose first t e.config u W e.machine at_work l is values own) a),
        laws.by_propose t e.config u W e.machine at_work values l is own a h.extra,
      ))
      k

  -- heartbeats
  pub heartbeat_works : IsReady (heartbeats_sent e).1 → Working (heartbeats_sent e).1
  heartbeat_works k =
      led_works refusals_of_counter_led (initiate_replication nat_cmp e.config true)
      (λ l is a. (heartbeat_pending first t e.config u W e.machine at_work l is, laws.by_heartbeat t e.config u W e.machine at_work l is h.extra)) k

  -- a reply of a target, or the failure of what it was sent
  progressed_works : (target : ℕ) (id : RequestId) (reply : Result (ReplicationResult ℕ) (Unit {0})) → ((l : WorldLeader) → e.machine.leader ≡ Some l → ReplyIs W target l.vote reply) → IsReady (progressed target id reply e).1 → Working (progressed target id reply e).1
  progressed_works target id reply says k =
      led_works (refusals_of_progress nat_cmp e.config target id reply) (update_progress nat_cmp e.config target id reply)
      (λ l is a.
      let p : (target ≢ e.config.id) × (refusals_of_entry nat_cmp target (λ x. refusals_of_result nat_cmp e.machine.core.state x id reply) l ≡ None) = progress_asks e.config.id target _ (neither _ _ a).1 in (
        progress_pending first t e.config u W e.machine at_work l is target id reply p.1,
        laws.by_progress t e.config u W e.machine at_work l is target id reply (λ q. p.0 (q ∙ sym h.id)) p.1 (says l is) h.extra,
      ))
      k

  pub failed_works : (target : ℕ) → IsReady (failed target e).1 → Working (failed target e).1
  failed_works target k = progressed_works target (request_of (inflight_to target e)) (Err tt) (λ l is. tt) k

  module _ (queue : e.machine.core.output.items ≡ []) (msg : Message) (d : Delivered (setup_of first) t W msg) (origin : Origin) where
    -- a higher vote in a reply
    higher_works : (v : Vote ℕ) → VoteTold v W → IsReady (take_higher_vote v t.moment e).1 → Working (take_higher_vote v t.moment e).1
    higher_works v told k =
        call_works (refusals_of_update_vote nat_cmp e.config (as_uncommitted v) e.machine) (update_vote nat_cmp entry_meaning e.config (as_uncommitted v) t.moment e.machine)
        (λ asks. (higher_pending first t e.config u W e.machine at_work (as_uncommitted v) asks, laws.by_higher_vote t e.config u W e.machine at_work queue v told asks h.extra)) k

    -- a reply to an append request of this session
    reply_works : (reply : AppendEntriesResponse ℕ) (prev upto : Option (LogId ℕ)) → AppendAnswered msg.from origin reply upto W → leads_in origin.session_id e ≡ true
        → IsReady (take_append_reply msg.from origin reply prev upto t.moment e).1 → Working (take_append_reply msg.from origin reply prev upto t.moment e).1
    reply_works Success prev upto a s k =
        progressed_works msg.from origin.request_id (Ok (record { sending_time = origin.sent_at; result = Ok upto })) (λ l is. has_accepted W msg.from l.vote upto (subst (λ v. AcceptedUpTo msg.from v upto W) (session_vote origin.session_id e l s is) (a.success refl))) k
    reply_works (PartialSuccess x) prev upto a s k = absurd (a.whole x refl)
    reply_works Conflict None upto a s k = h
    reply_works Conflict (Some x) upto a s k = progressed_works msg.from origin.request_id (Ok (record { sending_time = origin.sent_at; result = Err x })) (λ l is. tt) k
    reply_works (HigherVote v) prev upto a s k = higher_works v (a.rejected v refl) k

    pub append_reply_works : (reply : AppendEntriesResponse ℕ) (prev upto : Option (LogId ℕ)) → msg.body ≡ body.AppendReply origin reply prev upto → skip_delivery (body.AppendReply origin reply prev upto) e ≡ None
        → IsReady (take_append_reply msg.from origin reply prev upto t.moment e).1 → Working (take_append_reply msg.from origin reply prev upto t.moment e).1
    append_reply_works reply prev upto is none k = reply_works reply prev upto (said first t W msg (body.AppendReply origin reply prev upto) d is) (in_session origin.session_id e none) k

    -- a reply to a snapshot of this session
    pub snapshot_reply_works : (reply : SnapshotResponse ℕ) (upto : Option (LogId ℕ)) → msg.body ≡ body.SnapshotReply origin reply upto → skip_delivery (body.SnapshotReply origin reply upto) e ≡ None
        → IsReady (take_snapshot_reply msg.from origin reply upto t.moment e).1 → Working (take_snapshot_reply msg.from origin reply upto t.moment e).1
    snapshot_reply_works reply upto is none k = go (is_gt (vote_cmp nat_cmp reply.vote origin.session_id.vote)) refl k where
      a : SnapshotAnswered msg.from origin reply upto W
      a = said first t W msg (body.SnapshotReply origin reply upto) d is

      after : Bool → Option ℕ × EngineView
      after b = if b then take_higher_vote reply.vote t.moment e else take_result msg.from origin (Ok upto) e

      go : (b : Bool) → is_gt (vote_cmp nat_cmp reply.vote origin.session_id.vote) ≡ b → IsReady (after b).1 → Working (after b).1
      go true g k = higher_works reply.vote a.told k
      go false g k =
          progressed_works msg.from origin.request_id (Ok (record { sending_time = origin.sent_at; result = Ok upto }))
          (λ l is. has_accepted W msg.from l.vote upto (subst (λ v. AcceptedUpTo msg.from v upto W) (session_vote origin.session_id e l (in_session origin.session_id e none) is) (a.success g))) k
