-- An exchange: a request for entries is delivered, and then its answer, which the leader handles.
use Rattle.std.proofs.Common.{ℕ, ◌+◌, ◌-◌, ◌<◌, ◌≤◌, ◌≡◌, ◌≢◌, ◌⊎◌, inl, inr, Bool, true, false, not, List, [], ◌∷◌, ◌++◌, length, arith, refl, sym, ap, ◌∙◌, subst, Option, None, Some, Result, Ok, Err}
use Rattle.std.specs.Prelude.{◌^◌, ◌==◌, if◌then◌else◌, is_some}
use Rattle.std.proofs.lemmas.Bool.Decides.{nat_tests}
use Rattle.std.specs.Option.{option_map, option_or}
use Rattle.std.specs.Cmp.{tied_itself}
use Rattle.std.specs.Ordering.{is_eq, is_le, nat_cmp}
use Rattle.std.proofs.lemmas.Bool.{true≢false}
use Rattle.std.proofs.lemmas.Cmp.{nat_cmp_total}
use Rattle.proof_deeds.specs.raft_state.declared.ids.LogId.{LogId}
use Rattle.proof_deeds.specs.raft_state.declared.ids.Vote.{Vote}
use Rattle.proof_deeds.specs.raft_state.Log.{last}
use Rattle.proof_deeds.specs.raft_state.Order.{last_id_cmp, next, vote_cmp}
use Rattle.proof_deeds.specs.raft_state.Same.{nat_same}
use Rattle.proof_deeds.specs.raft_state.State.{accepted as accepted_of, has_log_id}
use Rattle.proof_deeds.proofs.raft_state_proofs.Orders.{last_total}
use Rattle.proof_deeds.specs.raft_progress_entry.declared.entry.Inflight.{Inflight}
use Rattle.proof_deeds.specs.raft_progress_entry.declared.entry.Inflight.TheVariants as inflight
use Rattle.proof_deeds.specs.raft_progress_entry.declared.entry.LogIdRange.{LogIdRange}
use Rattle.proof_deeds.specs.raft_progress_entry.declared.entry.ProgressEntry.{ProgressEntry}
use Rattle.proof_deeds.specs.raft_error.declared.error.EngineError.{EngineError}
use Rattle.proof_deeds.specs.raft_error.declared.error.EngineError.TheVariants.{CounterEnd, ForeignInflight, Spent, UnknownTarget}
use Rattle.proof_deeds.specs.raft_progress_entry.Entry.{next_send, send_end, send_start, sent, silenced}
use Rattle.proof_deeds.specs.raft_error.Number.{first_refusal}
use Rattle.proof_deeds.specs.raft_command.Replication.{number_of}
use Rattle.proof_deeds.specs.raft_progress.Table.{get}
use Rattle.proof_deeds.specs.raft_command.declared.message.AppendEntriesResponse.{AppendEntriesResponse}
use Rattle.proof_deeds.specs.raft_command.declared.message.AppendEntriesResponse.TheVariants.{Conflict, Success}
use Rattle.proof_deeds.specs.raft_command.declared.replication.ReplicationResult.{ReplicationResult}
use Rattle.proof_deeds.specs.raft_command.declared.replication.ReplicationSessionId.{ReplicationSessionId}
use Rattle.proof_deeds.specs.raft_command.declared.replication.RequestId.{RequestId}
use Rattle.proof_deeds.specs.raft_command.declared.replication.RequestId.TheVariants as request
use Rattle.proof_deeds.specs.raft_proposer.Joint.{u64_max}
use Rattle.proof_deeds.specs.raft_steps.Invariants.{IsSoundLed}
use Rattle.proof_deeds.specs.raft_steps.Parts.{led_of}
use Rattle.proof_deeds.specs.raft_steps.Refusals.{is_counter_end_among}
use Rattle.proof_deeds.specs.raft_steps.Replies.{purge_unless_inflight, send_next, take_reply, update_failed_progress, update_progress, update_success_progress}
use Rattle.proof_deeds.specs.raft_steps.ReplyRefusals.{is_own_request, refusals_of_progress}
use Rattle.proof_deeds.proofs.raft_steps_proofs.KeptAppend.{past_committed}
use Rattle.proof_deeds.proofs.raft_steps_proofs.KeptReplies.{failed_kept, success_kept}
use Rattle.proof_deeds.proofs.raft_steps_proofs.Room.{log_end}
use Rattle.proof_deeds.specs.raft_store.declared.entry.Entry.{Entry}
use Rattle.proof_deeds.specs.raft_store.Entries.{entry_meaning}
use Rattle.proof_deeds.specs.raft_store.Mirror.{Mirrors}
use Rattle.proof_deeds.specs.raft_store.Types.{EngineView, WorldLeader}
use Rattle.proof_deeds.specs.raft_schedule.declared.event.Event.{Event}
use Rattle.proof_deeds.specs.raft_schedule.declared.event.SkipReason.{SkipReason}
use Rattle.proof_deeds.specs.raft_schedule.declared.event.SkipReason.TheVariants.{NotRunning, StaleSession}
use Rattle.proof_deeds.specs.raft_node.declared.act.Act.{Act}
use Rattle.proof_deeds.specs.raft_node.declared.act.Act.TheVariants.{Fail, Take}
use Rattle.proof_deeds.specs.raft_node.declared.act.Aim.{Aim}
use Rattle.proof_deeds.specs.raft_node.declared.given.Given.{Given}
use Rattle.proof_deeds.specs.raft_calls.declared.message.Body.{Body}
use Rattle.proof_deeds.specs.raft_calls.declared.message.Body.TheVariants as body
use Rattle.proof_deeds.specs.raft_calls.declared.message.Message.{Message}
use Rattle.proof_deeds.specs.raft_calls.declared.message.Origin.{Origin}
use Rattle.proof_deeds.specs.raft_node.declared.node.Turn.{Turn}
use Rattle.proof_deeds.specs.raft_calls.Deliveries.{deliver as delivered, progressed, take_append_reply, leads_in, same_session, skip_reply, session_of}
use Rattle.proof_deeds.specs.raft_node.Events.{aim_of, answer_at, calls_at, happens, message_at, moment_of, on_engine, skip_reason}
use Rattle.proof_deeds.specs.raft_calls.Feeds.{last_sent, WorldLed}
use Rattle.proof_deeds.specs.raft_node.Execute.{heartbeat, origin, replication}
use Rattle.proof_deeds.specs.raft_calls.LeaderCalls.{failed, inflight_to, skip_fail, skip_inflight}
use Rattle.proof_deeds.specs.raft_calls.LeaderCalls as calls
use Rattle.proof_deeds.specs.raft_node.Net.{Net, NodeView, Records}
use Rattle.proof_deeds.specs.raft_node.Runs.{whole_logs, world_after}
use Rattle.proof_deeds.specs.raft_node.WellFormed.{IsWellFormed}
use Rattle.proof_deeds.specs.raft_node.Work.{weight}
use Rattle.proof_deeds.specs.Images.{setup_of}
use Rattle.proof_deeds.specs.Knows.{KnowsLed}
use Rattle.proof_deeds.specs.Nets.{EngineFollows}
use Rattle.proof_deeds.proofs.PlainRefusals.{nodes_apart}
use Rattle.proof_deeds.proofs.Proved.{followed}
use Rattle.proof_progress.specs.Continuations.{At, deliver, fail, goes_on}
use Rattle.proof_progress.specs.Exchanges.{AreEntries, Carries, Exchanged, FollowsAt, HasNumbers, IsFree, IsLeft, IsOnItsWay, IsTold, LeadsAt, MayTake, SentAgain, WorldsExchange, WorldsSendAgain, led}
use Rattle.proof_progress.specs.Elections.{Listed}
use Rattle.proof_progress.specs.Plans.{exchange}
use Rattle.proof_progress.specs.Proposals.{Fails}
use Rattle.proof_progress.specs.Replication.{Answers, Handles, IsAsked, answered, request_of}
use Rattle.proof_progress.proofs.Accepted as accepted
use Rattle.proof_progress.proofs.Campaigns.{at_id}
use Rattle.proof_progress.proofs.CanElect.{goes_after}
use Rattle.proof_progress.proofs.Chosen.{both_run}
use Rattle.proof_progress.proofs.Carried.{IsRange, range_carried, range_sent}
use Rattle.proof_progress.proofs.Elects.{and_yes, if_true}
use Rattle.proof_progress.proofs.Exchanging.{engine_follows}
use Rattle.proof_progress.proofs.FollowerEvents as follower
use Rattle.proof_progress.proofs.InFlight.{in_flight}
use Rattle.proof_progress.proofs.LeadersKnow.{follows, knows, matching_held, session_is, sound_led}
use Rattle.proof_progress.proofs.LeaderActs as acts
use Rattle.proof_progress.proofs.Numbers.{Left, far_off, led_left, progress_left}
use Rattle.proof_progress.proofs.Places.{Changed}
use Rattle.proof_progress.proofs.Plays.{latest}
use Rattle.proof_progress.proofs.Rounds.{After, sent_matching, Noted, entry_unrefused, failed_after, failure_noted, freed, handled_after, narrowed, noted, numbered, purged, sent_next, still_low, then_known}
use Rattle.proof_progress.proofs.Works.{vote_itself}

last_itself : (x : Option (LogId ℕ)) → is_eq (last_id_cmp nat_cmp x x) ≡ true
last_itself x = ap is_eq (tied_itself (last_total nat_cmp nat_cmp_total) x)

-- an answer of its session isn't skipped
fresh : (e : EngineView) (s : ReplicationSessionId ℕ) (o : Origin) → session_of e ≡ Some s → o.session_id ≡ s → skip_reply o e ≡ None
fresh e s o h q = if_true (leads_in o.session_id e) None (Some StaleSession) (subst (λ t. leads_in t e ≡ true) (sym q) (go (session_of e) h))
  where
    go : (p : Option (ReplicationSessionId ℕ)) → p ≡ Some s → elim p as (λ _. Bool) [ None ↦ false | Some t ↦ same_session t s ] ≡ true
    go None z = cc
    go (Some t) z =
        let w : s ≡ t = cc in
        subst (λ t. same_session t s ≡ true) w (and_yes (is_eq (vote_cmp nat_cmp s.vote s.vote)) (is_eq (last_id_cmp nat_cmp s.membership_log_id s.membership_log_id)) (ap is_eq (vote_itself s.vote)) (last_itself s.membership_log_id))

one_result : (x y : Option (LogId ℕ)) → ◌≡◌ {A = Result (Option (LogId ℕ)) (LogId ℕ)} (Ok x) (Ok y) → x ≡ y
one_result x y e = cc

one_conflict : (x y : LogId ℕ) → ◌≡◌ {A = Result (Option (LogId ℕ)) (LogId ℕ)} (Err x) (Err y) → x ≡ y
one_conflict x y e = cc

no_match : (x : LogId ℕ) (y : Option (LogId ℕ)) → ◌≡◌ {A = Result (Option (LogId ℕ)) (LogId ℕ)} (Err x) (Ok y) → ⊥
no_match x y e = cc

-- The answer

-- a result that answers a request for entries, as a reply tells it
pub record Told (response : AppendEntriesResponse ℕ) (prev upto : Option (LogId ℕ)) (result : Result (Option (LogId ℕ)) (LogId ℕ)) : Type 0 where
  pub taken : (from now : ℕ) (o : Origin) (e : EngineView) → ◌≡◌ {A = Option ℕ × EngineView} (take_append_reply from o response prev upto now e) (progressed from o.request_id (Ok (record { sending_time = o.sent_at; result = result })) e)

told_success : (response : AppendEntriesResponse ℕ) (prev upto : Option (LogId ℕ)) → response ≡ Success → Told response prev upto (Ok upto)
told_success response prev upto q = subst (λ r. Told r prev upto (Ok upto)) (sym q) (record { taken = λ from now o e. refl })

told_conflict : (response : AppendEntriesResponse ℕ) (prev upto : Option (LogId ℕ)) (x : LogId ℕ) → response ≡ Conflict → prev ≡ Some x → Told response prev upto (Err x)
told_conflict response prev upto x q p = subst (λ r. Told r prev upto (Err x)) (sym q) (subst (λ o. Told Conflict o upto (Err x)) (sym p) (record { taken = λ from now o e. refl }))

-- A leader handles an answer or a failure at an event, in a world that events have made of a reached one and that it stands in as before

-- what is left of it: it leads on, as its step says, what it sends next is on its way, and the others stay
pub record LeaderActed (given : Given) (past : List Event) (now n t : ℕ) (l : LeadsAt (world_after given past) now n) (net1 : Net (List Entry)) (more : List Event) (after : WorldLed) : Type 0 where
  pub leads : LeadsAt (world_after given more) now n
  pub config : leads.engine.config ≡ l.engine.config
  pub leader : leads.leader ≡ after.leader
  pub state : leads.engine.machine.core.state ≡ after.core.state
  pub seq : leads.engine.machine.core.output.seq ≤ l.engine.machine.core.output.seq + 2
  pub streams : leads.node.streams ≡ l.node.streams
  pub left : IsLeft l.node.store leads.node.store
  pub bag : (k : ℕ) (m : Message) → message_at net1.records.bag k ≡ Some m → message_at (world_after given more).records.bag k ≡ Some m
  pub tells : (leads.engine.machine.core.state.committed ≡ l.engine.machine.core.state.committed)
      ⊎ ((u : ℕ) → Listed l.node.streams.targets u → IsTold (world_after given more) l.leader.vote n u leads.engine.machine.core.state.committed)
  pub next : IsFree leads t ⊎ IsOnItsWay leads t
  pub others : (k : ℕ) (K : NodeView) → k ≢ n → At net1.nodes k K → At (world_after given more).nodes k K

module _ (given : Given) (wf : IsWellFormed given) (past : List Event) (now n t : ℕ) (l : LeadsAt (world_after given past) now n) (payload : 1 ≤ l.engine.config.max_payload_entries)
    (unpurged : next l.engine.machine.core.state.purge_to < next (last l.engine.machine.core.state.ids)) (prior : List Event) (event : Event) (here : At (goes_on given prior (world_after given past)).nodes n l.node)
    (id : RequestId) (result : Result (ReplicationResult ℕ) (Unit {0})) (was : ProgressEntry ℕ) (free : was.inflight ≡ inflight.None)
    (has : get nat_cmp (purge_unless_inflight nat_cmp (take_reply nat_cmp l.engine.config {T = Unit {0}} t id result (led l))).leader.progress t ≡ Some was)
    (act : Act) (f : ℕ → EngineView → Option ℕ × EngineView) (call : (m : NodeView) → calls_at given act m ≡ on_engine (f m.moment) m) (silent : (m : NodeView) → answer_at act m ≡ None)
    (kind : ◌≡◌ {A = Option Aim} (aim_of (goes_on given prior (world_after given past)).records.bag event.kind) (Some (record { id = n; act = act }))) (unskipped : skip_reason act l.node ≡ None) (at : moment_of event l.node ≡ now) (on : event.stop ≡ None)
    (makes : ◌≡◌ {A = Option ℕ × EngineView} (f now l.engine) (progressed t id result l.engine)) (unrefused : refusals_of_progress nat_cmp l.engine.config {T = Unit {0}} t id result (led l) ≡ None)
    (then_after : (new : WorldLed) → new.leader ≡ (update_progress nat_cmp l.engine.config {T = Unit {0}} t id result (led l)).leader → new.core.state ≡ (update_progress nat_cmp l.engine.config {T = Unit {0}} t id result (led l)).core.state → (e : ProgressEntry ℕ) × After nat_cmp nat_cmp_total nat_same l.engine.config t (led l) new e) where
  abbrev net1 : Net (List Entry)
  net1 = goes_on given prior (world_after given past)

  abbrev net2 : Net (List Entry)
  net2 = (happens whole_logs weight given event net1).1

  abbrev more : List Event
  more = past ++ (prior ++ event ∷ [])

  world_is : world_after given more ≡ net2
  world_is = goes_after given past (prior ++ event ∷ []) ∙ both_run given prior (event ∷ []) (world_after given past)

  abbrev lead1 : LeadsAt net1 now n
  lead1 = record { node = l.node; at = here; moment = l.moment; engine = l.engine; runs = l.runs; leader = l.leader; leads = l.leads; session = l.session; in_session = l.in_session; streams = l.streams; unspent = l.unspent }

  rest : l.engine.machine.core.output.items ≡ []
  rest = (follows given wf past now n l).queue

  abbrev taken : WorldLed
  taken = purge_unless_inflight nat_cmp (take_reply nat_cmp l.engine.config {T = Unit {0}} t id result (led l))

  abbrev after : WorldLed
  after = send_next nat_cmp l.engine.config t taken

  abbrev Engine : EngineView
  Engine = acts.handling given net1 now n lead1 rest t id result []

  abbrev Node : NodeView
  Node = acts.node given net1 now n lead1 rest t id result was has free act event f call silent kind unskipped at on makes unrefused

  abbrev acted_records : Records (List Entry)
  acted_records = (acts.done given net1 now n lead1 rest t id result was has free act event f call silent kind unskipped at on makes unrefused).records

  acted : Changed net1 net2 n Node acted_records
  acted = acts.acted given net1 now n lead1 rest t id result was has free act event f call silent kind unskipped at on makes unrefused

  abbrev new_led : WorldLed
  new_led = led_of after.leader after.core.state Engine.machine.core.output

  is_leader : new_led.leader ≡ (update_progress nat_cmp l.engine.config {T = Unit {0}} t id result (led l)).leader
  unfolding update_progress
  is_leader = refl

  is_state : new_led.core.state ≡ (update_progress nat_cmp l.engine.config {T = Unit {0}} t id result (led l)).core.state
  unfolding update_progress
  is_state = refl

  done_after : After nat_cmp nat_cmp_total nat_same l.engine.config t (led l) new_led (then_after new_led is_leader is_state).0
  done_after = (then_after new_led is_leader is_state).1

  at2 : At (world_after given more).nodes n Node
  at2 = subst (λ (w : Net (List Entry)). At w.nodes n Node) (sym world_is) acted.here

  follows2 : EngineFollows (setup_of given.membership) Node (followed given wf more).world Engine
  follows2 = engine_follows given wf more n Node at2 Engine refl

  vote_stays : after.leader.vote ≡ l.leader.vote
  vote_stays =
      let k : KnowsLed (setup_of given.membership) Node.id after.core.state after.leader (followed given wf more).world = follows2.knows.leader in
      k.vote ∙ (done_after.leaves.vote ∙ sym (knows given wf past now n l).vote)

  abbrev session_with : Vote ℕ → Option (LogId ℕ) → Option (ReplicationSessionId ℕ)
  session_with v x = Some (record { vote = v; membership_log_id = x })

  leads : LeadsAt (world_after given more) now n
  leads = record {
    node = Node;
    at = at2;
    moment = omega arith;
    engine = Engine;
    runs = refl;
    leader = after.leader;
    leads = refl;
    session = l.session;
    in_session =
        ap (λ v. session_with v after.core.state.em.log_id) vote_stays
        ∙ (ap (λ m. session_with l.leader.vote m.log_id) (acts.em_then given net1 now n lead1 rest t id result was has free) ∙ ap Some (sym (session_is given wf past now n l)));
    streams = acts.streams_then given net1 now n lead1 rest t id result was has free act event f call silent kind unskipped at on makes unrefused;
    unspent = acts.spent_then given net1 now n lead1 rest t id result was has free;
  }

  -- what is sent next
  abbrev next_entry : ProgressEntry ℕ
  next_entry = sent was (next_send after.core.state l.engine.config.max_payload_entries was)

  state_is : after.core.state ≡ taken.core.state
  state_is = acts.state_then given net1 now n lead1 rest t id result was has free

  next_has : get nat_cmp after.leader.progress t ≡ Some next_entry
  next_has =
      subst (λ s. get nat_cmp after.leader.progress t ≡ Some (sent was (next_send s l.engine.config.max_payload_entries was))) (sym state_is)
      (sent_next nat_cmp nat_cmp_total nat_same l.engine.config t taken was has).has

  mirrors2 : Mirrors entry_meaning Node.store after.core.state
  mirrors2 = follows2.in_step.mirrors

  unpurged2 : next after.core.state.purge_to < next (last after.core.state.ids)
  unpurged2 = still_low (led l) new_led done_after.leaves unpurged

  abbrev turn : Turn
  turn = acts.turn given net1 now n lead1 rest t id result was has free act event f call silent kind unskipped at on makes unrefused

  carried : (i : Inflight ℕ) → next_entry.inflight ≡ i → (i ≡ inflight.None) ⊎ Carries l.session i (replication turn l.session Node.store i)
  carried inflight.None q = inl refl
  carried (inflight.Logs number2 range2) q =
      let r : IsRange after.core.state l.engine.config.max_payload_entries was free (inflight.Logs number2 range2) =
      subst (IsRange after.core.state l.engine.config.max_payload_entries was free) q (range_sent after.core.state l.engine.config.max_payload_entries was free) in
      inr (
        refl,
        refl,
        refl,
        range_carried Node.store after.core.state mirrors2.log done_after.sound.sound range2 (send_end after.core.state l.engine.config.max_payload_entries (send_start after.core.state was)) r.1
            (accepted.purged_low l.engine.config new_led done_after.sound payload unpurged2 t was free next_has number2 range2 q) (accepted.some l.engine.config new_led done_after.sound payload unpurged2 t was free next_has number2 range2 q)
            (accepted.within l.engine.config new_led done_after.sound payload unpurged2 t was free next_has number2 range2 q),
      )
  carried (inflight.Snapshot number2 end) q =
      let r : end ≡ after.core.state.snap.last_log_id = subst (IsRange after.core.state l.engine.config.max_payload_entries was free) q (range_sent after.core.state l.engine.config.max_payload_entries was free) in
      inr (refl, refl, sym (r ∙ ap (λ m. m.last_log_id) mirrors2.meta))

  next_then : IsFree leads t ⊎ IsOnItsWay leads t
  unfolding leads
  next_then = go (carried next_entry.inflight refl) (acts.sent_then given net1 now n lead1 rest t id result was has free act event f call silent kind unskipped at on makes unrefused)
    where
      free_if : next_entry.inflight ≡ inflight.None → IsFree leads t ⊎ IsOnItsWay leads t
      free_if z = inl (record { entry = next_entry; has = next_has; free = z })

      go : (next_entry.inflight ≡ inflight.None) ⊎ Carries l.session next_entry.inflight (replication turn l.session Node.store next_entry.inflight)
          → ((sent was (next_send taken.core.state l.engine.config.max_payload_entries was)).inflight ≡ inflight.None)
          ⊎ ((k : ℕ) × (message_at acted_records.bag k ≡ Some (record { from = l.node.id; to = t; body = replication turn l.session Node.store (sent was (next_send taken.core.state l.engine.config.max_payload_entries was)).inflight })))
          → IsFree leads t ⊎ IsOnItsWay leads t
      go (inl z) m = free_if z
      go (inr c) (inl z) = free_if (ap (λ s. (sent was (next_send s l.engine.config.max_payload_entries was)).inflight) state_is ∙ z)
      go (inr c) (inr m) = inr (record {
        was = was;
        free = free;
        has = next_has;
        number = m.0;
        body = replication turn l.session Node.store next_entry.inflight;
        there =
            ap (λ (w : Net (List Entry)). message_at w.records.bag m.0) world_is
            ∙ (ap (λ (r : Records (List Entry)). message_at r.bag m.0) acted.records
            ∙ (m.1
            ∙ (ap (λ i. let z : Option Message = Some (record { from = i; to = t; body = replication turn l.session Node.store (sent was (next_send taken.core.state l.engine.config.max_payload_entries was)).inflight }) in z) (at_id (world_after given past).nodes n l.node l.at)
            ∙ ap (λ s. let z : Option Message = Some (record { from = n; to = t; body = replication turn l.session Node.store (sent was (next_send s l.engine.config.max_payload_entries was)).inflight }) in z) (sym state_is))));
        carries = c;
      })

  in_more : (k : ℕ) (m : Message) → message_at acted_records.bag k ≡ Some m → message_at (world_after given more).records.bag k ≡ Some m
  in_more k m q = ap (λ (w : Net (List Entry)). message_at w.records.bag k) world_is ∙ (ap (λ (r : Records (List Entry)). message_at r.bag k) acted.records ∙ q)

  told : (after.core.state.committed ≡ l.engine.machine.core.state.committed)
      ⊎ ((u : ℕ) → Listed l.node.streams.targets u → (j : ℕ) × (message_at acted_records.bag j ≡ Some (record { from = l.node.id; to = u; body = heartbeat turn l.session after.core.state.committed })))
      → (after.core.state.committed ≡ l.engine.machine.core.state.committed) ⊎ ((u : ℕ) → Listed l.node.streams.targets u → IsTold (world_after given more) l.leader.vote n u after.core.state.committed)
  told (inl p) = inl p
  told (inr f) =
      inr (λ u k. record {
        number = (f u k).0;
        o = origin turn l.session request.HeartBeat;
        own = ap (λ s. s.vote) (session_is given wf past now n l);
        there =
            in_more (f u k).0 (record { from = n; to = u; body = heartbeat turn l.session after.core.state.committed })
            ((f u k).1 ∙ ap (λ i. let z : Option Message = Some (record { from = i; to = u; body = heartbeat turn l.session after.core.state.committed }) in z) (at_id (world_after given past).nodes n l.node l.at));
      })

  pub leader_acted : LeaderActed given past now n t l net1 more (update_progress nat_cmp l.engine.config {T = Unit {0}} t id result (led l))
  unfolding leads
  leader_acted = record {
    leads = leads;
    config = refl;
    leader = is_leader;
    state = is_state;
    seq = acts.seq_then given net1 now n lead1 rest t id result was has free;
    streams = acts.all_streams_then given net1 now n lead1 rest t id result was has free act event f call silent kind unskipped at on makes unrefused;
    left = acts.left_then given net1 now n lead1 rest t id result was has free act event f call silent kind unskipped at on makes unrefused;
    bag = λ k m q. in_more k m (acts.bag_then given net1 now n lead1 rest t id result was has free act event f call silent kind unskipped at on makes unrefused k m q);
    tells = told (acts.tells_then given net1 now n lead1 rest t id result was has free act event f call silent kind unskipped at on makes unrefused);
    next = next_then;
    others = λ k K d a. subst (λ (w : Net (List Entry)). At w.nodes k K) (sym world_is) (acted.others k K d a);
  }

-- Both deliveries

entries_in : (f : Inflight ℕ) → AreEntries f → (number : ℕ) × (range : LogIdRange ℕ) × (f ≡ inflight.Logs number range)
entries_in inflight.None h = absurd h
entries_in (inflight.Logs number range) h = (number, range, refl)
entries_in (inflight.Snapshot number end) h = absurd h

-- a request for entries, by its parts
pub record Requests (s : ReplicationSessionId ℕ) (number : ℕ) (range : LogIdRange ℕ) (b : Body) : Type 0 where
  pub o : Origin
  pub prev : Option (LogId ℕ)
  pub es : List Entry
  pub told : Option (LogId ℕ)
  pub is : b ≡ body.AppendRequest o prev es told
  pub own : o.session_id ≡ s
  pub id : o.request_id ≡ request.AppendEntries number
  pub begins : prev ≡ range.prev
  pub ends : last_sent prev es ≡ range.last

requests : (s : ReplicationSessionId ℕ) (number : ℕ) (range : LogIdRange ℕ) (b : Body) → Carries s (inflight.Logs number range) b → Requests s number range b
requests s number range (body.VoteRequest r) c = absurd c
requests s number range (body.VoteReply r) c = absurd c
requests s number range (body.AppendRequest o prev es told) c = record { o = o; prev = prev; es = es; told = told; is = refl; own = c.0; id = c.1; begins = c.2; ends = c.3 }
requests s number range (body.AppendReply o r prev upto) c = absurd c
requests s number range (body.SnapshotRequest o x) c = absurd c
requests s number range (body.SnapshotReply o r upto) c = absurd c

module _ (given : Given) (wf : IsWellFormed given) (past : List Event) (now n t left : ℕ) (l : LeadsAt (world_after given past) now n) (apart : n ≢ t) (payload : 1 ≤ l.engine.config.max_payload_entries)
    (unpurged : next l.engine.machine.core.state.purge_to < next (last l.engine.machine.core.state.ids)) (numbers : HasNumbers (left + 2) l.engine.machine) (a : IsOnItsWay l t)
    (f : MayTake (world_after given past) now l.leader.vote (left + 2) t) (number : ℕ) (range : LogIdRange ℕ)
    (is : (sent a.was (next_send l.engine.machine.core.state l.engine.config.max_payload_entries a.was)).inflight ≡ inflight.Logs number range) (r : Requests l.session number range a.body) where
  all_sound : IsSoundLed nat_cmp l.engine.config (led l)
  all_sound = sound_led given wf past now n l

  abbrev told_net : Net (List Entry)
  told_net = (happens whole_logs weight given (deliver a.number now) (world_after given past)).1

  requested : message_at (world_after given past).records.bag a.number ≡ Some (record { from = n; to = t; body = body.AppendRequest r.o r.prev r.es r.told })
  requested = a.there ∙ ap (λ (b : Body). let z : Option Message = Some (record { from = n; to = t; body = b }) in z) r.is

  vote : r.o.session_id.vote ≡ l.leader.vote
  vote = ap (λ s. s.vote) (r.own ∙ session_is given wf past now n l)

  below_end : next (last_sent r.prev r.es) < 2 ^ 64
  below_end =
      let w : next range.last ≤ next (last l.engine.machine.core.state.ids) = accepted.within l.engine.config (led l) all_sound payload unpurged t a.was a.free a.has number range is in
      let e : next (last l.engine.machine.core.state.ids) < 2 ^ 64 = log_end nat_cmp l.engine.machine.core.state all_sound.sound in
      let q : next (last_sent r.prev r.es) ≡ next range.last = ap next r.ends in
      omega (arith, w, e, q)

  other : is_eq (nat_cmp l.engine.config.id t) ≡ false
  other = nodes_apart l.engine.config.id t (λ e. apart (sym (at_id (world_after given past).nodes n l.node l.at) ∙ (sym (follows given wf past now n l).id ∙ e)))

  far_led : is_counter_end_among (led l).core l.leader.progress.rows ≡ false
  far_led = go l.engine.machine.leader l.leads (far_off (left + 2) l.engine.machine numbers)
    where
      go : (p : Option WorldLeader) → p ≡ Some l.leader → is_counter_end_among l.engine.machine.core (elim p [ None ↦ [] | Some k ↦ k.progress.rows ]) ≡ false → is_counter_end_among (led l).core l.leader.progress.rows ≡ false
      go None q h = cc
      go (Some k) q h = let z : k ≡ l.leader = cc in subst (λ (k : WorldLeader). is_counter_end_among l.engine.machine.core k.progress.rows ≡ false) z h

  abbrev response : AppendEntriesResponse ℕ
  response = follower.response given wf past now n t l.leader.vote left f a.number r.o r.prev r.es r.told requested vote below_end

  reply : message_at told_net.records.bag (length told_net.records.bag) ≡ Some (record { from = t; to = n; body = body.AppendReply r.o response r.prev (last_sent r.prev r.es) })
  reply = follower.replied given wf past now n t l.leader.vote left f a.number r.o r.prev r.es r.told requested vote below_end

  beside : (k : ℕ) (K : NodeView) → k ≢ t → At (world_after given past).nodes k K → At told_net.nodes k K
  beside = follower.others given wf past now n t l.leader.vote left f a.number r.o r.prev r.es r.told requested vote below_end

  here : At told_net.nodes n l.node
  here = beside n l.node apart l.at

  follows1 : FollowsAt told_net now l.leader.vote left t
  follows1 = follower.follows_then given wf past now n t l.leader.vote left f a.number r.o r.prev r.es r.told requested vote below_end

  unskipped : (p : Option EngineView) → p ≡ Some l.engine → ◌≡◌ {A = Option SkipReason} (elim p [ None ↦ Some NotRunning | Some e ↦ skip_reply r.o e ]) None
  unskipped None z = cc
  unskipped (Some e) z = let w : l.engine ≡ e = cc in subst (λ e. ◌≡◌ {A = Option SkipReason} (skip_reply r.o e) None) w (fresh l.engine l.session r.o l.in_session r.own)

  -- the leader handles what is told
  module _ (result : Result (Option (LogId ℕ)) (LogId ℕ)) (told : Told response r.prev (last_sent r.prev r.es) result) (answers : Answers (inflight.Logs number range) result)
      (unrefused : refusals_of_progress nat_cmp l.engine.config {T = Unit {0}} t (request.AppendEntries number) (Ok (record { sending_time = r.o.sent_at; result = result })) (led l) ≡ None)
      (accepts : (x : Option (LogId ℕ)) → result ≡ Ok x → is_le (last_id_cmp nat_cmp x (accepted_of nat_cmp follows1.engine.machine.core.state)) ≡ true)
      (conflicts : (x : LogId ℕ) → result ≡ Err x → (next f.engine.machine.core.state.committed ≤ x.index) × (follows1.engine.machine.core.state.committed ≡ f.engine.machine.core.state.committed)) where
    abbrev asked : ProgressEntry ℕ
    asked = sent a.was (next_send l.engine.machine.core.state l.engine.config.max_payload_entries a.was)

    abbrev answer : ReplicationResult ℕ
    answer = record { sending_time = r.o.sent_at; result = result }

    abbrev answering : Message
    answering = record { from = t; to = n; body = body.AppendReply r.o response r.prev (last_sent r.prev r.es) }

    abbrev then_was : ProgressEntry ℕ
    then_was = narrowed nat_cmp asked number result

    abbrev took : WorldLed
    took = update_success_progress nat_cmp l.engine.config t (request.AppendEntries number) answer (led l)

    took_has : Noted nat_cmp nat_cmp_total nat_same l.engine.config t (led l) took then_was
    took_has = noted nat_cmp nat_cmp_total nat_same l.engine.config t (request.AppendEntries number) number r.o.sent_at refl result (led l) asked a.has

    took_sound : IsSoundLed nat_cmp l.engine.config took
    took_sound =
        success_kept nat_cmp nat_cmp_total nat_same l.engine.config t (request.AppendEntries number) answer (led l)
        (entry_unrefused nat_cmp nat_cmp_total nat_same l.engine.config payload t (request.AppendEntries number) r.o.sent_at result (led l) unrefused) all_sound

    taken_has : get nat_cmp (purge_unless_inflight nat_cmp took).leader.progress t ≡ Some then_was
    taken_has = (purged nat_cmp nat_cmp_total nat_same l.engine.config t took then_was took_sound took_has.has).has

    then_free : then_was.inflight ≡ inflight.None
    then_free = freed nat_cmp nat_cmp_total asked (inflight.Logs number range) number result is answers

    busy : (i : Inflight ℕ) → i ≡ inflight.Logs number range → i ≢ inflight.None
    busy i q z = let w : inflight.Logs number range ≡ inflight.None = sym q ∙ z in cc

    by_request : (i : Inflight ℕ) → i ≡ inflight.Logs number range → update_progress nat_cmp l.engine.config {T = Unit {0}} t (request.AppendEntries number) (Ok answer) (led l) ≡ answered nat_cmp l.engine.config t (request_of i) r.o.sent_at result (led l)
    by_request i q = ap (λ i. answered nat_cmp l.engine.config t (request_of i) r.o.sent_at result (led l)) (sym q)

    handles : (new : WorldLed) → new.leader ≡ (update_progress nat_cmp l.engine.config {T = Unit {0}} t (request.AppendEntries number) (Ok answer) (led l)).leader
        → new.core.state ≡ (update_progress nat_cmp l.engine.config {T = Unit {0}} t (request.AppendEntries number) (Ok answer) (led l)).core.state → Handles nat_cmp l.engine.config t (led l) new
    handles new p q = record {
      asked = record { entry = asked; has = a.has; busy = busy asked.inflight is };
      time = r.o.sent_at;
      result = result;
      answers = subst (λ i. Answers i result) (sym is) answers;
      unrefused = subst (λ i. refusals_of_progress nat_cmp l.engine.config {T = Unit {0}} t (request_of i) (Ok answer) (led l) ≡ None) (sym is) unrefused;
      leader = p ∙ ap (λ (m : WorldLed). m.leader) (by_request asked.inflight is);
      state = q ∙ ap (λ (m : WorldLed). m.core.state) (by_request asked.inflight is);
    }

    kind : ◌≡◌ {A = Option Aim} (aim_of told_net.records.bag (deliver (length told_net.records.bag) now).kind) (Some (record { id = n; act = Take answering }))
    kind = ap (λ (o : Option Message). let z : Option Aim = option_map (λ (m : Message). record { id = m.to; act = Take m }) o in z) reply

    makes : ◌≡◌ {A = Option ℕ × EngineView} (delivered t (body.AppendReply r.o response r.prev (last_sent r.prev r.es)) now l.engine) (progressed t (request.AppendEntries number) (Ok answer) l.engine)
    makes = told.taken t now r.o l.engine ∙ ap (λ (i : RequestId). progressed t i (Ok answer) l.engine) r.id

    all : LeaderActed given past now n t l told_net (past ++ exchange given now a.number (world_after given past)) (update_progress nat_cmp l.engine.config {T = Unit {0}} t (request.AppendEntries number) (Ok answer) (led l))
    all =
        leader_acted given wf past now n t l payload unpurged (deliver a.number now ∷ []) (deliver (length told_net.records.bag) now) here (request.AppendEntries number) (Ok answer) then_was then_free taken_has (Take answering)
        (λ k e. delivered t (body.AppendReply r.o response r.prev (last_sent r.prev r.es)) k e) (λ m. refl) (λ m. refl) kind (unskipped l.node.engine l.runs) (latest now l.node.moment l.moment) refl makes unrefused
        (λ new p q. let h : Handles nat_cmp l.engine.config t (led l) new = handles new p q in
        (then_known nat_cmp nat_cmp_total nat_same l.engine.config payload t h, handled_after nat_cmp nat_cmp_total nat_same l.engine.config payload t (led l) new all_sound unpurged h))

    ended : Exchanged given past now n t left l f.engine a.number
    unfolding handles
    ended = record {
      leads = all.leads;
      config = all.config;
      numbers =
          led_left left l.engine.machine all.leads.engine.machine l.leader all.leads.leader l.leads all.leads.leads numbers all.seq
          (λ h. subst (λ (g : WorldLeader). Left (u64_max - 8) left g.progress.rows) (sym all.leader) (progress_left (u64_max - 8) {T = Unit {0}} l.engine.config left t (request.AppendEntries number) (Ok answer) (led l) h));
      on = record { streams = all.streams; bag = λ k m q. all.bag k m (follower.bag_then given wf past now n t l.leader.vote left f a.number r.o r.prev r.es r.told requested vote below_end k m q); tells = all.tells };
      left = all.left;
      handled = handles (led all.leads) all.leader all.state;
      next = all.next;
      follows = record {
        node = follows1.node;
        at = all.others t follows1.node (λ e. apart (sym e)) follows1.at;
        moment = follows1.moment;
        engine = follows1.engine;
        runs = follows1.runs;
        unspent = follows1.unspent;
        numbers = follows1.numbers;
        vote = follows1.vote;
      };
      accepts = accepts;
      conflicts = conflicts;
      others = λ k K d e h. all.others k K d (beside k K e h);
    }

  pub exchanged : Exchanged given past now n t left l f.engine a.number
  unfolding follows1
  exchanged = go (follower.answers given wf past now n t l.leader.vote left f a.number r.o r.prev r.es r.told requested vote below_end)
    where
      go : (response ≡ Success) ⊎ ((x : LogId ℕ) × (r.prev ≡ Some x) × (response ≡ Conflict) × (has_log_id nat_cmp f.engine.machine.core.state x ≡ false)) → Exchanged given past now n t left l f.engine a.number
      go (inl s) =
          ended (Ok (last_sent r.prev r.es)) (told_success response r.prev (last_sent r.prev r.es) s) r.ends
          (accepted.match_unrefused l.engine.config (led l) all_sound payload unpurged t a.was a.free a.has number range is other l.unspent far_led r.o.sent_at (last_sent r.prev r.es) r.ends)
          (λ x e. let z : last_sent r.prev r.es ≡ x = one_result (last_sent r.prev r.es) x e in
          subst (λ (y : Option (LogId ℕ)). is_le (last_id_cmp nat_cmp y (accepted_of nat_cmp follows1.engine.machine.core.state)) ≡ true) z
          (follower.accepts_then given wf past now n t l.leader.vote left f a.number r.o r.prev r.es r.told requested vote below_end s))
          (λ x e. absurd (no_match x (last_sent r.prev r.es) (sym e)))
      go (inr c) =
          let q : range.prev ≡ Some c.0 = sym r.begins ∙ c.1 in
          ended (Err c.0) (told_conflict response r.prev (last_sent r.prev r.es) c.0 c.2 c.1) q
          (accepted.conflict_unrefused l.engine.config (led l) all_sound payload unpurged t a.was a.free a.has number range is other l.unspent far_led r.o.sent_at c.0 q
          (above (accepted.known_or_above l.engine.config (led l) all_sound payload unpurged t a.was a.free a.has number range is other l.unspent far_led c.0 q)))
          (λ x e. absurd (no_match c.0 x e))
          (λ x e. (
            subst (λ (y : LogId ℕ). next f.engine.machine.core.state.committed ≤ y.index) (one_conflict c.0 x e) (past_committed nat_cmp f.engine.machine.core.state c.0 c.3),
            follower.keeps_then given wf past now n t l.leader.vote left f a.number r.o r.prev r.es r.told requested vote below_end c.2,
          ))
        where
          above : (a.was.matching ≡ Some c.0) ⊎ (next a.was.matching ≤ c.0.index) → next a.was.matching ≤ c.0.index
          above (inl e) =
              let h : has_log_id nat_cmp f.engine.machine.core.state c.0 ≡ true =
              matching_held given wf past now n l t apart (sent a.was (next_send l.engine.machine.core.state l.engine.config.max_payload_entries a.was)) a.has c.0
              (sent_matching a.was (next_send l.engine.machine.core.state l.engine.config.max_payload_entries a.was) ∙ e) f.node f.at f.engine f.runs f.low a.number r.o r.prev r.es r.told requested vote c.1 in
              absurd (true≢false (sym h ∙ c.3))
          above (inr u) = u

pub worlds_exchange : WorldsExchange
worlds_exchange given wf past now n t k l apart payload unpurged numbers a entries f =
    let z = entries_in (sent a.was (next_send l.engine.machine.core.state l.engine.config.max_payload_entries a.was)).inflight entries in
    exchanged given wf past now n t k l apart payload unpurged numbers a f z.0 z.1 z.2 (requests l.session z.0 z.1 a.body (subst (λ (f : Inflight ℕ). Carries l.session f a.body) z.2 a.carries))

-- A failure

same_request : (i : Inflight ℕ) → calls.request_of i ≡ request_of i
same_request inflight.None = refl
same_request (inflight.Logs number range) = refl
same_request (inflight.Snapshot number end) = refl

own_request : (i : Inflight ℕ) → is_own_request i (request_of i) ≡ true
own_request inflight.None = refl
own_request (inflight.Logs number range) = same number
  where
    same : (k : ℕ) → (k == k) ≡ true
    same k = grind (arith, nat_tests)
own_request (inflight.Snapshot number end) = same number
  where
    same : (k : ℕ) → (k == k) ≡ true
    same k = grind (arith, nat_tests)

unskipped_if : (i : Inflight ℕ) → i ≢ inflight.None → skip_inflight i ≡ None
unskipped_if inflight.None d = absurd (d refl)
unskipped_if (inflight.Logs number range) d = refl
unskipped_if (inflight.Snapshot number end) d = refl

module _ (given : Given) (wf : IsWellFormed given) (past : List Event) (now n t left : ℕ) (l : LeadsAt (world_after given past) now n) (apart : n ≢ t) (payload : 1 ≤ l.engine.config.max_payload_entries)
    (unpurged : next l.engine.machine.core.state.purge_to < next (last l.engine.machine.core.state.ids)) (numbers : HasNumbers (left + 2) l.engine.machine) (a : IsAsked nat_cmp t (led l)) where
  abbrev failing : RequestId
  failing = request_of a.entry.inflight

  fail_sound : IsSoundLed nat_cmp l.engine.config (led l)
  fail_sound = sound_led given wf past now n l

  apart_led : is_eq (nat_cmp l.engine.config.id t) ≡ false
  apart_led = nodes_apart l.engine.config.id t (λ e. apart (sym (at_id (world_after given past).nodes n l.node l.at) ∙ (sym (follows given wf past now n l).id ∙ e)))

  fails_unrefused : refusals_of_progress nat_cmp l.engine.config {T = Unit {0}} t failing (Err tt) (led l) ≡ None
  fails_unrefused = go l.engine.machine.core.output.spent (is_counter_end_among (led l).core l.leader.progress.rows) (is_eq (nat_cmp l.engine.config.id t)) l.unspent (counts l.engine.machine.leader l.leads (far_off (left + 2) l.engine.machine numbers)) apart_led (get nat_cmp l.leader.progress t) a.has
    where
      counts : (p : Option WorldLeader) → p ≡ Some l.leader → is_counter_end_among l.engine.machine.core (elim p [ None ↦ [] | Some k ↦ k.progress.rows ]) ≡ false → is_counter_end_among (led l).core l.leader.progress.rows ≡ false
      counts None q h = cc
      counts (Some k) q h = let z : k ≡ l.leader = cc in subst (λ (k : WorldLeader). is_counter_end_among l.engine.machine.core k.progress.rows ≡ false) z h

      own : (b : Bool) → b ≡ true → ◌≡◌ {A = Option (EngineError ℕ (Unit {0}))} (first_refusal ((not b, ForeignInflight) ∷ [])) None
      own true q = refl
      own false q = cc

      go : (x y z : Bool) → x ≡ false → y ≡ false → z ≡ false → (o : Option (ProgressEntry ℕ)) → o ≡ Some a.entry
          → ◌≡◌ {A = Option (EngineError ℕ (Unit {0}))} (option_or (first_refusal ((x, Spent) ∷ (y, CounterEnd) ∷ [])) (if z then Some UnknownTarget else elim o [ None ↦ Some UnknownTarget | Some e ↦ first_refusal ((not (is_own_request e.inflight failing), ForeignInflight) ∷ []) ])) None
      go x y z p q r None w = cc
      go x y z p q r (Some e) w =
          let v : a.entry ≡ e = cc in
          rw (p, q, r) (subst (λ (e : ProgressEntry ℕ). ◌≡◌ {A = Option (EngineError ℕ (Unit {0}))} (first_refusal ((not (is_own_request e.inflight failing), ForeignInflight) ∷ [])) None) v (own (is_own_request a.entry.inflight failing) (own_request a.entry.inflight)))

  fail_numbered : is_some (number_of failing) ≡ true
  fail_numbered = ap is_some (numbered a.entry.inflight a.busy).1

  failed_has : get nat_cmp (purge_unless_inflight nat_cmp (update_failed_progress nat_cmp t failing (led l))).leader.progress t ≡ Some (silenced a.entry)
  failed_has =
      (purged nat_cmp nat_cmp_total nat_same l.engine.config t (update_failed_progress nat_cmp t failing (led l)) (silenced a.entry) (failed_kept nat_cmp nat_cmp_total nat_same l.engine.config t failing (led l) fail_sound)
      (failure_noted nat_cmp nat_cmp_total nat_same l.engine.config t failing (led l) a.entry fail_numbered a.has).has).has

  fails : (new : WorldLed) → new.leader ≡ (update_progress nat_cmp l.engine.config {T = Unit {0}} t failing (Err tt) (led l)).leader → new.core.state ≡ (update_progress nat_cmp l.engine.config {T = Unit {0}} t failing (Err tt) (led l)).core.state
      → Fails nat_cmp l.engine.config t (led l) new
  fails new p q = record { request = failing; numbered = fail_numbered; unrefused = fails_unrefused; leader = p; state = q }

  fail_unskipped : skip_reason (Fail t) l.node ≡ None
  fail_unskipped = go l.node.engine l.runs
    where
      leading : (p : Option WorldLeader) → ◌≡◌ {A = Option SkipReason} (elim p [ None ↦ None | Some k ↦ skip_inflight (inflight_to t l.engine) ]) None
      leading None = refl
      leading (Some k) = ap skip_inflight (in_flight l t a.entry a.has) ∙ unskipped_if a.entry.inflight a.busy

      go : (p : Option EngineView) → p ≡ Some l.engine → ◌≡◌ {A = Option SkipReason} (elim p [ None ↦ Some NotRunning | Some e ↦ skip_fail t e ]) None
      go None q = cc
      go (Some e) q = let z : l.engine ≡ e = cc in subst (λ e. ◌≡◌ {A = Option SkipReason} (skip_fail t e) None) z (leading l.engine.machine.leader)

  fail_makes : ◌≡◌ {A = Option ℕ × EngineView} (failed t l.engine) (progressed t failing (Err tt) l.engine)
  fail_makes = ap (λ (i : RequestId). progressed t i (Err tt) l.engine) (ap calls.request_of (in_flight l t a.entry a.has) ∙ same_request a.entry.inflight)

  all_failed : LeaderActed given past now n t l (world_after given past) (past ++ fail n t now ∷ []) (update_progress nat_cmp l.engine.config {T = Unit {0}} t failing (Err tt) (led l))
  all_failed =
      leader_acted given wf past now n t l payload unpurged [] (fail n t now) l.at failing (Err tt) (silenced a.entry) refl failed_has (Fail t) (λ k e. failed t e) (λ m. refl) (λ m. refl) refl fail_unskipped (latest now l.node.moment l.moment) refl fail_makes
      fails_unrefused (λ new p q. (silenced a.entry, failed_after nat_cmp nat_cmp_total nat_same l.engine.config payload t (led l) new a.entry a.has fail_sound unpurged (fails new p q)))

  pub sent_again : SentAgain given past now n t left l
  sent_again = record {
    leads = all_failed.leads;
    config = all_failed.config;
    numbers =
        led_left left l.engine.machine all_failed.leads.engine.machine l.leader all_failed.leads.leader l.leads all_failed.leads.leads numbers all_failed.seq
        (λ h. subst (λ (g : WorldLeader). Left (u64_max - 8) left g.progress.rows) (sym all_failed.leader) (progress_left (u64_max - 8) {T = Unit {0}} l.engine.config left t failing (Err tt) (led l) h));
    on = record { streams = all_failed.streams; bag = all_failed.bag; tells = all_failed.tells };
    left = all_failed.left;
    failed = fails (led all_failed.leads) all_failed.leader all_failed.state;
    next = all_failed.next;
    others = all_failed.others;
  }

pub worlds_send_again : WorldsSendAgain
worlds_send_again given wf past now n t k l apart payload unpurged numbers a = sent_again given wf past now n t k l apart payload unpurged numbers a
