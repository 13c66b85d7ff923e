-- A leader handles an answer or a failure at an event, and works off its queue: what it sends next is on its way.
use Rattle.std.proofs.Common.{ℕ, ◌+◌, ◌≤◌, ◌≡◌, ◌⊎◌, inl, inr, false, List, [], ◌∷◌, ◌++◌, length, arith, refl, sym, ap, ◌∙◌, subst, Option, None, Some, Result}
use Rattle.std.specs.List.{AllByRecursion}
use Rattle.std.specs.Ordering.{nat_cmp}
use Rattle.proof_deeds.specs.raft_progress_entry.declared.entry.Inflight.TheVariants as inflight
use Rattle.proof_deeds.specs.raft_progress_entry.declared.entry.ProgressEntry.{ProgressEntry}
use Rattle.proof_deeds.specs.raft_error.declared.error.EngineError.{EngineError}
use Rattle.proof_deeds.specs.raft_progress_entry.Entry.{next_send, sent}
use Rattle.proof_deeds.specs.raft_progress.Table.{get}
use Rattle.proof_deeds.specs.raft_command.declared.command.Command.TheVariants.{Replicate}
use Rattle.proof_deeds.specs.raft_command.declared.replication.ReplicationResult.{ReplicationResult}
use Rattle.proof_deeds.specs.raft_command.declared.replication.RequestId.{RequestId}
use Rattle.proof_deeds.specs.raft_steps.Parts.{leading, led_of}
use Rattle.proof_deeds.specs.raft_steps.Replies.{purge_unless_inflight, send_next, take_reply, update_progress}
use Rattle.proof_deeds.specs.raft_steps.ReplyRefusals.{refusals_of_progress}
use Rattle.proof_deeds.specs.raft_store.declared.entry.Entry.{Entry}
use Rattle.proof_deeds.specs.raft_store.Types.{EngineView, WorldCommand, WorldLeader}
use Rattle.proof_deeds.specs.raft_schedule.declared.event.Event.{Event}
use Rattle.proof_deeds.specs.raft_node.declared.act.Act.{Act}
use Rattle.proof_deeds.specs.raft_node.declared.act.Aim.{Aim}
use Rattle.proof_deeds.specs.raft_node.declared.given.Given.{Given}
use Rattle.proof_deeds.specs.raft_calls.declared.message.Message.{Message}
use Rattle.proof_deeds.specs.raft_node.declared.node.Turn.{Turn}
use Rattle.proof_deeds.specs.raft_calls.Deliveries.{answered as call_answered, progressed, unled_number, with_machine}
use Rattle.proof_deeds.specs.raft_node.Events.{aim_of, answer_at, calls_at, happens, message_at, moment_of, on_engine, skip_reason, turn_of}
use Rattle.proof_deeds.specs.raft_node.Execute.{heartbeat, replication, sending}
use Rattle.proof_deeds.specs.raft_calls.Feeds.{WorldLed}
use Rattle.proof_deeds.specs.raft_node.Net.{Net, NodeView}
use Rattle.proof_deeds.specs.raft_node.Runs.{whole_logs}
use Rattle.proof_deeds.specs.raft_node.Work.{weight, worked}
use Rattle.proof_progress.specs.Elections.{Listed}
use Rattle.proof_progress.specs.Exchanges.{IsLeft, LeadsAt, led}
use Rattle.proof_deeds.proofs.raft_steps_proofs.LawsQueue.{append_none}
use Rattle.proof_progress.proofs.Campaigns.{at_id, message_last}
use Rattle.proof_progress.proofs.LedQueue.{IsLedCommand, LedQueues, SendsLast, Tells, before_sent, sends_last, tells_before}
use Rattle.proof_progress.proofs.Places.{Changed, changes}
use Rattle.proof_progress.proofs.Plays.{node_after, plays, work_begins}
use Rattle.proof_progress.proofs.Works.{Effected, at_work, queueing}
use Rattle.proof_progress.proofs.WorksOff.{all_streams_stay, bag_grows, each_feeds, exec_both, exec_each, led_feeds, left_by_all, message_stays, request_sent, tells_sent, works_off}
use Rattle.proof_deeds.proofs.raft_state_proofs.LogLists.{each_append}

module _ (e : EngineView) (l : WorldLeader) (target : ℕ) (id : RequestId) (result : Result (ReplicationResult ℕ) (Unit {0})) where
  -- the engine's leader after it has handled the reply
  abbrev pub progress_of : WorldLed
  progress_of = update_progress nat_cmp e.config {T = Unit {0}} target id result (led_of l e.machine.core.state e.machine.core.output)

  abbrev pub progress_engine : EngineView
  progress_engine = with_machine e (leading e.machine progress_of)

  pub progressed_is : e.machine.leader ≡ Some l → refusals_of_progress nat_cmp e.config {T = Unit {0}} target id result (led_of l e.machine.core.state e.machine.core.output) ≡ None
      → ◌≡◌ {A = Option ℕ × EngineView} (progressed target id result e) (None, progress_engine)
  progressed_is leads unrefused = go e.machine.leader leads
    where
      of : (r : Option (EngineError ℕ (Unit {0}))) → r ≡ None → ◌≡◌ {A = Option ℕ × EngineView} (call_answered r e progress_engine) (None, progress_engine)
      of None q = refl
      of (Some x) q = cc

      go : (o : Option WorldLeader) → o ≡ Some l
          → ◌≡◌ {A = Option ℕ × EngineView}
          (elim o as (λ _. Option ℕ × EngineView) [
            | None ↦ (Some (unled_number e), e)
            | Some k ↦
                let led = led_of k e.machine.core.state e.machine.core.output in
                call_answered (refusals_of_progress nat_cmp e.config {T = Unit {0}} target id result led) e (with_machine e (leading e.machine (update_progress nat_cmp e.config {T = Unit {0}} target id result led)))
          ])
          (None, progress_engine)
      go None q = cc
      go (Some k) q =
          let z : l ≡ k = cc in
          subst
          (λ (k : WorldLeader). let led = led_of k e.machine.core.state e.machine.core.output in ◌≡◌ {A = Option ℕ × EngineView} (call_answered (refusals_of_progress nat_cmp e.config {T = Unit {0}} target id result led) e (with_machine e (leading e.machine (update_progress nat_cmp e.config {T = Unit {0}} target id result led)))) (None, progress_engine)) z
          (of (refusals_of_progress nat_cmp e.config {T = Unit {0}} target id result (led_of l e.machine.core.state e.machine.core.output)) unrefused)

-- The event

module _ (given : Given) (net : Net (List Entry)) (now n : ℕ) (h : LeadsAt net now n) (rest : h.engine.machine.core.output.items ≡ []) (target : ℕ) (id : RequestId) (result : Result (ReplicationResult ℕ) (Unit {0})) where
  -- what it has taken, and what it sends after that
  abbrev pub taken : WorldLed
  taken = purge_unless_inflight nat_cmp (take_reply nat_cmp h.engine.config {T = Unit {0}} target id result (led h))

  abbrev pub after : WorldLed
  after = send_next nat_cmp h.engine.config target taken

  pub queues : LedQueues 2 (led h).core taken.core
  queues = before_sent nat_cmp h.engine.config {T = Unit {0}} target id result (led h)

  abbrev pub before : List WorldCommand
  before = queues.added

  -- the engine, with other items queued
  abbrev pub handling : List WorldCommand → EngineView
  handling cs = queueing (with_machine h.engine (leading h.engine.machine after)) cs

  is_handling : progress_engine h.engine h.leader target id result ≡ handling after.core.output.items
  unfolding update_progress
  is_handling = refl

  module _ (was : ProgressEntry ℕ) (has : get nat_cmp taken.leader.progress target ≡ Some was) (free : was.inflight ≡ inflight.None) where
    last_sends : SendsLast nat_cmp h.engine.config target taken after was
    last_sends = sends_last nat_cmp h.engine.config target taken was has

    abbrev pub next : ProgressEntry ℕ
    next = sent was (next_send taken.core.state h.engine.config.max_payload_entries was)

    -- what it queues in all
    pub record All : Type 0 where
      pub items : List WorldCommand
      pub is : after.core.output.items ≡ items
      pub each : AllByRecursion IsLedCommand items
      pub asks : (next.inflight ≡ inflight.None) ⊎ (items ≡ before ++ Replicate target next.inflight ∷ [])
      pub more : List WorldCommand
      pub begins : items ≡ before ++ more

    pub all : All
    all = go last_sends.sends
      where
        begins : taken.core.output.items ≡ queues.added
        begins = queues.behind ∙ ap (λ (xs : List WorldCommand). xs ++ queues.added) rest

        go : (((next).inflight ≡ was.inflight) × (after.core.output.items ≡ taken.core.output.items)) ⊎ (after.core.output.items ≡ taken.core.output.items ++ Replicate target next.inflight ∷ []) → All
        go (inl p) = record { items = queues.added; is = p.1 ∙ begins; each = queues.each; asks = inl (p.0 ∙ free); more = []; begins = append_none queues.added }
        go (inr q) = record {
          items = queues.added ++ Replicate target next.inflight ∷ [];
          is = q ∙ ap (λ (xs : List WorldCommand). xs ++ Replicate target next.inflight ∷ []) begins;
          each = each_append IsLedCommand queues.added (Replicate target next.inflight ∷ []) queues.each (tt, tt);
          asks = inr refl;
          more = Replicate target next.inflight ∷ [];
          begins = refl;
        }

    -- what stays
    pub state_then : after.core.state ≡ taken.core.state
    state_then = last_sends.state

    pub em_then : after.core.state.em ≡ h.engine.machine.core.state.em
    em_then = ap (λ s. s.em) last_sends.state ∙ queues.em

    pub spent_then : after.core.output.spent ≡ false
    spent_then = last_sends.spent ∙ (queues.spent ∙ h.unspent)

    pub seq_then : after.core.output.seq ≤ h.engine.machine.core.output.seq + 2
    seq_then = few taken.core.output.seq after.core.output.seq (h.engine.machine.core.output.seq + 2) last_sends.seq queues.seq
      where
        few : (x y b : ℕ) → y ≡ x → x ≤ b → y ≤ b
        few x y b q l = omega (arith, q, l)

    module _ (act : Act) (event : Event) (f : ℕ → EngineView → Option ℕ × EngineView) (call : (m : NodeView) → calls_at given act m ≡ on_engine (f m.moment) m) (silent : (m : NodeView) → answer_at act m ≡ None)
        (kind : ◌≡◌ {A = Option Aim} (aim_of net.records.bag event.kind) (Some (record { id = n; act = act }))) (unskipped : skip_reason act h.node ≡ None) (at : moment_of event h.node ≡ now) (on : event.stop ≡ None)
        (makes : ◌≡◌ {A = Option ℕ × EngineView} (f now h.engine) (progressed target id result h.engine)) (unrefused : refusals_of_progress nat_cmp h.engine.config {T = Unit {0}} target id result (led h) ≡ None) where
      abbrev pub turn : Turn
      turn = turn_of act (record h.node { moment = now })

      abbrev pub done : Effected
      done = exec_each turn (handling []) all.items (work_begins h.node net.records)

      abbrev pub node : NodeView
      node = node_after h.node now (handling []) done

      works : worked whole_logs (weight (at_work (handling all.items) (work_begins h.node net.records))) turn (at_work (handling all.items) (work_begins h.node net.records)) ≡ at_work (handling []) done
      works = works_off turn (handling []) all.items (work_begins h.node net.records) (each_feeds IsLedCommand now (handling []) (led_feeds now (handling [])) all.items all.each)

      pub acted : Changed net (happens whole_logs weight given event net).1 n node done.records
      acted =
          changes given net event n act h.node _ (record { node = node; records = done.records }) h.at kind
          (plays given act event f h.node net.records now h.engine (handling all.items) (handling []) done call silent h.runs unskipped at on
          (makes ∙ progressed_is h.engine h.leader target id result h.leads unrefused ∙ ap (λ (f : EngineView). let x : Option ℕ × EngineView = (None, f) in x) (is_handling ∙ ap handling all.is)) works)
          (at_id net.nodes n h.node h.at)

      pub streams_then : node.streams.session_id ≡ Some h.session
      streams_then = ap (λ s. s.session_id) (all_streams_stay turn (handling []) all.items all.each (work_begins h.node net.records)) ∙ h.streams

      pub all_streams_then : node.streams ≡ h.node.streams
      all_streams_then = all_streams_stay turn (handling []) all.items all.each (work_begins h.node net.records)

      pub left_then : IsLeft h.node.store node.store
      left_then = left_by_all turn (handling []) all.items all.each (work_begins h.node net.records)

      -- messages stay on their way
      pub bag_then : (k : ℕ) (m : Message) → message_at net.records.bag k ≡ Some m → message_at done.records.bag k ≡ Some m
      bag_then k m q =
          let g = bag_grows turn (handling []) all.items (work_begins h.node net.records) in
          ap (λ (b : List Message). message_at b k) g.1 ∙ message_stays net.records.bag g.0 k m q

      -- what it comes to know as committed is told
      pub tells_then : (after.core.state.committed ≡ h.engine.machine.core.state.committed)
          ⊎ ((u : ℕ) → Listed h.node.streams.targets u → (j : ℕ) × (message_at done.records.bag j ≡ Some (record { from = h.node.id; to = u; body = heartbeat turn h.session after.core.state.committed })))
      tells_then = go queues.tells
        where
          same : after.core.state.committed ≡ taken.core.state.committed
          same = ap (λ s. s.committed) state_then

          go : (taken.core.state.committed ≡ h.engine.machine.core.state.committed) ⊎ Tells queues.added taken.core.state.committed
              → (after.core.state.committed ≡ h.engine.machine.core.state.committed)
              ⊎ ((u : ℕ) → Listed h.node.streams.targets u → (j : ℕ) × (message_at done.records.bag j ≡ Some (record { from = h.node.id; to = u; body = heartbeat turn h.session after.core.state.committed })))
          go (inl p) = inl (same ∙ p)
          go (inr k) =
              inr (λ u l. tells_sent turn (handling []) all.items all.each (work_begins h.node net.records) h.session h.streams after.core.state.committed
              (subst (λ (cs : List WorldCommand). Tells cs after.core.state.committed) (sym all.begins) (tells_before before all.more after.core.state.committed (subst (Tells before) (sym same) k))) u l)

      -- its request for what is in flight then is the last message
      next_sent : (items : List WorldCommand) → all.items ≡ items → (next.inflight ≡ inflight.None) ⊎ (items ≡ before ++ Replicate target next.inflight ∷ [])
          → (next.inflight ≡ inflight.None) ⊎ ((k : ℕ) × (message_at done.records.bag k ≡ Some (record { from = h.node.id; to = target; body = replication turn h.session done.store next.inflight })))
      next_sent items q (inl z) = inl z
      next_sent items q (inr z) =
          let xs : Effected = exec_each turn (handling []) before (work_begins h.node net.records) in
          let s : xs.streams.session_id ≡ Some h.session = ap (λ s. s.session_id) (all_streams_stay turn (handling []) before queues.each (work_begins h.node net.records)) ∙ h.streams in
          let is : done ≡ sending (record { from = h.node.id; to = target; body = replication turn h.session xs.store next.inflight } ∷ []) xs =
          ap (λ (cs : List WorldCommand). exec_each turn (handling []) cs (work_begins h.node net.records)) (q ∙ z)
          ∙ (exec_both turn (handling []) before (Replicate target next.inflight ∷ []) (work_begins h.node net.records) ∙ request_sent turn (handling []) target next.inflight h.session xs s) in
          inr (
            length xs.records.bag + 1,
            subst (λ (E : Effected). message_at E.records.bag (length xs.records.bag + 1) ≡ Some (record { from = h.node.id; to = target; body = replication turn h.session E.store next.inflight })) (sym is)
                (message_last xs.records.bag (record { from = h.node.id; to = target; body = replication turn h.session xs.store next.inflight }) []),
          )

      pub sent_then : (next.inflight ≡ inflight.None) ⊎ ((k : ℕ) × (message_at done.records.bag k ≡ Some (record { from = h.node.id; to = target; body = replication turn h.session done.store next.inflight })))
      sent_then = next_sent all.items refl all.asks
