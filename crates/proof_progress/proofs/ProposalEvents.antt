-- A leader proposes values at an event: its log has them, it acknowledges its own log, and each other node is sent them.
use Rattle.std.proofs.Common.{ℕ, suc, ◌+◌, ◌-◌, ◌<◌, ◌≤◌, ◌≡◌, ◌≢◌, ◌⊎◌, inl, inr, Bool, true, false, not, List, [], ◌∷◌, ◌++◌, length, map, arith, refl, sym, ap, ◌∙◌, subst, Option, None, Some}
use Rattle.std.specs.Prelude.{◌&&◌, flat_map, if◌then◌else◌, nat_eq, nat_lt}
use Rattle.std.specs.List.{AllByRecursion}
use Rattle.std.specs.Option.{option_or}
use Rattle.std.specs.Ordering.{is_eq, is_lt, nat_cmp}
use Rattle.std.proofs.lemmas.Bool.Decides.{nat_tests}
use Rattle.std.proofs.lemmas.Cmp.{nat_cmp_total}
use Rattle.proof_deeds.specs.raft_state.declared.ids.LogId.{LogId}
use Rattle.proof_deeds.specs.raft_state.declared.ids.Vote.{Vote}
use Rattle.proof_deeds.specs.raft_state.declared.membership.StoredMembership.{StoredMembership}
use Rattle.proof_deeds.specs.raft_state.Fits.{is_within}
use Rattle.proof_deeds.specs.raft_state.Log.{last}
use Rattle.proof_deeds.specs.raft_state.Order.{last_id_cmp, next, vote_cmp}
use Rattle.proof_deeds.specs.raft_state.Same.{nat_same}
use Rattle.proof_deeds.specs.raft_state.State.{extend}
use Rattle.proof_deeds.proofs.raft_state_proofs.Orders.{lt_is_le, within_of}
use Rattle.proof_deeds.proofs.raft_state_proofs.StateLaws.{fits_append}
use Rattle.proof_deeds.specs.raft_progress_entry.declared.entry.ProgressEntry.{ProgressEntry}
use Rattle.proof_deeds.specs.raft_progress_entry.Entry.{next_send, sent}
use Rattle.proof_deeds.specs.raft_error.declared.error.EngineError.{EngineError}
use Rattle.proof_deeds.specs.raft_error.declared.error.EngineError.TheVariants.{CounterEnd, IndexEnd, OutsideInflight, Spent}
use Rattle.proof_deeds.specs.raft_error.Number.{first_refusal}
use Rattle.proof_deeds.specs.raft_progress.Table.{get}
use Rattle.proof_deeds.specs.raft_command.Queue.{Queue}
use Rattle.proof_deeds.specs.raft_command.declared.command.Command.TheVariants.{AppendInputEntries}
use Rattle.proof_deeds.specs.raft_command.declared.config.EngineConfig.{EngineConfig}
use Rattle.proof_deeds.specs.raft_command.declared.replication.ReplicationSessionId.{ReplicationSessionId}
use Rattle.proof_deeds.specs.raft_proposer.Joint.{u64_max}
use Rattle.proof_deeds.specs.raft_proposer.Leader.{assigned, last_assigned}
use Rattle.proof_deeds.specs.raft_steps.Invariants.{EntryFits, IsSoundLed}
use Rattle.proof_deeds.specs.raft_steps.LeaderHandler.{leader_append_entries, proposed as proposed_by}
use Rattle.proof_deeds.specs.raft_steps.Parts.{leading, led_of}
use Rattle.proof_deeds.specs.raft_steps.Refusals.{is_counter_end_among, is_outside, refusals_of_local_progress, refusals_of_propose}
use Rattle.proof_deeds.specs.raft_steps.ReplicationHandler.{initiate_replication, sends_of, sent_row, update_local_progress}
use Rattle.proof_deeds.specs.raft_store.declared.entry.Entry.{Entry}
use Rattle.proof_deeds.specs.raft_store.declared.entry.Value.{Value}
use Rattle.proof_deeds.specs.raft_store.Entries.{entry_meaning}
use Rattle.proof_deeds.specs.raft_store.Types.{EngineView, WorldCommand, WorldLeader}
use Rattle.proof_deeds.specs.raft_schedule.declared.event.Event.{Event}
use Rattle.proof_deeds.specs.raft_schedule.declared.event.SkipReason.{SkipReason}
use Rattle.proof_deeds.specs.raft_schedule.declared.event.SkipReason.TheVariants.{NotOwnVote, NotRunning}
use Rattle.proof_deeds.specs.raft_node.declared.act.Act.TheVariants.{Propose}
use Rattle.proof_deeds.specs.raft_node.declared.given.Given.{Given}
use Rattle.proof_deeds.specs.raft_node.declared.node.Turn.{Turn}
use Rattle.proof_deeds.specs.raft_calls.Deliveries.{answered as call_answered, unled_number, with_machine}
use Rattle.proof_deeds.specs.raft_calls.Feeds.{WorldLed, called, feed, hold_own, last_sent}
use Rattle.proof_deeds.specs.raft_calls.LeaderCalls.{proposed, skip_propose, value_entry}
use Rattle.proof_deeds.specs.raft_node.Events.{happens, message_at, skip_reason, turn_of}
use Rattle.proof_deeds.specs.raft_node.Execute.{exec, heartbeat, origin}
use Rattle.proof_deeds.specs.raft_calls.declared.message.Message.{Message}
use Rattle.proof_deeds.specs.raft_command.declared.replication.RequestId.TheVariants as request
use Rattle.proof_deeds.specs.raft_node.Net.{Net, NodeView, Records}
use Rattle.proof_deeds.specs.raft_node.Runs.{whole_logs, world_after}
use Rattle.proof_deeds.specs.raft_node.WellFormed.{IsWellFormed}
use Rattle.proof_deeds.specs.raft_node.Work.{Work, weight, work_step, worked}
use Rattle.proof_deeds.proofs.raft_node_proofs.Worked.{worked-step}
use Rattle.proof_deeds.proofs.Drains.{takes}
use Rattle.proof_progress.specs.CatchUps.{CanServe, log_len}
use Rattle.proof_progress.specs.Commits.{IsBehind, ProposedAfter, WorldsPropose}
use Rattle.proof_progress.specs.Continuations.{At, propose}
use Rattle.proof_progress.specs.Elections.{Listed}
use Rattle.proof_progress.specs.Exchanges.{HasNumbers, IsTold, LeadsAt, led}
use Rattle.proof_progress.specs.Proposals.{Proposes, id_past}
use Rattle.proof_progress.proofs.Accepted.{sent_search}
use Rattle.proof_progress.proofs.Appending.{all_led, last_numbered, local_leader, local_left, local_queues, local_state, mapped_get, sent_busy, sent_left}
use Rattle.proof_progress.proofs.Campaigns.{at_id}
use Rattle.proof_progress.proofs.CanElect.{goes_after}
use Rattle.proof_progress.proofs.Elects.{if_true}
use Rattle.proof_progress.proofs.KeptVotes.{WorldState}
use Rattle.proof_progress.proofs.Leading.{local_vote}
use Rattle.proof_progress.proofs.LeadersKnow.{follows, knows, session_is, sound_led}
use Rattle.proof_progress.proofs.LedQueue.{IsLedCommand, LedQueues, Tells, tells_behind}
use Rattle.proof_progress.proofs.Numbers.{Left, drawn, far_off, fewer, near, neither_near, rows_far}
use Rattle.proof_progress.proofs.Places.{Changed, changes}
use Rattle.proof_progress.proofs.Plays.{latest, node_after, plays, work_begins}
use Rattle.proof_progress.proofs.Proposed.{Kept, begun_end, begun_is as begun_steps, begun_kept, begun_sound, differs}
use Rattle.proof_progress.proofs.Rounds.{fits_of, sent_matching}
use Rattle.proof_progress.proofs.Values.{holds_given, holds_left}
use Rattle.proof_progress.proofs.Works.{Effected, at_work, queueing, vote_itself}
use Rattle.proof_progress.proofs.WorksOff.{all_streams_stay, bag_grows, each_feeds, exec_each, led_feeds, left_by_all, message_stays, tells_sent, works_off}
use Rattle.proof_deeds.proofs.raft_state_proofs.LogLists.{each_append}

-- entries with values, as many as there are, without memberships
pub same_length : (xs : List Value) → length (map value_entry xs) ≡ length xs
same_length [] = refl
same_length (x ∷ xs) = ap (λ i. suc i) (same_length xs)

pub plain : (xs : List Value) → AllByRecursion (λ (x : Entry). entry_meaning.membership_of x ≡ None) (map value_entry xs)
plain [] = tt
plain (x ∷ xs) = (refl, plain xs)

module _ (given : Given) (wf : IsWellFormed given) (past : List Event) (now n k : ℕ) (l : LeadsAt (world_after given past) now n) (v : Value) (vs : List Value) (keeps : CanServe l) (numbers : HasNumbers (k + 2) l.engine.machine)
    (room : log_len l + length (v ∷ vs) ≤ u64_max) where
  abbrev net : Net (List Entry)
  net = world_after given past

  abbrev config : EngineConfig ℕ
  config = l.engine.config

  abbrev es : List Entry
  es = map value_entry vs

  abbrev given_ids : List Entry
  given_ids = assigned entry_meaning l.leader (value_entry v ∷ map value_entry vs)

  sound : IsSoundLed nat_cmp l.engine.config (led l)
  sound = sound_led given wf past now n l

  rest : l.engine.machine.core.output.items ≡ []
  rest = (follows given wf past now n l).queue

  own_vote : is_eq (vote_cmp nat_cmp l.leader.vote l.engine.machine.core.state.vote) ≡ true
  own_vote = ap (λ (w : Vote ℕ). is_eq (vote_cmp nat_cmp l.leader.vote w)) (sym (knows given wf past now n l).vote) ∙ ap is_eq (vote_itself l.leader.vote)

  -- it isn't refused
  far_led : is_counter_end_among (led l).core l.leader.progress.rows ≡ false
  far_led = go l.engine.machine.leader l.leads (far_off (k + 2) l.engine.machine numbers)
    where
      go : (p : Option WorldLeader) → p ≡ Some l.leader → is_counter_end_among l.engine.machine.core (elim p [ None ↦ [] | Some k ↦ k.progress.rows ]) ≡ false → is_counter_end_among (led l).core l.leader.progress.rows ≡ false
      go None q h = cc
      go (Some k) q h = let z : k ≡ l.leader = cc in subst (λ (k : WorldLeader). is_counter_end_among l.engine.machine.core k.progress.rows ≡ false) z h

  unrefused : refusals_of_propose (length (value_entry v ∷ map value_entry vs)) (led l) ≡ None
  unrefused = tests l.engine.machine.core.output.spent (is_counter_end_among (led l).core l.leader.progress.rows) (nat_lt u64_max (next l.leader.last_log_id + length (value_entry v ∷ map value_entry vs))) l.unspent far_led
      (fits u64_max (next l.leader.last_log_id) (length (value_entry v ∷ map value_entry vs)) (log_len l) (length (v ∷ vs)) (ap next sound.leader_fits.last_id) (same_length (v ∷ vs)) room)
    where
      tests : (a b c : Bool) → a ≡ false → b ≡ false → c ≡ false → ◌≡◌ {A = Option (EngineError ℕ (Unit {0}))} (option_or (first_refusal ((a, Spent) ∷ (b, CounterEnd) ∷ [])) (first_refusal ((c, IndexEnd) ∷ []))) None
      tests a b c p q r = rw (p, q, r) refl

      fits : (m a i b j : ℕ) → a ≡ b → i ≡ j → b + j ≤ m → nat_lt m (a + i) ≡ false
      fits m a i b j p q h = near m (a + i) 0 (omega (arith, p, q, h))

  -- the state, the leader, and the queue
  abbrev s1 : WorldState
  s1 = extend l.engine.machine.core.state (map (λ (x : Entry). x.log_id) given_ids)

  abbrev g1 : WorldLeader
  g1 = record l.leader {
    last_log_id = last_assigned l.leader (value_entry v ∷ map value_entry vs);
    progress = record l.leader.progress { rows = map (sent_row nat_cmp config s1) l.leader.progress.rows };
  }

  abbrev sends : List WorldCommand
  sends = flat_map (sends_of nat_cmp config false s1) l.leader.progress.rows

  abbrev first : WorldCommand
  first = AppendInputEntries l.leader.vote given_ids

  abbrev queue_with : List WorldCommand → Queue WorldCommand
  queue_with cs = record l.engine.machine.core.output { items = cs }

  begun_is : leader_append_entries nat_cmp entry_meaning config (value_entry v ∷ map value_entry vs) (led l) ≡ led_of g1 s1 (queue_with (first ∷ sends))
  unfolding initiate_replication proposed_by
  begun_is =
      begun_steps nat_cmp nat_cmp_total nat_same entry_meaning takes config keeps.payload (value_entry v) (map value_entry vs) (led l) sound (plain (v ∷ vs))
      ∙ ap (λ (xs : List WorldCommand). led_of g1 s1 (queue_with ((xs ++ first ∷ []) ++ sends))) rest

  abbrev x : LogId ℕ
  x = id_past (length (map value_entry vs)) (led l)

  abbrev led1 : WorldLed
  led1 = led_of g1 s1 (queue_with sends)

  abbrev led2 : WorldLed
  led2 = update_local_progress nat_cmp config (Some x) led1

  local : LedQueues 2 led1.core led2.core
  local = local_queues config (Some x) led1

  -- the engine after the call, with other items queued
  abbrev called_engine : List WorldCommand → EngineView
  called_engine cs = queueing (with_machine l.engine (leading l.engine.machine (led_of g1 s1 l.engine.machine.core.output))) cs

  abbrev held_engine : EngineView
  held_engine = with_machine (called_engine sends) (leading (called_engine sends).machine led2)

  makes : ◌≡◌ {A = Option ℕ × EngineView} (proposed (v ∷ vs) l.engine) (None, called_engine (first ∷ sends))
  makes = go l.engine.machine.leader l.leads ∙ ap (λ (m : WorldLed). let r : Option ℕ × EngineView = (None, with_machine l.engine (leading l.engine.machine m)) in r) begun_is
    where
      after : WorldLed → EngineView
      after m = with_machine l.engine (leading l.engine.machine (leader_append_entries nat_cmp entry_meaning config (value_entry v ∷ map value_entry vs) m))

      of : (r : Option (EngineError ℕ (Unit {0}))) → r ≡ None → ◌≡◌ {A = Option ℕ × EngineView} (call_answered r l.engine (after (led l))) (None, after (led l))
      of None q = refl
      of (Some e) q = cc

      go : (o : Option WorldLeader) → o ≡ Some l.leader
          → ◌≡◌ {A = Option ℕ × EngineView}
          (elim o as (λ _. Option ℕ × EngineView) [
            | None ↦ (Some (unled_number l.engine), l.engine)
            | Some g ↦
                let m = led_of g l.engine.machine.core.state l.engine.machine.core.output in
                call_answered (refusals_of_propose (length (value_entry v ∷ map value_entry vs)) m) l.engine (after m)
          ])
          (None, after (led l))
      go None q = cc
      go (Some g) q =
          let z : l.leader ≡ g = cc in
          subst
          (λ (g : WorldLeader). let m = led_of g l.engine.machine.core.state l.engine.machine.core.output in ◌≡◌ {A = Option ℕ × EngineView} (call_answered (refusals_of_propose (length (value_entry v ∷ map value_entry vs)) m) l.engine (after m)) (None, after (led l))) z
          (of (refusals_of_propose (length (value_entry v ∷ map value_entry vs)) (led l)) unrefused)

  -- the id of the last entry
  last_is : last_sent None given_ids ≡ Some x
  last_is =
      last_numbered l.leader.vote.leader_id (next l.leader.last_log_id) None (value_entry v) (map value_entry vs)
      ∙ ap (λ i. let o : Option (LogId ℕ) = Some (record { leader_id = l.leader.vote.leader_id; index = i + length (map value_entry vs) }) in o) (ap next sound.leader_fits.last_id)

  end_is : last s1.ids ≡ Some x
  end_is = ap (λ (m : WorldLed). last m.core.state.ids) (sym begun_is) ∙ begun_end nat_cmp nat_cmp_total nat_same entry_meaning takes config keeps.payload (value_entry v) (map value_entry vs) (led l) sound (plain (v ∷ vs))

  -- what it acknowledges isn't refused
  led_numbers : Left (u64_max - 8) (k + 2) l.leader.progress.rows
  led_numbers = of l.engine.machine.leader l.leads numbers.1
    where
      of : (o : Option WorldLeader) → o ≡ Some l.leader → Left (u64_max - 8) (k + 2) (elim o [ None ↦ [] | Some l ↦ l.progress.rows ]) → Left (u64_max - 8) (k + 2) l.leader.progress.rows
      of None e a = cc
      of (Some y) e a = let z : y ≡ l.leader = cc in subst (λ (y : WorldLeader). Left (u64_max - 8) (k + 2) y.progress.rows) z a

  sent_numbers : Left (u64_max - 8) (k + 1) g1.progress.rows
  sent_numbers = sent_left config s1 (u64_max - 8) (k + 1) l.leader.progress.rows (subst (λ j. Left (u64_max - 8) j l.leader.progress.rows) (two k) led_numbers)
    where
      two : (k : ℕ) → k + 2 ≡ (k + 1) + 1
      two k = omega arith

  sound1 : IsSoundLed nat_cmp config (led_of g1 s1 (queue_with (first ∷ sends)))
  sound1 =
      subst (λ (m : WorldLed). IsSoundLed nat_cmp config m) begun_is
      (begun_sound nat_cmp nat_cmp_total nat_same entry_meaning takes config keeps.payload (value_entry v) (map value_entry vs) (led l) sound (plain (v ∷ vs)) done_led proposes_done)
    where
      done_led : WorldLed
      done_led = update_local_progress nat_cmp config (Some x) (leader_append_entries nat_cmp entry_meaning config (value_entry v ∷ map value_entry vs) (led l))

      proposes_done : Proposes nat_cmp entry_meaning config (value_entry v) (map value_entry vs) (led l) done_led
      proposes_done = record { plain = plain (v ∷ vs); own_vote = own_vote; unrefused = unrefused; leader = refl; state = refl }

  acknowledged : refusals_of_local_progress nat_cmp config (Some x) led1 ≡ None
  acknowledged =
      tests l.engine.machine.core.output.spent (is_counter_end_among led1.core g1.progress.rows) (is_outside nat_cmp (Some x) (get nat_cmp g1.progress config.id)) l.unspent
      (neither_near _ _ (near (u64_max - 8) l.engine.machine.core.output.seq (k + 2) numbers.0) (rows_far (u64_max - 8) (k + 1) g1.progress.rows sent_numbers)) (inside (get nat_cmp g1.progress config.id) refl)
    where
      tests : (a b c : Bool) → a ≡ false → b ≡ false → c ≡ false → ◌≡◌ {A = Option (EngineError ℕ (Unit {0}))} (option_or (first_refusal ((a, Spent) ∷ (b, CounterEnd) ∷ [])) (first_refusal ((c, OutsideInflight) ∷ []))) None
      tests a b c p q r = rw (p, q, r) refl

      both : (a b : Bool) → (a ≡ true → b ≡ true) → (a && not b) ≡ false
      both true b f = rw (f refl) refl
      both false b f = refl

      inside : (o : Option (ProgressEntry ℕ)) → get nat_cmp g1.progress config.id ≡ o → is_outside nat_cmp (Some x) o ≡ false
      inside None q = refl
      inside (Some e) q =
          both (is_lt (last_id_cmp nat_cmp e.matching (Some x))) (is_within nat_cmp e.matching (Some x))
          (λ h. within_of nat_cmp nat_cmp_total e.matching (Some x) (lt_is_le _ h)
          (let f : EntryFits nat_cmp s1.ids s1.purged e = fits_of nat_cmp nat_cmp_total nat_same config config.id (led_of g1 s1 (queue_with (first ∷ sends))) sound1 e q in
          let z : next (last s1.ids) ≡ next (Some x) = ap next end_is in
          let a : next e.matching ≤ e.searching_end = f.above in
          let b : e.searching_end ≤ next (last s1.ids) = f.below in
          omega (arith, z, a, b)))

  fed : feed now first (called_engine sends) ≡ held_engine
  fed =
      if_true (is_eq (vote_cmp nat_cmp l.leader.vote l.leader.vote)) (hold_own (last_sent None given_ids) g1 (called_engine sends)) (called_engine sends) (ap is_eq (vote_itself l.leader.vote))
      ∙ (ap (λ (o : Option (LogId ℕ)). hold_own o g1 (called_engine sends)) last_is ∙ by (refusals_of_local_progress nat_cmp config (Some x) led1) acknowledged)
    where
      by : (r : Option (EngineError ℕ (Unit {0}))) → r ≡ None → called r (called_engine sends) (leading (called_engine sends).machine led2) ≡ held_engine
      by None q = refl
      by (Some e) q = cc

  -- the work
  abbrev turn : Turn
  turn = turn_of (Propose (v ∷ vs)) (record l.node { moment = now })

  abbrev stored : Effected
  stored = exec whole_logs turn (called_engine sends) first (work_begins l.node net.records)

  abbrev items : List WorldCommand
  items = sends ++ local.added

  each_led : AllByRecursion (λ (c : WorldCommand). IsLedCommand c) items
  each_led = each_append (λ (c : WorldCommand). IsLedCommand c) sends local.added (all_led config s1 l.leader.progress.rows) local.each

  abbrev done : Effected
  done = exec_each turn (queueing held_engine []) items stored

  abbrev Engine : EngineView
  Engine = queueing held_engine []

  abbrev node : NodeView
  node = node_after l.node now Engine done

  busy : (n : ℕ) → nat_eq (suc n) 0 ≡ false
  busy n = grind (arith, nat_tests)

  step : work_step whole_logs turn (at_work (called_engine (first ∷ sends)) (work_begins l.node net.records)) ≡ at_work (queueing held_engine items) stored
  step = ap (λ (f : EngineView). at_work f stored) (fed ∙ ap (λ (cs : List WorldCommand). queueing held_engine cs) local.behind)

  works : worked whole_logs (weight (at_work (called_engine (first ∷ sends)) (work_begins l.node net.records))) turn (at_work (called_engine (first ∷ sends)) (work_begins l.node net.records)) ≡ at_work Engine done
  works =
      sym (worked-step whole_logs turn (at_work (called_engine (first ∷ sends)) (work_begins l.node net.records)) (busy (length sends)))
      ∙ (ap (λ (w : Work (List Entry)). worked whole_logs (weight w) turn w) step
      ∙ works_off turn Engine items stored (each_feeds IsLedCommand now Engine (led_feeds now Engine) items each_led))

  unskipped : skip_reason (Propose (v ∷ vs)) l.node ≡ None
  unskipped = go l.node.engine l.runs
    where
      leading_one : (p : Option WorldLeader) → p ≡ Some l.leader → ◌≡◌ {A = Option SkipReason} (elim p [ None ↦ None | Some g ↦ (if is_eq (vote_cmp nat_cmp g.vote l.engine.machine.core.state.vote) then None else Some NotOwnVote) ]) None
      leading_one None q = cc
      leading_one (Some g) q =
          let z : l.leader ≡ g = cc in
          subst (λ (g : WorldLeader). ◌≡◌ {A = Option SkipReason} (if is_eq (vote_cmp nat_cmp g.vote l.engine.machine.core.state.vote) then None else Some NotOwnVote) None) z
          (if_true (is_eq (vote_cmp nat_cmp l.leader.vote l.engine.machine.core.state.vote)) None (Some NotOwnVote) own_vote)

      go : (p : Option EngineView) → p ≡ Some l.engine → ◌≡◌ {A = Option SkipReason} (elim p [ None ↦ Some NotRunning | Some e ↦ skip_propose e ]) None
      go None q = cc
      go (Some e) q = let z : l.engine ≡ e = cc in subst (λ e. ◌≡◌ {A = Option SkipReason} (skip_propose e) None) z (leading_one l.engine.machine.leader l.leads)

  abbrev event : Event
  event = propose n (v ∷ vs) now

  changed : Changed net (happens whole_logs weight given event net).1 n node done.records
  changed =
      changes given net event n (Propose (v ∷ vs)) l.node _ (record { node = node; records = done.records }) l.at refl
      (plays given (Propose (v ∷ vs)) event (λ i e. proposed (v ∷ vs) e) l.node net.records now l.engine (called_engine (first ∷ sends)) Engine done (λ m. refl) (λ m. refl) l.runs unskipped (latest now l.node.moment l.moment) refl makes works)
      (at_id net.nodes n l.node l.at)

  abbrev all : List Event
  all = past ++ event ∷ []

  world_is : world_after given all ≡ (happens whole_logs weight given event net).1
  world_is = goes_after given past (event ∷ [])

  leads : LeadsAt (world_after given all) now n
  leads = record {
    node = node;
    at = subst (λ (w : Net (List Entry)). At w.nodes n node) (sym world_is) changed.here;
    moment = omega arith;
    engine = Engine;
    runs = refl;
    leader = led2.leader;
    leads = refl;
    session = l.session;
    in_session =
        ap (λ (w : Vote ℕ). let z : Option (ReplicationSessionId ℕ) = Some (record { vote = w; membership_log_id = led2.core.state.em.log_id }) in z) (local_vote config (Some x) led1)
        ∙ (ap (λ (m : StoredMembership ℕ (Unit {0})). let z : Option (ReplicationSessionId ℕ) = Some (record { vote = l.leader.vote; membership_log_id = m.log_id }) in z) local.em
        ∙ ap (λ (q : ReplicationSessionId ℕ). let z : Option (ReplicationSessionId ℕ) = Some q in z) (sym (session_is given wf past now n l)));
    streams = ap (λ s. s.session_id) (all_streams_stay turn Engine items each_led stored) ∙ l.streams;
    unspent = local.spent ∙ l.unspent;
  }

  -- its leader and its state are those of the proposal
  leader_is : led2.leader ≡ (update_local_progress nat_cmp config (Some x) (leader_append_entries nat_cmp entry_meaning config (value_entry v ∷ map value_entry vs) (led l))).leader
  leader_is = local_leader config g1 s1 (queue_with sends) (queue_with (first ∷ sends)) (Some x) ∙ ap (λ (m : WorldLed). (update_local_progress nat_cmp config (Some x) m).leader) (sym begun_is)

  state_is : led2.core.state ≡ (update_local_progress nat_cmp config (Some x) (leader_append_entries nat_cmp entry_meaning config (value_entry v ∷ map value_entry vs) (led l))).core.state
  state_is = local_state config g1 s1 (queue_with sends) (queue_with (first ∷ sends)) (Some x) ∙ ap (λ (m : WorldLed). (update_local_progress nat_cmp config (Some x) m).core.state) (sym begun_is)

  proposes : Proposes nat_cmp entry_meaning config (value_entry v) (map value_entry vs) (led l) (led leads)
  unfolding leads
  proposes = record { plain = plain (v ∷ vs); own_vote = own_vote; unrefused = unrefused; leader = leader_is; state = state_is }

  -- each other node is sent what it lacks
  kept_own : Kept nat_cmp nat_cmp_total nat_same config config.id (led_of g1 s1 (queue_with (first ∷ sends))) (update_local_progress nat_cmp config (Some x) (led_of g1 s1 (queue_with (first ∷ sends))))
  kept_own =
      subst (λ (m : WorldLed). Kept nat_cmp nat_cmp_total nat_same config config.id m (update_local_progress nat_cmp config (Some x) m)) begun_is
      (begun_kept nat_cmp nat_cmp_total nat_same entry_meaning takes config keeps.payload (value_entry v) (map value_entry vs) (led l) sound (plain (v ∷ vs)) (led leads) proposes)

  own_id : config.id ≡ n
  own_id = (follows given wf past now n l).id ∙ at_id net.nodes n l.node l.at

  longer : next (last l.engine.machine.core.state.ids) < next (last s1.ids)
  longer = let z : next (last s1.ids) ≡ next (Some x) = ap next end_is in omega (arith, z)

  unpurged1 : next s1.purge_to < next (last s1.ids)
  unpurged1 = let z : next l.engine.machine.core.state.purge_to < next (last l.engine.machine.core.state.ids) = keeps.unpurged in let w : next (last l.engine.machine.core.state.ids) < next (last s1.ids) = longer in omega (arith, z, w)

  sends_each : (t : ℕ) (e : ProgressEntry ℕ) → t ≢ n → get nat_cmp l.leader.progress t ≡ Some e → (b : IsBehind leads t) × (b.asked.entry.searching_end ≡ e.searching_end)
  unfolding leads
  sends_each t e apart has = (one, sent_search e (next_send s1 config.max_payload_entries e))
    where
      row : get nat_cmp g1.progress t ≡ Some (sent e (next_send s1 config.max_payload_entries e))
      row = mapped_get config s1 t e (differs nat_cmp nat_same config.id t (λ i. apart (sym i ∙ own_id))) l.leader.progress.rows has

      old_fits : EntryFits nat_cmp l.engine.machine.core.state.ids l.engine.machine.core.state.purged e
      old_fits = fits_of nat_cmp nat_cmp_total nat_same config t (led l) sound e has

      short : next e.matching < next (last s1.ids)
      short =
          let a : next e.matching ≤ e.searching_end = old_fits.above in
          let b : e.searching_end ≤ next (last l.engine.machine.core.state.ids) = old_fits.below in
          let c : next (last l.engine.machine.core.state.ids) < next (last s1.ids) = longer in
          omega (arith, a, b, c)

      matches_less : next e.matching ≡ next (last s1.ids) → ⊥
      matches_less q = let h : next e.matching < next (last s1.ids) = short in omega (arith, q, h)

      fits_e : EntryFits nat_cmp s1.ids s1.purged e
      fits_e = record {
        matching = fits_append nat_cmp nat_cmp_total nat_same l.engine.machine.core.state.purged l.engine.machine.core.state.ids (map (λ (x : Entry). x.log_id) given_ids) e.matching old_fits.matching;
        above = old_fits.above;
        below = let b : e.searching_end ≤ next (last l.engine.machine.core.state.ids) = old_fits.below in let c : next (last l.engine.machine.core.state.ids) < next (last s1.ids) = longer in omega (arith, b, c);
        ahead = old_fits.ahead;
      }

      one : IsBehind leads t
      one = record {
        asked = record {
          entry = sent e (next_send s1 config.max_payload_entries e);
          has =
              ap (λ (g : WorldLeader). get nat_cmp g.progress t) (local_leader config g1 s1 (queue_with sends) (queue_with (first ∷ sends)) (Some x))
              ∙ (kept_own.touches.others t (differs nat_cmp nat_same t config.id (λ i. apart (i ∙ own_id))) ∙ row);
          busy = sent_busy config s1 sound1.sound keeps.payload unpurged1 e fits_e short;
        };
        behind = λ q. matches_less (ap next (sym (sent_matching e (next_send s1 config.max_payload_entries e)) ∙ (q ∙ (ap (λ (s : WorldState). last s.ids) (local_state config g1 s1 (queue_with sends) (queue_with (first ∷ sends)) (Some x)) ∙ kept_own.leaves.end))));
      }

  in_all : (j : ℕ) (m : Message) → message_at done.records.bag j ≡ Some m → message_at (world_after given all).records.bag j ≡ Some m
  in_all j m q = ap (λ (w : Net (List Entry)). message_at w.records.bag j) world_is ∙ (ap (λ (r : Records (List Entry)). message_at r.bag j) changed.records ∙ q)

  bag_on : (j : ℕ) (m : Message) → message_at net.records.bag j ≡ Some m → message_at (world_after given all).records.bag j ≡ Some m
  bag_on j m q =
      let g = bag_grows turn Engine items stored in
      in_all j m (ap (λ (b : List Message). message_at b j) g.1 ∙ message_stays net.records.bag g.0 j m q)

  told : (led2.core.state.committed ≡ l.engine.machine.core.state.committed) ⊎ Tells local.added led2.core.state.committed
      → (led2.core.state.committed ≡ l.engine.machine.core.state.committed) ⊎ ((u : ℕ) → Listed l.node.streams.targets u → IsTold (world_after given all) l.leader.vote n u led2.core.state.committed)
  told (inl p) = inl p
  told (inr h) =
      inr (λ u k. let m = tells_sent turn Engine items each_led stored l.session l.streams led2.core.state.committed (tells_behind sends local.added led2.core.state.committed h) u k in
      record {
        number = m.0;
        o = origin turn l.session request.HeartBeat;
        own = ap (λ s. s.vote) (session_is given wf past now n l);
        there =
            in_all m.0 (record { from = n; to = u; body = heartbeat turn l.session led2.core.state.committed })
            (m.1 ∙ ap (λ i. let z : Option Message = Some (record { from = i; to = u; body = heartbeat turn l.session led2.core.state.committed }) in z) (at_id net.nodes n l.node l.at));
      })

  pub proposed_after : ProposedAfter given past now n k l v vs all
  unfolding leads
  proposed_after = record {
    leads = leads;
    config = refl;
    numbers = (drawn l.engine.machine.core.output.seq led2.core.output.seq k 2 (u64_max - 8) numbers.0 local.seq, own_left);
    on = record { streams = all_streams_stay turn Engine items each_led stored; bag = bag_on; tells = told local.tells };
    proposes = proposes;
    stored =
        holds_left (log_len l) (v ∷ vs) (left_by_all turn Engine items each_led stored)
        (holds_given given wf past now n l l.leader.vote.leader_id (next l.leader.last_log_id) (v ∷ vs) (ap next sound.leader_fits.last_id));
    sends = sends_each;
    others = λ i I d a. subst (λ (w : Net (List Entry)). At w.nodes i I) (sym world_is) (changed.others i I d a);
  }
    where
      own_left : Left (u64_max - 8) k led2.leader.progress.rows
      own_left = local_left (u64_max - 8) config k (Some x) led1 (fewer (u64_max - 8) k 1 g1.progress.rows sent_numbers)

pub worlds_propose : WorldsPropose
worlds_propose given wf past now n k l v vs keeps numbers room = proposed_after given wf past now n k l v vs keeps numbers room
