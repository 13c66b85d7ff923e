-- What a world holds: such entries as its events bring.
use Rattle.std.proofs.Common.{ℕ, zero, suc, append-nil, append_assoc, ◌-◌, ◌≡◌, Bool, true, false, List, [], ◌∷◌, ◌++◌, length, map, take, refl, sym, ap, ◌∙◌, subst, Option, None, Some}
use Rattle.std.specs.Prelude.{Err, IfSome, nat_eq, slice_get, slice_set, if◌then◌else◌}
use Rattle.std.specs.List.{AllByRecursion}
use Rattle.std.specs.Option.{option_map}
use Rattle.proof_deeds.specs.raft_state.declared.ids.LogId.{LogId}
use Rattle.proof_deeds.specs.raft_command.declared.config.EngineConfig.{EngineConfig}
use Rattle.proof_deeds.specs.raft_proposer.Leader.{assigned}
use Rattle.proof_deeds.specs.raft_steps.Engine.{default_log_id}
use Rattle.proof_deeds.specs.raft_steps.Parts.{led_of}
use Rattle.proof_deeds.specs.raft_steps.Refusals.{refusals_of_propose}
use Rattle.proof_deeds.specs.raft_store.declared.entry.Entry.{Entry}
use Rattle.proof_deeds.specs.raft_store.declared.entry.Payload.TheVariants.{Blank}
use Rattle.proof_deeds.specs.raft_store.Entries.{entry_meaning}
use Rattle.proof_deeds.specs.raft_store.Restart.{forgotten}
use Rattle.proof_deeds.specs.raft_store.Types.{EngineView, WorldLeader}
use Rattle.proof_deeds.specs.raft_schedule.declared.event.Event.{Event}
use Rattle.proof_deeds.specs.raft_schedule.declared.event.EventKind.{EventKind}
use Rattle.proof_deeds.specs.raft_schedule.declared.event.EventKind.TheVariants as kinds
use Rattle.proof_deeds.specs.raft_schedule.declared.event.Outcome.{Outcome}
use Rattle.proof_deeds.specs.raft_schedule.declared.event.Outcome.TheVariants.{Skipped}
use Rattle.proof_deeds.specs.raft_schedule.declared.event.SkipReason.{SkipReason}
use Rattle.proof_deeds.specs.raft_schedule.declared.event.SkipReason.TheVariants.{NoMessage, NotRunning}
use Rattle.proof_deeds.specs.raft_schedule.declared.event.Start.TheVariants.{Plain, Saved, Bare}
use Rattle.proof_deeds.specs.raft_node.declared.act.Act.{Act}
use Rattle.proof_deeds.specs.raft_node.declared.act.Act.TheVariants.{ChangeLearners, ChangeMembership, Elect, Fail, FinishSnapshot, Initialize, Propose, Read, Restart, SendHeartbeat, StepDown, Stop, Take, TriggerPurge, TriggerSnapshot}
use Rattle.proof_deeds.specs.raft_node.declared.act.Aim.{Aim}
use Rattle.proof_deeds.specs.raft_node.declared.given.Given.{Given}
use Rattle.proof_deeds.specs.raft_calls.declared.elections.Candidates.TheVariants.{AllMembers, Voters}
use Rattle.proof_deeds.specs.raft_calls.declared.message.Message.{Message}
use Rattle.proof_deeds.specs.raft_node.declared.node.Turn.{Turn}
use Rattle.proof_deeds.specs.raft_node.Events.{Scene, aim_of, at_node, at_place, called_at, calls, calls_at, finish, happens, message_at, moment_of, on_engine, place_of, played, skip_reason, turn_of, work_of}
use Rattle.proof_deeds.specs.raft_calls.Elections.{first_entry}
use Rattle.proof_deeds.specs.raft_calls.LeaderCalls.{inflight_to, request_of, value_entry}
use Rattle.proof_deeds.specs.raft_calls.Memberships.{groups_in, members_with, membership_entry}
use Rattle.proof_deeds.specs.raft_node.Net.{Net, NodeView, new_node}
use Rattle.proof_deeds.specs.raft_node.Runs.{History, run, start, whole_logs, with_event, world_after}
use Rattle.proof_deeds.specs.raft_node.Snapshots.{finish_snapshot, kept_built}
use Rattle.proof_deeds.specs.raft_calls.Snapshots.{told_built}
use Rattle.proof_deeds.specs.raft_node.Starts.{unsaved}
use Rattle.proof_deeds.specs.raft_node.Work.{weight, worked}
use Rattle.proof_deeds.proofs.raft_node_proofs.Ready.{net_after, scene_after}
use Rattle.proof_clients.specs.Appends.{sent_in}
use Rattle.proof_clients.proofs.CallSources.{CleanAt, begun_good, built_good, delivered_good, elected_good, entries_good, heartbeats_good, initialized_good, progressed_good, purged_good, resumed_good, stepped_good, triggered_good}
use Rattle.proof_clients.proofs.Provenance.{BagGood, RecordsGood, StoreGood, WorkGood, kept_good, restarted_good, worked_good}
use Rattle.proof_clients.proofs.Sources.{AllQ}

abbrev second : Option ℕ × NodeView → NodeView
second r = r.1

-- an event more
pub run_one : (given : Given) (es : List Event) (e : Event) (x : History (List Entry)) → run whole_logs given (es ++ e ∷ []) x ≡ with_event whole_logs given (run whole_logs given es x) e
run_one given [] e x = refl
run_one given (d ∷ es) e x = run_one given es e (with_event whole_logs given x d)

module _ (Q : Entry → Type 0) where
  pub record NodeGood (n : NodeView) : Type 0 where
    pub store : StoreGood Q n.store
    pub noted : IfSome n.noted (AllQ Q)
    pub engine : IfSome n.engine (CleanAt Q)

  pub record SceneGood (s : Scene (List Entry)) : Type 0 where
    pub node : NodeGood s.node
    pub records : RecordsGood Q s.records

  pub record NetGood (net : Net (List Entry)) : Type 0 where
    pub nodes : AllByRecursion NodeGood net.nodes
    pub records : RecordsGood Q net.records

  -- what a leader makes of entries that are proposed
  abbrev pub Makes : NodeView → (EngineView → List Entry) → Type 0
  Makes n entries = (e : EngineView) (l : WorldLeader) → n.engine ≡ Some e → e.machine.leader ≡ Some l → refusals_of_propose (length (entries e)) (led_of l e.machine.core.state e.machine.core.output) ≡ None
      → AllQ Q (assigned entry_meaning l (entries e))

  -- what an act brings, once it isn't skipped
  abbrev pub CallGood : NodeView → Act → Type 0
  CallGood n (Take m) = AllQ Q (sent_in m.body)
  CallGood n (Propose values) = Makes n (λ e. map value_entry values)
  CallGood n (ChangeLearners learners) = Makes n (λ e. membership_entry (members_with (groups_in e) learners) ∷ [])
  CallGood n (ChangeMembership groups learners) = Makes n (λ e. membership_entry (members_with groups learners) ∷ [])
  CallGood n _ = Unit {0}

  abbrev pub ActGood : NodeView → Act → Type 0
  ActGood n act = skip_reason act n ≡ None → CallGood n act

  -- what a node is asked for
  abbrev Asks : Net (List Entry) → ℕ → Act → Type 0
  Asks net n act = (i : ℕ) (m : NodeView) → place_of net.nodes n ≡ Some i → slice_get net.nodes i ≡ Some m → ActGood m act

  -- what an event brings to a world, beside the first entry and what was sent
  abbrev pub Brings : Net (List Entry) → EventKind → Type 0
  Brings net (kinds.Propose n values) = Asks net n (Propose values)
  Brings net (kinds.Member n learners) = Asks net n (ChangeLearners learners)
  Brings net (kinds.Change n groups learners) = Asks net n (ChangeMembership groups learners)
  Brings net _ = Unit {0}

-- no-op entries, and the first one
module _ (Q : Entry → Type 0) (blank : (x : LogId ℕ) → Q (record { log_id = x; payload = Blank })) (given : Given) (first : Q (entry_meaning.with_id (first_entry given.membership) (default_log_id 0))) where
  on_engine_good : (f : EngineView → Option ℕ × EngineView) (n : NodeView) → ((e : EngineView) → n.engine ≡ Some e → CleanAt Q e → CleanAt Q (f e).1) → NodeGood Q n → NodeGood Q (on_engine f n).1
  on_engine_good f n k h = go n.engine refl h.engine
    where
      go : (o : Option EngineView) → n.engine ≡ o → IfSome o (CleanAt Q) → NodeGood Q (second (elim o as (λ _. Option ℕ × NodeView) [ None ↦ (None, n) | Some e ↦ (let r = f e in (r.0, record n { engine = Some r.1 })) ]))
      go None q g = h
      go (Some e) q g = record { store = h.store; noted = h.noted; engine = k e q g }

  finish_node_good : (n : NodeView) → NodeGood Q n → NodeGood Q (finish_snapshot n).1
  finish_node_good n h = go n.engine h.engine
    where
      kept : (e : EngineView) (es : List Entry) → AllQ Q es → CleanAt Q e → (r : Option ℕ × EngineView) → CleanAt Q r.1 → NodeGood Q (kept_built es n r).1
      kept e es q g (Some x, after) k = h
      kept e es q g (None, after) k = record { store = kept_good Q es n.store q h.store; noted = tt; engine = k }

      with_note : (e : EngineView) → CleanAt Q e → (o : Option (List Entry)) → IfSome o (AllQ Q) → NodeGood Q (second (elim o as (λ _. Option ℕ × NodeView) [ None ↦ (None, n) | Some es ↦ kept_built es n (told_built es e) ]))
      with_note e g None q = h
      with_note e g (Some es) q = kept e es q g (told_built es e) (built_good Q blank e g es)

      go : (o : Option EngineView) → IfSome o (CleanAt Q)
          → NodeGood Q (second (elim o as (λ _. Option ℕ × NodeView) [ None ↦ (None, n) | Some e ↦ elim n.noted [ None ↦ (None, n) | Some es ↦ kept_built es n (told_built es e) ] ]))
      go None g = h
      go (Some e) g = with_note e g n.noted h.noted

  calls_good : (act : Act) (n : NodeView) → CallGood Q n act → NodeGood Q n → NodeGood Q (calls_at given act n).1
  calls_good Initialize n a h = on_engine_good _ n (λ e q g. initialized_good Q blank e g given.membership first n.moment) h
  calls_good (Elect candidates) n a h = on_engine_good _ n (λ e q g. elected_good Q blank e g n.moment) h
  calls_good (Take m) n a h = on_engine_good _ n (λ e q g. delivered_good Q blank e g m.from m.body a n.moment) h
  calls_good (Propose values) n a h = on_engine_good _ n (λ e q g. entries_good Q blank e g (map value_entry values) (λ l k r. a e l q k r)) h
  calls_good SendHeartbeat n a h = on_engine_good _ n (λ e q g. heartbeats_good Q blank e g) h
  calls_good (Fail target) n a h = on_engine_good _ n (λ e q g. progressed_good Q blank e g target (request_of (inflight_to target e)) (Err tt)) h
  calls_good TriggerSnapshot n a h = on_engine_good _ n (λ e q g. triggered_good Q blank e g) h
  calls_good FinishSnapshot n a h = finish_node_good n h
  calls_good (TriggerPurge i) n a h = on_engine_good _ n (λ e q g. purged_good Q blank e g i) h
  calls_good (Restart Plain) n a h = record { store = restarted_good Q false n.store h.store; noted = tt; engine = resumed_good Q blank given.settings false n }
  calls_good (Restart Saved) n a h = record { store = restarted_good Q true n.store h.store; noted = tt; engine = resumed_good Q blank given.settings true n }
  calls_good (Restart Bare) n a h = record {
    store = restarted_good Q false (forgotten n.store) (record { log = h.store.log; snap = h.store.snap; applied = h.store.applied });
    noted = tt;
    engine = begun_good Q blank n.moment given.settings false (unsaved n);
  }
  calls_good (ChangeLearners learners) n a h = on_engine_good _ n (λ e q g. entries_good Q blank e g (membership_entry (members_with (groups_in e) learners) ∷ []) (λ l k r. a e l q k r)) h
  calls_good (ChangeMembership groups learners) n a h = on_engine_good _ n (λ e q g. entries_good Q blank e g (membership_entry (members_with groups learners) ∷ []) (λ l k r. a e l q k r)) h
  calls_good Read n a h = on_engine_good _ n (λ e q g. g) h
  calls_good StepDown n a h = on_engine_good _ n (λ e q g. stepped_good Q blank e g) h
  calls_good Stop n a h = record { store = h.store; noted = tt; engine = tt }

  called_act : (act : Act) (n : NodeView) (moment : ℕ) → CallGood Q n act → CallGood Q (record n { moment = moment }) act
  called_act Initialize n k a = tt
  called_act (Elect candidates) n k a = tt
  called_act (Take m) n k a = a
  called_act (Propose values) n k a = a
  called_act SendHeartbeat n k a = tt
  called_act (Fail target) n k a = tt
  called_act TriggerSnapshot n k a = tt
  called_act FinishSnapshot n k a = tt
  called_act (TriggerPurge i) n k a = tt
  called_act (Restart start) n k a = tt
  called_act (ChangeLearners learners) n k a = a
  called_act (ChangeMembership groups learners) n k a = a
  called_act Read n k a = tt
  called_act StepDown n k a = tt
  called_act Stop n k a = tt

  played_good : (act : Act) (event : Event) (s : Scene (List Entry)) → ActGood Q s.node act → SceneGood Q s → SceneGood Q (played whole_logs weight given act event s).1
  unfolding played finish
  played_good act event s a h = go (skip_reason act s.node) refl
    where
      go : (o : Option SkipReason) → skip_reason act s.node ≡ o → SceneGood Q (scene_after {L = List Entry} (elim o as (λ _. Outcome × Scene (List Entry)) [
        | Some reason ↦ (Skipped reason, s)
        | None ↦ finish whole_logs weight (turn_of act (called_at (moment_of event s.node) s).node) event.stop (calls given act (called_at (moment_of event s.node) s)).0 (calls given act (called_at (moment_of event s.node) s)).1
      ]))
      go (Some reason) is = h
      go None is =
          let k = calls_good act (called_at (moment_of event s.node) s).node (called_act act s.node (moment_of event s.node) (a is)) (record { store = h.node.store; noted = h.node.noted; engine = h.node.engine }) in
          let t : Turn = turn_of act (called_at (moment_of event s.node) s).node in
          let c : Scene (List Entry) = (calls given act (called_at (moment_of event s.node) s)).1 in
          let w : WorkGood Q (work_of event.stop c) = record { engine = k.engine; effects = record { store = k.store; noted = k.noted; records = record { bag = h.records.bag; decided = h.records.decided } } } in
          let d : WorkGood Q (worked whole_logs (weight (work_of event.stop c)) t (work_of event.stop c)) = worked_good Q blank t (weight (work_of event.stop c)) (work_of event.stop c) w in
          record { node = record { store = d.effects.store; noted = d.effects.noted; engine = d.engine }; records = d.effects.records }

  set_good : (ns : List NodeView) (i : ℕ) (n : NodeView) → NodeGood Q n → AllByRecursion (NodeGood Q) ns → AllByRecursion (NodeGood Q) (slice_set ns i n)
  set_good [] i n g h = tt
  set_good (m ∷ ns) zero n g h = (g, h.1)
  set_good (m ∷ ns) (suc i) n g h = (h.0, set_good ns i n g h.1)

  get_good : (ns : List NodeView) (i : ℕ) (n : NodeView) → slice_get ns i ≡ Some n → AllByRecursion (NodeGood Q) ns → NodeGood Q n
  get_good [] i n e h = cc
  get_good (m ∷ ns) zero n e h = let z : m ≡ n = cc in subst (NodeGood Q) z h.0
  get_good (m ∷ ns) (suc i) n e h = get_good ns i n e h.1

  place_good : (act : Act) (event : Event) (net : Net (List Entry)) (i : ℕ) → ((n : NodeView) → slice_get net.nodes i ≡ Some n → ActGood Q n act) → NetGood Q net → NetGood Q (at_place net i (played whole_logs weight given act event)).1
  place_good act event net i a h = go (slice_get net.nodes i) refl
    where
      go : (o : Option NodeView) → slice_get net.nodes i ≡ o → NetGood Q (net_after {L = List Entry} (elim o [
        | None ↦ (Skipped NotRunning, net)
        | Some n ↦
            (let r = played whole_logs weight given act event (record { node = n; records = net.records }) in
            (r.0, record { nodes = slice_set net.nodes i r.1.node; records = r.1.records }))
      ]))
      go None e = h
      go (Some n) e =
          let p : SceneGood Q (played whole_logs weight given act event (record { node = n; records = net.records })).1 = played_good act event (record { node = n; records = net.records }) (a n e) (record { node = get_good net.nodes i n e h.nodes; records = h.records }) in
          record { nodes = set_good net.nodes i _ p.node h.nodes; records = p.records }

  -- what an event brings, at its node
  abbrev AimGood : Net (List Entry) → Aim → Type 0
  AimGood net aim = (i : ℕ) (n : NodeView) → place_of net.nodes aim.id ≡ Some i → slice_get net.nodes i ≡ Some n → ActGood Q n aim.act

  node_good : (act : Act) (event : Event) (net : Net (List Entry)) (id : ℕ) → AimGood net (record { id = id; act = act }) → NetGood Q net → NetGood Q (at_node net id (played whole_logs weight given act event)).1
  node_good act event net id a h = go (place_of net.nodes id) refl
    where
      go : (o : Option ℕ) → place_of net.nodes id ≡ o → NetGood Q (net_after {L = List Entry} (elim o [ None ↦ (Skipped NotRunning, net) | Some i ↦ at_place net i (played whole_logs weight given act event) ]))
      go None q = h
      go (Some i) q = place_good act event net i (λ n e. a i n q e) h

  -- an act is one of these
  slot_bag : (ms : List Message) (i : ℕ) (m : Message) → slice_get ms i ≡ Some m → BagGood Q ms → AllQ Q (sent_in m.body)
  slot_bag [] i m e h = cc
  slot_bag (x ∷ ms) zero m e h = let z : x ≡ m = cc in subst (λ (y : Message). AllQ Q (sent_in y.body)) z h.0
  slot_bag (x ∷ ms) (suc i) m e h = slot_bag ms i m e h.1

  told : (net : Net (List Entry)) (a b : Aim) → ◌≡◌ {A = Option Aim} (Some a) (Some b) → AimGood net a → AimGood net b
  told net a b e g = let z : a ≡ b = cc in subst (AimGood net) z g

  delivered : (net : Net (List Entry)) (o : Option Message) → ((m : Message) → o ≡ Some m → AllQ Q (sent_in m.body)) → (aim : Aim) → option_map (λ (m : Message). let a : Aim = record { id = m.to; act = Take m } in a) o ≡ Some aim → AimGood net aim
  delivered net None f aim e = cc
  delivered net (Some m) f aim e = told net (record { id = m.to; act = Take m }) aim e (λ i n p q s. f m refl)

  from_bag : (bag : List Message) (k : ℕ) (m : Message) → BagGood Q bag → message_at bag k ≡ Some m → AllQ Q (sent_in m.body)
  from_bag bag k m h = go (nat_eq k 0)
    where
      go : (b : Bool) → ◌≡◌ {A = Option Message} (if b then None else slice_get bag (k - 1)) (Some m) → AllQ Q (sent_in m.body)
      go true e = cc
      go false e = slot_bag bag (k - 1) m e h

  act_good : (net : Net (List Entry)) → BagGood Q net.records.bag → (kind : EventKind) → Brings Q net kind → (aim : Aim) → aim_of net.records.bag kind ≡ Some aim → AimGood net aim
  act_good net h (kinds.Deliver k) b aim e = delivered net (message_at net.records.bag k) (λ m q. from_bag net.records.bag k m h q) aim e
  act_good net h (kinds.Propose n values) b aim e = told net (record { id = n; act = Propose values }) aim e (λ i m p q s. b i m p q s)
  act_good net h (kinds.Init n) b aim e = told net (record { id = n; act = Initialize }) aim e (λ x m p q s. tt)
  act_good net h (kinds.Timeout n) b aim e = told net (record { id = n; act = Elect Voters }) aim e (λ x m p q s. tt)
  act_good net h (kinds.Stand n) b aim e = told net (record { id = n; act = Elect AllMembers }) aim e (λ x m p q s. tt)
  act_good net h (kinds.Heartbeat n) b aim e = told net (record { id = n; act = SendHeartbeat }) aim e (λ x m p q s. tt)
  act_good net h (kinds.Fail n target) b aim e = told net (record { id = n; act = Fail target }) aim e (λ x m p q s. tt)
  act_good net h (kinds.Snapshot n) b aim e = told net (record { id = n; act = TriggerSnapshot }) aim e (λ x m p q s. tt)
  act_good net h (kinds.Built n) b aim e = told net (record { id = n; act = FinishSnapshot }) aim e (λ x m p q s. tt)
  act_good net h (kinds.Purge n i) b aim e = told net (record { id = n; act = TriggerPurge i }) aim e (λ x m p q s. tt)
  act_good net h (kinds.Restart n start) b aim e = told net (record { id = n; act = Restart start }) aim e (λ x m p q s. tt)
  act_good net h (kinds.Member n learners) b aim e = told net (record { id = n; act = ChangeLearners learners }) aim e (λ i m p q s. b i m p q s)
  act_good net h (kinds.Change n groups learners) b aim e = told net (record { id = n; act = ChangeMembership groups learners }) aim e (λ i m p q s. b i m p q s)
  act_good net h (kinds.Read n) b aim e = told net (record { id = n; act = Read }) aim e (λ x m p q s. tt)
  act_good net h (kinds.Down n) b aim e = told net (record { id = n; act = StepDown }) aim e (λ x m p q s. tt)
  act_good net h (kinds.Stop n) b aim e = told net (record { id = n; act = Stop }) aim e (λ x m p q s. tt)

  happens_good : (e : Event) (net : Net (List Entry)) → Brings Q net e.kind → NetGood Q net → NetGood Q (happens whole_logs weight given e net).1
  unfolding happens
  happens_good e net b h = go (aim_of net.records.bag e.kind) refl
    where
      go : (o : Option Aim) → aim_of net.records.bag e.kind ≡ o → NetGood Q (net_after {L = List Entry} (elim o [ None ↦ (Skipped NoMessage, net) | Some aim ↦ at_node net aim.id (played whole_logs weight given aim.act e) ]))
      go None q = h
      go (Some aim) q = node_good aim.act e net aim.id (act_good net h.records.bag e.kind b aim q) h

  tell_good : (e : Event) (x : History (List Entry)) → Brings Q x.net e.kind → NetGood Q x.net → NetGood Q (with_event whole_logs given x e).net
  unfolding with_event
  tell_good e x b h = happens_good e x.net b h

  -- after all events, if each brings such entries to the world before it
  pub run_good : (es past rest : List Event) → es ≡ past ++ rest → ((k : ℕ) (e : Event) → slice_get es k ≡ Some e → Brings Q (world_after given (take k es)) e.kind) → NetGood Q (world_after given past) → NetGood Q (world_after given es)
  run_good es past [] q b h = subst (λ ds. NetGood Q (world_after given ds)) (sym (append-nil past) ∙ sym q) h
  run_good es past (e ∷ rest) q b h =
      let s : slice_get es (length past) ≡ Some e = ap (λ ds. slice_get ds (length past)) q ∙ slot_past past e rest in
      let k : Brings Q (world_after given past) e.kind = subst (λ ds. Brings Q (world_after given ds) e.kind) (ap (take (length past)) q ∙ take_past past (e ∷ rest)) (b (length past) e s) in
      run_good es (past ++ e ∷ []) rest (q ∙ sym (append_assoc past (e ∷ []) rest)) b
      (subst (λ (x : History (List Entry)). NetGood Q x.net) (sym (run_one given past e (start given))) (tell_good e (run whole_logs given past (start given)) k h))
    where
      slot_past : (xs : List Event) (x : Event) (ys : List Event) → slice_get (xs ++ x ∷ ys) (length xs) ≡ Some x
      slot_past [] x ys = refl
      slot_past (y ∷ xs) x ys = slot_past xs x ys

      take_past : (xs ys : List Event) → take (length xs) (xs ++ ys) ≡ xs
      take_past [] [] = refl
      take_past [] (y ∷ ys) = refl
      take_past (x ∷ xs) ys = ap (λ ds. x ∷ ds) (take_past xs ys)

  new_good : (settings : EngineConfig ℕ) (ids : List ℕ) → AllByRecursion (NodeGood Q) (map (new_node settings) ids)
  new_good settings [] = tt
  new_good settings (id ∷ ids) = (record { store = record { log = tt; snap = tt; applied = tt }; noted = tt; engine = tt }, new_good settings ids)

  pub world_good : (es : List Event) → ((k : ℕ) (e : Event) → slice_get es k ≡ Some e → Brings Q (world_after given (take k es)) e.kind) → NetGood Q (world_after given es)
  world_good es b = run_good es [] es refl b (record { nodes = new_good given.settings given.ids; records = record { bag = tt; decided = tt } })
