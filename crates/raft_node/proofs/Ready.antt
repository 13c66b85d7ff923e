-- A node's engine stays ready, at each event and each command.
use Rattle.std.specs.Prelude.{All, ℕ, ◌≡◌, Bool, true, false, List, [], ◌∷◌, Option, None, Some, length, map, slice_get, slice_set, nat_eq, if◌then◌else◌, refl}
use Rattle.std.proofs.Common.{◌∙◌, sym, subst, arith}
use Rattle.std.proofs.lemmas.Bool.Decides.{nat_tests}
use Rattle.std.proofs.lemmas.List.Elements.{All-map, All-set, All-get_or}
use Rattle.std.proofs.lemmas.Option.{slice_get_within, get_or_from_slice_get}
use Rattle.std.specs.Ordering.{nat_cmp}
use Rattle.raft_state.specs.Fits.{fits}
use Rattle.raft_state.specs.Invariants.{IsSoundState}
use Rattle.raft_command.specs.declared.config.EngineConfig.{EngineConfig}
use Rattle.raft_command.specs.Queue.{popped}
use Rattle.raft_steps.proofs.KeptEngine.{empty_is_sound}
use Rattle.raft_store.specs.declared.entry.Entry.{Entry}
use Rattle.raft_store.specs.Entries.{entry_meaning}
use Rattle.raft_store.specs.Restart.{started}
use Rattle.raft_store.specs.Store.{no_store}
use Rattle.raft_store.specs.Types.{WorldCommand, EngineView}
use Rattle.raft_node.specs.declared.act.Act.{Act}
use Rattle.raft_node.specs.declared.act.Act.TheVariants.{ChangeLearners, ChangeMembership, Elect, Fail, FinishSnapshot, Initialize, Propose, Read, Restart, SendHeartbeat, StepDown, Stop, Take, TriggerPurge, TriggerSnapshot}
use Rattle.raft_node.specs.declared.act.Aim.{Aim}
use Rattle.raft_schedule.specs.declared.event.Event.{Event}
use Rattle.raft_schedule.specs.declared.event.Outcome.{Outcome}
use Rattle.raft_schedule.specs.declared.event.Outcome.TheVariants.{Skipped}
use Rattle.raft_schedule.specs.declared.event.SkipReason.{SkipReason}
use Rattle.raft_schedule.specs.declared.event.Start.TheVariants as starts
use Rattle.raft_schedule.specs.declared.event.SkipReason.TheVariants.{NoMessage, NotRunning}
use Rattle.raft_node.specs.declared.node.Turn.{Turn}
use Rattle.raft_calls.specs.Deliveries.{deliver}
use Rattle.raft_node.specs.Events.{Scene, aim_of, at_node, at_place, called_at, calls, calls_at, finish, happens, moment_of, on_engine, place_of, played, skip_reason, skip_running, skip_stopped, turn_of, work_of}
use Rattle.raft_calls.specs.Elections.{elected, initialized}
use Rattle.raft_node.specs.Execute.{exec}
use Rattle.raft_calls.specs.Feeds.{fed, feed_of}
use Rattle.raft_node.specs.Held.{AllResting, IsAtRest, MayCall, NotedFits}
use Rattle.raft_calls.specs.Held.{IsReady, IsReadyWhereRunning, IsResting, IsRestingWhereRunning}
use Rattle.raft_node.specs.Net.{Net, NodeView, new_node}
use Rattle.raft_node.specs.declared.given.Given.{Given}
use Rattle.raft_calls.specs.LeaderCalls.{failed, heartbeats_sent, proposed, read_asked, stepped_down, value_entry}
use Rattle.raft_calls.specs.Memberships.{groups_in, learners_changed, members_with, membership_changed, membership_entry}
use Rattle.raft_node.specs.Snapshots.{finish_snapshot, kept_built}
use Rattle.raft_calls.specs.Snapshots.{purge_triggered, snapshot_triggered, told_built}
use Rattle.raft_node.specs.Starts.{engine_on, unsaved}
use Rattle.raft_node.specs.Work.{Work, done_of, idle, is_idle, one_less, step_of, stopped, stops, weight, work_step, worked}
use Rattle.raft_calls.specs.Engines.{with_queue}
use Rattle.raft_calls.proofs.LeaderReady.{change_may, entries_ready, entry_ready, failed_ready, heartbeats_ready, stepped_down_ready, values_may}
use Rattle.raft_calls.proofs.SnapshotReady.{built_ready, purged_ready, triggered_ready}
use Rattle.raft_node.proofs.StartReady.{forgotten_starts, on_ready}
use Rattle.raft_calls.proofs.StartReady.{resumed_ready}
use Rattle.raft_node.proofs.Worked.{worked-ends, worked-keeps}
use Rattle.raft_calls.proofs.Ready.{fed_ready, Taken, popped_ready, led_by_none, elects_unled, initialized_ready, elected_ready, begun_ready, deliver_ready, new_resting}

-- parts of what a choice gives
module _ {L : Type 0} where
  abbrev engine_in : Work L → Option EngineView
  engine_in w = w.engine

  abbrev pub scene_after : Outcome × Scene L → Scene L
  scene_after r = r.1

  abbrev pub net_after : Outcome × Net L → Net L
  net_after r = r.1

module _ {L : Type 0} (keep : List Entry → L) (t : Turn) where
  done_ready : (w : Work L) (e : EngineView) (c : WorldCommand) → Taken e c → IsReadyWhereRunning (done_of keep t w e c).engine
  done_ready w e c h = go (stops w.left)
    where
      go : (b : Bool) → IsReadyWhereRunning
          (engine_in {L = L} (if b then stopped (exec keep t e c w.effects)
          else record { engine = Some (fed t.moment (feed_of c) e); effects = exec keep t e c w.effects; left = one_less w.left }))
      go true = tt
      go false = fed_ready t.moment (feed_of c) e h.ready h.held

  items_ready : (w : Work L) (e : EngineView) (cs : List WorldCommand) → e.machine.core.output.items ≡ cs → IsReady e → IsReadyWhereRunning w.engine
      → IsReadyWhereRunning (step_of keep t w e (popped (record e.machine.core.output { items = cs }))).engine
  items_ready w e [] is h k = k
  items_ready w e (c ∷ cs) is h k = done_ready w (with_queue e (record e.machine.core.output { items = cs })) c (popped_ready e c cs is h)

  -- each command keeps an engine ready
  pub step_ready : (w : Work L) → IsReadyWhereRunning w.engine → IsReadyWhereRunning (work_step keep t w).engine
  step_ready w h = go w.engine h
    where
      go : (o : Option EngineView) → IsReadyWhereRunning o
          → IsReadyWhereRunning (engine_in {L = L} (elim o as (λ x. Work L) [ None ↦ record w { engine = o } | Some e ↦ step_of keep t (record w { engine = o }) e (popped e.machine.core.output) ]))
      go None k = k
      go (Some e) k = items_ready (record w { engine = Some e }) e e.machine.core.output.items refl k k

  -- the same along a step's equation
  pub step_along : (w v : Work L) → v ≡ work_step keep t w → IsReadyWhereRunning w.engine → IsReadyWhereRunning v.engine
  step_along w v is h = subst (λ (x : Work L). IsReadyWhereRunning x.engine) (sym is) (step_ready w h)

  -- so does the whole queue
  pub worked_ready : (fuel : ℕ) (w : Work L) → IsReadyWhereRunning w.engine → IsReadyWhereRunning (worked keep fuel t w).engine
  worked_ready fuel w h = worked-keeps keep t (λ v. IsReadyWhereRunning v.engine) fuel (λ v busy k. step_ready v k) w h

-- why an act is skipped doesn't hang on the node's moment
pub skip_moved : (act : Act) (n : NodeView) (now : ℕ) → skip_reason act (record n { moment = now }) ≡ skip_reason act n
skip_moved act n now = go act n.engine
  where
    go : (act : Act) (o : Option EngineView) →
        (elim o as (λ _. Option SkipReason) [ None ↦ skip_stopped act | Some e ↦ skip_running act (record n { moment = now }) e ])
        ≡ (elim o as (λ _. Option SkipReason) [ None ↦ skip_stopped act | Some e ↦ skip_running act n e ])
    go act None = refl
    go Initialize (Some e) = refl
    go (Elect candidates) (Some e) = refl
    go (Take m) (Some e) = refl
    go (Propose values) (Some e) = refl
    go SendHeartbeat (Some e) = refl
    go (Fail target) (Some e) = refl
    go TriggerSnapshot (Some e) = refl
    go FinishSnapshot (Some e) = refl
    go (TriggerPurge i) (Some e) = refl
    go (Restart start) (Some e) = refl
    go (ChangeLearners learners) (Some e) = refl
    go (ChangeMembership groups learners) (Some e) = refl
    go Read (Some e) = refl
    go StepDown (Some e) = refl
    go Stop (Some e) = refl

-- an act that isn't skipped at a running node isn't skipped at its engine
pub runs_unskipped : (act : Act) (n : NodeView) (e : EngineView) → n.engine ≡ Some e → skip_reason act n ≡ None → skip_running act n e ≡ None
runs_unskipped act n e is none =
    subst (λ (o : Option EngineView). (elim o as (λ _. Option SkipReason) [ None ↦ skip_stopped act | Some e ↦ skip_running act n e ]) ≡ None) is none

abbrev pub node_after : Option ℕ × NodeView → NodeView
node_after r = r.1

-- calls of a node's engine
on_engine_ready : (f : EngineView → Option ℕ × EngineView) (n : NodeView) → ((e : EngineView) → n.engine ≡ Some e → IsReady (f e).1)
    → IsReadyWhereRunning (on_engine f n).1.engine
on_engine_ready f n next = go n.engine refl
  where
    go : (o : Option EngineView) → n.engine ≡ o → IsReadyWhereRunning
        (node_after (elim o as (λ _. Option ℕ × NodeView) [ None ↦ (None, n) | Some e ↦ (let r = f e in (r.0, record n { engine = Some r.1 })) ])).engine
    go None is = subst IsReadyWhereRunning (sym is) tt
    go (Some e) is = next e is

-- the end of a build
kept_ready : (es : List Entry) (n : NodeView) (e : EngineView) (r : Option ℕ × EngineView) → n.engine ≡ Some e → IsReady e → IsReady r.1
    → IsReadyWhereRunning (kept_built es n r).1.engine
kept_ready es n e (Some k, after) is h next = subst IsReadyWhereRunning (sym is) h
kept_ready es n e (None, after) is h next = next

finish_ready : (n : NodeView) → IsRestingWhereRunning n.engine → NotedFits n.engine n.noted → IsReadyWhereRunning (finish_snapshot n).1.engine
finish_ready n rests fits = go n.engine refl
  where
    noted : (e : EngineView) → n.engine ≡ Some e → (o : Option (List Entry)) → n.noted ≡ o → IsReadyWhereRunning
        (node_after (elim o as (λ _. Option ℕ × NodeView) [ None ↦ (None, n) | Some es ↦ kept_built es n (told_built es e) ])).engine
    noted e is None q = let r : IsResting e = subst IsRestingWhereRunning is rests in subst IsReadyWhereRunning (sym is) r.ready
    noted e is (Some es) q =
        let r : IsResting e = subst IsRestingWhereRunning is rests in
        kept_ready es n e (told_built es e) is r.ready (built_ready e r.ready r.queue es (fits e es is q))

    go : (o : Option EngineView) → n.engine ≡ o → IsReadyWhereRunning
        (node_after (elim o as (λ _. Option ℕ × NodeView) [
          | None ↦ (None, n)
          | Some e ↦ elim n.noted as (λ _. Option ℕ × NodeView) [ None ↦ (None, n) | Some es ↦ kept_built es n (told_built es e) ]
        ])).engine
    go None is = subst IsReadyWhereRunning (sym is) tt
    go (Some e) is = noted e is n.noted refl

-- an act's calls leave an engine at rest ready, if the node has what they ask for
pub act_ready : (given : Given) (act : Act) (n : NodeView) → skip_reason act n ≡ None → IsRestingWhereRunning n.engine → MayCall act n
    → IsReadyWhereRunning (calls_at given act n).1.engine
act_ready given act n none rests may = go act none may
  where
    resting : (e : EngineView) → n.engine ≡ Some e → IsResting e
    resting e is = subst IsRestingWhereRunning is rests

    go : (act : Act) → skip_reason act n ≡ None → MayCall act n → IsReadyWhereRunning (calls_at given act n).1.engine
    go Initialize q m =
        on_engine_ready (initialized given.membership n.moment) n
        (λ e is. initialized_ready given.membership n.moment e (led_by_none e (runs_unskipped Initialize n e is q)) (resting e is).ready)
    go (Elect candidates) q m =
        on_engine_ready (elected n.moment) n
        (λ e is. elected_ready n.moment e (elects_unled candidates e (runs_unskipped (Elect candidates) n e is q)) (resting e is).ready)
    go (Take m) q may = on_engine_ready (deliver m.from m.body n.moment) n (λ e is. deliver_ready m.from m.body n.moment e (resting e is))
    go (Propose values) q m =
        on_engine_ready (proposed values) n
        (λ e is. entries_ready e (resting e is).ready (map value_entry values) (values_may values e (runs_unskipped (Propose values) n e is q)))
    go SendHeartbeat q m = on_engine_ready heartbeats_sent n (λ e is. heartbeats_ready e (resting e is).ready)
    go (Fail target) q m = on_engine_ready (failed target) n (λ e is. failed_ready e (resting e is).ready (resting e is).queue target)
    go TriggerSnapshot q m = on_engine_ready snapshot_triggered n (λ e is. triggered_ready e (resting e is).ready (resting e is).queue)
    go FinishSnapshot q m = finish_ready n rests m
    go (TriggerPurge i) q m = on_engine_ready (purge_triggered i) n (λ e is. purged_ready e (resting e is).ready (resting e is).queue i)
    go (Restart starts.Plain) q m = resumed_ready (engine_on given.settings false n) (on_ready given.settings false n m)
    go (Restart starts.Saved) q m = resumed_ready (engine_on given.settings true n) (on_ready given.settings true n m)
    go (Restart starts.Bare) q m = begun_ready n.moment (engine_on given.settings false (unsaved n)) refl (on_ready given.settings false (unsaved n) m)
    go (ChangeLearners learners) q m =
        on_engine_ready (learners_changed learners) n
        (λ e is. entry_ready e (resting e is).ready (membership_entry (members_with (groups_in e) learners))
        (change_may (groups_in e) learners e (runs_unskipped (ChangeLearners learners) n e is q)))
    go (ChangeMembership groups learners) q m =
        on_engine_ready (membership_changed groups learners) n
        (λ e is. entry_ready e (resting e is).ready (membership_entry (members_with groups learners))
        (change_may groups learners e (runs_unskipped (ChangeMembership groups learners) n e is q)))
    go Read q m = on_engine_ready read_asked n (λ e is. (resting e is).ready)
    go StepDown q m = on_engine_ready stepped_down n (λ e is. stepped_down_ready e (resting e is).ready)
    go Stop q m = tt

-- a node at rest has it for each act
pub may_call : (act : Act) (n : NodeView) → IsAtRest n → MayCall act n
may_call Initialize n h = tt
may_call (Elect candidates) n h = tt
may_call (Take m) n h = tt
may_call (Propose v) n h = tt
may_call SendHeartbeat n h = tt
may_call (Fail target) n h = tt
may_call TriggerSnapshot n h = tt
may_call FinishSnapshot n h = h.noted
may_call (TriggerPurge i) n h = tt
may_call (Restart starts.Plain) n h = h.starts false
may_call (Restart starts.Saved) n h = h.starts true
may_call (Restart starts.Bare) n h = subst (IsSoundState nat_cmp) (sym (forgotten_starts n.store)) (h.starts false)
may_call (ChangeLearners learners) n h = tt
may_call (ChangeMembership groups learners) n h = tt
may_call Read n h = tt
may_call StepDown n h = tt
may_call Stop n h = tt

pub calls_ready : (given : Given) (act : Act) (n : NodeView) → skip_reason act n ≡ None → IsAtRest n → IsReadyWhereRunning (calls_at given act n).1.engine
calls_ready given act n none h = act_ready given act n none h.resting (may_call act n h)

-- a ready engine rests once its queue is worked off
empty_of : (cs : List WorldCommand) → nat_eq (length cs) 0 ≡ true → cs ≡ []
empty_of [] h = refl
empty_of (c ∷ cs) h = let other : nat_eq (length (c ∷ cs)) 0 ≡ false = grind (arith, nat_tests) in cc

resting_of : (o : Option EngineView) → IsReadyWhereRunning o → is_idle o ≡ true → IsRestingWhereRunning o
resting_of None h idle = tt
resting_of (Some e) h idle = record { ready = h; queue = empty_of e.machine.core.output.items idle }

module _ {L : Type 0} (keep : List Entry → L) where
  abbrev NodeResting : Scene L → Type 0
  NodeResting s = IsRestingWhereRunning s.node.engine

  finish_resting : (t : Turn) (stop refusal : Option ℕ) (s : Scene L) → IsReadyWhereRunning s.node.engine → NodeResting (finish keep weight t stop refusal s).1
  unfolding finish
  finish_resting t stop refusal s h = resting_of _ (worked_ready keep t (weight (work_of stop s)) (work_of stop s) h) (worked-ends keep t (work_of stop s))

  -- an event at a node at rest leaves its engine at rest
  pub played_resting : (given : Given) (act : Act) (event : Event) (s : Scene L) → IsRestingWhereRunning s.node.engine → (skip_reason act s.node ≡ None → MayCall act s.node)
      → NodeResting (played keep weight given act event s).1
  unfolding played
  played_resting given act event s rests may = go (skip_reason act s.node) refl
    where
      now : Scene L
      now = called_at (moment_of event s.node) s

      go : (o : Option SkipReason) → skip_reason act s.node ≡ o → NodeResting
          (scene_after {L = L} (elim o as (λ _. Outcome × Scene L) [
            | Some reason ↦ (Skipped reason, s)
            | None ↦ finish keep weight (turn_of act now.node) event.stop (calls given act now).0 (calls given act now).1
          ]))
      go (Some reason) is = rests
      go None is =
          finish_resting (turn_of act now.node) event.stop (calls given act now).0 (calls given act now).1
          (act_ready given act now.node (skip_moved act s.node (moment_of event s.node) ∙ is) rests (may is))

-- each node's engine, if it runs
abbrev pub AllEnginesRest : List NodeView → Type 0
AllEnginesRest nodes = All (λ n. IsRestingWhereRunning n.engine) nodes

pub engines_rest : (nodes : List NodeView) → AllResting nodes → AllEnginesRest nodes
engines_rest nodes h = λ i n within. (h i n within).resting

module _ {L : Type 0} (keep : List Entry → L) where
  place_resting : (given : Given) (act : Act) (event : Event) (net : Net L) (i : ℕ) → AllResting net.nodes
      → AllEnginesRest (at_place net i (played keep weight given act event)).1.nodes
  place_resting given act event net i h = go (slice_get net.nodes i) refl
    where
      go : (o : Option NodeView) → slice_get net.nodes i ≡ o → AllEnginesRest
          (net_after {L = L} (elim o [
            | None ↦ (Skipped NotRunning, net)
            | Some n ↦
                (let r = played keep weight given act event (record { node = n; records = net.records }) in
                (r.0, record { nodes = slice_set net.nodes i r.1.node; records = r.1.records }))
          ])).nodes
      go None is = engines_rest net.nodes h
      go (Some n) is =
          let here : IsAtRest n = rw (get_or_from_slice_get net.nodes i n n is) at (All-get_or IsAtRest net.nodes i n (slice_get_within net.nodes i n is) h) in
          All-set (λ (m : NodeView). IsRestingWhereRunning m.engine) net.nodes i _ (played_resting keep given act event (record { node = n; records = net.records }) here.resting (λ _. may_call act n here))
          (engines_rest net.nodes h)

  node_resting : (given : Given) (act : Act) (event : Event) (net : Net L) (id : ℕ) → AllResting net.nodes
      → AllEnginesRest (at_node net id (played keep weight given act event)).1.nodes
  node_resting given act event net id h = go (place_of net.nodes id)
    where
      go : (o : Option ℕ) → AllEnginesRest
          (net_after {L = L} (elim o [ None ↦ (Skipped NotRunning, net) | Some i ↦ at_place net i (played keep weight given act event) ])).nodes
      go None = engines_rest net.nodes h
      go (Some i) = place_resting given act event net i h

  -- an event where all nodes are at rest leaves all engines at rest; that their notes fit is a matter of agreement
  pub happens_resting : (given : Given) (event : Event) (net : Net L) → AllResting net.nodes → AllEnginesRest (happens keep weight given event net).1.nodes
  unfolding happens
  happens_resting given event net h = go (aim_of net.records.bag event.kind)
    where
      go : (o : Option Aim) → AllEnginesRest
          (net_after {L = L} (elim o [ None ↦ (Skipped NoMessage, net) | Some aim ↦ at_node net aim.id (played keep weight given aim.act event) ])).nodes
      go None = engines_rest net.nodes h
      go (Some aim) = node_resting given aim.act event net aim.id h

-- new nodes are at rest: a start on the empty store finds the default state
new_starts : (saved : Bool) → IsSoundState nat_cmp (started nat_cmp entry_meaning saved (no_store 0))
new_starts false = empty_is_sound nat_cmp (Unit {0}) 0
new_starts true = empty_is_sound nat_cmp (Unit {0}) 0

pub new_at_rest : (settings : EngineConfig ℕ) (id : ℕ) → IsAtRest (new_node settings id)
new_at_rest settings id = record { resting = new_resting settings id; noted = λ e es is q. cc; starts = new_starts }

pub start_resting : (given : Given) → AllResting (map (new_node given.settings) given.ids)
start_resting given = All-map IsAtRest (new_node given.settings) given.ids (λ k d l. new_at_rest given.settings _)
