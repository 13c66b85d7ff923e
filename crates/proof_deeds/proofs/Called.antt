-- An event's calls at a node: a node at rest is at work after them.
use Rattle.std.proofs.Common.{ℕ, ◌≡◌, true, false, List, map, refl, subst, Option, None, Some}
use Rattle.std.specs.Prelude.{Err, IfSome}
use Rattle.raft_node.specs.raft_error.declared.error.EngineError.{EngineError}
use Rattle.raft_node.specs.raft_steps.Refusals.{refusals_of_spent}
use Rattle.raft_node.specs.raft_steps.SnapshotCalls.{finish_building_snapshot}
use Rattle.std.specs.Ordering.{nat_cmp}
use Rattle.raft_node.specs.raft_store.declared.entry.Entry.{Entry}
use Rattle.raft_node.specs.raft_store.Built.{meta_of}
use Rattle.raft_node.specs.raft_store.Entries.{entry_meaning}
use Rattle.raft_node.specs.raft_store.Types.{EngineView}
use Rattle.raft_node.specs.raft_schedule.declared.event.SkipReason.{SkipReason}
use Rattle.raft_node.specs.raft_schedule.declared.event.SkipReason.TheVariants.{NothingBuilt}
use Rattle.raft_node.specs.raft_schedule.declared.event.Start.{Start}
use Rattle.raft_node.specs.raft_schedule.declared.event.Start.TheVariants.{Plain, Saved, Bare}
use Rattle.raft_node.specs.declared.act.Act.{Act}
use Rattle.raft_node.specs.declared.act.Act.TheVariants.{ChangeLearners, ChangeMembership, Elect, Fail, FinishSnapshot, Initialize, Propose, Read, Restart, SendHeartbeat, StepDown, Stop, Take, TriggerPurge, TriggerSnapshot}
use Rattle.raft_node.specs.declared.given.Given.{Given}
use Rattle.raft_node.specs.raft_calls.Deliveries.{answered, deliver, with_machine}
use Rattle.raft_node.specs.Events.{calls_at, skip_reason, skip_stopped, turn_of, work_of}
use Rattle.raft_node.specs.raft_calls.Elections.{elected, initialized}
use Rattle.raft_node.specs.Execute.{effects}
use Rattle.raft_node.specs.raft_calls.Held.{IsReadyWhereRunning}
use Rattle.raft_node.specs.raft_calls.LeaderCalls.{failed, heartbeats_sent, inflight_to, proposed, request_of, stepped_down, value_entry}
use Rattle.raft_node.specs.raft_calls.Memberships.{groups_in, learners_changed, members_with, membership_changed, membership_entry}
use Rattle.raft_node.specs.Net.{NodeView, Records, stopped_node}
use Rattle.raft_node.specs.Snapshots.{kept_built}
use Rattle.raft_node.specs.raft_calls.Snapshots.{purge_triggered, snapshot_triggered, told_built}
use Rattle.raft_node.specs.Work.{stopped}
use Rattle.raft_node.proofs.Ready.{calls_ready, node_after}
use Rattle.raft_node.proofs.raft_calls_proofs.Ready.{elects_unled, led_by_none}
use Rattle.proof_deeds.specs.Chains.{Reached}
use Rattle.proof_deeds.specs.Images.{Ideal, images, setup_of}
use Rattle.proof_deeds.specs.Nets.{EngineFollows, NodeFollows}
use Rattle.proof_deeds.proofs.Calls.{CallLaws, WorldState}
use Rattle.proof_deeds.proofs.Drains.{EngineWorks, Works, came_self, ended}
use Rattle.proof_deeds.proofs.Events.{ActFits, delivered_works, elected_works, initialized_works, rests_works}
use Rattle.proof_deeds.proofs.BuildEnds.{finished_works}
use Rattle.proof_deeds.proofs.BuildsCalled.{delivered_builds, elected_builds, entries_build, entry_builds, heartbeats_build, initialized_builds, progressed_builds, purged_builds, stepped_builds, still_builds, triggered_builds}
use Rattle.proof_deeds.proofs.LedBuilds.{BuildsLed}
use Rattle.proof_deeds.proofs.LeaderWorks.{failed_works, heartbeat_works, proposed_works}
use Rattle.proof_deeds.proofs.MembershipWorks.{changed_works, stepped_works}
use Rattle.proof_deeds.proofs.Resting.{node_rests}
use Rattle.proof_deeds.proofs.Runs.{RecordsFit}
use Rattle.proof_deeds.proofs.SnapshotWorks.{purged_works, triggered_works}
use Rattle.proof_deeds.proofs.StartWorks.{begins_works, resumes_works}

module _ (given : Given) (Extra : Ideal → WorldState → Type 0) (laws : CallLaws given.membership Extra) (W : Ideal) (r : Reached (setup_of given.membership) W) (rs : Records (List Entry)) (fit : RecordsFit (setup_of given.membership) W rs) where
  -- what else holds of an engine, where it runs
  abbrev Extras : Option EngineView → Type 0
  Extras o = IfSome o (λ e. Extra W e.machine.core.state)

  -- a node with this engine is at work
  engine_works : (act : Act) (stop : Option ℕ) (n : NodeView) → NodeFollows (setup_of given.membership) W rs n → (f : EngineView) → EngineWorks given.membership Extra (turn_of act n) n.store W f → BuildsLed f.machine
      → Works given.membership Extra (turn_of act n) W (work_of stop (record { node = record n { engine = Some f }; records = rs }))
  engine_works act stop n h f k b = record {
    world = W;
    effects = record { came = came_self given.membership Extra (turn_of act n) W; reached = r; store = h.store; shaped = h.shaped; ordered = h.ordered; rest = h.rest; fit = fit };
    engine = k;
    builds = b;
  }

  -- a start, of a node that runs or not
  started_works : (start : Start) (stop : Option ℕ) (n : NodeView) → NodeFollows (setup_of given.membership) W rs n → IsReadyWhereRunning (calls_at given (Restart start) n).1.engine
      → Works given.membership Extra (turn_of (Restart start) n) W (work_of stop (record { node = (calls_at given (Restart start) n).1; records = rs }))
  started_works Plain stop n h k = resumes_works given.membership Extra laws n.moment given.settings W r rs n h fit false stop k
  started_works Saved stop n h k = resumes_works given.membership Extra laws n.moment given.settings W r rs n h fit true stop k
  started_works Bare stop n h k = begins_works given.membership Extra laws n.moment given.settings W r rs n h fit stop k

  module _ (n : NodeView) (e : EngineView) (h : NodeFollows (setup_of given.membership) W rs (record n { engine = Some e })) (x : Extra W e.machine.core.state) (stop : Option ℕ) where
    abbrev running : NodeView
    running = record n { engine = Some e }

    -- the calls of an act left it so
    abbrev WorkAfter : Act → NodeView → Type 0
    WorkAfter act m = Works given.membership Extra (turn_of act running) W (work_of stop (record { node = m; records = rs }))

    follows : EngineFollows (setup_of given.membership) (record n { engine = Some e }) W e
    follows = h.engine

    at_work : (act : Act) → EngineWorks given.membership Extra (turn_of act running) n.store W e
    at_work act = rests_works given.membership Extra laws (turn_of act running) h.node n.store W r h.ordered running e refl refl h.shaped h.store follows x

    -- a build that ends
    finish_works : (o : Option (List Entry)) → n.noted ≡ o → ◌≡◌ {A = Option SkipReason} (elim o [ None ↦ Some NothingBuilt | Some es ↦ None ]) None
        → IsReadyWhereRunning (node_after (elim o as (λ _. Option ℕ × NodeView) [ None ↦ (None, running) | Some es ↦ kept_built es running (told_built es e) ])).engine
        → WorkAfter FinishSnapshot (node_after (elim o as (λ _. Option ℕ × NodeView) [ None ↦ (None, running) | Some es ↦ kept_built es running (told_built es e) ]))
    finish_works None is none k = cc
    finish_works (Some es) is none k = told (refusals_of_spent e.machine) k where
      after : EngineView
      after = with_machine e (finish_building_snapshot nat_cmp e.config (meta_of entry_meaning es) e.machine)

      noted : (W.store n.id).noted ≡ images es
      noted = subst (λ p. IfSome p (λ es. (W.store n.id).noted ≡ images es)) is h.rest.noted

      told : (a : Option (EngineError ℕ (Unit {0}))) → IsReadyWhereRunning (kept_built es running (answered a e (with_machine e (finish_building_snapshot nat_cmp e.config (meta_of entry_meaning es) e.machine)))).1.engine
          → WorkAfter FinishSnapshot (kept_built es running (answered a e (with_machine e (finish_building_snapshot nat_cmp e.config (meta_of entry_meaning es) e.machine)))).1
      told (Some y) k = engine_works FinishSnapshot stop running h e (at_work FinishSnapshot) (still_builds e follows.queue)
      told None k = finished_works given.membership Extra laws n.moment None W r rs running h fit e follows x es noted stop k

    -- a stop drops all but the store
    stop_works : WorkAfter Stop (stopped_node running)
    stop_works =
        let x : Works given.membership Extra (turn_of Stop running) W (stopped (effects n.store n.streams n.noted rs)) =
        ended given.membership Extra (turn_of Stop running) laws h.node W (effects n.store n.streams n.noted rs) W
        (record { came = came_self given.membership Extra (turn_of Stop running) W; reached = r; store = h.store; shaped = h.shaped; ordered = h.ordered; rest = h.rest; fit = fit }) in
        record { world = x.world; effects = x.effects; engine = x.engine; builds = x.builds }

    running_works : (act : Act) → skip_reason act running ≡ None → ActFits given.membership W n.id act → IsReadyWhereRunning (calls_at given act running).1.engine → WorkAfter act (calls_at given act running).1
    running_works Initialize none told k =
        engine_works Initialize stop running h (initialized given.membership n.moment e).1
        (initialized_works given.membership Extra laws (turn_of Initialize running) h.node n.store W r h.ordered e (at_work Initialize) follows.queue (led_by_none e none) k)
        (initialized_builds e follows.queue given.membership n.moment)
    running_works (Elect candidates) none told k =
        engine_works (Elect candidates) stop running h (elected n.moment e).1
        (elected_works given.membership Extra laws (turn_of (Elect candidates) running) h.node n.store W r h.ordered e (at_work (Elect candidates)) follows.queue (elects_unled candidates e none) k)
        (elected_builds e follows.queue n.moment)
    running_works (Take m) none told k =
        engine_works (Take m) stop running h (deliver m.from m.body n.moment e).1
        (delivered_works given.membership Extra laws (turn_of (Take m) running) h.node n.store W r h.ordered e (at_work (Take m)) follows.queue m (record { request = refl; here = told.0; is = told.1 }) m.body refl none k)
        (delivered_builds e follows.queue m.from m.body n.moment (at_work (Take m)).ready.sound)
    running_works (Propose values) none told k =
        engine_works (Propose values) stop running h (proposed values e).1 (proposed_works given.membership Extra laws (turn_of (Propose values) running) h.node n.store W r h.ordered e (at_work (Propose values)) values none k)
        (entries_build e follows.queue (map value_entry values))
    running_works SendHeartbeat none told k =
        engine_works SendHeartbeat stop running h (heartbeats_sent e).1 (heartbeat_works given.membership Extra laws (turn_of SendHeartbeat running) h.node n.store W r h.ordered e (at_work SendHeartbeat) k)
        (heartbeats_build e follows.queue)
    running_works (Fail target) none told k =
        engine_works (Fail target) stop running h (failed target e).1 (failed_works given.membership Extra laws (turn_of (Fail target) running) h.node n.store W r h.ordered e (at_work (Fail target)) target k)
        (progressed_builds e follows.queue target (request_of (inflight_to target e)) (Err tt))
    running_works TriggerSnapshot none told k =
        engine_works TriggerSnapshot stop running h (snapshot_triggered e).1 (triggered_works given.membership Extra laws (turn_of TriggerSnapshot running) h.node n.store W r h.ordered e (at_work TriggerSnapshot) k)
        (triggered_builds e follows.queue)
    running_works FinishSnapshot none told k = finish_works n.noted refl none k
    running_works (TriggerPurge i) none told k =
        engine_works (TriggerPurge i) stop running h (purge_triggered i e).1 (purged_works given.membership Extra laws (turn_of (TriggerPurge i) running) h.node n.store W r h.ordered e (at_work (TriggerPurge i)) i k)
        (purged_builds e follows.queue i)
    running_works (ChangeLearners learners) none told k =
        engine_works (ChangeLearners learners) stop running h (learners_changed learners e).1
        (changed_works given.membership Extra laws (turn_of (ChangeLearners learners) running) h.node n.store W r h.ordered e (at_work (ChangeLearners learners)) (groups_in e) learners none k)
        (entry_builds e follows.queue (membership_entry (members_with (groups_in e) learners)))
    running_works (ChangeMembership groups learners) none told k =
        engine_works (ChangeMembership groups learners) stop running h (membership_changed groups learners e).1
        (changed_works given.membership Extra laws (turn_of (ChangeMembership groups learners) running) h.node n.store W r h.ordered e (at_work (ChangeMembership groups learners)) groups learners none k)
        (entry_builds e follows.queue (membership_entry (members_with groups learners)))
    running_works Read none told k = engine_works Read stop running h e (at_work Read) (still_builds e follows.queue)
    running_works StepDown none told k =
        engine_works StepDown stop running h (stepped_down e).1 (stepped_works given.membership Extra laws (turn_of StepDown running) h.node n.store W r h.ordered e (at_work StepDown) none k)
        (stepped_builds e follows.queue)
    running_works (Restart start) none told k = started_works start stop running h k
    running_works Stop none told k = stop_works

  -- all that isn't skipped at a stopped node is a start
  stopped_works : (act : Act) (stop : Option ℕ) (n : NodeView) → skip_stopped act ≡ None → NodeFollows (setup_of given.membership) W rs n → IsReadyWhereRunning (calls_at given act n).1.engine
      → Works given.membership Extra (turn_of act n) W (work_of stop (record { node = (calls_at given act n).1; records = rs }))
  stopped_works (Restart start) stop n q h k = started_works start stop n h k
  stopped_works Initialize stop n q h k = cc
  stopped_works (Elect candidates) stop n q h k = cc
  stopped_works (Take m) stop n q h k = cc
  stopped_works (Propose values) stop n q h k = cc
  stopped_works SendHeartbeat stop n q h k = cc
  stopped_works (Fail target) stop n q h k = cc
  stopped_works TriggerSnapshot stop n q h k = cc
  stopped_works FinishSnapshot stop n q h k = cc
  stopped_works (TriggerPurge i) stop n q h k = cc
  stopped_works (ChangeLearners learners) stop n q h k = cc
  stopped_works (ChangeMembership groups learners) stop n q h k = cc
  stopped_works Read stop n q h k = cc
  stopped_works StepDown stop n q h k = cc
  stopped_works Stop stop n q h k = cc

  -- the calls of an event that isn't skipped
  pub calls_work : (act : Act) (stop : Option ℕ) (n : NodeView) → skip_reason act n ≡ None → ActFits given.membership W n.id act → NodeFollows (setup_of given.membership) W rs n → Extras n.engine
      → Works given.membership Extra (turn_of act n) W (work_of stop (record { node = (calls_at given act n).1; records = rs }))
  calls_work act stop n none told h x = go n.engine none h x (calls_ready given act n none (node_rests (setup_of given.membership) W r rs n h)) where
    go : (o : Option EngineView) → skip_reason act (record n { engine = o }) ≡ None → NodeFollows (setup_of given.membership) W rs (record n { engine = o }) → Extras o → IsReadyWhereRunning (calls_at given act (record n { engine = o })).1.engine
        → Works given.membership Extra (turn_of act n) W (work_of stop (record { node = (calls_at given act (record n { engine = o })).1; records = rs }))
    go None q j b k = stopped_works act stop (record n { engine = None }) q j k
    go (Some e) q j b k = running_works n e j b stop act q told k

  -- they leave the node's id
  pub calls_same : (act : Act) (n : NodeView) → (calls_at given act n).1.id ≡ n.id
  calls_same act n = go act n.engine where
    kept : (es : List Entry) (m : NodeView) (p : Option ℕ × EngineView) → (kept_built es m p).1.id ≡ m.id
    kept es m (Some k, f) = refl
    kept es m (None, f) = refl

    noted : (e : EngineView) (o : Option (List Entry)) → (node_after (elim o as (λ _. Option ℕ × NodeView) [ None ↦ (None, record n { engine = Some e }) | Some es ↦ kept_built es (record n { engine = Some e }) (told_built es e) ])).id ≡ n.id
    noted e None = refl
    noted e (Some es) = kept es (record n { engine = Some e }) (told_built es e)

    go : (act : Act) (o : Option EngineView) → (calls_at given act (record n { engine = o })).1.id ≡ n.id
    go Initialize None = refl
    go Initialize (Some e) = refl
    go (Elect candidates) None = refl
    go (Elect candidates) (Some e) = refl
    go (Take m) None = refl
    go (Take m) (Some e) = refl
    go (Propose values) None = refl
    go (Propose values) (Some e) = refl
    go SendHeartbeat None = refl
    go SendHeartbeat (Some e) = refl
    go (Fail target) None = refl
    go (Fail target) (Some e) = refl
    go TriggerSnapshot None = refl
    go TriggerSnapshot (Some e) = refl
    go FinishSnapshot None = refl
    go FinishSnapshot (Some e) = noted e n.noted
    go (TriggerPurge i) None = refl
    go (TriggerPurge i) (Some e) = refl
    go (ChangeLearners learners) None = refl
    go (ChangeLearners learners) (Some e) = refl
    go (ChangeMembership groups learners) None = refl
    go (ChangeMembership groups learners) (Some e) = refl
    go Read None = refl
    go Read (Some e) = refl
    go StepDown None = refl
    go StepDown (Some e) = refl
    go Stop None = refl
    go Stop (Some e) = refl
    go (Restart Plain) o = refl
    go (Restart Saved) o = refl
    go (Restart Bare) o = refl
