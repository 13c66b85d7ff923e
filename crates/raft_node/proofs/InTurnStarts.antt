-- Where a node's queue is empty, an event's calls leave a queue in which each reply stands behind what it waits for.
use Rattle.std.specs.Prelude.{◌≡◌, ℕ, Bool, true, false, List, [], map, Option, None, Some, Err, refl}
use Rattle.std.specs.Ordering.{nat_cmp}
use Rattle.std.proofs.Common.{◌∙◌, sym, subst}
use Rattle.raft_error.specs.declared.error.EngineError.{EngineError}
use Rattle.raft_command.specs.declared.config.EngineConfig.{EngineConfig}
use Rattle.raft_steps.specs.Engine.{initialize}
use Rattle.raft_steps.specs.Parts.{on_core}
use Rattle.raft_steps.specs.Refusals.{refusals_of_counter_led, refusals_of_initialize, refusals_of_spent, refusals_of_trigger_snapshot}
use Rattle.raft_steps.specs.ReplicationHandler.{initiate_replication}
use Rattle.raft_steps.specs.SnapshotCalls.{finish_building_snapshot, trigger_purge_log}
use Rattle.raft_steps.specs.SnapshotHandler.{trigger_snapshot}
use Rattle.raft_steps.specs.Starts.{leader_step_down, refusals_of_step_down}
use Rattle.raft_steps.proofs.Allowed.{initiate_only}
use Rattle.raft_store.specs.declared.entry.Entry.{Entry}
use Rattle.raft_store.specs.Built.{meta_of}
use Rattle.raft_store.specs.Entries.{entry_meaning}
use Rattle.raft_store.specs.Types.{EngineView}
use Rattle.raft_schedule.specs.declared.event.Start.{Start}
use Rattle.raft_schedule.specs.declared.event.Start.TheVariants as starts
use Rattle.raft_node.specs.declared.act.Act.{Act}
use Rattle.raft_node.specs.declared.act.Act.TheVariants.{Initialize, Elect, Take, Propose, SendHeartbeat, Fail, TriggerSnapshot, FinishSnapshot, TriggerPurge, Restart, ChangeLearners, ChangeMembership, Read, StepDown, Stop}
use Rattle.raft_node.specs.declared.given.Given.{Given}
use Rattle.raft_calls.specs.Deliveries.{answered, deliver, with_machine}
use Rattle.raft_node.specs.Events.{calls_at, on_engine}
use Rattle.raft_calls.specs.Elections.{elected, first_entry, initialized}
use Rattle.raft_calls.specs.LeaderCalls.{failed, heartbeats_sent, inflight_to, proposed, read_asked, read_refusal, request_of, stepped_down, value_entry}
use Rattle.raft_calls.specs.Memberships.{groups_in, learners_changed, members_with, membership_changed, membership_entry}
use Rattle.raft_node.specs.Net.{NodeView}
use Rattle.raft_node.specs.Snapshots.{finish_snapshot, kept_built}
use Rattle.raft_calls.specs.Snapshots.{purge_triggered, snapshot_triggered, told_built}
use Rattle.raft_calls.specs.Starts.{begun_anew, resumed}
use Rattle.raft_node.specs.Starts.{engine_on, restart, started_with, unsaved}
use Rattle.raft_calls.proofs.InTurnCalls.{Unwaiting, unwaiting}
use Rattle.raft_calls.proofs.InTurnInstalls.{AllAwaited}
use Rattle.raft_node.proofs.InTurnQueue.{QueueAwaited}
use Rattle.raft_calls.proofs.InTurnStarts.{Leaves, plain_leaves, deliver_leaves}
use Rattle.raft_calls.proofs.Queues.{Answer, Plain, plain_self, call_plain, led_plain, entries_plain, entry_plain, progressed_plain, elected_plain, resumed_plain, begun_plain, finish-only, initialize-only, step_down-only, trigger_purge-only, trigger_snapshot-only}

-- an engine's queue is empty, if it runs
abbrev pub Rested : NodeView → Type 0
Rested n = (e : EngineView) → n.engine ≡ Some e → e.machine.core.output.items ≡ []

-- a node after a call
abbrev node_in : Option ℕ × NodeView → NodeView
node_in r = r.1

-- the calls of an act
on_engine_leaves : (f : EngineView → Answer) (n : NodeView) → Rested n → ((e : EngineView) → e.machine.core.output.items ≡ [] → Leaves (f e)) → QueueAwaited [] (on_engine f n).1.engine
on_engine_leaves f n r h = go n.engine refl
  where
    go : (o : Option EngineView) → n.engine ≡ o
        → QueueAwaited [] (node_in (elim o as (λ _. Option ℕ × NodeView) [ None ↦ (None, n) | Some e ↦ (let r = f e in (r.0, record n { engine = Some r.1 })) ])).engine
    go None q e is = let never : ◌≡◌ {A = Option EngineView} None (Some e) = sym q ∙ is in cc
    go (Some e) q x is = let same : (f e).1 ≡ x = cc in subst (λ (x : EngineView). AllAwaited [] x.machine.core.output.items) same (h e (r e q))

finish_leaves : (n : NodeView) → Rested n → QueueAwaited [] (finish_snapshot n).1.engine
finish_leaves n r = go n.engine refl
  where
    still : QueueAwaited [] n.engine
    still e is = subst (AllAwaited []) (sym (r e is)) tt

    told : (e : EngineView) → n.engine ≡ Some e → (es : List Entry) (o : Option (EngineError ℕ (Unit {0})))
        → QueueAwaited [] (node_in (kept_built es n (answered o e (with_machine e (finish_building_snapshot nat_cmp e.config (meta_of entry_meaning es) e.machine))))).engine
    told e q es None x is =
        let after : EngineView = with_machine e (finish_building_snapshot nat_cmp e.config (meta_of entry_meaning es) e.machine) in
        let same : after ≡ x = cc in
        subst (λ (x : EngineView). AllAwaited [] x.machine.core.output.items) same (plain_leaves e (None, after) (r e q) (finish-only Unwaiting unwaiting e.config (meta_of entry_meaning es) e.machine))
    told e q es (Some k) x is = still x is

    noted : (e : EngineView) → n.engine ≡ Some e → (o : Option (List Entry))
        → QueueAwaited [] (node_in (elim o as (λ _. Option ℕ × NodeView) [ None ↦ (None, n) | Some es ↦ kept_built es n (told_built es e) ])).engine
    noted e q None = still
    noted e q (Some es) = told e q es (refusals_of_spent e.machine)

    go : (o : Option EngineView) → n.engine ≡ o
        → QueueAwaited [] (node_in (elim o as (λ _. Option ℕ × NodeView) [ None ↦ (None, n) | Some e ↦ elim n.noted as (λ _. Option ℕ × NodeView) [ None ↦ (None, n) | Some es ↦ kept_built es n (told_built es e) ] ])).engine
    go None q = still
    go (Some e) q = noted e q n.noted

begins_leave : (f : EngineView → Answer) (settings : EngineConfig ℕ) (saved : Bool) (n : NodeView) → ((e : EngineView) → Plain Unwaiting unwaiting e (f e)) → QueueAwaited [] (started_with saved n (f (engine_on settings saved n))).1.engine
begins_leave f settings saved n h x is =
    let e : EngineView = engine_on settings saved n in
    let same : (f e).1 ≡ x = cc in
    subst (λ (x : EngineView). AllAwaited [] x.machine.core.output.items) same (plain_leaves e (f e) refl (h e))

restart_leaves : (given : Given) (start : Start) (n : NodeView) → QueueAwaited [] (restart given.settings start n).1.engine
restart_leaves given starts.Plain n = begins_leave resumed given.settings false n (resumed_plain Unwaiting unwaiting)
restart_leaves given starts.Saved n = begins_leave resumed given.settings true n (resumed_plain Unwaiting unwaiting)
restart_leaves given starts.Bare n = begins_leave (begun_anew n.moment) given.settings false (unsaved n) (begun_plain Unwaiting unwaiting n.moment)

pub calls_leave : (given : Given) (act : Act) (n : NodeView) → Rested n → QueueAwaited [] (calls_at given act n).1.engine
calls_leave given Initialize n r =
    on_engine_leaves (initialized given.membership n.moment) n r
    (λ e none. plain_leaves e (initialized given.membership n.moment e) none
    (call_plain Unwaiting unwaiting (refusals_of_initialize nat_cmp entry_meaning e.config 0 (first_entry given.membership) e.machine) e
    (with_machine e (initialize nat_cmp entry_meaning e.config 0 (first_entry given.membership) n.moment e.machine)) (initialize-only Unwaiting unwaiting e.config 0 (first_entry given.membership) n.moment e.machine)))
calls_leave given (Elect candidates) n r =
    on_engine_leaves (elected n.moment) n r
    (λ e none. plain_leaves e (elected n.moment e) none (elected_plain Unwaiting unwaiting n.moment e))
calls_leave given (Take m) n r = on_engine_leaves (deliver m.from m.body n.moment) n r (deliver_leaves m.from m.body n.moment)
calls_leave given (Propose values) n r =
    on_engine_leaves (proposed values) n r
    (λ e none. plain_leaves e (proposed values e) none (entries_plain Unwaiting unwaiting (map value_entry values) e))
calls_leave given SendHeartbeat n r =
    on_engine_leaves heartbeats_sent n r
    (λ e none. plain_leaves e (heartbeats_sent e) none (led_plain Unwaiting unwaiting refusals_of_counter_led (initiate_replication nat_cmp e.config true) e (initiate_only Unwaiting nat_cmp e.config unwaiting.leading true)))
calls_leave given (Fail target) n r =
    on_engine_leaves (failed target) n r (λ e none. plain_leaves e (failed target e) none (progressed_plain Unwaiting unwaiting target (request_of (inflight_to target e)) (Err tt) e))
calls_leave given TriggerSnapshot n r =
    on_engine_leaves snapshot_triggered n r
    (λ e none. plain_leaves e (snapshot_triggered e) none
    (call_plain Unwaiting unwaiting (refusals_of_trigger_snapshot e.machine.core) e (with_machine e (on_core trigger_snapshot e.machine)) (trigger_snapshot-only Unwaiting unwaiting e.config e.machine.core)))
calls_leave given FinishSnapshot n r = finish_leaves n r
calls_leave given (TriggerPurge i) n r =
    on_engine_leaves (purge_triggered i) n r
    (λ e none. plain_leaves e (purge_triggered i e) none
    (call_plain Unwaiting unwaiting (refusals_of_spent e.machine) e (with_machine e (trigger_purge_log nat_cmp i e.machine)) (trigger_purge-only Unwaiting unwaiting e.config i e.machine)))
calls_leave given (Restart start) n r = restart_leaves given start n
calls_leave given (ChangeLearners learners) n r =
    on_engine_leaves (learners_changed learners) n r (λ e none. plain_leaves e (learners_changed learners e) none (entry_plain Unwaiting unwaiting (membership_entry (members_with (groups_in e) learners)) e))
calls_leave given (ChangeMembership groups learners) n r =
    on_engine_leaves (membership_changed groups learners) n r
    (λ e none. plain_leaves e (membership_changed groups learners e) none (entry_plain Unwaiting unwaiting (membership_entry (members_with groups learners)) e))
calls_leave given Read n r = on_engine_leaves read_asked n r (λ e none. plain_leaves e (read_asked e) none (plain_self Unwaiting unwaiting (read_refusal e) e))
calls_leave given StepDown n r =
    on_engine_leaves stepped_down n r
    (λ e none. plain_leaves e (stepped_down e) none
    (call_plain Unwaiting unwaiting (refusals_of_step_down nat_cmp e.config e.machine) e (with_machine e (leader_step_down nat_cmp entry_meaning e.config e.machine)) (step_down-only Unwaiting unwaiting e.config e.machine)))
calls_leave given Stop n r = λ x is. cc

-- a node keeps its id
on_engine_id : (f : EngineView → Answer) (n : NodeView) → (on_engine f n).1.id ≡ n.id
on_engine_id f n = go n.engine
  where
    go : (o : Option EngineView) → (node_in (elim o as (λ _. Option ℕ × NodeView) [ None ↦ (None, n) | Some e ↦ (let r = f e in (r.0, record n { engine = Some r.1 })) ])).id ≡ n.id
    go None = refl
    go (Some e) = refl

finish_id : (n : NodeView) → (finish_snapshot n).1.id ≡ n.id
finish_id n = go n.engine n.noted
  where
    told : (es : List Entry) (e : EngineView) (o : Option (EngineError ℕ (Unit {0})))
        → (node_in (kept_built es n (answered o e (with_machine e (finish_building_snapshot nat_cmp e.config (meta_of entry_meaning es) e.machine))))).id ≡ n.id
    told es e None = refl
    told es e (Some k) = refl

    go : (o : Option EngineView) (p : Option (List Entry))
        → (node_in (elim o as (λ _. Option ℕ × NodeView) [ None ↦ (None, n) | Some e ↦ elim p as (λ _. Option ℕ × NodeView) [ None ↦ (None, n) | Some es ↦ kept_built es n (told_built es e) ] ])).id ≡ n.id
    go None p = refl
    go (Some e) None = refl
    go (Some e) (Some es) = told es e (refusals_of_spent e.machine)

pub calls_id : (given : Given) (act : Act) (n : NodeView) → (calls_at given act n).1.id ≡ n.id
calls_id given Initialize n = on_engine_id (initialized given.membership n.moment) n
calls_id given (Elect candidates) n = on_engine_id (elected n.moment) n
calls_id given (Take m) n = on_engine_id (deliver m.from m.body n.moment) n
calls_id given (Propose values) n = on_engine_id (proposed values) n
calls_id given SendHeartbeat n = on_engine_id heartbeats_sent n
calls_id given (Fail target) n = on_engine_id (failed target) n
calls_id given TriggerSnapshot n = on_engine_id snapshot_triggered n
calls_id given FinishSnapshot n = finish_id n
calls_id given (TriggerPurge i) n = on_engine_id (purge_triggered i) n
calls_id given (Restart starts.Plain) n = refl
calls_id given (Restart starts.Saved) n = refl
calls_id given (Restart starts.Bare) n = refl
calls_id given (ChangeLearners learners) n = on_engine_id (learners_changed learners) n
calls_id given (ChangeMembership groups learners) n = on_engine_id (membership_changed groups learners) n
calls_id given Read n = on_engine_id read_asked n
calls_id given StepDown n = on_engine_id stepped_down n
calls_id given Stop n = refl
