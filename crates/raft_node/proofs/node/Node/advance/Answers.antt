use Rattle.std.proofs.Common.{List, [], ◌∷◌, None, Option, Some, ap, refl, subst, sym, ℕ, ◌≡◌, ◌∙◌}
use Rattle.std.specs.Option.{option_copied_mut, option_map}
use Rattle.raft_command.specs.Queue.{Queue, popped}
use Rattle.raft_store.specs.declared.entry.Entry.{Entry}
use Rattle.raft_store.specs.Ring.{CanStore}
use Rattle.raft_store.specs.Types.{EngineView, WorldCommand, WorldStore}
use Rattle.raft_calls.specs.Engines.{WorldEngine, view_of, with_queue}
use Rattle.raft_calls.specs.Held.{Held, IsReady, IsReadyWhereRunning}
use Rattle.raft_calls.proofs.Ready.{pop_held, pop_ready}
use Rattle.raft_node.specs.declared.node.Running.{Running}
use Rattle.raft_node.specs.declared.node.Turn.{Turn}
use Rattle.raft_node.specs.Events.{scene, work_of}
use Rattle.raft_node.specs.MayKeep.{CanStoreFirst, CanStoreNext}
use Rattle.raft_node.specs.Net.{NodeView, no_streams}
use Rattle.raft_node.specs.Runs.{whole_logs}
use Rattle.raft_node.specs.Safety.{RecordsGrow}
use Rattle.raft_node.specs.Work.{Work, done_of, step_of, work_step}
use Rattle.raft_node.proofs.Keeping.{step_told}
use Rattle.raft_node.proofs.node.Node.advance.Goals as goal

-- a node that runs so
abbrev node_of : ℕ → WorldStore → ℕ → Option Running → NodeView
node_of id store moment running = record {
  id = id;
  store = store;
  engine = option_map (λ (r : Running). view_of r.engine) running;
  streams = elim running [ None ↦ no_streams | Some r ↦ r.streams ];
  noted = elim running [ None ↦ None | Some r ↦ r.noted ];
  moment = moment;
}

-- a queue from which nothing is popped stays
unpopped : (q p : Queue WorldCommand) (r : Option WorldCommand) → r ≡ (popped q).0 → p ≡ (popped q).1 → r ≡ None → p ≡ q
unpopped q p r first rest none = go q.items first rest
  where
    go : (cs : List WorldCommand) → r ≡ (popped (record q { items = cs })).0 → p ≡ (popped (record q { items = cs })).1 → p ≡ record q { items = cs }
    go [] f s = s
    go (x ∷ xs) f s = cc

-- and the step does nothing
unstepped : {L : Type 0} (keep : List Entry → L) (t : Turn) (w : Work L) (e : EngineView) → w.engine ≡ Some e → (popped e.machine.core.output).0 ≡ None → work_step keep t w ≡ w
unstepped {L = L} keep t w e runs none =
    ap (λ (o : Option EngineView). elim o as (λ _. Work L) [ None ↦ w | Some e ↦ step_of keep t w e (popped e.machine.core.output) ]) runs
    ∙ ap (λ (o : Option WorldCommand). elim o as (λ _. Work L) [ None ↦ w | Some c ↦ done_of keep t w (with_queue e (popped e.machine.core.output).1) c ]) none

-- what can be stored first is what is popped
first_stored : (t : WorldStore) (q : Queue WorldCommand) (c : WorldCommand) → CanStoreFirst t q.items → Some c ≡ (popped q).0 → CanStore c t
first_stored t q c h first = go q.items h first
  where
    go : (cs : List WorldCommand) → CanStoreFirst t cs → Some c ≡ (popped (record q { items = cs })).0 → CanStore c t
    go [] h f = cc
    go (x ∷ xs) h f = let same : x ≡ c = cc in subst (λ (d : WorldCommand). CanStore d t) same h

pub execute-requires-clause-grows : goal.execute-requires-clause-grows
execute-requires-clause-grows c =
    let n = node_of c.self.inside.id c.self.inside.store c.self.inside.moment in
    let runs : c.args.self.now ≡ n (Some c.in-Some.running.now) = sym c.self.view_is ∙ ap n (sym c.as_mut.ensures.value ∙ ap option_copied_mut c.in-Some.is) in
    step_told whole_logs RecordsGrow c.args.turn.now (work_of c.args.left.now (scene (n (Some c.in-Some.running.now)) c.args.records.now))
    (view_of c.in-Some.running.now.engine) c.pop_command.result c.pop_command.new.self c.in-Some-pop_command.command
    refl c.pop_command.ensures.first c.pop_command.ensures.rest c.in-Some-pop_command.is
    (subst (λ (m : NodeView). RecordsGrow (work_step whole_logs c.args.turn.now (work_of c.args.left.now (scene m c.args.records.now))).effects.records) runs c.requires.grows)

pub returns-in_default-pop_command-clause-work : goal.returns-in_default-pop_command-clause-work
returns-in_default-pop_command-clause-work c =
    let n = node_of c.self.inside.id c.self.inside.store c.self.inside.moment in
    let running : Running = c.in-Some.running.now in
    let runs : c.args.self.now ≡ n (Some running) = sym c.self.view_is ∙ ap n (sym c.as_mut.ensures.value ∙ ap option_copied_mut c.in-Some.is) in
    let none : (popped running.engine.output).0 ≡ None = sym c.pop_command.ensures.first ∙ c.in_default-pop_command.is in
    let stays : c.pop_command.new.self ≡ running.engine.output =
    unpopped running.engine.output c.pop_command.new.self c.pop_command.result c.pop_command.ensures.first c.pop_command.ensures.rest c.in_default-pop_command.is in
    ap (λ (q : Queue WorldCommand). work_of c.args.left.now (scene (n (Some (record running { engine = record running.engine { output = q } }))) c.args.records.now)) stays
    ∙ sym (ap (λ (m : NodeView). work_step whole_logs c.args.turn.now (work_of c.args.left.now (scene m c.args.records.now))) runs
    ∙ unstepped whole_logs c.args.turn.now (work_of c.args.left.now (scene (n (Some running)) c.args.records.now)) (view_of running.engine) refl none)

pub execute-requires-clause-fits : goal.execute-requires-clause-fits
execute-requires-clause-fits c =
    let n = node_of c.self.inside.id c.self.inside.store c.self.inside.moment in
    let running : Running = c.in-Some.running.now in
    let runs : c.args.self.now ≡ n (Some running) = sym c.self.view_is ∙ ap n (sym c.as_mut.ensures.value ∙ ap option_copied_mut c.in-Some.is) in
    let next : CanStoreNext (Some (view_of running.engine)) c.self.inside.store = subst (λ (m : NodeView). CanStoreNext m.engine m.store) runs c.requires.next in
    first_stored c.self.inside.store running.engine.output c.in-Some-pop_command.command next (sym c.in-Some-pop_command.is ∙ c.pop_command.ensures.first)

pub feed_engine-requires-clause-ready : goal.feed_engine-requires-clause-ready
feed_engine-requires-clause-ready c =
    let n = node_of c.self.inside.id c.self.inside.store c.self.inside.moment in
    let running : Running = c.in-Some.running.now in
    let runs : c.args.self.now ≡ n (Some running) = sym c.self.view_is ∙ ap n (sym c.as_mut.ensures.value ∙ ap option_copied_mut c.in-Some.is) in
    let ready : IsReady (view_of running.engine) = subst (λ (m : NodeView). IsReadyWhereRunning m.engine) runs c.requires.ready in
    subst (λ (e : WorldEngine). IsReady (view_of e)) (sym c.in_ok-execute.ensures.engine)
    (pop_ready (view_of running.engine) c.pop_command.result c.pop_command.new.self c.in-Some-pop_command.command
    c.pop_command.ensures.first c.pop_command.ensures.rest c.in-Some-pop_command.is ready)

pub feed_engine-requires-clause-held : goal.feed_engine-requires-clause-held
feed_engine-requires-clause-held c =
    let n = node_of c.self.inside.id c.self.inside.store c.self.inside.moment in
    let running : Running = c.in-Some.running.now in
    let runs : c.args.self.now ≡ n (Some running) = sym c.self.view_is ∙ ap n (sym c.as_mut.ensures.value ∙ ap option_copied_mut c.in-Some.is) in
    let ready : IsReady (view_of running.engine) = subst (λ (m : NodeView). IsReadyWhereRunning m.engine) runs c.requires.ready in
    subst (λ (e : WorldEngine). Held e.state.ids c.feed_of-feed.result) (sym c.in_ok-execute.ensures.engine)
    (subst (Held running.engine.state.ids) (sym c.feed_of-feed.ensures)
    (pop_held (view_of running.engine) c.pop_command.result c.pop_command.new.self c.in-Some-pop_command.command
    c.pop_command.ensures.first c.pop_command.ensures.rest c.in-Some-pop_command.is ready))
