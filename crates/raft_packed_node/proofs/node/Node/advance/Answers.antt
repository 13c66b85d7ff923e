use Rattle.std.proofs.Common.{None, Option, Some, ap, refl, subst, sym, ℕ, ◌≡◌, ◌∙◌}
use Rattle.std.specs.Option.{option_copied_mut, option_map}
use Rattle.raft_command.specs.Queue.{Queue, popped}
use Rattle.raft_store.specs.Types.{EngineView, WorldCommand}
use Rattle.raft_calls.specs.Engines.{WorldEngine, view_of, with_queue}
use Rattle.raft_calls.specs.Held.{Held, IsReady, IsReadyWhereRunning}
use Rattle.raft_calls.proofs.Ready.{pop_held, pop_ready}
use Rattle.raft_node.specs.declared.node.Turn.{Turn}
use Rattle.raft_node.specs.Net.{no_streams}
use Rattle.proof_packed.specs.Nodes.{PackedNode, PackedWork, packed_done_of, packed_step_of, packed_work_of, packed_work_step}
use Rattle.proof_packed.specs.Stores.{Application, Packed}
use Rattle.raft_packed.specs.Kept.{NotedStore}
use Rattle.raft_packed_node.specs.declared.node.Running.{Running}
use Rattle.raft_packed_node.specs.Effects.{scene}
use Rattle.raft_packed_node.proofs.Queued.{unpopped}
use Rattle.raft_packed_node.proofs.node.Node.advance.Goals as goal

-- a node that runs so
abbrev node_of : {S : Type 0} → ℕ → NotedStore S → ℕ → Option Running → PackedNode S
node_of id store moment running = record {
  id = id;
  store = store.store;
  engine = option_map (λ r. view_of r.engine) running;
  streams = elim running [ None ↦ no_streams | Some r ↦ r.streams ];
  noted = elim running [ None ↦ None | Some r ↦ store.noted ];
  moment = moment;
}

-- a step without a command does nothing
unstepped : {S : Type 0} (app : Application S) (t : Turn) (b : Packed S) (w : PackedWork S) (e : EngineView) → w.engine ≡ Some e → (popped e.machine.core.output).0 ≡ None → packed_work_step app t b w ≡ w
unstepped {S = S} app t b w e runs none =
    ap (λ (o : Option EngineView). elim o as (λ _. PackedWork S) [ None ↦ w | Some e ↦ packed_step_of app t b w e (popped e.machine.core.output) ]) runs
    ∙ ap (λ (o : Option WorldCommand). elim o as (λ _. PackedWork S) [ None ↦ w | Some c ↦ packed_done_of app t b w (with_queue e (popped e.machine.core.output).1) c ]) none

pub returns-in_default-pop_command-clause-work : goal.returns-in_default-pop_command-clause-work
returns-in_default-pop_command-clause-work g c =
    let app = g.M.Machine.application in
    let turn = c.args.turn.now in
    let n = node_of c.self.inside.id c.self.inside.store c.self.inside.moment in
    let running = c.in-Some.running.now in
    let runs : c.args.self.now ≡ n (Some running) = sym c.self.view_is ∙ ap n (sym c.as_mut.ensures.value ∙ ap option_copied_mut c.in-Some.is) in
    let none : (popped running.engine.output).0 ≡ None = sym c.pop_command.ensures.first ∙ c.in_default-pop_command.is in
    let stays : c.pop_command.new.self ≡ running.engine.output =
    unpopped running.engine.output c.pop_command.new.self c.pop_command.result c.pop_command.ensures.first c.pop_command.ensures.rest c.in_default-pop_command.is in
    ap (λ (q : Queue WorldCommand). packed_work_of app c.args.left.now (scene (n (Some (record running { engine = record running.engine { output = q } }))) c.args.records.now)) stays
    ∙ sym (ap (λ (m : PackedNode g.row.M.Denot). packed_work_step app turn.turn turn.brought (packed_work_of app c.args.left.now (scene m c.args.records.now))) runs
    ∙ unstepped app turn.turn turn.brought (packed_work_of app c.args.left.now (scene (n (Some running)) c.args.records.now)) (view_of running.engine) refl none)

pub feed_engine-requires-clause-ready : goal.feed_engine-requires-clause-ready
feed_engine-requires-clause-ready g c =
    let n = node_of c.self.inside.id c.self.inside.store c.self.inside.moment in
    let running = c.in-Some.running.now in
    let runs : c.args.self.now ≡ n (Some running) = sym c.self.view_is ∙ ap n (sym c.as_mut.ensures.value ∙ ap option_copied_mut c.in-Some.is) in
    let ready : IsReady (view_of running.engine) = subst (λ (m : PackedNode g.row.M.Denot). IsReadyWhereRunning m.engine) runs c.requires in
    subst (λ (e : WorldEngine). IsReady (view_of e)) (sym c.in_ok-execute.ensures.engine)
    (pop_ready (view_of running.engine) c.pop_command.result c.pop_command.new.self c.in-Some-pop_command.command
    c.pop_command.ensures.first c.pop_command.ensures.rest c.in-Some-pop_command.is ready)

pub feed_engine-requires-clause-held : goal.feed_engine-requires-clause-held
feed_engine-requires-clause-held g c =
    let n = node_of c.self.inside.id c.self.inside.store c.self.inside.moment in
    let running = c.in-Some.running.now in
    let runs : c.args.self.now ≡ n (Some running) = sym c.self.view_is ∙ ap n (sym c.as_mut.ensures.value ∙ ap option_copied_mut c.in-Some.is) in
    let ready : IsReady (view_of running.engine) = subst (λ (m : PackedNode g.row.M.Denot). IsReadyWhereRunning m.engine) runs c.requires in
    subst (λ (e : WorldEngine). Held e.state.ids c.feed_of-feed.result) (sym c.in_ok-execute.ensures.engine)
    (subst (Held running.engine.state.ids) (sym c.feed_of-feed.ensures)
    (pop_held (view_of running.engine) c.pop_command.result c.pop_command.new.self c.in-Some-pop_command.command
    c.pop_command.ensures.first c.pop_command.ensures.rest c.in-Some-pop_command.is ready))
