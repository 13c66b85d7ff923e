use Rattle.std.proofs.Common.{rules, ◌≡◌, ◌∙◌, sym, ap, false, true}
use Rattle.proof_packed.specs.Nodes.{packed_idle, packed_scene_of, packed_work_of}
use Rattle.raft_packed_node.specs.Effects.{scene}
use Rattle.raft_packed_node.proofs.Ready.{step_along}
use Rattle.raft_packed_node.proofs.Watched.{seen_idle, seen_next}
use Rattle.raft_packed_node.proofs.Worked.{falls-along, worked-along, worked-idle}
use Rattle.raft_packed_node.proofs.node.Node.drain.Goals as goal

pub queue-smaller : goal.queue-smaller
queue-smaller g c =
    let app = g.M.Machine.application in
    let turn = c.args.turn.now in
    let now = packed_work_of app c.queue.left (scene c.queue.self c.queue.records) in
    let busy : packed_idle app turn.turn turn.brought now ≡ false = search rules in
    falls-along app turn.turn turn.brought now (packed_work_of app c.advance.new.left (scene c.advance.new.self c.advance.new.records)) c.in_ok-advance.ensures.work busy

pub queue-preserved : goal.queue-preserved
queue-preserved g c =
    let app = g.M.Machine.application in
    let w = g.W.Watch in
    let turn = c.args.turn.now in
    let now = packed_work_of app c.queue.left (scene c.queue.self c.queue.records) in
    let busy : packed_idle app turn.turn turn.brought now ≡ false = search rules in
    record {
      id = c.in_ok-advance.ensures.id ∙ c.queue.invariant.id;
      moment = c.in_ok-advance.ensures.moment ∙ c.queue.invariant.moment;
      same = worked-along app turn.turn turn.brought now _ _ c.in_ok-advance.ensures.work busy c.queue.invariant.same;
      ready = step_along app turn.turn turn.brought now _ c.in_ok-advance.ensures.work c.queue.invariant.ready;
      watched = seen_next app turn.turn turn.brought w.sees now _ (w.seen c.queue.watch) (w.seen c.show_next.new.watch) c.in_ok-advance.ensures.work busy c.in_ok-show_next.ensures ∙ c.queue.invariant.watched;
    }

pub returns-clause-work : goal.returns-clause-work
returns-clause-work g c =
    let app = g.M.Machine.application in
    let turn = c.args.turn.now in
    let now = packed_work_of app c.queue.left (scene c.queue.self c.queue.records) in
    let done : packed_idle app turn.turn turn.brought now ≡ true = search rules in
    let here : scene c.queue.self c.queue.records ≡ packed_scene_of app c.args.self.now now =
    λ i. scene (record c.queue.self { id = c.queue.invariant.id i; moment = c.queue.invariant.moment i }) c.queue.records in
    here ∙ ap (packed_scene_of app c.args.self.now) (sym (worked-idle app turn.turn turn.brought now done) ∙ c.queue.invariant.same)

pub returns-clause-watched : goal.returns-clause-watched
returns-clause-watched g c =
    let app = g.M.Machine.application in
    let w = g.W.Watch in
    let turn = c.args.turn.now in
    let now = packed_work_of app c.queue.left (scene c.queue.self c.queue.records) in
    let done : packed_idle app turn.turn turn.brought now ≡ true = search rules in
    sym (seen_idle app turn.turn turn.brought w.sees now (w.seen c.queue.watch) done) ∙ c.queue.invariant.watched
