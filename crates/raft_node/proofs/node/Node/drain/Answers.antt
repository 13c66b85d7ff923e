use Rattle.std.proofs.Common.{rules, ◌≡◌, ◌∙◌, List, sym, ap, false, true}
use Rattle.raft_store.specs.declared.entry.Entry.{Entry}
use Rattle.raft_node.specs.Events.{scene, scene_of, work_of}
use Rattle.raft_node.specs.MayKeep.{MayKeep}
use Rattle.raft_node.specs.Runs.{whole_logs}
use Rattle.raft_node.specs.Work.{Work, work_step, idle}
use Rattle.raft_node.proofs.Keeping.{at_once, later, later_along}
use Rattle.raft_node.proofs.Ready.{step_along}
use Rattle.raft_node.proofs.Watched.{seen_idle, seen_next}
use Rattle.raft_node.proofs.Worked.{falls-along, worked-along, worked-idle}
use Rattle.raft_node.proofs.node.Node.drain.Goals as goal

abbrev keeps : Work (List Entry) → Type 0
keeps w = MayKeep w.engine w.effects.store w.effects.records

pub queue-smaller : goal.queue-smaller
queue-smaller g c =
    let now = work_of c.queue.left (scene c.queue.self c.queue.records) in
    let busy : idle now ≡ false = search rules in
    falls-along whole_logs c.args.turn.now now (work_of c.advance.new.left (scene c.advance.new.self c.advance.new.records)) c.in_ok-advance.ensures.work busy

pub queue-preserved : goal.queue-preserved
queue-preserved g c =
    let w = g.W.Watch in
    let now = work_of c.queue.left (scene c.queue.self c.queue.records) in
    let busy : idle now ≡ false = search rules in
    record {
      id = c.in_ok-advance.ensures.id ∙ c.queue.invariant.id;
      moment = c.in_ok-advance.ensures.moment ∙ c.queue.invariant.moment;
      same = worked-along whole_logs c.args.turn.now now _ _ c.in_ok-advance.ensures.work busy c.queue.invariant.same;
      ready = step_along whole_logs c.args.turn.now now _ c.in_ok-advance.ensures.work c.queue.invariant.ready;
      keeps = later_along whole_logs c.args.turn.now keeps now _ c.in_ok-advance.ensures.work busy c.queue.invariant.keeps;
      watched = seen_next whole_logs c.args.turn.now w.sees now _ (w.seen c.queue.watch) (w.seen c.show_next.new.watch) c.in_ok-advance.ensures.work busy c.in_ok-show_next.ensures ∙ c.queue.invariant.watched;
    }

pub returns-clause-work : goal.returns-clause-work
returns-clause-work g c =
    let now = work_of c.queue.left (scene c.queue.self c.queue.records) in
    let done : idle now ≡ true = search rules in
    let here : scene c.queue.self c.queue.records ≡ scene_of c.args.self.now now =
    λ i. scene (record c.queue.self { id = c.queue.invariant.id i; moment = c.queue.invariant.moment i }) c.queue.records in
    here ∙ ap (scene_of c.args.self.now) (sym (worked-idle whole_logs c.args.turn.now now done) ∙ c.queue.invariant.same)

pub returns-clause-watched : goal.returns-clause-watched
returns-clause-watched g c =
    let w = g.W.Watch in
    let now = work_of c.queue.left (scene c.queue.self c.queue.records) in
    let done : idle now ≡ true = search rules in
    sym (seen_idle whole_logs c.args.turn.now w.sees now (w.seen c.queue.watch) done) ∙ c.queue.invariant.watched

pub advance-requires-clause-gapless : goal.advance-requires-clause-gapless
advance-requires-clause-gapless g c =
    let now = work_of c.queue.left (scene c.queue.self c.queue.records) in
    (at_once whole_logs c.args.turn.now keeps now c.queue.invariant.keeps).gapless

pub advance-requires-clause-next : goal.advance-requires-clause-next
advance-requires-clause-next g c =
    let now = work_of c.queue.left (scene c.queue.self c.queue.records) in
    (at_once whole_logs c.args.turn.now keeps now c.queue.invariant.keeps).next

pub advance-requires-clause-grows : goal.advance-requires-clause-grows
advance-requires-clause-grows g c =
    let now = work_of c.queue.left (scene c.queue.self c.queue.records) in
    let busy : idle now ≡ false = search rules in
    (at_once whole_logs c.args.turn.now keeps (work_step whole_logs c.args.turn.now now) (later whole_logs c.args.turn.now keeps now busy c.queue.invariant.keeps)).grows
