use Rattle.std.proofs.Common.{ap, arith, ℕ, ◌≡◌, ◌∙◌}
use Rattle.raft_node.specs.Events.{moment_of, requested}
use Rattle.proof_packed.specs.Nodes.{PackedNode, without_store}
use Rattle.raft_packed_node.specs.Effects.{brought_by, scene}
use Rattle.raft_packed_node.proofs.Along.{calls_along}
use Rattle.raft_packed_node.proofs.Turns.{played_along, watched_along}
use Rattle.raft_packed_node.proofs.node.Node.perform.Goals as goal

pub finish-requires : goal.finish-requires
finish-requires g c =
    let app = g.M.Machine.application in
    calls_along app c.args.given.now c.args.act.act c.max-moment.result c.args.self.now c.begin.new.self c.args.records.now c.begin.new.records
    c.in_ok-refusal.refusal c.in_ok-refusal.ensures.calls c.requires.taken c.requires.resting c.in_ok-refusal.ensures.may

pub returns-clause-watched : goal.returns-clause-watched
returns-clause-watched g c =
    let app = g.M.Machine.application in
    let w = g.W.Watch in
    let s = scene c.args.self.now c.args.records.now in
    let named : c.self.inside.id ≡ c.args.self.now.id = ap (λ (n : PackedNode g.row.M.Denot). n.id) c.self.view_is in
    let moment : c.self.inside.moment ≡ c.args.self.now.moment = ap (λ (n : PackedNode g.row.M.Denot). n.moment) c.self.view_is in
    let now : c.max-moment.result ≡ moment_of c.args.event.now (without_store app c.args.self.now) = omega (arith, moment, c.unwrap_or.ensures, c.max-moment.ensures) in
    watched_along app c.args.given.now c.args.act.act (brought_by app c.args.act.snapshot) c.args.event.now s c.requires.taken
    c.new-turn.result.turn c.new-turn.result.brought c.max-moment.result (c.in_ok-refusal.refusal, scene c.begin.new.self c.begin.new.records)
    (c.new-turn.ensures.turn ∙ ap (λ (id : ℕ). record { id = id; moment = c.max-moment.result; request = requested c.args.act.act }) named)
    c.new-turn.ensures.brought now c.in_ok-refusal.ensures.calls
    w.sees (w.seen c.args.watch.now) (w.seen c.finish.new.watch) c.finish.result c.finish.ensures.watched

pub returns-clause-does : goal.returns-clause-does
returns-clause-does g c =
    let app = g.M.Machine.application in
    let s = scene c.args.self.now c.args.records.now in
    let named : c.self.inside.id ≡ c.args.self.now.id = ap (λ (n : PackedNode g.row.M.Denot). n.id) c.self.view_is in
    let moment : c.self.inside.moment ≡ c.args.self.now.moment = ap (λ (n : PackedNode g.row.M.Denot). n.moment) c.self.view_is in
    let now : c.max-moment.result ≡ moment_of c.args.event.now (without_store app c.args.self.now) = omega (arith, moment, c.unwrap_or.ensures, c.max-moment.ensures) in
    played_along app c.args.given.now c.args.act.act (brought_by app c.args.act.snapshot) c.args.event.now s c.requires.taken
    c.new-turn.result.turn c.new-turn.result.brought c.max-moment.result (c.in_ok-refusal.refusal, scene c.begin.new.self c.begin.new.records)
    (c.new-turn.ensures.turn ∙ ap (λ (id : ℕ). record { id = id; moment = c.max-moment.result; request = requested c.args.act.act }) named)
    c.new-turn.ensures.brought now c.in_ok-refusal.ensures.calls
    c.finish.result (scene c.finish.new.self c.finish.new.records) c.finish.ensures.does
