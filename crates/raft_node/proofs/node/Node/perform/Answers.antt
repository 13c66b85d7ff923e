use Rattle.std.proofs.Common.{ap, arith, ◌≡◌}
use Rattle.raft_node.specs.Events.{moment_of, scene}
use Rattle.raft_node.specs.MayKeep.{KeepsAlong, MayKeep}
use Rattle.raft_node.specs.Net.{NodeView}
use Rattle.raft_node.specs.Runs.{whole_logs}
use Rattle.raft_node.proofs.Along.{calls_along}
use Rattle.raft_node.proofs.Keeping.{through_along, turn_along}
use Rattle.raft_node.proofs.Watched.{watched_along}
use Rattle.raft_node.proofs.node.Node.perform.Goals as goal

pub finish-requires-clause-ready : goal.finish-requires-clause-ready
finish-requires-clause-ready g c =
    calls_along c.args.given.now c.args.act c.max-moment.result c.args.self.now c.begin.new.self c.args.records.now c.begin.new.records
    c.in_ok-refusal.refusal c.in_ok-refusal.ensures c.requires.taken c.requires.resting c.requires.may

pub finish-requires-clause-keeps : goal.finish-requires-clause-keeps
finish-requires-clause-keeps g c =
    let s = scene c.args.self.now c.args.records.now in
    let moment : c.self.inside.moment ≡ c.args.self.now.moment = ap (λ (n : NodeView). n.moment) c.self.view_is in
    let now : c.max-moment.result ≡ moment_of c.args.event.now c.args.self.now = omega (arith, moment, c.unwrap_or.ensures, c.max-moment.ensures) in
    turn_along whole_logs c.args.given.now c.args.act c.args.event.now s KeepsAlong
    c.self.inside.id c.max-moment.result c.requested.result (c.in_ok-refusal.refusal, scene c.begin.new.self c.begin.new.records)
    (ap (λ (n : NodeView). n.id) c.self.view_is) now c.requested.ensures c.in_ok-refusal.ensures
    (through_along whole_logs c.args.given.now c.args.act c.args.event.now s (λ u. MayKeep u.node.engine u.node.store u.records) c.requires.taken c.requires.keeps)

pub returns-clause-watched : goal.returns-clause-watched
returns-clause-watched g c =
    let w = g.W.Watch in
    let s = scene c.args.self.now c.args.records.now in
    let moment : c.self.inside.moment ≡ c.args.self.now.moment = ap (λ (n : NodeView). n.moment) c.self.view_is in
    let now : c.max-moment.result ≡ moment_of c.args.event.now c.args.self.now = omega (arith, moment, c.unwrap_or.ensures, c.max-moment.ensures) in
    watched_along whole_logs c.args.given.now c.args.act c.args.event.now s w.sees (w.seen c.args.watch.now) (w.seen c.finish.new.watch)
    c.self.inside.id c.max-moment.result c.requested.result (c.in_ok-refusal.refusal, scene c.begin.new.self c.begin.new.records)
    (ap (λ (n : NodeView). n.id) c.self.view_is) now c.requested.ensures c.in_ok-refusal.ensures c.requires.taken
    c.finish.result c.finish.ensures.watched
