use Rattle.std.proofs.Common.{ℕ, Some, List, ap, subst, sym, ◌≡◌, ◌∙◌}
use Rattle.raft_calls.specs.declared.message.Message.{Message}
use Rattle.raft_store.specs.declared.entry.Entry.{Entry}
use Rattle.raft_node.specs.Events.{aim_of, at_place, place_of, played}
use Rattle.raft_node.specs.MayKeep.{AllMayKeep, KeepsDuring}
use Rattle.raft_node.specs.Net.{Net, NodeView}
use Rattle.raft_node.specs.Runs.{whole_logs}
use Rattle.raft_node.proofs.Keeping.{aim_along}
use Rattle.raft_world.proofs.cluster.Cluster.apply.Goals as goal

pub play_at-requires-clause-keeps : goal.play_at-requires-clause-keeps
play_at-requires-clause-keeps g c =
    let aimed : aim_of c.self.inside.records.bag c.args.event.now.kind ≡ Some c.in-Some.aim =
    ap (λ (bag : List Message). aim_of bag c.args.event.now.kind) (sym c.messages.ensures)
    ∙ (sym c.in_ok-aim.ensures ∙ c.in-Some.is) in
    let placed : place_of c.self.inside.nodes.items c.in-Some.aim.id ≡ Some c.in-Some-place_of.place =
    ap (λ (nodes : List NodeView). place_of nodes c.in-Some.aim.id) (sym c.deref.ensures.value) ∙ (sym c.place_of.ensures ∙ c.in-Some-place_of.is) in
    let net : Net (List Entry) = record { nodes = c.self.inside.nodes.items; records = c.self.inside.records } in
    let keeps : KeepsDuring c.args.given.now c.args.event.now net = subst (KeepsDuring c.args.given.now c.args.event.now) (sym c.self.view_is) c.requires.keeps in
    subst
    (λ (net : Net (List Entry)). (k : ℕ) → AllMayKeep (at_place net c.in-Some-place_of.place (played whole_logs (λ _. k) c.args.given.now c.in-Some.aim.act c.args.event.now)).1)
    c.self.view_is (aim_along c.args.given.now c.args.event.now net c.in-Some.aim c.in-Some-place_of.place aimed placed keeps)
