use Rattle.std.proofs.Common.{ℕ, List, arith, rules, subst, sym}
use Rattle.raft_store.specs.declared.entry.Entry.{Entry}
use Rattle.raft_node.specs.Events.{at_place, played}
use Rattle.raft_node.specs.Held.{AllResting}
use Rattle.raft_node.specs.MayKeep.{AllMayKeep}
use Rattle.raft_node.specs.Net.{Net}
use Rattle.raft_node.specs.Runs.{whole_logs}
use Rattle.raft_node.proofs.Along.{item_along}
use Rattle.raft_node.proofs.Keeping.{place_along}
use Rattle.raft_world.proofs.cluster.Cluster.play_at.Goals as goal

pub play-requires-clause-resting : goal.play-requires-clause-resting
play-requires-clause-resting g c =
    let resting = subst (λ (net : Net (List Entry)). AllResting net.nodes) (sym c.self.view_is) c.requires.resting in
    first_of (search (rules, item_along, resting), grind (arith, item_along, resting))

pub play-requires-clause-keeps : goal.play-requires-clause-keeps
play-requires-clause-keeps g c =
    let keeps =
    subst
    (λ (net : Net (List Entry)). (n : ℕ) → AllMayKeep (at_place net c.args.place (played whole_logs (λ _. n) c.args.given.now c.args.act c.args.event.now)).1)
    (sym c.self.view_is) c.requires.keeps in
    first_of (search (rules, place_along, keeps), grind (arith, place_along, keeps))
