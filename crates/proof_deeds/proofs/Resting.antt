-- Between two events each node of a followed world is at rest: what it has noted fits its engine.
use Rattle.std.proofs.Common.{List, sym, subst, Option, None, Some, ◌≡◌}
use Rattle.std.specs.Prelude.{IfSome}
use Rattle.std.specs.Ordering.{nat_cmp}
use Rattle.std.proofs.lemmas.Cmp.{nat_cmp_total}
use Rattle.raft_node.specs.raft_state.Same.{nat_same}
use Rattle.std.proofs.lemmas.List.Elements.{All-from_recursion}
use Rattle.proof_agreement.specs.Machine.{Setup}
use Rattle.raft_node.specs.raft_store.declared.entry.Entry.{Entry}
use Rattle.raft_node.specs.raft_store.Entries.{entry_meaning}
use Rattle.raft_node.specs.raft_store.Types.{EngineView}
use Rattle.proof_mirror.proofs.Restarting.{restart_in_step}
use Rattle.raft_node.specs.raft_calls.Held.{AllHeld, IsRestingWhereRunning}
use Rattle.raft_node.specs.Held.{AllResting, IsAtRest}
use Rattle.raft_node.specs.Net.{NodeView, Records}
use Rattle.proof_deeds.specs.Chains.{Reached}
use Rattle.proof_deeds.specs.Images.{Ideal, images}
use Rattle.proof_deeds.specs.Nets.{EngineFollows, NodeFollows}
use Rattle.proof_deeds.proofs.Noted.{noted_fits, noted_within}
use Rattle.proof_deeds.proofs.Worlds.{each_on}
use Rattle.std.specs.List.{AllByRecursion}

module _ (s : Setup Entry) (W : Ideal) (reached : Reached s W) (rs : Records (List Entry)) where
  pub node_rests : (n : NodeView) → NodeFollows s W rs n → IsAtRest n
  node_rests n h = record {
    resting = go n.engine h.engine;
    noted = λ e es is q.
        let g : EngineFollows s n W e = subst (λ p. IfSome p (EngineFollows s n W)) is h.engine in
        let w : (W.store n.id).noted ≡ images es = subst (λ p. IfSome p (λ es. (W.store n.id).noted ≡ images es)) q h.rest.noted in
        record {
          fit = noted_fits s n.id n.store W e.machine.core.state h.store g.in_step g.sound.sound reached es w;
          committed = noted_within s n.id n.store W e.machine.core.state h.store g.in_step g.sound.sound reached es w;
        };
    starts = λ saved. (restart_in_step nat_cmp nat_cmp_total nat_same entry_meaning saved n.store h.shaped h.ordered).2;
  } where
    go : (o : Option EngineView) → IfSome o (EngineFollows s n W) → IsRestingWhereRunning o
    go None k = tt
    go (Some e) k = record { ready = record { sound = k.sound; held = subst (AllHeld e.machine.core.state.ids) (sym k.queue) tt }; queue = k.queue }

  pub nodes_rest : (ns : List NodeView) → AllByRecursion (NodeFollows s W rs) ns → AllResting ns
  nodes_rest ns h = All-from_recursion IsAtRest ns (each_on (NodeFollows s W rs) IsAtRest node_rests ns h)
