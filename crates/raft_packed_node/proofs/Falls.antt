-- Each executed command, with what its feed queues, leaves less to do.
use Rattle.std.specs.Prelude.{Bool, true, false, ◌≡◌, ◌<◌, ◌+◌, List, [], ◌∷◌, Option, Some, None, length, nat_eq, refl, if◌then◌else◌}
use Rattle.std.proofs.Common.{arith}
use Rattle.raft_command.specs.Queue.{popped}
use Rattle.raft_store.specs.Types.{EngineView, WorldCommand}
use Rattle.raft_calls.specs.Engines.{with_queue}
use Rattle.raft_calls.specs.Feeds.{feed, feed_of}
use Rattle.raft_calls.specs.Weights.{election, weight_of, weights}
use Rattle.raft_calls.proofs.Falls.{fed_low, weighs, whole_load}
use Rattle.raft_node.specs.declared.node.Turn.{Turn}
use Rattle.raft_node.specs.Work.{one_less, stops}
use Rattle.proof_packed.specs.Nodes.{PackedWork, node_exec, packed_done_of, packed_idle, packed_step_of, packed_stopped, packed_work_step}
use Rattle.proof_packed.specs.Stores.{Application, Packed}
use Rattle.raft_packed_node.specs.Effects.{weight}

module _ {S : Type 0} (app : Application S) (t : Turn) (brought : Packed S) where
  done-low : (w : PackedWork S) (e : EngineView) (c : WorldCommand) → weight (packed_done_of app t brought w e c) < weight_of c + whole_load e.machine
  done-low w e c = go (stops w.left)
    where
      go : (b : Bool) →
          weight {S = S} (if b then packed_stopped app t brought (node_exec app t brought e c w.effects)
          else record { engine = Some (feed t.moment c e); effects = node_exec app t brought e c w.effects; left = one_less w.left })
          < weight_of c + whole_load e.machine
      go true = omega (arith, weighs c)
      go false = omega (arith, fed_low t.moment (feed_of c) e, weighs c)

  step-low : (w : PackedWork S) (e : EngineView) (cs : List WorldCommand) → nat_eq (length cs) 0 ≡ false
      → weight (packed_step_of app t brought w e (popped (record e.machine.core.output { items = cs }))) < weights cs + election e.machine e.machine.candidate
  step-low w e [] h = absurd (cc)
  step-low w e (c ∷ cs) h = omega (arith, done-low w (with_queue e (record e.machine.core.output { items = cs })) c)

  -- each step leaves less
  pub falls : (w : PackedWork S) → packed_idle app t brought w ≡ false → weight (packed_work_step app t brought w) < weight w
  falls w h = go w.engine refl h
    where
      go : (o : Option EngineView) → w.engine ≡ o → packed_idle app t brought (record w { engine = o }) ≡ false → weight (packed_work_step app t brought w) < weight w
      go None q k = absurd (cc)
      go (Some e) q k = rw q (step-low (record w { engine = Some e }) e e.machine.core.output.items k)
