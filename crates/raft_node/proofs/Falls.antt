-- Each executed command, with what its feed queues, leaves less to do.
use Rattle.std.specs.Prelude.{Bool, true, false, ◌≡◌, ◌<◌, ◌+◌, List, [], ◌∷◌, Option, Some, None, length, nat_eq, refl, if◌then◌else◌}
use Rattle.std.proofs.Common.{arith}
use Rattle.raft_node.specs.declared.node.Turn.{Turn}
use Rattle.raft_node.specs.Execute.{exec}
use Rattle.raft_calls.specs.Feeds.{feed, feed_of}
use Rattle.raft_command.specs.Queue.{popped}
use Rattle.raft_node.specs.Work.{Work, work_step, step_of, done_of, stops, one_less, stopped, weight, idle}
use Rattle.raft_calls.specs.Engines.{with_queue}
use Rattle.raft_calls.specs.Weights.{weights, weight_of, election}
use Rattle.raft_store.specs.declared.entry.Entry.{Entry}
use Rattle.raft_store.specs.Types.{WorldCommand, EngineView}
use Rattle.raft_calls.proofs.Falls.{whole_load, fed_low, weighs}

module _ {L : Type 0} (keep : List Entry → L) (t : Turn) where
  done-low : (w : Work L) (e : EngineView) (c : WorldCommand) → weight (done_of keep t w e c) < weight_of c + whole_load e.machine
  done-low w e c = go (stops w.left)
    where
      go : (b : Bool) →
          weight (if b then stopped (exec keep t e c w.effects) else record { engine = Some (feed t.moment c e); effects = exec keep t e c w.effects; left = one_less w.left })
          < weight_of c + whole_load e.machine
      go true = omega (arith, weighs c)
      go false = omega (arith, fed_low t.moment (feed_of c) e, weighs c)

  step-low : (w : Work L) (e : EngineView) (cs : List WorldCommand) → nat_eq (length cs) 0 ≡ false
      → weight (step_of keep t w e (popped (record e.machine.core.output { items = cs }))) < weights cs + election e.machine e.machine.candidate
  step-low w e [] h = absurd (cc)
  step-low w e (c ∷ cs) h = omega (arith, done-low w (with_queue e (record e.machine.core.output { items = cs })) c)

  -- each step leaves less
  pub falls : (w : Work L) → idle w ≡ false → weight (work_step keep t w) < weight w
  falls w h = go w.engine refl
    where
      go : (o : Option EngineView) → w.engine ≡ o → weight (work_step keep t w) < weight w
      go None q = let never : true ≡ false = rw q at h in absurd (cc)
      go (Some e) q =
          let some : nat_eq (length e.machine.core.output.items) 0 ≡ false = rw q at h in
          rw q (step-low (record w { engine = Some e }) e e.machine.core.output.items some)
