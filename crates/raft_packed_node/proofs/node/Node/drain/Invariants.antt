use Rattle.std.proofs.Common.{◌≡◌}
use Rattle.std.specs.List.{fold}
use Rattle.raft_calls.specs.Held.{IsReadyWhereRunning}
use Rattle.raft_calls.specs.Weights.{weight_at}
use Rattle.proof_packed.specs.Nodes.{packed_work_of}
use Rattle.raft_packed_node.specs.Effects.{all_executed, scene}
use Rattle.raft_packed_node.proofs.Worked.{all_worked}
use Rattle.raft_packed_node.proofs.node.Node.drain.Given as goal

-- what is left to do gives what all of it gives, and what was seen, with what will be, is all of it; the node has its id and
-- its moment, and its engine is ready
abbrev pub invariant-queue : goal.invariant-queue
invariant-queue g l =
    let app = g.M.Machine.application in
    let w = g.W.Watch in
    let all = packed_work_of app l.initial.left (scene l.initial.self l.initial.records) in
    let now = packed_work_of app l.left (scene l.self l.records) in
    record {
      id : l.self.id ≡ l.initial.self.id;
      moment : l.self.moment ≡ l.initial.self.moment;
      same : all_worked app l.turn.turn l.turn.brought now ≡ all_worked app l.turn.turn l.turn.brought all;
      ready : IsReadyWhereRunning l.self.engine;
      watched : fold w.sees (w.seen l.watch) (all_executed app l.turn.turn l.turn.brought now)
          ≡ fold w.sees (w.seen l.initial.watch) (all_executed app l.turn.turn l.turn.brought all);
    }

abbrev pub decreases-queue : goal.decreases-queue
decreases-queue g l = weight_at l.self.engine
