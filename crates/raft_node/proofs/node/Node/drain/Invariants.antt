use Rattle.std.proofs.Common.{◌≡◌}
use Rattle.std.specs.List.{fold}
use Rattle.raft_node.specs.Commands.{all_executed}
use Rattle.raft_node.specs.Events.{scene, work_of}
use Rattle.raft_node.specs.MayKeep.{KeepsAlong}
use Rattle.raft_node.specs.Runs.{whole_logs}
use Rattle.raft_node.specs.Work.{weight, worked}
use Rattle.raft_calls.specs.Held.{IsReadyWhereRunning}
use Rattle.raft_calls.specs.Weights.{weight_at}
use Rattle.raft_node.proofs.node.Node.drain.Given as goal

-- what is left to do gives what all of it gives, and what was seen, with what will be, is all of it; the node has its id and
-- its moment, its engine is ready, and what comes can be stored and recorded
abbrev pub invariant-queue : goal.invariant-queue
invariant-queue g l =
    let w = g.W.Watch in
    let all = work_of l.initial.left (scene l.initial.self l.initial.records) in
    let now = work_of l.left (scene l.self l.records) in
    record {
      id : l.self.id ≡ l.initial.self.id;
      moment : l.self.moment ≡ l.initial.self.moment;
      same : worked whole_logs (weight now) l.turn now ≡ worked whole_logs (weight all) l.turn all;
      ready : IsReadyWhereRunning l.self.engine;
      keeps : KeepsAlong l.turn now;
      watched : fold w.sees (w.seen l.watch) (all_executed whole_logs l.turn now) ≡ fold w.sees (w.seen l.initial.watch) (all_executed whole_logs l.turn all);
    }

abbrev pub decreases-queue : goal.decreases-queue
decreases-queue g l = weight_at l.self.engine
