use Rattle.std.specs.VecDeque.Iter.{deque_iter_rest}
use Rattle.raft_command.proofs.Walk.{yields}
use Rattle.raft_command.proofs.output.CommandIterIterator.next.Goals as goal

pub returns-clause-steps : goal.returns-clause-steps
returns-clause-steps g c = yields deque_iter_rest c.next.result c.args.self.now.inner c.next.new.self c.next.ensures.steps
