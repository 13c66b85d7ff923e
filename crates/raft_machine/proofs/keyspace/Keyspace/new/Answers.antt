use Rattle.raft_machine.proofs.Spaces.{timely-empty}
use Rattle.raft_machine.proofs.keyspace.Keyspace.new.Goals as goal

pub invariant_of-result : goal.invariant_of-result
invariant_of-result c = rw c.new.ensures (timely-empty c.new-2.result 0)
