use Rattle.raft_steps.proofs.LawsCommit.{local_law}
use Rattle.raft_steps.proofs.laws.the_latest_is_committed.Goals as goal

pub returns : goal.returns
returns g c = λ config x l. local_law g.C.NodeId.Ord.cmp g.met.C.NodeId.Ord.total g.met.C.NodeId.NodeId.equal_is_same config x l
