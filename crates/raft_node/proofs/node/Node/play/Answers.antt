use Rattle.raft_node.proofs.Ready.{may_call}
use Rattle.raft_node.proofs.node.Node.play.Goals as goal

pub perform-requires-clause-may : goal.perform-requires-clause-may
perform-requires-clause-may g c = may_call c.args.act c.args.self.now c.requires.resting
