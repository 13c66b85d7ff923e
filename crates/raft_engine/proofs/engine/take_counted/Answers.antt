use Rattle.raft_steps.specs.Parts.{machine_of}
use Rattle.raft_steps.proofs.Led.{grant_of}
use Rattle.raft_engine.proofs.engine.take_counted.Goals as goal

pub returns : goal.returns
returns g c =
    grant_of g.C.NodeId.Ord.cmp g.C.Entry.RaftEntry c.args.config.now c.args.asking c.args.asking c.args.target.now c.args.now
    (machine_of c.args.state.now c.args.output.now c.args.leader.now c.args.candidate.now) _ c.in_ok-take_grant.ensures
