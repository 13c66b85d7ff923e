use Rattle.raft_peers.proofs.Among.{pushed}
use Rattle.raft_peers.proofs.prepare.prepare.Goals as goal

pub returns : goal.returns
returns g c =
    pushed c.args.preparing.now.items c.drop_to.new.preparing.items c.push.new.self.items c.args.one c.drop_to.ensures c.in_ok-push.ensures.items
