use Rattle.raft_peers.proofs.Among.{retained}
use Rattle.raft_peers.proofs.prepare.drop_to.Goals as goal

pub returns : goal.returns
returns g c =
    let f = c.retain.ensures.filtered in
    retained f.0 c.args.preparing.now.items c.retain.new.self.items f.4
