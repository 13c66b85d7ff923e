use Rattle.raft_peers.proofs.Among.{retained}
use Rattle.raft_peers.proofs.parts.keep_of.Goals as goal

pub returns : goal.returns
returns c =
    let f = c.retain.ensures.filtered in
    retained f.0 c.args.outgoing.now.items c.retain.new.self.items f.4
