use Rattle.std.proofs.Common.{[], ◌∷◌}
use Rattle.raft_peers.proofs.Among.{pushed}
use Rattle.raft_peers.proofs.parts.begin.Goals as goal

pub returns-clause-outgoing : goal.returns-clause-outgoing
returns-clause-outgoing g c =
    pushed c.args.outgoing.now.items c.take_to-before.new.outgoing.items c.push.new.self.items c.args.one c.take_to-before.ensures.left
    c.in_ok-push.ensures.items

pub returns-clause-outputs : goal.returns-clause-outputs
returns-clause-outputs g c =
    let s = c.in_ok-send.ensures in
    (s.0 ∷ [], (s.1, tt), s.2)
