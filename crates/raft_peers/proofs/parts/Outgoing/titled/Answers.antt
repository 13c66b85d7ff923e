use Rattle.raft_peers.proofs.Parting.{started}
use Rattle.raft_peers.proofs.parts.Outgoing.titled.Goals as goal

pub invariant_of-result : goal.invariant_of-result
invariant_of-result c =
    (started c.args.title.number c.args.bytes.items c.args.title c.start-at.result c.requires c.start-at.ensures).0

pub returns : goal.returns
returns c =
    let number = (started c.args.title.number c.args.bytes.items c.args.title c.start-at.result c.requires c.start-at.ensures).1 in
    λ k. record { message = c.args.message; number = number k; bytes = c.args.bytes.items }
