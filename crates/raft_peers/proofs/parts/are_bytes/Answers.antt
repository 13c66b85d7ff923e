use Rattle.std.proofs.Common.{arith}
use Rattle.raft_peers.proofs.Parting.{all_bytes}
use Rattle.raft_peers.proofs.parts.are_bytes.Goals as goal

pub returns : goal.returns
returns c = all_bytes c.args.bytes.now (λ k. omega (arith, c.type_inv.bytes k))
