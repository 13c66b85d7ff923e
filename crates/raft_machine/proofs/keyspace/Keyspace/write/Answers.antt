use Rattle.std.proofs.Common.{subst}
use Rattle.raft_codec.specs.Codec.{Writes}
use Rattle.raft_machine.specs.Space.{Space}
use Rattle.raft_machine.specs.Bytes.{space}
use Rattle.raft_machine.proofs.Loaded.{made, space_written}
use Rattle.raft_machine.proofs.keyspace.Keyspace.write.Goals as goal

pub returns : goal.returns
returns c =
    subst (λ (s : Space). Writes space s c.write.result c.args.out.now.items c.write.new.out.items) c.self.view_is
    (space_written (made c.self.inside.table c.self.inside.moment) c.args.out.now.items _ _ c.write.result c.self.invariant.later c.in_ok-write_number.ensures c.write.ensures)
