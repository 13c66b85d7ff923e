use Rattle.raft_packed_wire.proofs.Checkpoints.{front_written}
use Rattle.raft_packed_wire.proofs.checkpoint.write_snapshot_front.Goals as goal

pub returns : goal.returns
returns g c =
    front_written g.M.Machine.codec c.args.store.now.store c.write_install_front.result c.args.out.now.items c.write.new.out.items
    c.write-2.new.out.items c.write-3.new.out.items c.write_install_front.new.out.items
    c.in_ok-write.ensures c.in_ok-write-2.ensures c.in_ok-write-3.ensures c.write_install_front.ensures
