use Rattle.raft_packed_wire.specs.Values.{kept}
use Rattle.raft_packed_wire.proofs.Checkpoints.{all_written}
use Rattle.raft_packed_wire.proofs.checkpoint.write_changes.Goals as goal

pub returns : goal.returns
returns g c =
    all_written (kept g.M.Machine.codec) c.args.store.now.store c.write_append.result c.count_changes-count.result c.args.out.now.items
    c.write.new.out.items c.write_vote.new.out.items c.write_purge.new.out.items c.write_append.new.out.items
    c.count_changes-count.ensures c.in_ok-write.ensures c.in_ok-write_vote.ensures c.in_ok-write_purge.ensures
    c.write_append.ensures
