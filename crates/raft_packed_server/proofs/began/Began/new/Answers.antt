use Rattle.raft_packed_server.proofs.Seen.{began_kept, began_seen}
use Rattle.raft_packed_server.proofs.began.Began.new.Goals as goal

pub invariant_of-result : goal.invariant_of-result
invariant_of-result g c =
    let m = g.M.Machine in
    began_kept m.codec g.met.M.Machine.is_codec c.args.began.now c.new-bytes.result.items c.write.new.out.items c.new-bytes.ensures.items c.in_ok-write.ensures
    c.is_nothing.result c.is_nothing.ensures

pub returns : goal.returns
returns g c =
    let m = g.M.Machine in
    began_seen m.codec g.met.M.Machine.is_codec c.args.began.now c.new-bytes.result.items c.write.new.out.items c.new-bytes.ensures.items c.in_ok-write.ensures
