use Rattle.std.proofs.Common.{refl, false}
use Rattle.raft_packed_wire.specs.declared.named.Named.TheVariants.{Whole}
use Rattle.raft_packed_wire.specs.declared.record.PackedBegan.TheVariants.{Built}
use Rattle.raft_packed_server.proofs.Seen.{began_kept, began_seen}
use Rattle.raft_packed_server.proofs.began.Began.built.Goals as goal

pub invariant_of-result : goal.invariant_of-result
invariant_of-result g c =
    let m = g.M.Machine in
    began_kept m.codec g.met.M.Machine.is_codec (Built (Whole c.args.snapshot.now)) c.new-bytes.result.items c.write_built.new.out.items c.new-bytes.ensures.items
    c.in_ok-write_built.ensures false refl

pub returns : goal.returns
returns g c =
    let m = g.M.Machine in
    began_seen m.codec g.met.M.Machine.is_codec (Built (Whole c.args.snapshot.now)) c.new-bytes.result.items c.write_built.new.out.items c.new-bytes.ensures.items
    c.in_ok-write_built.ensures
