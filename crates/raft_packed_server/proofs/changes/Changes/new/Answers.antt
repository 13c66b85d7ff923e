use Rattle.std.proofs.Common.{ap}
use Rattle.raft_packed_wire.specs.Records.{packed_change}
use Rattle.raft_packed_wire.specs.Values.{kept}
use Rattle.raft_packed_wire.proofs.RecordLaws.{packed_change_is}
use Rattle.raft_packed_wire.proofs.ValueLaws.{kept_is}
use Rattle.raft_packed_server.proofs.Kept.{none_kept, none_seen}
use Rattle.raft_packed_server.proofs.changes.Changes.new.Goals as goal

pub invariant_of-result : goal.invariant_of-result
invariant_of-result g c =
    let codec = packed_change (kept g.M.Machine.codec) in
    let inverse = packed_change_is (kept g.M.Machine.codec) (kept_is g.M.Machine.codec g.met.M.Machine.is_codec) in
    none_kept codec inverse c.new.result.items c.new.ensures.items

pub returns : goal.returns
returns g c =
    let codec = packed_change (kept g.M.Machine.codec) in
    let inverse = packed_change_is (kept g.M.Machine.codec) (kept_is g.M.Machine.codec g.met.M.Machine.is_codec) in
    ap (λ xs. record { brought = c.args.brought; changes = xs })
    (none_seen codec inverse c.new.result.items c.new.ensures.items)
