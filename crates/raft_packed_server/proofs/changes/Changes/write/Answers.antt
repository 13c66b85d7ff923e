use Rattle.std.proofs.Common.{ap, subst}
use Rattle.raft_codec.specs.Codec.{Writes, list}
use Rattle.raft_packed_wire.specs.Records.{packed_change}
use Rattle.raft_packed_wire.specs.Values.{kept}
use Rattle.raft_packed_wire.proofs.RecordLaws.{packed_change_is}
use Rattle.raft_packed_wire.proofs.ValueLaws.{kept_is}
use Rattle.raft_packed_server.specs.Encoded.{values_in}
use Rattle.raft_packed_server.proofs.Kept.{appended, list_written}
use Rattle.raft_packed_server.specs.Views.{ChangesView}
use Rattle.raft_packed_server.proofs.changes.Changes.write.Goals as goal

pub returns : goal.returns
returns g c =
    let inverse = packed_change_is (kept g.M.Machine.codec) (kept_is g.M.Machine.codec g.met.M.Machine.is_codec) in
    let codec = packed_change (kept g.M.Machine.codec) in
    let count = c.self.inside.count in
    let bytes = c.self.inside.bytes.items in
    let r = c.extend_from_slice.result in
    let old = c.args.out.now.items in
    let middle = c.write.new.out.items in
    let new = c.extend_from_slice.new.self.items in
    subst (λ xs. Writes (list codec) xs r old new) (ap (λ (v : ChangesView g.row.M.Denot). v.changes) c.self.view_is)
    (list_written codec inverse (values_in codec count bytes) count bytes old middle new r
    c.self.invariant c.in_ok-write.ensures
    (appended r middle new c.deref.result.now bytes c.deref.ensures.value c.extend_from_slice.ensures.items))
