use Rattle.std.proofs.Common.{subst}
use Rattle.raft_codec.specs.Codec.{Writes}
use Rattle.raft_packed_wire.specs.Records.{named_began}
use Rattle.raft_packed_wire.specs.Values.{kept}
use Rattle.raft_packed_server.proofs.Kept.{appended}
use Rattle.raft_packed_server.proofs.Seen.{began_written}
use Rattle.raft_packed_server.proofs.began.Began.write.Goals as goal

pub returns : goal.returns
returns g c =
    let codec = g.M.Machine.codec in
    let bytes = c.self.inside.bytes.items in
    let r = c.extend_from_slice.result in
    let old = c.args.out.now.items in
    let new = c.extend_from_slice.new.self.items in
    subst (λ began. Writes (named_began (kept codec)) began r old new) c.self.view_is
    (began_written codec c.self.inside.is_unchanged bytes old new r c.self.invariant
    (appended r old new c.deref.result.now bytes c.deref.ensures.value c.extend_from_slice.ensures.items))
