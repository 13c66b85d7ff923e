use Rattle.std.proofs.Common.{sym, ◌∙◌}
use Rattle.std.proofs.lemmas.Result.{err_from_is_err_and}
use Rattle.raft_codec.proofs.Whole.{stands, refused, same, not_ended}
use Rattle.raft_packed_wire.specs.Messages.{packed_packet}
use Rattle.raft_packed_wire.specs.Values.{kept}
use Rattle.raft_packed_wire.proofs.MessageLaws.{packed_packet_is}
use Rattle.raft_packed_wire.proofs.ValueLaws.{kept_is}
use Rattle.raft_packed_wire.proofs.packet.PackedPacket+Packed+M.decode.Goals as goal

pub returns-in_err-packet-clause-read_back : goal.returns-in_err-packet-clause-read_back
returns-in_err-packet-clause-read_back g c =
    let codec = packed_packet (kept g.M.Machine.codec) in
    let is_codec = packed_packet_is (kept g.M.Machine.codec) (kept_is g.M.Machine.codec g.met.M.Machine.is_codec) in
    let p = err_from_is_err_and c.from_residual.result c.from_residual.ensures.1 in
    λ packet fits b.
    rw (p.1, p.2) (refused codec is_codec c.in_err-packet.field-0.0 packet c.new-reader.result c.in_err-packet.ensures fits (c.new-reader.ensures ∙ b))

pub returns-in_err-end-clause-read_back : goal.returns-in_err-end-clause-read_back
returns-in_err-end-clause-read_back g c =
    let codec = packed_packet (kept g.M.Machine.codec) in
    let is_codec = packed_packet_is (kept g.M.Machine.codec) (kept_is g.M.Machine.codec g.met.M.Machine.is_codec) in
    λ packet fits b.
    absurd (not_ended codec is_codec c.in_ok-packet.packet packet c.new-reader.result c.read.new.reader c.in_ok-packet.ensures c.in_err-end.ensures.0 fits (c.new-reader.ensures ∙ b))

pub returns-clause-written : goal.returns-clause-written
returns-clause-written g c =
    let codec = packed_packet (kept g.M.Machine.codec) in
    let is_codec = packed_packet_is (kept g.M.Machine.codec) (kept_is g.M.Machine.codec g.met.M.Machine.is_codec) in
    let s = stands codec is_codec c.new-reader.result c.in_ok-packet.packet c.read.new.reader c.in_ok-packet.ensures c.in_ok-end.ensures in
    (s.0, sym c.new-reader.ensures ∙ s.1)

pub returns-clause-read_back : goal.returns-clause-read_back
returns-clause-read_back g c =
    let codec = packed_packet (kept g.M.Machine.codec) in
    let is_codec = packed_packet_is (kept g.M.Machine.codec) (kept_is g.M.Machine.codec g.met.M.Machine.is_codec) in
    λ packet fits b.
    (same codec is_codec c.in_ok-packet.packet packet c.new-reader.result c.read.new.reader c.in_ok-packet.ensures fits (c.new-reader.ensures ∙ b)).0
