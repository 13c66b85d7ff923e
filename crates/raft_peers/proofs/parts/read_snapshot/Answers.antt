use Rattle.std.proofs.Common.{sym, ◌∙◌}
use Rattle.std.proofs.lemmas.Result.{err_from_is_err_and}
use Rattle.raft_codec.proofs.Whole.{not_ended, refused, same, stands}
use Rattle.raft_packed_server.specs.raft_packed_wire.Values.{kept}
use Rattle.raft_packed_server.proofs.raft_packed_wire_proofs.ValueLaws.{kept_is}
use Rattle.raft_peers.proofs.parts.read_snapshot.Goals as goal

pub returns-in_err-snapshot-clause-read_back : goal.returns-in_err-snapshot-clause-read_back
returns-in_err-snapshot-clause-read_back g c =
    let codec = kept g.M.Machine.codec in
    let is_codec = kept_is g.M.Machine.codec g.met.M.Machine.is_codec in
    let e = err_from_is_err_and c.from_residual.result c.from_residual.ensures.1 in
    λ p fits is.
    rw (e.1, e.2)
    (refused codec is_codec c.in_err-snapshot.field-0.0 p c.new-reader.result c.in_err-snapshot.ensures fits (c.new-reader.ensures ∙ is))

pub returns-in_err-end-clause-read_back : goal.returns-in_err-end-clause-read_back
returns-in_err-end-clause-read_back g c =
    let codec = kept g.M.Machine.codec in
    let is_codec = kept_is g.M.Machine.codec g.met.M.Machine.is_codec in
    λ p fits is.
    absurd (not_ended codec is_codec c.in_ok-snapshot.snapshot p c.new-reader.result
    c.read_packed.new.reader c.in_ok-snapshot.ensures c.in_err-end.ensures.0
    fits (c.new-reader.ensures ∙ is))

pub returns-clause-written : goal.returns-clause-written
returns-clause-written g c =
    let codec = kept g.M.Machine.codec in
    let is_codec = kept_is g.M.Machine.codec g.met.M.Machine.is_codec in
    let s = stands codec is_codec c.new-reader.result c.in_ok-snapshot.snapshot c.read_packed.new.reader c.in_ok-snapshot.ensures c.in_ok-end.ensures in
    (s.0, sym c.new-reader.ensures ∙ s.1)

pub returns-clause-read_back : goal.returns-clause-read_back
returns-clause-read_back g c =
    let codec = kept g.M.Machine.codec in
    let is_codec = kept_is g.M.Machine.codec g.met.M.Machine.is_codec in
    λ p fits is.
    (same codec is_codec c.in_ok-snapshot.snapshot p c.new-reader.result c.read_packed.new.reader c.in_ok-snapshot.ensures fits
    (c.new-reader.ensures ∙ is)).0
