use Rattle.std.proofs.Common.{sym, ◌∙◌}
use Rattle.std.proofs.lemmas.Result.{err_from_is_err_and}
use Rattle.raft_codec.proofs.Whole.{stands, refused, same, not_ended}
use Rattle.raft_wire.proofs.wire.decode.Goals as goal

pub returns-in_err-value-clause-read_back : goal.returns-in_err-value-clause-read_back
returns-in_err-value-clause-read_back g c =
    let p = err_from_is_err_and c.from_residual.result c.from_residual.ensures.1 in
    λ value fits b.
    rw (p.1, p.2) (refused g.T.Wire.codec g.met.T.Wire.is_codec c.in_err-value.field-0.0 value c.new-reader.result c.in_err-value.ensures fits (c.new-reader.ensures ∙ b))

pub returns-in_err-end-clause-read_back : goal.returns-in_err-end-clause-read_back
returns-in_err-end-clause-read_back g c =
    λ value fits b.
    absurd (not_ended g.T.Wire.codec g.met.T.Wire.is_codec c.in_ok-value.value value c.new-reader.result c.read.new.reader c.in_ok-value.ensures c.in_err-end.ensures.0 fits (c.new-reader.ensures ∙ b))

pub returns-clause-written : goal.returns-clause-written
returns-clause-written g c =
    let s = stands g.T.Wire.codec g.met.T.Wire.is_codec c.new-reader.result c.in_ok-value.value c.read.new.reader c.in_ok-value.ensures c.in_ok-end.ensures in
    (s.0, sym c.new-reader.ensures ∙ s.1)

pub returns-clause-read_back : goal.returns-clause-read_back
returns-clause-read_back g c =
    λ value fits b.
    (same g.T.Wire.codec g.met.T.Wire.is_codec c.in_ok-value.value value c.new-reader.result c.read.new.reader c.in_ok-value.ensures fits (c.new-reader.ensures ∙ b)).0
