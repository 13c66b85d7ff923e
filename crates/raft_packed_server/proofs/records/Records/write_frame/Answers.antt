use Rattle.std.proofs.Common.{ap, length, subst, sym, ◌≡◌, ◌≤◌, ◌∙◌}
use Rattle.proof_logs.specs.Batches.{bytes_of}
use Rattle.raft_packed_server.specs.Fits.{FitsAt}
use Rattle.raft_packed_server.specs.Logs.{logged_by}
use Rattle.raft_packed_server.proofs.Coded.{logged_by_is, some_bytes}
use Rattle.raft_packed_server.proofs.records.Records.write_frame.Goals as goal

pub returns-clause-fits : goal.returns-clause-fits
returns-clause-fits g c = λ some fit.
    let inverse = logged_by_is g.M.Machine.codec g.met.M.Machine.is_codec in
    let codec = logged_by g.M.Machine.codec in
    let same : c.as_slice.result.now ≡ bytes_of codec c.args.self.now =
    c.as_slice.ensures.value ∙ (c.self.invariant.bytes ∙ ap (bytes_of codec) c.self.view_is) in
    c.push_payload.ensures.fits (subst (λ p. 1 ≤ length p) (sym same) (some_bytes codec inverse c.args.self.now some))
    (subst (FitsAt c.args.tail.now) (sym same) fit)
