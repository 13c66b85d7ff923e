use Rattle.std.proofs.Common.{refl, rules, subst, sym, ◌≡◌, ◌≤◌, ◌∙◌, ◌++◌, ◌∷◌, [], Some, length}
use Rattle.raft_frames.specs.declared.error.PushError.TheVariants as push
use Rattle.raft_frames.specs.Format.{frame}
use Rattle.proof_logs.specs.Batches.{bytes_of}
use Rattle.raft_packed_wire.specs.Checkpoints.{named_rest}
use Rattle.raft_packed_server.specs.Checkpoints.{IsClear}
use Rattle.raft_packed_server.specs.Fits.{FitsAt}
use Rattle.raft_packed_server.specs.Logs.{logged_by}
use Rattle.raft_packed_server.proofs.Renewed.{begun, second_fits, some_record}
use Rattle.raft_packed_server.proofs.checkpoint.begin_log.Goals as goal

pub returns-clause-begins : goal.returns-clause-begins
returns-clause-begins g c =
    let codec = logged_by g.M.Machine.codec in
    let v = c.args.serving.now in
    let first = c.in_ok-first.first in
    let payload = c.deref.result.now in
    let out = c.push_payload.new.out in
    let tail = c.push_payload.new.tail in
    let same : c.first_frame.new.serving ≡ v = c.in_ok-first.ensures.same in
    let clear : IsClear v = search rules in
    let is : payload ≡ bytes_of codec (named_rest v.reserved v.node.store ∷ []) =
    c.deref.ensures.value
    ∙ subst (λ w. c.in_ok-payload.payload.items ≡ bytes_of codec (named_rest w.reserved w.node.store ∷ [])) same c.in_ok-payload.ensures.bytes in
    let fits : codec.fits (named_rest v.reserved v.node.store) =
    subst (λ w. codec.fits (named_rest w.reserved w.node.store)) same c.in_ok-payload.ensures.fits in
    let wrote : out.items ≡ [] ++ frame first.tail payload =
    subst (λ l. out.items ≡ l ++ frame first.tail payload) c.new-rest.ensures.items c.in_ok-push_payload.ensures.frame in
    let done =
    begun g.M.Machine.codec c.args.id.now v (record { front = first.front; snapshot = first.snapshot; rest = out; end = tail.position }) payload
    first.tail tail clear c.in_ok-first.ensures.first c.in_ok-first.ensures.fits is fits c.in_ok-push_payload.ensures.payload wrote
    c.in_ok-push_payload.ensures.tail refl in
    (done.0, (λ i. Some (record (same i) { next = Some tail })) ∙ done.1)

pub returns-in_err-push_payload-clause-fits : goal.returns-in_err-push_payload-clause-fits
returns-in_err-push_payload-clause-fits g c =
    let codec = logged_by g.M.Machine.codec in
    let v = c.args.serving.now in
    let first = c.in_ok-first.first in
    let payload = c.deref.result.now in
    let same : c.first_frame.new.serving ≡ v = c.in_ok-first.ensures.same in
    let is : payload ≡ bytes_of codec (named_rest v.reserved v.node.store ∷ []) =
    c.deref.ensures.value
    ∙ subst (λ w. c.in_ok-payload.payload.items ≡ bytes_of codec (named_rest w.reserved w.node.store ∷ [])) same c.in_ok-payload.ensures.bytes in
    let some : 1 ≤ length payload =
    subst (λ p. 1 ≤ length p) (sym is) (some_record g.M.Machine.codec g.met.M.Machine.is_codec (named_rest v.reserved v.node.store)) in
    λ fit.
    let at : FitsAt first.tail payload = second_fits g.M.Machine.codec c.args.id.now v payload first.tail c.in_ok-first.ensures.first.place is fit in
    let told : c.in_err-push_payload.field-0.0 ≡ push.OutOfMemory = c.in_err-push_payload.ensures.fits some at in search rules
