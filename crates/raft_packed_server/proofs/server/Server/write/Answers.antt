use Rattle.std.proofs.Common.{Option, Some, ap, subst, sym, ◌≡◌, ◌∙◌}
use Rattle.std.specs.Prelude.{IfSome}
use Rattle.raft_frames.specs.declared.error.PushError.TheVariants as push
use Rattle.proof_logs.specs.Batches.{bytes_of}
use Rattle.raft_packed_server.specs.Fits.{FitsBoth}
use Rattle.raft_packed_server.specs.declared.error.ServerError.TheVariants.{Write}
use Rattle.raft_packed_server.specs.declared.serving.Serving.{Serving}
use Rattle.raft_packed_server.specs.Logs.{logged_by}
use Rattle.raft_packed_server.specs.Represents.{StandsFor}
use Rattle.raft_packed_server.specs.Views.{ServerView}
use Rattle.raft_packed_server.proofs.Waiting.{hands_stay}
use Rattle.raft_packed_server.proofs.server.Server.write.Goals as goal

pub returns-in-Err-clause-fits : goal.returns-in-Err-clause-fits
returns-in-Err-clause-fits g c =
    let serves : c.args.self.now.serving ≡ Some c.in-Some.serving =
    ap (λ (w : ServerView g.row.M.Denot). w.serving) (sym c.self.view_is) ∙ c.in-Some.is in
    subst (λ (o : Option (Serving g.row.M.Denot)). IfSome o (λ v. FitsBoth v.tail v.next (bytes_of (logged_by g.M.Machine.codec) v.records)
    → Write c.in-Err.error ≡ Write push.OutOfMemory)) (sym serves)
    (λ fits. ap Write (c.in-Err.ensures.fits fits))

pub returns-in-Ok-clause-stays : goal.returns-in-Ok-clause-stays
returns-in-Ok-clause-stays g c = λ s is.
    let app = g.M.Machine.application in
    let serves : c.args.self.now.serving ≡ Some c.in-Some.serving =
    ap (λ (w : ServerView g.row.M.Denot). w.serving) (sym c.self.view_is) ∙ c.in-Some.is in
    hands_stay g.M.Machine.codec app (Some c.in-Some.serving) (Some c.hand_out.new.serving) c.in-Ok.written c.in-Ok.ensures.hands_out s
    (subst (λ (o : Option (Serving g.row.M.Denot)). StandsFor app s o) serves is)
