use Rattle.std.proofs.Common.{Option, Some, ap, subst, sym, ◌≡◌, ◌∙◌}
use Rattle.raft_schedule.specs.declared.event.Outcome.{Outcome}
use Rattle.raft_node.specs.declared.given.Given.{Given}
use Rattle.proof_packed_servers.specs.Servers.{PackedStep, packed_played_alone, packed_with_step}
use Rattle.raft_packed_server.specs.Represents.{Stands}
use Rattle.raft_packed_server.specs.declared.serving.Serving.{Serving}
use Rattle.raft_packed_server.specs.Views.{IsWithTaken, ServerView, step_of}
use Rattle.raft_packed_server.proofs.Waiting.{step_stands}
use Rattle.raft_packed_server.proofs.server.Server.step.Goals as goal

pub returns-in-Ok-clause-takes : goal.returns-in-Ok-clause-takes
returns-in-Ok-clause-takes g c = λ s is.
    let app = g.M.Machine.application in
    let v = c.in-Some.serving in
    let step : PackedStep g.row.M.Denot = step_of app c.args.act c.args.at in
    let serves : c.args.self.now.serving ≡ Some v =
    ap (λ (w : ServerView g.row.M.Denot). w.serving) (sym c.self.view_is) ∙ c.in-Some.is in
    subst (λ (given : Given). (c.in-Ok.outcome ≡ (packed_played_alone app given s.node step).0)
    × Stands app (packed_with_step app given step s) c.take_step.new.serving)
    (ap (λ (w : ServerView g.row.M.Denot). w.given) c.self.view_is)
    (step_stands app s c.args.self.now.serving v serves is c.self.inside.given step c.in-Ok.outcome c.take_step.new.serving c.in-Ok.ensures.takes)

pub returns-in-Ok-clause-taken : goal.returns-in-Ok-clause-taken
returns-in-Ok-clause-taken g c =
    let app = g.M.Machine.application in
    let v = c.in-Some.serving in
    let step : PackedStep g.row.M.Denot = step_of app c.args.act c.args.at in
    let done = c.in-Ok.ensures.takes in
    let serves : c.args.self.now.serving ≡ Some v =
    ap (λ (w : ServerView g.row.M.Denot). w.serving) (sym c.self.view_is) ∙ c.in-Some.is in
    subst (λ (o : Option (Serving g.row.M.Denot)). IsWithTaken app c.args.self.now.given step o (Some c.take_step.new.serving)) (sym serves)
    (subst (λ (given : Given). IsWithTaken app given step (Some v) (Some c.take_step.new.serving))
    (ap (λ (w : ServerView g.row.M.Denot). w.given) c.self.view_is)
    (done.named, (done.stand, ap (λ (p : Outcome × Serving g.row.M.Denot). Some p.1) done.is)))
