use Rattle.std.proofs.Common.{Some, ap, arith, rules, subst, ◌≡◌}
use Rattle.std.specs.Prelude.{max}
use Rattle.raft_packed_server.specs.declared.serving.Serving.{Serving}
use Rattle.raft_packed_server.specs.Recovery.{OpensOn}
use Rattle.raft_packed_server.specs.Views.{step_of}
use Rattle.raft_packed_server.proofs.Opening.{opens_on, refuses_start}
use Rattle.raft_packed_server.proofs.server.Server.open.Goals as goal

pub returns-in-Err-clause-opens : goal.returns-in-Err-clause-opens
returns-in-Err-clause-opens g c =
    refuses_start g.M.Machine.application g.M.Machine.codec c.args.given c.args.id.now c.args.log.now c.args.at c.in_ok-recovery.recovery
    c.in_ok-recovery.ensures c.in-Err.error

pub returns-in-Ok-clause-opens : goal.returns-in-Ok-clause-opens
returns-in-Ok-clause-opens g c =
    let app = g.M.Machine.application in
    let recovery = c.in_ok-recovery.recovery in
    let same : c.unstarted-serving.result.reserved ≡ recovery.disk.moment =
    ap (λ (v : Serving g.row.M.Denot). v.reserved) c.unstarted-serving.ensures in
    let now : c.max-at.result ≡ max c.args.at recovery.disk.moment =
    subst (λ m. c.max-at.result ≡ max c.args.at m) same (omega (arith, c.max-at.ensures)) in
    let opened : OpensOn app g.M.Machine.codec c.args.given c.args.id.now c.args.log.now c.args.at
    (record { server = record { given = c.args.given; serving = Some c.take_step.new.serving }; end = recovery.end }) =
    opens_on app g.M.Machine.codec c.args.given c.args.id.now c.args.log.now c.args.at recovery c.in_ok-recovery.ensures
    (step_of app c.plain-start.result c.max-at.result) c.in-Ok.field-0 c.unstarted-serving.result c.take_step.new.serving
    (λ i. record { act = c.plain-start.ensures.act i; brought = c.plain-start.ensures.brought i; at = now i })
    c.unstarted-serving.ensures
    c.in-Ok.ensures.takes in
    search rules
