use Rattle.std.proofs.Common.{ap, ◌≡◌, ◌++◌, ◌∙◌, subst, sym}
use Rattle.std.proofs.lemmas.Result.{err_from_is_err_and}
use Rattle.std.specs.Prelude.{[], fold, nat_le}
use Rattle.raft_schedule.specs.declared.event.EventKind.TheVariants as event
use Rattle.raft_calls.specs.Held.{IsRestingWhereRunning}
use Rattle.proof_logs.specs.proof_servers.Servers.{event_at, reserved_for}
use Rattle.proof_packed.specs.Nodes.{packed_played}
use Rattle.proof_packed.specs.Records.{packed_commands_at}
use Rattle.raft_packed_wire.specs.raft_packed_node.Effects.{scene}
use Rattle.raft_packed_server.specs.declared.serving.Serving.{Serving}
use Rattle.raft_packed_server.specs.Began.{named_left_of, prepared_for}
use Rattle.raft_packed_server.specs.Views.{ChangesView, IsTaken, step_of}
use Rattle.raft_packed_server.proofs.Prepared.{engine_stays, prepared_commands, prepared_plays, prepared_rests}
use Rattle.raft_packed_server.proofs.Steps.{sees, step_is}
use Rattle.raft_packed_server.proofs.serving.take_step.Goals as goal

pub step-requires : goal.step-requires
step-requires g c =
    subst IsRestingWhereRunning
    (sym (ap (λ (s : Serving g.row.M.Denot). s.node.engine) c.in_ok-prepared.ensures.serving ∙ engine_stays c.args.act.act c.args.serving.now.node)) c.requires

pub returns-in_err-outcome-clause-fits : goal.returns-in_err-outcome-clause-fits
returns-in_err-outcome-clause-fits g c =
    let v = c.args.serving.now in
    let ready : c.prepare.new.serving.node ≡ prepared_for c.args.act.act v.node =
    ap (λ (s : Serving g.row.M.Denot). s.node) c.in_ok-prepared.ensures.serving in
    let p = err_from_is_err_and c.from_residual-in_err-outcome.result c.from_residual-in_err-outcome.ensures.1 in
    λ rests.
    rw (p.1, p.2) (c.in_err-outcome.ensures.may (prepared_rests g.M.Machine.application c.args.act.act v.node c.prepare.new.serving.node ready rests))

pub returns-clause-takes : goal.returns-clause-takes
returns-clause-takes g c =
    let app = g.M.Machine.application in
    let v = c.args.serving.now in
    let step = step_of app c.args.act c.args.at in
    let given = c.args.given.now in
    let ev = event_at (event.Read 0) step.at in
    let prepared = c.in_ok-prepared.prepared in
    let here = c.prepare.new.serving in
    let ready : here ≡ record v { node = prepared_for step.act v.node } = c.in_ok-prepared.ensures.serving in
    let seen = c.step.new.watch in
    let node = c.step.new.self in
    let said = c.step.new.records in
    let upto = c.push_record.new.reserved in
    let all : ChangesView g.row.M.Denot → ChangesView g.row.M.Denot =
    λ w. fold sees w (packed_commands_at app given step.act step.brought ev (scene here.node here.outputs)) in
    subst (λ (s : Serving g.row.M.Denot).
    IsTaken app given step v c.in_ok-outcome.outcome
    (record s { node = node; reserved = upto; steps = prepared.steps; outputs = said; records = c.push_record.new.records })) (sym ready)
    (step_is app given step v c.in_ok-outcome.outcome node said seen prepared.began upto prepared.steps c.push_record.new.records
    (c.in_ok-outcome.ensures.does
    ∙ (ap (λ (s : Serving g.row.M.Denot). packed_played app given step.act step.brought ev (scene s.node s.outputs)) ready
    ∙ prepared_plays app given step.brought ev v.outputs step.act v.node))
    (c.in_ok-outcome.ensures.watched
    ∙ (ap all c.in_ok-prepared.ensures.changes
    ∙ ap (λ cs. fold sees (record { brought = step.brought; changes = [] }) cs)
    (ap (λ (s : Serving g.row.M.Denot). packed_commands_at app given step.act step.brought ev (scene s.node s.outputs)) ready
    ∙ prepared_commands app given step.brought ev v.outputs step.act v.node)))
    c.in_ok-prepared.ensures.began
    (c.push_record.ensures.reserved
    ∙ (ap (λ m. reserved_for m here.reserved) c.moment.ensures
    ∙ ap (λ (s : Serving g.row.M.Denot). reserved_for node.moment s.reserved) ready))
    c.in_ok-prepared.ensures.steps
    (c.in_ok-push_record.ensures.records
    ∙ (ap (λ m. here.records
    ++ named_left_of (nat_le m here.reserved) (record { moment = reserved_for m here.reserved; began = prepared.began; changes = seen.changes }))
    c.moment.ensures
    ∙ ap (λ (s : Serving g.row.M.Denot). s.records
    ++ named_left_of (nat_le node.moment s.reserved) (record { moment = reserved_for node.moment s.reserved; began = prepared.began; changes = seen.changes }))
    ready)))
