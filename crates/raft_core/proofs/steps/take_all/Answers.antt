use Rattle.std.proofs.Common.{[], ◌∷◌, ◌∙◌, List, ap, map, subst, sym}
use Rattle.std.proofs.lemmas.List.{map-append}
use Rattle.raft_node.specs.declared.act.Act.{Act}
use Rattle.raft_peers.specs.proof_packed_servers.Servers.{PackedStep}
use Rattle.raft_core.specs.Steps.{TakesAct, TakesSteps, act_of, step_at, steps_at}
use Rattle.raft_core.proofs.Stepped.{no_steps, one_more}
use Rattle.raft_core.proofs.steps.take_all.Goals as goal

pub loop-chosen-init : goal.loop-chosen-init
loop-chosen-init g c = no_steps g.M.Machine.application c.args.server.now

pub loop-chosen-preserved : goal.loop-chosen-preserved
loop-chosen-preserved g c =
    let app = g.M.Machine.application in
    let at = c.args.clock.now.moment in
    let before = c.loop-chosen.yielded in
    let x = c.in-Some.chosen in
    let done = c.in_ok-take.field-0 in
    let taken = subst (λ (act : Act). TakesAct app at act c.loop-chosen.server done c.take.new.server) c.act_of.ensures c.in_ok-take.ensures in
    let same = ap (steps_at app at) (map-append act_of before (x ∷ [])) ∙ map-append (step_at app at) (map act_of before) (act_of x ∷ []) in
    subst (λ (todo : List (PackedStep g.row.M.Denot)). TakesSteps app todo c.args.server.now c.take.new.server) (sym same)
    (one_more app (steps_at app at (map act_of before)) (step_at app at (act_of x)) c.args.server.now c.loop-chosen.server c.take.new.server done
    c.loop-chosen.invariant taken)
