use Rattle.raft_packed_node.specs.Effects.{brought_by, scene}
use Rattle.raft_packed_node.proofs.Along.{rests_along}
use Rattle.raft_packed_node.proofs.Ready.{may_call}
use Rattle.raft_packed_node.proofs.node.Node.step.Goals as goal

pub returns-in-None-clause-rests : goal.returns-in-None-clause-rests
returns-in-None-clause-rests g c =
    let app = g.M.Machine.application in
    rests_along app c.args.given.now c.args.act.act (brought_by app c.args.act.snapshot) c.args.event.now (scene c.args.self.now c.args.records.now)
    c.perform.new.self c.perform.new.records c.perform.result c.perform.ensures.does c.requires c.perform.ensures.may

pub returns-in-None-clause-fits : goal.returns-in-None-clause-fits
returns-in-None-clause-fits g c = λ rests. c.perform.ensures.fits (may_call g.M.Machine.application c.args.act.act c.args.self.now rests)

pub returns-in-None-clause-may : goal.returns-in-None-clause-may
returns-in-None-clause-may g c = c.perform.ensures.fits
