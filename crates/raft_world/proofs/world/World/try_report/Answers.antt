use Rattle.std.proofs.Common.{rules, subst}
use Rattle.raft_world.specs.Worlds.{IsWorldOfRun}
use Rattle.raft_world.proofs.Along.{reports_run}
use Rattle.raft_world.proofs.world.World.try_report.Goals as goal

pub returns-clause-run : goal.returns-clause-run
returns-clause-run c =
    let run : IsWorldOfRun c.args.self.now = subst IsWorldOfRun c.self.view_is c.self.invariant in
    λ here. reports_run c.args.self.now c.new.result run here (search rules)
