use Rattle.std.proofs.Common.{rules}
use Rattle.raft_engine.proofs.engine.Engine.may_change_membership.Goals as goal

pub returns-in-Some : goal.returns-in-Some
returns-in-Some g c =
    let asked = c.may_change_membership.ensures c.args.self.now.output in
    search rules
