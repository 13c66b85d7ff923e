use Rattle.raft_world.proofs.Checked.{agrees_where, differs_where}
use Rattle.raft_world.proofs.agreement.check_table.Goals as goal

pub returns-in-None : goal.returns-in-None
returns-in-None c = agrees_where _ _ _ c.requires c.in-None.ensures

pub returns-in-Some : goal.returns-in-Some
returns-in-Some c =
    let f = c.in-Some.ensures in
    differs_where _ _ _ c.requires c.in-Some.i _ f.0 f.1 (f.2 _)
