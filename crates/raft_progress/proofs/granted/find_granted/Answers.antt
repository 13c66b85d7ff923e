use Rattle.std.proofs.Common.{sym, ◌∙◌, None, Some}
use Rattle.raft_progress.proofs.Rankings.{found}
use Rattle.raft_progress.proofs.granted.find_granted.Goals as goal

pub returns-in-Some : goal.returns-in-Some
returns-in-Some g c =
    let granted = found g.ID.Ord.cmp g.met.ID.Ord.total g.met.ID.NodeId.equal_is_same g.P.Ord.cmp g.met.P.Ord.total g.QS.QuorumSet.has_quorum g.met.QS.QuorumSet.grows g.V.Measured.measured c.args.set.now c.args.rows.now c.args.ranked.now c.args.default c.requires.ranked (Some c.in-Some.at) (sym c.in-Some.is ∙ c.find_reached.ensures) in
    cc (granted, c.find_equal.ensures, c.unwrap_or.ensures)

pub returns-in-None : goal.returns-in-None
returns-in-None g c = sym (found g.ID.Ord.cmp g.met.ID.Ord.total g.met.ID.NodeId.equal_is_same g.P.Ord.cmp g.met.P.Ord.total g.QS.QuorumSet.has_quorum g.met.QS.QuorumSet.grows g.V.Measured.measured c.args.set.now c.args.rows.now c.args.ranked.now c.args.default c.requires.ranked None (sym c.in-None.is ∙ c.find_reached.ensures))
