use Rattle.raft_proposer.proofs.Tables.{ids_of_voters}
use Rattle.raft_proposer.proofs.candidate.grants_of.Goals as goal

pub returns-clause-ids : goal.returns-clause-ids
returns-clause-ids g c = ids_of_voters (λ b. b) c.in_ok-grants.grants c.args.quorum_set (g.QS.QuorumSet.members c.args.quorum_set) _ c.in_ok-grants.ensures
