use Rattle.raft_recovery.proofs.Planned.{votes_exactly}
use Rattle.raft_recovery.proofs.plan.is_voter_in.Goals as goal

pub returns : goal.returns
returns c = votes_exactly c.args.membership.now c.args.id c.is_voter.result c.is_voter.ensures
