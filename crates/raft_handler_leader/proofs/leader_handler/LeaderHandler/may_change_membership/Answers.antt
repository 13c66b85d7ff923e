use Rattle.raft_handler_leader.proofs.leader_handler.LeaderHandler.may_change_membership.Goals as goal

pub returns : goal.returns
returns g c = c.may_change_membership.ensures c.args.self.now.output.now
