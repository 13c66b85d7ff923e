use Rattle.raft_service.proofs.Chains.{delivers_more}
use Rattle.raft_service.proofs.service.Service.deliver_each.Goals as goal

pub loop-output-preserved : goal.loop-output-preserved
loop-output-preserved c = delivers_more c.loop-output.yielded c.in-Some.output _ _ _ _ _ _ c.loop-output.invariant c.in_ok-deliver.ensures
