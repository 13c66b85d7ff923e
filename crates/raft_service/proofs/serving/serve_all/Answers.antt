use Rattle.raft_service.proofs.Chains.{serves_more}
use Rattle.raft_service.proofs.serving.serve_all.Goals as goal

pub loop-client-preserved : goal.loop-client-preserved
loop-client-preserved c = serves_more c.loop-client.yielded c.in-Some.client _ _ _ _ _ _ _ _ _ c.loop-client.invariant c.in_ok-serve.ensures
