use Rattle.proof_progress.proofs.Answering.{request_answered, success_commits}
use Rattle.proof_progress.proofs.followers_answer.Goals as goal

pub returns-clause-answered : goal.returns-clause-answered
returns-clause-answered g c =
    let cmp = g.C.NodeId.Ord.cmp in
    let total = g.met.C.NodeId.Ord.total in
    let same = g.met.C.NodeId.NodeId.equal_is_same in
    λ config vote prev now m low. request_answered cmp total same config g.C.Entry.RaftEntry vote prev now m low

pub returns-clause-commit : goal.returns-clause-commit
returns-clause-commit g c =
    let cmp = g.C.NodeId.Ord.cmp in
    let total = g.met.C.NodeId.Ord.total in
    let same = g.met.C.NodeId.NodeId.equal_is_same in
    λ config vote prev es now m low h x l. success_commits cmp total same config g.C.Entry.RaftEntry vote prev now m low es h x l
