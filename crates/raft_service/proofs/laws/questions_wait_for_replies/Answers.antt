use Rattle.raft_service.proofs.Aligned.{questions}
use Rattle.raft_service.proofs.laws.questions_wait_for_replies.Goals as goal

pub returns : goal.returns
returns c = questions
