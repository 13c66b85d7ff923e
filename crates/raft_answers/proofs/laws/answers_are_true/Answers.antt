use Rattle.raft_answers.proofs.True.{answers_are_true}
use Rattle.raft_answers.proofs.laws.answers_are_true.Goals as goal

pub returns : goal.returns
returns c = answers_are_true
