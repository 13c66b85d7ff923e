use Rattle.raft_answers.proofs.Answered.{each_is_answered_once}
use Rattle.raft_answers.proofs.laws.each_request_is_answered_once.Goals as goal

pub returns : goal.returns
returns c = each_is_answered_once
