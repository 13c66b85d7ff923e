use Rattle.raft_machine.proofs.Iterations.{each_once}
use Rattle.raft_machine.proofs.laws.scans_answer_each_key_once.Goals as goal

pub returns : goal.returns
returns c = each_once
