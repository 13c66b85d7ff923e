use Rattle.raft_machine.proofs.Kept.{read_set}
use Rattle.raft_machine.proofs.laws.reads_see_what_is_set.Goals as goal

pub returns : goal.returns
returns c = read_set
