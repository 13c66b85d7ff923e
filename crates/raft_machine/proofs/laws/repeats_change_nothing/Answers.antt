use Rattle.raft_machine.proofs.Kept.{repeats}
use Rattle.raft_machine.proofs.laws.repeats_change_nothing.Goals as goal

pub returns : goal.returns
returns c = repeats
