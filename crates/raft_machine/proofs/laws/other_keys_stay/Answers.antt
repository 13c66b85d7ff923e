use Rattle.raft_machine.proofs.Kept.{others_stay}
use Rattle.raft_machine.proofs.laws.other_keys_stay.Goals as goal

pub returns : goal.returns
returns c = others_stay
