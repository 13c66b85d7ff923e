use Rattle.raft_core.proofs.ReadsTold.{only_rounds_tell_ok}
use Rattle.raft_core.proofs.laws.only_rounds_tell_ok.Goals as goal

pub returns : goal.returns
returns g c = only_rounds_tell_ok g.M.Machine.application g.M.Machine.codec
