use Rattle.raft_core.proofs.Unsaid.{only_releases_tell_ok}
use Rattle.raft_core.proofs.laws.only_releases_tell_ok.Goals as goal

pub returns : goal.returns
returns g c = only_releases_tell_ok g.M.Machine.application g.M.Machine.codec
