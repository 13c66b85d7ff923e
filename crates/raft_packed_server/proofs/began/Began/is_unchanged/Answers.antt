use Rattle.std.proofs.Common.{ap, ◌∙◌}
use Rattle.raft_packed_server.specs.Began.{is_unchanged}
use Rattle.raft_packed_server.proofs.began.Began.is_unchanged.Goals as goal

pub returns : goal.returns
returns g c = c.self.invariant.nothing ∙ ap is_unchanged c.self.view_is
