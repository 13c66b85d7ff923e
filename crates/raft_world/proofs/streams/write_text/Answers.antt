use Rattle.std.proofs.Common.{rules}
use Rattle.raft_world.proofs.Moved.{appends_more}
use Rattle.raft_world.proofs.streams.write_text.Goals as goal

pub on-preserved : goal.on-preserved
on-preserved g c = (search rules, appends_more _ _ _ _ _ _ c.on.invariant.1 c.in-Ok.ensures.bytes)
