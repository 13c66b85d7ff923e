use Rattle.std.proofs.Common.{arith}
use Rattle.raft_progress.proofs.table.VecProgress.copy.Goals as goal

pub of_rows-requires-clause-rows : goal.of_rows-requires-clause-rows
of_rows-requires-clause-rows g c = omega (arith, c.self.invariant.0, c.in_ok-rows.ensures.len, c.deref.ensures.len)

pub of_rows-requires-clause-room : goal.of_rows-requires-clause-room
of_rows-requires-clause-room g c = omega (arith, c.self.invariant.1, c.in_ok-room.ensures.len, c.deref-2.ensures.len)
