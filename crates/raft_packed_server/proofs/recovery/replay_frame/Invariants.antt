use Rattle.std.specs.Prelude.{length}
use Rattle.raft_packed_server.specs.Logs.{kept_on_disk, logged_by, with_named}
use Rattle.raft_packed_server.proofs.Coded.{logged_by_is}
use Rattle.raft_packed_server.proofs.Replayed.{Taking}
use Rattle.raft_packed_server.proofs.recovery.replay_frame.Given as goal

abbrev pub invariant-records : goal.invariant-records
invariant-records g l =
    Taking (logged_by g.M.Machine.codec) (logged_by_is g.M.Machine.codec g.met.M.Machine.is_codec) (with_named g.M.Machine.application)
    l.payload (kept_on_disk g.M.Machine.application l.fn.disk) l.reader (kept_on_disk g.M.Machine.application l.disk)

abbrev pub decreases-records : goal.decreases-records
decreases-records g l = length l.reader
