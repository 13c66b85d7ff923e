use Rattle.std.specs.Prelude.{drop, map}
use Rattle.raft_packed_server.specs.Logs.{kept_on_disk, logged_by, with_named}
use Rattle.raft_packed_server.proofs.Coded.{logged_by_is}
use Rattle.raft_packed_server.proofs.Replayed.{TakingAll}
use Rattle.raft_packed_server.proofs.recovery.replay_frames.Given as goal

abbrev pub invariant-frames : goal.invariant-frames
invariant-frames g l =
    TakingAll (logged_by g.M.Machine.codec) (logged_by_is g.M.Machine.codec g.met.M.Machine.is_codec) (with_named g.M.Machine.application)
    (map (λ p. p.now) l.payloads) (kept_on_disk g.M.Machine.application l.fn.disk) (map (λ p. p.now) (drop l.payload-index l.payloads)) (kept_on_disk g.M.Machine.application l.disk)
