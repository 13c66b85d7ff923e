use Rattle.std.proofs.Common.{Ok, ◌≡◌}
use Rattle.std.proofs.lemmas.Result.{err_from_is_err_and}
use Rattle.raft_frames.specs.Reading.{contents_of, read}
use Rattle.raft_packed_server.proofs.Opening.{found_read, recovers, refuses_records}
use Rattle.raft_packed_server.proofs.recovery.recover.Goals as goal

pub returns-in_err-replay_frames : goal.returns-in_err-replay_frames
returns-in_err-replay_frames g c =
    let reads : read c.args.id.now c.args.log.now ≡ Ok (contents_of c.in_ok-found.found) =
    found_read _ c.read.result c.map_err.result c.in_ok-found.found _ c.read.ensures c.map_err.ensures.cases c.map_err.ensures.variant c.in_ok-found.was in
    let p = err_from_is_err_and c.from_residual-in_err-replay_frames.result c.from_residual-in_err-replay_frames.ensures.1 in
    rw (p.1, p.2)
    (refuses_records g.M.Machine.application g.M.Machine.codec c.args.id.now c.args.log.now c.in_ok-found.found c.deref.result.now reads
    c.deref.ensures.value c.new-disk.result c.replay_frames.new.disk c.in_err-replay_frames.field-0.0 c.in_err-replay_frames.ensures)

pub returns : goal.returns
returns g c =
    let reads : read c.args.id.now c.args.log.now ≡ Ok (contents_of c.in_ok-found.found) =
    found_read _ c.read.result c.map_err.result c.in_ok-found.found _ c.read.ensures c.map_err.ensures.cases c.map_err.ensures.variant c.in_ok-found.was in
    let made = c.in_ok-replay_frames.ensures in
    recovers g.M.Machine.application g.M.Machine.codec c.args.id.now c.args.log.now c.in_ok-found.found c.deref.result.now reads
    c.deref.ensures.value made.0 made.1 c.new-disk.result c.replay_frames.new.disk c.new-disk.ensures made.2
