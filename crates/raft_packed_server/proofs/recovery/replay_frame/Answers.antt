use Rattle.std.proofs.Common.{Ok, arith, length, rules, true, ◌<◌, ◌≡◌}
use Rattle.std.specs.Prelude.{is_ok}
use Rattle.raft_packed_server.specs.Logs.{kept_on_disk, logged_by, with_named}
use Rattle.raft_packed_server.proofs.Coded.{logged_by_is}
use Rattle.raft_packed_server.proofs.Replayed.{at_ok, frame_goes_on, shorter}
use Rattle.raft_packed_server.proofs.recovery.replay_frame.Goals as goal

pub records-smaller : goal.records-smaller
records-smaller g c =
    let inverse = logged_by_is g.M.Machine.codec g.met.M.Machine.is_codec in
    let codec = logged_by g.M.Machine.codec in
    let found : codec.read c.records.reader ≡ Ok (c.in_ok-next.next, c.read.new.reader) = search rules in
    shorter codec inverse (with_named g.M.Machine.application) c.records.reader c.read.new.reader c.in_ok-next.next found

pub records-preserved : goal.records-preserved
records-preserved g c =
    let inverse = logged_by_is g.M.Machine.codec g.met.M.Machine.is_codec in
    let codec = logged_by g.M.Machine.codec in
    let found : codec.read c.records.reader ≡ Ok (c.in_ok-next.next, c.read.new.reader) = search rules in
    let ok : is_ok c.replay.result ≡ true = search rules in
    let some : 0 < length c.records.reader = omega (arith, c.records-test.true, c.left.ensures) in
    frame_goes_on codec inverse (with_named g.M.Machine.application)
    c.args.payload.now c.records.reader c.read.new.reader (kept_on_disk g.M.Machine.application c.args.disk.now)
    (kept_on_disk g.M.Machine.application c.records.disk) (kept_on_disk g.M.Machine.application c.replay.new.disk) c.in_ok-next.next
    c.records.invariant some found
    (at_ok c.replay.result ok c.replay.ensures)
