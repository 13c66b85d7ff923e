use Rattle.std.proofs.Common.{List, [], get_or, map, subst, ℕ, ◌+◌}
use Rattle.std.specs.Borrow.{Bor}
use Rattle.std.specs.Prelude.{drop, length}
use Rattle.std.proofs.lemmas.List.{at_drop_more}
use Rattle.proof_logs.specs.Batches.{read_at}
use Rattle.raft_packed_server.specs.Logs.{kept_on_disk, logged_by, with_named}
use Rattle.raft_packed_server.proofs.Coded.{logged_by_is}
use Rattle.raft_packed_server.proofs.Replayed.{Taken, TakingAll, log_goes_on}
use Rattle.raft_packed_server.proofs.recovery.replay_frames.Goals as goal

-- the payloads of frames
abbrev payloads_of : List (Bor (List ℕ)) → List (List ℕ)
payloads_of frames = map (λ p. p.now) frames

pub frames-preserved : goal.frames-preserved
frames-preserved g c =
    let codec = logged_by g.M.Machine.codec in
    let inverse = logged_by_is g.M.Machine.codec g.met.M.Machine.is_codec in
    let with = with_named g.M.Machine.application in
    let kept = kept_on_disk g.M.Machine.application in
    let all = c.args.payloads.now in
    let i = c.frames.payload-index in
    let frame : Bor (List ℕ) = record { ref_ptr = (0, 0); now = [] } in
    let payload : List ℕ = (get_or all i frame).now in
    let found = c.in_ok-replay_frame.ensures in
    let taken : Taken codec inverse with (read_at codec (length payload) payload) (kept c.frames.disk) (kept c.replay_frame.new.disk) =
    record { all = found.0; are = found.1; make = found.2 } in
    log_goes_on codec inverse with (payloads_of all) (payloads_of (drop (i + 1) all)) payload (kept c.args.disk.now) (kept c.frames.disk) (kept c.replay_frame.new.disk)
    (subst (λ rest. TakingAll codec inverse with (payloads_of all) (kept c.args.disk.now) rest (kept c.frames.disk))
    (at_drop_more payloads_of all i frame c.frames-test.true) c.frames.invariant)
    taken
