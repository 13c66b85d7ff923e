use Rattle.std.proofs.Common.{[], ◌++◌, rules, subst, ◌≡◌}
use Rattle.raft_packed_wire.specs.Checkpoints.{named_snapshot}
use Rattle.raft_packed_server.specs.Logs.{logged_by}
use Rattle.raft_packed_server.proofs.Renewed.{one_front}
use Rattle.raft_packed_server.proofs.checkpoint.front_of.Goals as goal

pub returns-clause-fits : goal.returns-clause-fits
returns-clause-fits g c =
    subst (λ store. g.M.Machine.codec.fits store.snap.state → (logged_by g.M.Machine.codec).fits (named_snapshot store)) c.store.ensures
    c.in_ok-write_snapshot_front.ensures.0

pub returns-clause-bytes : goal.returns-clause-bytes
returns-clause-bytes g c =
    let codec = g.M.Machine.codec in
    let v = c.args.serving.now in
    let old = c.new-front.result.items in
    let new = c.write_snapshot_front.new.out.items in
    let none : old ≡ [] = search rules in
    one_front old new (codec.bytes v.node.store.snap.state) ((logged_by codec).bytes (named_snapshot v.node.store)) none
    (subst (λ store. new ++ codec.bytes store.snap.state ≡ old ++ (logged_by codec).bytes (named_snapshot store)) c.store.ensures
    c.in_ok-write_snapshot_front.ensures.1)
