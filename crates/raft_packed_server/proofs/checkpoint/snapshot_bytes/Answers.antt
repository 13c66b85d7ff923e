use Rattle.std.proofs.Common.{[], ◌++◌, rules, subst, ◌≡◌}
use Rattle.raft_packed_wire.specs.Checkpoints.{named_snapshot}
use Rattle.raft_packed_server.specs.Logs.{logged_by}
use Rattle.raft_packed_server.proofs.Renewed.{one_record}
use Rattle.raft_packed_server.proofs.checkpoint.snapshot_bytes.Goals as goal

pub returns-clause-fits : goal.returns-clause-fits
returns-clause-fits g c =
    subst (λ store. (logged_by g.M.Machine.codec).fits (named_snapshot store)) c.store.ensures c.in_ok-write_snapshot.ensures.0

pub returns-clause-bytes : goal.returns-clause-bytes
returns-clause-bytes g c =
    let codec = logged_by g.M.Machine.codec in
    let v = c.args.serving.now in
    let old = c.in_ok-bytes.bytes.items in
    let new = c.write_snapshot.new.out.items in
    let none : old ≡ [] = search rules in
    one_record old new (codec.bytes (named_snapshot v.node.store)) none
    (subst (λ store. new ≡ old ++ codec.bytes (named_snapshot store)) c.store.ensures c.in_ok-write_snapshot.ensures.1)
