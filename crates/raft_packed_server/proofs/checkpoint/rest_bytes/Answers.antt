use Rattle.std.proofs.Common.{[], ◌++◌, rules, subst, ◌≡◌}
use Rattle.raft_packed_wire.specs.Checkpoints.{named_rest}
use Rattle.raft_packed_server.specs.Logs.{logged_by}
use Rattle.raft_packed_server.proofs.Renewed.{one_record}
use Rattle.raft_packed_server.proofs.checkpoint.rest_bytes.Goals as goal

pub returns-clause-fits : goal.returns-clause-fits
returns-clause-fits g c =
    subst (λ store. (logged_by g.M.Machine.codec).fits (named_rest c.args.serving.now.reserved store)) c.store.ensures
    c.in_ok-write_rest.ensures.0

pub returns-clause-bytes : goal.returns-clause-bytes
returns-clause-bytes g c =
    let codec = logged_by g.M.Machine.codec in
    let v = c.args.serving.now in
    let old = c.new-bytes.result.items in
    let new = c.write_rest.new.out.items in
    let none : old ≡ [] = search rules in
    one_record old new (codec.bytes (named_rest v.reserved v.node.store)) none
    (subst (λ store. new ≡ old ++ codec.bytes (named_rest v.reserved store)) c.store.ensures c.in_ok-write_rest.ensures.1)
