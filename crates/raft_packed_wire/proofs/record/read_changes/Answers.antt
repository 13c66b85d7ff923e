use Rattle.std.proofs.Common.{◌∙◌}
use Rattle.std.proofs.lemmas.Result.{err_from_is_err_and}
use Rattle.raft_codec.specs.Codec.{items_at}
use Rattle.raft_codec.proofs.Loop.{goes_on, ends, is_done, listed, refused}
use Rattle.raft_packed_wire.specs.Records.{packed_change}
use Rattle.raft_packed_wire.specs.Values.{kept}
use Rattle.raft_packed_wire.proofs.record.read_changes.Goals as goal

pub returns-in_err-read : goal.returns-in_err-read
returns-in_err-read g c =
    let codec = packed_change (kept g.M.Machine.codec) in
    let total = items_at codec c.in_ok-count.count c.length.new.self in
    let p = err_from_is_err_and c.from_residual-in_err-read.result c.from_residual-in_err-read.ensures.1 in
    let e = ends codec c.in_err-read.field-0.0 c.loop.changes.items c.in_ok-count.count c.loop.counter c.loop.reader total c.loop-test.true c.in_err-read.ensures c.loop.invariant in
    rw (p.1, p.2) (refused codec c.args.reader.now c.in_ok-count.count c.length.new.self c.in_err-read.field-0.0 c.in_ok-count.ensures.found e)

pub loop-preserved : goal.loop-preserved
loop-preserved g c =
    let codec = packed_change (kept g.M.Machine.codec) in
    let total = items_at codec c.in_ok-count.count c.length.new.self in
    rw (c.in_ok-push.ensures.items)
    (goes_on codec c.loop.changes.items c.in_ok-count.count c.loop.counter c.loop.reader c.in_ok-read.field-0 c.read.new.reader total c.loop-test.true c.in_ok-read.ensures c.loop.invariant)

pub returns : goal.returns
returns g c =
    let codec = packed_change (kept g.M.Machine.codec) in
    let total = items_at codec c.in_ok-count.count c.length.new.self in
    rw (c.from_vec.ensures)
    (listed codec c.args.reader.now c.in_ok-count.count c.length.new.self c.in_ok-count.ensures.found
    ∙ is_done codec c.loop.changes.items c.in_ok-count.count c.loop.counter c.loop.reader total c.loop-test.false c.loop.invariant)
