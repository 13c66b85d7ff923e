use Rattle.std.proofs.Common.{◌≡◌, ◌-◌}
use Rattle.raft_codec.specs.Codec.{items_at}
use Rattle.raft_codec.proofs.Loop.{with_front}
use Rattle.raft_packed_wire.specs.Records.{packed_change}
use Rattle.raft_packed_wire.specs.Values.{kept}
use Rattle.raft_packed_wire.proofs.record.read_changes.Given as goal

abbrev pub invariant-loop : goal.invariant-loop
invariant-loop g l =
    let codec = packed_change (kept g.M.Machine.codec) in
    with_front l.changes.items (items_at codec (l.count - l.counter) l.reader) ≡ items_at codec l.count l.initial.reader
