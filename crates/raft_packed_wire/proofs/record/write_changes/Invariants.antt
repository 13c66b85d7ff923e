use Rattle.std.proofs.Common.{◌≡◌, ◌++◌, length, take}
use Rattle.std.specs.List.{AllByRecursion, flat_map}
use Rattle.raft_codec.specs.Codec.{number}
use Rattle.raft_packed_wire.specs.Records.{packed_change}
use Rattle.raft_packed_wire.specs.Values.{kept}
use Rattle.raft_packed_wire.proofs.record.write_changes.Given as goal

abbrev pub invariant-loop-change : goal.invariant-loop-change
invariant-loop-change g l =
    let codec = packed_change (kept g.M.Machine.codec) in
    let so_far = take l.change-index l.changes in
    record {
      length_fits : number.fits (length l.changes);
      changes_fit : AllByRecursion codec.fits so_far;
      written : l.out.items ≡ l.fn.out.items ++ (number.bytes (length l.changes) ++ flat_map codec.bytes so_far);
    }
