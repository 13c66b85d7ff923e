use Rattle.std.proofs.Common.{◌≡◌, ◌++◌, length, take}
use Rattle.std.specs.List.{AllByRecursion, flat_map}
use Rattle.raft_codec.specs.Codec.{number}
use Rattle.raft_store.specs.Starting.{entries_of}
use Rattle.raft_wire.specs.Entries.{entry}
use Rattle.raft_packed_wire.proofs.checkpoint.write_entries.Given as goal

abbrev pub invariant-loop-entry : goal.invariant-loop-entry
invariant-loop-entry l =
    let so_far = entries_of (take l.entry-index l.entries) in
    record {
      length_fits : number.fits (length l.entries);
      entries_fit : AllByRecursion entry.fits so_far;
      written : l.out.items ≡ l.fn.out.items ++ (number.bytes (length l.entries) ++ flat_map entry.bytes so_far);
    }
