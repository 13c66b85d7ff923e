use Rattle.std.proofs.Common.{◌≡◌, ◌++◌, length, take}
use Rattle.std.specs.List.{AllByRecursion, flat_map}
use Rattle.raft_codec.specs.Codec.{number}
use Rattle.raft_request_codec.proofs.form.write_items.Given as goal

abbrev pub invariant-loop-item : goal.invariant-loop-item
invariant-loop-item g l =
    let codec = g.T.Form.codec in
    let so_far = take l.item-index l.items in
    record {
      length_fits : number.fits (length l.items);
      items_fit : AllByRecursion codec.fits so_far;
      written : l.out.items ≡ l.fn.out.items ++ (number.bytes (length l.items) ++ flat_map codec.bytes so_far);
    }
