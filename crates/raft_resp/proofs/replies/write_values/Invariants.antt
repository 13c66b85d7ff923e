use Rattle.std.proofs.Common.{◌≡◌, ◌++◌, take}
use Rattle.std.specs.List.{flat_map}
use Rattle.raft_resp.specs.Replies.{value_bytes}
use Rattle.raft_resp.proofs.replies.write_values.Given as goal

abbrev pub invariant-loop-value : goal.invariant-loop-value
invariant-loop-value l = l.out.items ≡ l.initial.out.items ++ flat_map (value_bytes l.protocol) (take l.value-index l.values)
