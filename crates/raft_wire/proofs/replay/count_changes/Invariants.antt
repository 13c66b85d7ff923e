use Rattle.std.proofs.Common.{◌≡◌, ◌≤◌, take}
use Rattle.std.specs.Prelude.{count_by, is_some}
use Rattle.raft_wire.specs.Records.{change_of}
use Rattle.raft_wire.proofs.replay.count_changes.Given as goal

abbrev pub invariant-loop-command : goal.invariant-loop-command
invariant-loop-command l = record {
  counted : l.count ≡ count_by (λ c. is_some (change_of c)) (take l.command-index l.commands);
  few : l.count ≤ l.command-index;
}
