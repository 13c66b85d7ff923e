use Rattle.std.proofs.Common.{◌≡◌, max}
use Rattle.std.specs.Map.{keys_of}
use Rattle.raft_machine.specs.Scans.{walk}
use Rattle.raft_machine.proofs.Scanning.{behind}
use Rattle.raft_machine.proofs.scans.page.Given as goal

abbrev pub invariant-loop-key : goal.invariant-loop-key
invariant-loop-key l = behind l.keys.items (walk l.options l.left l.last (keys_of l.key-iterator)) ≡ walk l.options (max l.options.count 1) 0 (keys_of l.fn.entries)
