use Rattle.std.proofs.Common.{◌≡◌}
use Rattle.std.specs.Vec.Iter.{into_iter_items}
use Rattle.raft_machine.specs.Commands.{run_all}
use Rattle.raft_machine.proofs.Runs.{with_front}
use Rattle.raft_machine.proofs.updates.run_all.Given as goal

abbrev pub invariant-loop-command : goal.invariant-loop-command
invariant-loop-command l = with_front l.replies.items (run_all l.keyspace (into_iter_items l.command-iterator)) ≡ run_all l.fn.keyspace l.fn.commands
