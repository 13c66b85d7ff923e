use Rattle.std.proofs.Common.{◌≡◌, length}
use Rattle.raft_connection.specs.Hello.{options, unsaid}
use Rattle.raft_connection.proofs.hello.options.Given as goal

abbrev pub invariant-loop-name : goal.invariant-loop-name
invariant-loop-name l = options l.secret l.said l.rest ≡ options l.secret unsaid l.words

abbrev pub decreases-loop-name : goal.decreases-loop-name
decreases-loop-name l = length l.rest
