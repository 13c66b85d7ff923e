use Rattle.std.proofs.Common.{List, ◌≡◌, ◌++◌}
use Rattle.raft_peers.specs.declared.output.Output.{Output}
use Rattle.raft_peers.specs.Sends.{SendsAll}
use Rattle.raft_peers.proofs.send.send_all.Given as goal

abbrev pub invariant-loop-message : goal.invariant-loop-message
invariant-loop-message g l =
    (frames : List (Output g.row.M.Denot))
    × SendsAll g.M.Machine.application g.M.Machine.codec l.sender.start l.yielded l.initial.preparing.items frames l.preparing.items
    × (l.outputs.items ≡ l.initial.outputs.items ++ frames)
