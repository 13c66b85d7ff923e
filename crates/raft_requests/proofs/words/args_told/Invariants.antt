use Rattle.std.proofs.Common.{◌≡◌, [], drop}
use Rattle.raft_requests.specs.Words.{args_told}
use Rattle.raft_requests.proofs.words.args_told.Given as goal

abbrev pub invariant-loop-arg : goal.invariant-loop-arg
invariant-loop-arg l = args_told l.text.items (drop l.arg-index l.args) ≡ args_told [] l.args
