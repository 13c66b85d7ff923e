use Rattle.std.proofs.Common.{◌≡◌, length}
use Rattle.raft_requests.specs.Options.{unsaid}
use Rattle.raft_requests.proofs.Chosen.{after}
use Rattle.raft_requests.proofs.options.drafted.Given as goal

abbrev pub invariant-loop-word : goal.invariant-loop-word
invariant-loop-word l = after l.draft l.rest ≡ after unsaid l.words

abbrev pub decreases-loop-word : goal.decreases-loop-word
decreases-loop-word l = length l.rest
