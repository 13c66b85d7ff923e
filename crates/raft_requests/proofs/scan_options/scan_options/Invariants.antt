use Rattle.std.proofs.Common.{◌≡◌, length}
use Rattle.raft_requests.specs.ScanOptions.{unsaid, scan_options}
use Rattle.raft_requests.proofs.scan_options.scan_options.Given as goal

abbrev pub invariant-loop-rest : goal.invariant-loop-rest
invariant-loop-rest l = scan_options l.options l.rest ≡ scan_options (unsaid l.cursor) l.words

abbrev pub decreases-loop-rest : goal.decreases-loop-rest
decreases-loop-rest l = length l.rest
