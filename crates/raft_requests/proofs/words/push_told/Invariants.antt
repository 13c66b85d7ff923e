use Rattle.std.proofs.Common.{◌≡◌, ◌++◌, drop}
use Rattle.raft_requests.specs.Words.{told}
use Rattle.raft_requests.proofs.words.push_told.Given as goal

abbrev pub invariant-loop-byte : goal.invariant-loop-byte
invariant-loop-byte l = l.text.items ++ told (drop l.byte-index l.word) ≡ l.fn.text.items ++ told l.word
