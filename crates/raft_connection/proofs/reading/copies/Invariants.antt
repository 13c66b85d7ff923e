use Rattle.std.proofs.Common.{◌≡◌, take}
use Rattle.raft_resp.specs.Reading.{texts}
use Rattle.raft_connection.proofs.reading.copies.Given as goal

abbrev pub invariant-loop-word : goal.invariant-loop-word
invariant-loop-word l = l.copied.items ≡ texts (take l.word-index l.words)
