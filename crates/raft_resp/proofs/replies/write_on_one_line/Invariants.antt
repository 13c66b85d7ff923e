use Rattle.std.proofs.Common.{◌≡◌, ◌++◌, take}
use Rattle.raft_resp.specs.Replies.{on_one_line}
use Rattle.raft_resp.proofs.replies.write_on_one_line.Given as goal

abbrev pub invariant-loop-byte : goal.invariant-loop-byte
invariant-loop-byte l = l.out.items ≡ l.initial.out.items ++ on_one_line (take l.byte-index l.text)
