use Rattle.std.proofs.Common.{arith}
use Rattle.raft_requests.proofs.Told.{told_behind}
use Rattle.raft_requests.proofs.words.push_told.Goals as goal

pub loop-byte-preserved : goal.loop-byte-preserved
loop-byte-preserved c = rw (c.in_ok-push.ensures.items, c.in_one_line.ensures) (told_behind c.loop-byte.text.items _ c.args.word.now c.loop-byte.byte-index (omega arith) c.if-byte-eq0.false c.loop-byte.invariant)
