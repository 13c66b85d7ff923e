use Rattle.std.proofs.Common.{◌≡◌, take}
use Rattle.raft_machine.proofs.replies.copy_all.Given as goal

abbrev pub invariant-loop-reply : goal.invariant-loop-reply
invariant-loop-reply l = l.copied.items ≡ take l.reply-index l.replies
