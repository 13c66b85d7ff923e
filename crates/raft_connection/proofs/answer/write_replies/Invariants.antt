use Rattle.std.proofs.Common.{◌≡◌, ◌++◌, take}
use Rattle.std.specs.List.{flat_map}
use Rattle.raft_resp.specs.Replies.{reply_bytes}
use Rattle.raft_connection.proofs.answer.write_replies.Given as goal

abbrev pub invariant-loop-reply : goal.invariant-loop-reply
invariant-loop-reply l = l.out.items ≡ l.initial.out.items ++ flat_map (reply_bytes l.protocol) (take l.reply-index l.replies)
