use Rattle.std.proofs.Common.{◌≡◌}
use Rattle.raft_recovery.specs.Ways.{is_sought}
use Rattle.raft_recovery.proofs.Plays.{IsLeft}
use Rattle.raft_recovery.proofs.messages.first_sought.Given as goal

-- what the rest of the messages gives
abbrev pub invariant-loop-message : goal.invariant-loop-message
invariant-loop-message l = (l.number ≡ l.message-index) × IsLeft (is_sought l.sought) l.messages l.message-index l.number
