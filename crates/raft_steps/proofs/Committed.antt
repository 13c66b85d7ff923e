-- What holds of a step over a leader holds after its call, if that succeeds.
use Rattle.std.specs.Prelude.{◌≡◌, Result, Ok, Err, OnOk}
use Rattle.std.proofs.Common.{sym, subst}
use Rattle.std.specs.declared.alloc.AllocError.{AllocError}
use Rattle.raft_state.specs.declared.state.RaftState.{RaftState}
use Rattle.raft_progress_entry.specs.raft_error.declared.error.EngineError.{EngineError}
use Rattle.raft_command.specs.declared.command.Command.{Command}
use Rattle.raft_command.specs.Ends.{Settles}
use Rattle.raft_command.specs.Queue.{Queue}
use Rattle.raft_steps.specs.Parts.{Led, led_of}
use Rattle.raft_proposer.specs.Joint.{JointLeader}

pub done_leaves : {A C NID N E D R S : Type 0} (P : Led C NID N E D R S → Type 0) (leader : JointLeader C NID N E D R S) (state : RaftState NID N) (done : Result A AllocError)
    (old new : Queue (Command C NID N E D R S)) (r : Result A (EngineError NID N)) (m : Led C NID N E D R S)
    → Settles done old r new → OnOk done (led_of leader state old ≡ m) → P m → OnOk r (P (led_of leader state new))
done_leaves P leader state (Ok a) old new r m h e p = subst (λ r. OnOk r (P (led_of leader state new))) (sym h.0) (subst (λ q. P (led_of leader state q)) (sym h.1) (subst P (sym e) p))
done_leaves P leader state (Err _) old new r m h e p = subst (λ r. OnOk r (P (led_of leader state new))) (sym h.0) tt
