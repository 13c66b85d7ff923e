-- How a leader's call ends whose step was settled.
use Rattle.std.specs.Prelude.{◌≡◌, Option, None, Result, Ok, Err, OnOk, refl}
use Rattle.std.proofs.Common.{sym, ap, subst}
use Rattle.std.specs.Option.{option_or}
use Rattle.std.specs.declared.alloc.AllocError.{AllocError}
use Rattle.raft_state.specs.declared.state.RaftState.{RaftState}
use Rattle.raft_error.specs.declared.error.EngineError.{EngineError}
use Rattle.raft_command.specs.declared.command.Command.{Command}
use Rattle.raft_command.specs.Ends.{Ends, Settles}
use Rattle.raft_command.specs.Queue.{Queue}
use Rattle.raft_proposer.specs.Joint.{JointLeader}
use Rattle.raft_steps.specs.Parts.{Led, led_of}

-- neither part refuses
pub neither_asks : {E : Type 0} (a b : Option E) → a ≡ None → b ≡ None → option_or a b ≡ None
neither_asks a b e f = rw (e, f) refl

module _ {A C NID N E D R S M : Type 0} (asks : Option (EngineError NID N)) (s : RaftState NID N) (l : JointLeader C NID N E D R S) (x : Led C NID N E D R S) (m n : M) where
  -- its answer stands, or out of memory has spent the queue
  pub ends_settled : (done : Result A AllocError) (old new : Queue (Command C NID N E D R S)) (r : Result A (EngineError NID N))
      → asks ≡ None → Settles done old r new → OnOk done (led_of l s old ≡ x) → Ends asks r new (λ _. led_of l s new ≡ x) m n
  ends_settled (Ok a) old new r u h e = subst (λ r. Ends asks r new (λ _. led_of l s new ≡ x) m n) (sym h.0) (u, subst (λ q. led_of l s q ≡ x) (sym h.1) e)
  ends_settled (Err a) old new r u h e = subst (λ r. Ends asks r new (λ _. led_of l s new ≡ x) m n) (sym h.0) (u, record { empty = ap (λ q. q.items) h.1; spent = ap (λ q. q.spent) h.1 })
