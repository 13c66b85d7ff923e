-- Commands appended to a queue.
use Rattle.std.specs.Prelude.{◌+◌, ◌<◌, ◌^◌, ⊤, [], ◌∷◌, Option}
use Rattle.raft_progress_entry.specs.raft_state.declared.ids.LogId.{LogId}
use Rattle.raft_command.specs.declared.command.Command.{Command}
use Rattle.raft_command.specs.declared.command.Command.TheVariants.{Commit, StateMachine}
use Rattle.raft_command.specs.declared.sm.CommandPayload.{CommandPayload}
use Rattle.raft_command.specs.Queue.{Queue, queued}

module _ {C NID N E D R S : Type 0} where
  -- with one more command
  abbrev pub with_command : Queue (Command C NID N E D R S) → Command C NID N E D R S → Queue (Command C NID N E D R S)
  with_command q command = queued q (command ∷ [])

  -- with a command to the state machine, under the next number
  abbrev pub ordered : Queue (Command C NID N E D R S) → CommandPayload C NID N E D R S → Queue (Command C NID N E D R S)
  ordered q payload = record (with_command q (StateMachine (record { seq = q.seq + 1; payload = payload }))) { seq = q.seq + 1 }

  -- with a commit, under the next number
  abbrev pub committed_upto : Queue (Command C NID N E D R S) → Option (LogId NID) → LogId NID → Queue (Command C NID N E D R S)
  committed_upto q already upto = record (with_command q (Commit (q.seq + 1) already upto)) { seq = q.seq + 1 }

  -- with one more command: one to the state machine gets the next number
  abbrev pub pushed : Queue (Command C NID N E D R S) → Command C NID N E D R S → Queue (Command C NID N E D R S)
  pushed q (StateMachine command) = ordered q command.payload
  pushed q command = with_command q command

  -- if the command draws a number, there is a next one
  abbrev pub HasNumber : Queue (Command C NID N E D R S) → Command C NID N E D R S → Type 0
  HasNumber q (StateMachine _) = q.seq + 1 < 2 ^ 64
  HasNumber q _ = ⊤
