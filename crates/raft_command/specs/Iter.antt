-- An iterator over a queue of commands.
use Rattle.std.specs.Prelude.{List}
use Rattle.std.specs.VecDeque.Iter.{deque_iter_rest}
use Rattle.raft_command.specs.declared.command.Command.{Command}
use Rattle.raft_command.specs.declared.output.CommandIter.{CommandIter}

-- the commands that an iterator hasn't given yet
abbrev pub commands_left : {C NID N E D R S : Type 0} → CommandIter C NID N E D R S → List (Command C NID N E D R S)
commands_left walk = deque_iter_rest walk.inner
