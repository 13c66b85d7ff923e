use Rattle.std.proofs.Common.{◌≡◌, drop}
use Rattle.raft_schedule.specs.Line.{numbers}
use Rattle.raft_schedule.specs.Reading.{texts}
use Rattle.raft_schedule.proofs.Together.{after_numbers}
use Rattle.raft_schedule.proofs.schedule.parse_numbers.Given as goal

-- the numbers so far and those of the words that are left are those of all
abbrev pub invariant-loop-word : goal.invariant-loop-word
invariant-loop-word l = after_numbers l.numbers.items (numbers (texts (drop l.word-index l.words))) ≡ numbers (texts l.words)
