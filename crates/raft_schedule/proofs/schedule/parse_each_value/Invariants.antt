use Rattle.std.proofs.Common.{◌≡◌, drop}
use Rattle.raft_schedule.specs.Line.{each_value}
use Rattle.raft_schedule.specs.Reading.{texts}
use Rattle.raft_schedule.proofs.Together.{after_values}
use Rattle.raft_schedule.proofs.schedule.parse_each_value.Given as goal

-- the values so far and those of the words that are left are those of all
abbrev pub invariant-loop-word : goal.invariant-loop-word
invariant-loop-word l = after_values l.values.items (each_value l.language (texts (drop l.word-index l.words))) ≡ each_value l.language (texts l.words)
