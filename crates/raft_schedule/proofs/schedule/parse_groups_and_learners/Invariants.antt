use Rattle.std.proofs.Common.{◌≡◌, drop}
use Rattle.raft_schedule.specs.Line.{groups_and_learners}
use Rattle.raft_schedule.specs.Reading.{texts}
use Rattle.raft_schedule.proofs.Together.{after_groups}
use Rattle.raft_schedule.proofs.schedule.parse_groups_and_learners.Given as goal

-- the groups so far and what the words that are left say are what all words say
abbrev pub invariant-loop-i : goal.invariant-loop-i
invariant-loop-i l = after_groups l.groups (groups_and_learners (texts (drop l.i l.words))) ≡ groups_and_learners (texts l.words)
