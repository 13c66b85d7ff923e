use Rattle.std.proofs.Common.{sym, ◌∙◌}
use Rattle.std.proofs.lemmas.List.{at_drop_all}
use Rattle.raft_schedule.specs.Line.{numbers}
use Rattle.raft_schedule.specs.Reading.{texts}
use Rattle.raft_schedule.proofs.Together.{after_numbers, numbers_step, numbers_stop, numbers_end}
use Rattle.raft_schedule.proofs.schedule.parse_numbers.Goals as goal

pub returns-in_default : goal.returns-in_default
returns-in_default c = sym c.loop-word.invariant ∙ numbers_stop c.loop-word.numbers.items c.args.words.now c.loop-word.word-index _ c.loop-word-test.true (sym c.in_default.ensures)

pub loop-word-preserved : goal.loop-word-preserved
loop-word-preserved c =
    rw c.in_ok-push.ensures.items (sym (numbers_step c.loop-word.numbers.items c.args.words.now c.loop-word.word-index _ _ c.loop-word-test.true (sym c.in-Some.ensures)) ∙ c.loop-word.invariant)

pub returns : goal.returns
returns c =
    sym c.loop-word.invariant ∙ at_drop_all (λ ws. after_numbers c.loop-word.numbers.items (numbers (texts ws))) c.args.words.now c.loop-word.word-index c.loop-word-test.false
    ∙ numbers_end c.loop-word.numbers.items
