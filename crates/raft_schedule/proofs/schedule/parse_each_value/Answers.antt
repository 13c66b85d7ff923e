use Rattle.std.proofs.Common.{sym, ◌∙◌, subst}
use Rattle.std.proofs.lemmas.List.{at_drop_all}
use Rattle.std.proofs.lemmas.Result.{err_from_is_err_and}
use Rattle.raft_schedule.specs.Line.{each_value}
use Rattle.raft_schedule.specs.Reading.{texts, Fails}
use Rattle.raft_schedule.proofs.Together.{after_values, values_step, values_fail, values_end}
use Rattle.raft_schedule.proofs.schedule.parse_each_value.Goals as goal

pub returns-in_err-parse_value : goal.returns-in_err-parse_value
returns-in_err-parse_value c =
    let p = err_from_is_err_and c.from_residual.result c.from_residual.ensures.1 in
    rw (p.1, p.2)
    (subst (λ all. Fails c.in_err-parse_value.field-0.0 all) c.loop-word.invariant
    (values_fail c.in_err-parse_value.field-0.0 c.args.language c.loop-word.values.items c.args.words.now c.loop-word.word-index _ c.loop-word-test.true c.in_err-parse_value.ensures))

pub loop-word-preserved : goal.loop-word-preserved
loop-word-preserved c =
    rw c.in_ok-push.ensures.items
    (sym (values_step c.args.language c.loop-word.values.items c.args.words.now c.loop-word.word-index _ _ c.loop-word-test.true c.in_ok-parse_value.ensures) ∙ c.loop-word.invariant)

pub returns : goal.returns
returns c =
    sym c.loop-word.invariant ∙ at_drop_all (λ ws. after_values c.loop-word.values.items (each_value c.args.language (texts ws))) c.args.words.now c.loop-word.word-index c.loop-word-test.false
    ∙ values_end c.args.language c.loop-word.values.items
