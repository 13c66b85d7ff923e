use Rattle.std.proofs.Common.{sym, ◌∙◌, subst}
use Rattle.std.proofs.lemmas.Result.{err_from_is_err_and}
use Rattle.raft_schedule.specs.Reading.{Fails}
use Rattle.raft_schedule.proofs.Together.{values_counted, values_uncounted}
use Rattle.raft_schedule.proofs.schedule.parse_values.Goals as goal

pub returns-then-not-is_count : goal.returns-then-not-is_count
returns-then-not-is_count c = values_uncounted c.args.language c.args.words.now (sym c.is_count.ensures ∙ c.if-not-is_count.true)

pub returns-in_err-parse_each_value : goal.returns-in_err-parse_each_value
returns-in_err-parse_each_value c =
    let p = err_from_is_err_and c.from_residual.result c.from_residual.ensures.1 in
    rw (p.1, p.2)
    (subst (λ all. Fails c.in_err-parse_each_value.field-0.0 all) (sym (values_counted c.args.language c.args.words.now (sym c.is_count.ensures ∙ c.if-not-is_count.false))) c.in_err-parse_each_value.ensures)

pub returns : goal.returns
returns c = rw c.from_vec.ensures (values_counted c.args.language c.args.words.now (sym c.is_count.ensures ∙ c.if-not-is_count.false) ∙ c.in_ok-parse_each_value.ensures)
