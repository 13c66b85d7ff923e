use Rattle.std.proofs.Common.{◌==◌, sym, ap, ◌∙◌, subst}
use Rattle.std.proofs.lemmas.List.{at_drop_all}
use Rattle.std.proofs.lemmas.Result.{err_from_is_err_and}
use Rattle.raft_schedule.specs.Line.{groups_and_learners}
use Rattle.raft_schedule.specs.Reading.{texts, Fails}
use Rattle.raft_schedule.proofs.Together.{after_groups, groups_step, groups_fail, groups_end, learners_fail, learners_empty, learners_end}
use Rattle.raft_schedule.proofs.schedule.parse_groups_and_learners.Goals as goal

pub returns-in_err-learners : goal.returns-in_err-learners
returns-in_err-learners c =
    let p = err_from_is_err_and c.from_residual.result c.from_residual.ensures.1 in
    rw (p.1, p.2)
    (subst (λ all. Fails c.in_err-learners.field-0.0 all) c.loop-i.invariant (learners_fail c.in_err-learners.field-0.0 c.loop-i.groups c.args.words.now c.loop-i.i _ c.loop-i-test.true (sym c.eq.ensures ∙ c.if-eq.true) c.in_err-learners.ensures))

pub returns-then-is_empty : goal.returns-then-is_empty
returns-then-is_empty c =
    sym c.loop-i.invariant
    ∙ learners_empty c.loop-i.groups c.args.words.now c.loop-i.i _ c.in_ok-learners.learners.items c.loop-i-test.true (sym c.eq.ensures ∙ c.if-eq.true) c.in_ok-learners.ensures (c.if-is_empty.ensures ∙ ap (λ n. n == 0) c.in_ok-learners.learners.ok.0)

pub returns-then-eq : goal.returns-then-eq
returns-then-eq c =
    rw c.from_vec.ensures
    (sym c.loop-i.invariant
    ∙ learners_end c.loop-i.groups c.args.words.now c.loop-i.i _ c.in_ok-learners.learners.items c.loop-i-test.true (sym c.eq.ensures ∙ c.if-eq.true) c.in_ok-learners.ensures (c.if-is_empty.ensures ∙ ap (λ n. n == 0) c.in_ok-learners.learners.ok.0))

pub returns-in_err-parse_group : goal.returns-in_err-parse_group
returns-in_err-parse_group c =
    let p = err_from_is_err_and c.from_residual-in_err-parse_group.result c.from_residual-in_err-parse_group.ensures.1 in
    rw (p.1, p.2)
    (subst (λ all. Fails c.in_err-parse_group.field-0.0 all) c.loop-i.invariant
    (groups_fail c.in_err-parse_group.field-0.0 c.loop-i.groups c.args.words.now c.loop-i.i _ c.loop-i-test.true (sym c.eq.ensures ∙ c.if-eq.false) c.in_err-parse_group.ensures))

pub loop-i-preserved : goal.loop-i-preserved
loop-i-preserved c =
    rw c.in_ok-push.ensures.ok
    (sym (groups_step c.loop-i.groups c.args.words.now c.loop-i.i _ c.in_ok-parse_group.field-0 c.loop-i-test.true (sym c.eq.ensures ∙ c.if-eq.false) c.in_ok-parse_group.ensures) ∙ c.loop-i.invariant)

pub returns : goal.returns
returns c =
    rw c.new.ensures
    (sym c.loop-i.invariant ∙ at_drop_all (λ ws. after_groups c.loop-i.groups (groups_and_learners (texts ws))) c.args.words.now c.loop-i.i c.loop-i-test.false ∙ groups_end c.loop-i.groups)
