use Rattle.std.proofs.Common.{◌≡◌, ◌<◌, ◌^◌, ◌+◌, ℕ, List, Some, length, get_or, eqb, sym, ◌∙◌, subst, lit<, arith}
use Rattle.std.proofs.lemmas.Iterator.Consumers.{YieldsList-turn, YieldsList-end}
use Rattle.std.proofs.lemmas.Iterator.Splits.{YieldsList-from_str_split}
use Rattle.std.proofs.lemmas.List.{length_push}
use Rattle.std.specs.List.{slice_split}
use Rattle.raft_schedule.specs.declared.schedule.LineError.TheVariants as LineError
use Rattle.raft_schedule.specs.Reading.{Fails, state, line_after}
use Rattle.raft_schedule.proofs.Together.{lines_step, lines_stop, lines_none, lines_all, counts}
use Rattle.raft_schedule.proofs.schedule.read_lines.Goals as goal

abbrev pieces : List ℕ → List (List ℕ)
pieces body = slice_split (λ b. eqb b 10) body

pub loop-line-preserved : goal.loop-line-preserved
loop-line-preserved c =
    let body : List ℕ = c.args.body.now in
    let i : ℕ = c.loop-line.count in
    let turn = YieldsList-turn (YieldsList-from_str_split 10 body (lit< tt) (cc) (cc) cc) c.loop-line.yielded _ c.loop-line.yielded_by _ _ c.in-Some.line c.in-Some.is c.next.ensures.steps in
    let at : (i < length (pieces body)) × (c.in-Some.line.now ≡ get_or (pieces body) i c.in-Some.line.now) = rw c.loop-line.invariant.counted turn in
    let short : length body < 2 ^ 63 = omega arith in
    let n : c.saturating_add-count.result ≡ i + 1 = c.saturating_add-count.ensures ∙ counts body i short (omega (arith, at.0)) in
    rw n (record {
      counted = omega (arith, length_push c.loop-line.yielded c.in-Some.line, c.loop-line.invariant.counted);
      goes_on = sym (lines_step i (state c.loop-line.draft) (state c.take_line.new.self) (pieces body) c.in-Some.line.now at (subst (λ k. line_after k c.in-Some.line.now (state c.loop-line.draft) ≡ Some (state c.take_line.new.self)) n c.in-Ok.ensures)) ∙ c.loop-line.invariant.goes_on;
    })

pub returns-in-Err-Bad : goal.returns-in-Err-Bad
returns-in-Err-Bad c =
    let body : List ℕ = c.args.body.now in
    let i : ℕ = c.loop-line.count in
    let turn = YieldsList-turn (YieldsList-from_str_split 10 body (lit< tt) (cc) (cc) cc) c.loop-line.yielded _ c.loop-line.yielded_by _ _ c.in-Some.line c.in-Some.is c.next.ensures.steps in
    let at : (i < length (pieces body)) × (c.in-Some.line.now ≡ get_or (pieces body) i c.in-Some.line.now) = rw c.loop-line.invariant.counted turn in
    let short : length body < 2 ^ 63 = omega arith in
    let n : c.saturating_add-count.result ≡ i + 1 = c.saturating_add-count.ensures ∙ counts body i short (omega (arith, at.0)) in
    let bad = subst (λ k. Fails LineError.Bad (line_after k c.in-Some.line.now (state c.loop-line.draft))) n (subst (λ e. Fails e (line_after c.saturating_add-count.result c.in-Some.line.now (state c.loop-line.draft))) c.in-Err-Bad.field-0-is c.in-Err-Bad.ensures) in
    rw n (sym c.loop-line.invariant.goes_on ∙ lines_stop i (state c.loop-line.draft) (pieces body) c.in-Some.line.now at bad)

pub returns-in-Start : goal.returns-in-Start
returns-in-Start c =
    let body : List ℕ = c.args.body.now in
    let i : ℕ = c.loop-line.count in
    let all = YieldsList-end (YieldsList-from_str_split 10 body (lit< tt) (cc) (cc) cc) c.loop-line.yielded _ c.loop-line.yielded_by _ _ c.in-None.is c.next.ensures.steps in
    let end : i ≡ length (pieces body) = c.loop-line.invariant.counted ∙ all.1 in
    let short : length body < 2 ^ 63 = omega arith in
    let n : c.saturating_add.result ≡ i + 1 = c.saturating_add.ensures ∙ counts body i short (omega arith) in
    rw n (sym c.loop-line.invariant.goes_on ∙ lines_none i (state c.loop-line.draft) (pieces body) (omega arith) c.in-Start.is)

pub returns-in_default : goal.returns-in_default
returns-in_default c =
    let body : List ℕ = c.args.body.now in
    let i : ℕ = c.loop-line.count in
    let all = YieldsList-end (YieldsList-from_str_split 10 body (lit< tt) (cc) (cc) cc) c.loop-line.yielded _ c.loop-line.yielded_by _ _ c.in-None.is c.next.ensures.steps in
    let end : i ≡ length (pieces body) = c.loop-line.invariant.counted ∙ all.1 in
    sym c.loop-line.invariant.goes_on ∙ lines_all i (state c.loop-line.draft) (pieces body) (omega arith) c.in_default.not-Start
