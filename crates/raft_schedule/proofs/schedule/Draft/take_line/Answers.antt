use Rattle.std.proofs.Common.{◌≡◌, sym, ◌∙◌, ap, subst}
use Rattle.std.proofs.lemmas.Result.{err_from_is_err_and}
use Rattle.raft_schedule.specs.Text.{said_at}
use Rattle.raft_schedule.specs.Line.{words}
use Rattle.raft_schedule.specs.Reading.{texts, said, Fails}
use Rattle.raft_schedule.proofs.Together.{refused, headed, added}
use Rattle.raft_schedule.proofs.schedule.Draft.take_line.Goals as goal

pub returns-then-begins_second : goal.returns-then-begins_second
returns-then-begins_second c = headed c.args.number c.args.line.now c.args.self.now (sym c.if-is_skipped.ensures) (sym c.if-begins_second.ensures)

pub returns-in_err-line : goal.returns-in_err-line
returns-in_err-line c =
    let p = err_from_is_err_and c.from_residual-in_err-line.result c.from_residual-in_err-line.ensures.1 in
    let split : texts c.deref.result.now ≡ words c.args.self.now.language c.args.line.now = ap texts c.deref.ensures.value ∙ c.in_ok-words.ensures in
    rw (p.1, p.2)
    (refused c.in_err-line.field-0.0 c.args.number c.args.line.now c.args.self.now (sym c.if-is_skipped.ensures) (sym c.if-begins_second.ensures)
    (subst (λ parts. Fails c.in_err-line.field-0.0 (said_at c.args.self.now.language c.args.self.now.place parts)) split c.in_err-line.ensures))

pub returns : goal.returns
returns c =
    let split : texts c.deref.result.now ≡ words c.args.self.now.language c.args.line.now = ap texts c.deref.ensures.value ∙ c.in_ok-words.ensures in
    added c.args.number c.args.line.now c.args.self.now c.add.new.self (said c.in_ok-line.line) c.add.result (sym c.if-is_skipped.ensures) (sym c.if-begins_second.ensures)
    (ap (said_at c.args.self.now.language c.args.self.now.place) (sym split) ∙ c.in_ok-line.ensures) c.add.ensures.said c.add.ensures.language c.add.ensures.place c.add.ensures.err
