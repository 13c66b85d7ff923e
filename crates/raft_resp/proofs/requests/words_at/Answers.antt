use Rattle.std.specs.Prelude.{ℕ, List}
use Rattle.std.specs.Borrow.{Bor}
use Rattle.std.proofs.Common.{◌-◌, ◌+◌, ◌∙◌, ap, arith}
use Rattle.std.proofs.lemmas.List.{map_push}
use Rattle.std.proofs.lemmas.Result.{err_from_is_err_and}
use Rattle.raft_resp.specs.Reading.{texts}
use Rattle.raft_resp.specs.Requests.{words_at}
use Rattle.raft_resp.proofs.Loops.{with_front, words-more, words-stop}
use Rattle.raft_resp.proofs.requests.words_at.Goals as goal

pub returns-in_err-word : goal.returns-in_err-word
returns-in_err-word c =
    let p = err_from_is_err_and c.from_residual.result c.from_residual.ensures.1 in
    rw (p.1, p.2)
    (words-stop c.args.most c.args.count c.loop.counter c.loop.rest.now (texts c.loop.words.items) (words_at c.args.most c.args.count c.args.bytes.now) c.in_err-word.field-0.0
    (omega (arith, c.loop-test.true)) c.in_err-word.ensures c.loop.invariant)

pub loop-preserved : goal.loop-preserved
loop-preserved c =
    let seen : Bor (List ℕ) → List ℕ = λ w. w.now in
    ap (λ (front : List (List ℕ)). with_front front (words_at c.args.most (c.args.count - (c.loop.counter + 1)) c.in_ok-word.behind.now)) (ap texts c.in_ok-push.ensures.items ∙ map_push seen c.loop.words.items c.in_ok-word.word)
    ∙ words-more c.args.most c.args.count c.loop.counter c.loop.rest.now c.in_ok-word.behind.now c.in_ok-word.word.now (texts c.loop.words.items) (words_at c.args.most c.args.count c.args.bytes.now)
    (omega (arith, c.loop-test.true)) c.in_ok-word.ensures c.loop.invariant
