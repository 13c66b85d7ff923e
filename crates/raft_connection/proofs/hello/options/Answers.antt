use Rattle.std.specs.Prelude.{◌≡◌, ℕ, ◌≤◌, List, ◌∷◌, length}
use Rattle.std.proofs.Common.{arith, ap, sym, ◌∙◌}
use Rattle.std.proofs.lemmas.Result.{err_from_is_err_and}
use Rattle.raft_connection.specs.Hello.{options, unsaid}
use Rattle.raft_connection.proofs.Options.{option_shorter, options_more, options_stop}
use Rattle.raft_connection.proofs.hello.options.Goals as goal

pub returns-in_err-more : goal.returns-in_err-more
returns-in_err-more c =
    let p = err_from_is_err_and c.from_residual.result c.from_residual.ensures.1 in
    let front : c.loop-name.rest.now ≡ c.in-Some.name.now ∷ c.in-Some.after.now = grind arith in
    rw (p.1, p.2)
    (options_stop c.args.secret.now c.in_err-more.field-0.0 c.loop-name.said c.loop-name.rest.now c.as_slice.result.now c.in-Some.after.now (options c.args.secret.now unsaid c.args.words.now)
    (front ∙ ap (λ (w : List ℕ). w ∷ c.in-Some.after.now) (sym c.as_slice.ensures)) c.in_err-more.ensures c.loop-name.invariant)

pub loop-name-smaller : goal.loop-name-smaller
loop-name-smaller c =
    let front : c.loop-name.rest.now ≡ c.in-Some.name.now ∷ c.in-Some.after.now = grind arith in
    let longer = ap (λ (ws : List (List ℕ)). length ws) front in
    let shorter : length c.in_ok-more.behind.now ≤ length c.in-Some.after.now = option_shorter c.args.secret.now c.loop-name.said c.in_ok-more.more c.as_slice.result.now c.in-Some.after.now c.in_ok-more.behind.now c.in_ok-more.ensures in
    omega (arith, longer, shorter)

pub loop-name-preserved : goal.loop-name-preserved
loop-name-preserved c =
    let front : c.loop-name.rest.now ≡ c.in-Some.name.now ∷ c.in-Some.after.now = grind arith in
    options_more c.args.secret.now c.loop-name.said c.in_ok-more.more c.loop-name.rest.now c.as_slice.result.now c.in-Some.after.now c.in_ok-more.behind.now (options c.args.secret.now unsaid c.args.words.now)
    (front ∙ ap (λ (w : List ℕ). w ∷ c.in-Some.after.now) (sym c.as_slice.ensures)) c.in_ok-more.ensures c.loop-name.invariant
