use Rattle.std.proofs.Common.{◌≡◌, ◌∷◌, ap, ◌∙◌, arith}
use Rattle.raft_requests.specs.Options.{option_at}
use Rattle.raft_requests.proofs.Chosen.{no_option, clashing, goes_on, ended}
use Rattle.raft_requests.proofs.options.drafted.Goals as goal

pub returns-in_err-option : goal.returns-in_err-option
returns-in_err-option c =
    let front : c.loop-word.rest.now ≡ c.in-Some.word.now ∷ c.in-Some.after.now = grind arith in
    rw c.from_residual.ensures
    (no_option c.args.words.now c.loop-word.rest.now c.loop-word.draft c.loop-word.invariant front
    (c.in_err-option.ensures.option ∙ ap (λ w. option_at w c.in-Some.after.now) c.as_slice.ensures))

pub returns-in_err-draft : goal.returns-in_err-draft
returns-in_err-draft c =
    let front : c.loop-word.rest.now ≡ c.in-Some.word.now ∷ c.in-Some.after.now = grind arith in
    rw c.from_residual-in_err-draft.ensures
    (clashing c.args.words.now c.loop-word.rest.now c.loop-word.draft c.loop-word.invariant front c.in_ok-option.option c.in_ok-option.after.now
    (c.in_ok-option.ensures.option ∙ ap (λ w. option_at w c.in-Some.after.now) c.as_slice.ensures) c.in_err-draft.ensures)

pub loop-word-preserved : goal.loop-word-preserved
loop-word-preserved c =
    let front : c.loop-word.rest.now ≡ c.in-Some.word.now ∷ c.in-Some.after.now = grind arith in
    goes_on c.args.words.now c.loop-word.rest.now c.loop-word.draft c.loop-word.invariant front c.in_ok-option.option c.in_ok-option.after.now c.in_ok-draft.draft
    (c.in_ok-option.ensures.option ∙ ap (λ w. option_at w c.in-Some.after.now) c.as_slice.ensures) c.in_ok-draft.ensures

pub returns : goal.returns
returns c = ended c.args.words.now c.loop-word.rest.now c.loop-word.draft c.loop-word.invariant (omega (arith, c.in_default.ensures.cases))
