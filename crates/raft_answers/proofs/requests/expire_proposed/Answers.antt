use Rattle.std.proofs.Common.{◌≡◌, ◌<◌, ◌∙◌, true, length, get_or, arith, rules}
use Rattle.raft_answers.specs.declared.answer.Answer.TheVariants.{Unknown}
use Rattle.raft_answers.specs.Answers.{proposed_upto}
use Rattle.raft_answers.proofs.Stepping.{passes}
use Rattle.raft_answers.proofs.requests.expire_proposed.Goals as goal

pub proposals-preserved : goal.proposals-preserved
proposals-preserved c =
    let x = c.in-Some.proposal.now in
    let xs = c.proposals.proposed.items in
    let some : 0 < length xs = search rules in
    let is : x ≡ get_or xs 0 x = c.in-Some.ensures.lookup in
    let holds : proposed_upto c.args.upto x ≡ true = grind arith in
    let step =
    passes (proposed_upto c.args.upto)
    (λ p. record { token = p.token; answer = Unknown }) xs
    c.pop_front.new.self.items x c.proposals.replies.items c.push_reply.new.replies.items some is c.pop_front.ensures.rest holds (search rules) in
    (step.0 ∙ c.proposals.invariant.0, step.1 ∙ c.proposals.invariant.1)
