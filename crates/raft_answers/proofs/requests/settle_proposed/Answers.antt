use Rattle.std.proofs.Common.{◌≡◌, ◌<◌, ◌∙◌, true, length, get_or, arith, rules}
use Rattle.raft_answers.specs.Answers.{answer_at, waits_upto}
use Rattle.raft_answers.proofs.Stepping.{passes}
use Rattle.raft_answers.proofs.requests.settle_proposed.Goals as goal

pub proposals-preserved : goal.proposals-preserved
proposals-preserved c =
    let x = c.in-Some.proposal.now in
    let xs = c.proposals.proposed.items in
    let some : 0 < length xs = search rules in
    let is : x ≡ get_or xs 0 x = c.in-Some.ensures.lookup in
    let holds : waits_upto c.args.id.now.index x ≡ true = grind arith in
    let step =
    passes (waits_upto c.args.id.now.index)
    (λ p. record { token = p.token; answer = answer_at c.args.id.now p }) xs
    c.pop_front.new.self.items x c.proposals.replies.items c.push_reply.new.replies.items some is c.pop_front.ensures.rest holds (search rules) in
    (step.0 ∙ c.proposals.invariant.0, step.1 ∙ c.proposals.invariant.1)
