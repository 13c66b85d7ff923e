use Rattle.std.proofs.Common.{◌≡◌, ◌<◌, ◌∙◌, true, length, get_or, arith, rules}
use Rattle.raft_answers.specs.declared.answer.Answer.TheVariants.{Failed}
use Rattle.raft_answers.specs.Answers.{came_upto}
use Rattle.raft_answers.proofs.Stepping.{passes}
use Rattle.raft_answers.proofs.requests.expire_waiting.Goals as goal

pub requests-preserved-in_ok-push_reply : goal.requests-preserved-in_ok-push_reply
requests-preserved-in_ok-push_reply c =
    let x = c.in-Some.request.now in
    let xs = c.requests.waiting.items in
    let some : 0 < length xs = search rules in
    let is : x ≡ get_or xs 0 x = c.in-Some.ensures.lookup in
    let holds : came_upto c.args.upto x ≡ true = grind arith in
    let step =
    passes (came_upto c.args.upto)
    (λ r. record { token = r.token; answer = Failed }) xs
    c.pop_front.new.self.items x c.requests.replies.items c.push_reply.new.replies.items some is c.pop_front.ensures.rest holds (search rules) in
    (step.0 ∙ c.requests.invariant.0, step.1 ∙ c.requests.invariant.1)

pub requests-preserved-in_ok-push_reply-2 : goal.requests-preserved-in_ok-push_reply-2
requests-preserved-in_ok-push_reply-2 c =
    let x = c.in-Some.request.now in
    let xs = c.requests.waiting.items in
    let some : 0 < length xs = search rules in
    let is : x ≡ get_or xs 0 x = c.in-Some.ensures.lookup in
    let holds : came_upto c.args.upto x ≡ true = grind arith in
    let step =
    passes (came_upto c.args.upto)
    (λ r. record { token = r.token; answer = Failed }) xs
    c.pop_front.new.self.items x c.requests.replies.items c.push_reply.new.replies.items some is c.pop_front.ensures.rest holds (search rules) in
    (step.0 ∙ c.requests.invariant.0, step.1 ∙ c.requests.invariant.1)
