use Rattle.std.proofs.Common.{List, ◌∙◌, ◌++◌, ap, subst}
use Rattle.raft_answers.specs.declared.answer.Reply.{Reply}
use Rattle.raft_core.specs.Calls.{Loses, RefusesReads}
use Rattle.raft_core.specs.Outputs.{reads_out, replies_out}
use Rattle.raft_core.proofs.Assembled.{answers_after}
use Rattle.raft_core.proofs.driver.answer_after.Goals as goal

pub returns : goal.returns
returns g c =
    let requests = c.args.clients.now.requests in
    let reads = c.args.clients.now.reads in
    let replies = c.end_lost.new.replies.items in
    let refused = c.refuse_gone.new.replies.items in
    let told = c.answer.new.replies.items in
    answers_after c.args.executed requests c.end_lost.new.requests reads c.refuse_gone.new.reads c.answer.new.self replies refused told
    c.read_all.new.outputs.items
    (subst (λ (t : List Reply). Loses requests t c.end_lost.new.requests replies) c.new-replies.ensures.items c.in_ok-end_lost.ensures)
    (subst (λ (t : List Reply). RefusesReads reads t c.refuse_gone.new.reads refused) c.new-told.ensures.items c.in_ok-refuse_gone.ensures)
    c.in_ok-answer.ensures.left c.in_ok-answer.ensures.replies
    (c.in_ok-read_all.ensures
    ∙ ap (λ front. front ++ reads_out told) (c.in_ok-reply_all.ensures ∙ ap (λ front. front ++ replies_out replies) c.new-outputs.ensures.items))
