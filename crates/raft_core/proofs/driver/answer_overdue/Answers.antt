use Rattle.std.proofs.Common.{List, ◌∙◌, ◌++◌, ap, subst}
use Rattle.raft_answers.specs.declared.answer.Reply.{Reply}
use Rattle.raft_core.specs.Calls.{Loses, RefusesReads}
use Rattle.raft_core.specs.Outputs.{reads_out}
use Rattle.raft_core.proofs.Assembled.{answers_overdue}
use Rattle.raft_core.proofs.driver.answer_overdue.Goals as goal

pub returns : goal.returns
returns g c =
    let requests = c.args.clients.now.requests in
    let reads = c.args.clients.now.reads in
    let lost = c.end_lost.new.replies.items in
    let replies = c.expire.new.replies.items in
    let refused = c.refuse_gone.new.replies.items in
    let told = c.expire-2.new.replies.items in
    answers_overdue c.args.upto requests c.end_lost.new.requests c.expire.new.self reads c.refuse_gone.new.reads c.expire-2.new.self
    lost replies refused told c.args.outputs.now.items c.read_all.new.outputs.items
    (subst (λ (t : List Reply). Loses requests t c.end_lost.new.requests lost) c.new-replies.ensures.items c.in_ok-end_lost.ensures)
    c.in_ok-expire.ensures.left c.in_ok-expire.ensures.replies
    (subst (λ (t : List Reply). RefusesReads reads t c.refuse_gone.new.reads refused) c.new-told.ensures.items c.in_ok-refuse_gone.ensures)
    c.in_ok-expire-2.ensures.left c.in_ok-expire-2.ensures.replies
    (c.in_ok-read_all.ensures ∙ ap (λ front. front ++ reads_out told) c.in_ok-reply_all.ensures)
