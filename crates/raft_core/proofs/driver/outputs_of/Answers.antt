use Rattle.std.proofs.Common.{◌∙◌, ◌++◌, ap, append_assoc}
use Rattle.raft_core.specs.Calls.{appended}
use Rattle.raft_core.specs.Outputs.{reads_out, replies_out}
use Rattle.raft_core.proofs.driver.outputs_of.Goals as goal

pub returns : goal.returns
returns g c =
    let replies = c.args.replies.items in
    let told = c.args.told.items in
    let written = c.args.written in
    c.in_ok-append.ensures
    ∙ (ap (λ front. front ++ appended written) (c.in_ok-read_all.ensures
    ∙ ap (λ front. front ++ reads_out told) (c.in_ok-reply_all.ensures ∙ ap (λ front. front ++ replies_out replies) c.new-outputs.ensures.items))
    ∙ append_assoc (replies_out replies) (reads_out told) (appended written))
