use Rattle.std.proofs.Common.{◌≡◌, ◌∙◌, ◌++◌}
use Rattle.raft_core.specs.Outputs.{reads_out}
use Rattle.raft_reads.specs.Reads.{read_replies, with_left}
use Rattle.raft_core.specs.Outputs.{handed_after}
use Rattle.raft_core.proofs.release.leave.Goals as goal

pub returns-clause-outputs : goal.returns-clause-outputs
returns-clause-outputs g c =
    let released = c.in_ok-outputs.ensures.outputs in
    let told : c.answer.new.replies.items
    ≡ read_replies (handed_after c.args.said c.args.executed.now) (with_left c.args.said.answers c.args.reads.now) =
    c.in_ok-answer.ensures.replies
    ∙ (λ i. c.new-told.ensures.items i ++ read_replies (c.handed_after-last.ensures i) (c.note_answers.ensures i)) in
    (released.0, released.1, c.in_ok-read_all.ensures ∙ (λ i. released.2 i ++ reads_out (told i)))
