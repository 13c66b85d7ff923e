use Rattle.std.proofs.Common.{Ok}
use Rattle.raft_steps.specs.Replies.{update_progress}
use Rattle.raft_calls.specs.Engines.{view_of}
use Rattle.raft_calls.proofs.Refused.{progress_ended}
use Rattle.raft_calls.proofs.deliver.take_result.Goals as goal

pub returns : goal.returns
unfolding update_progress
returns c =
    rw c.refusal_of.ensures
    (progress_ended c.args.from c.args.origin.now.request_id (Ok (record { sending_time = c.args.origin.now.sent_at; result = c.args.answer })) (view_of c.args.engine.now) (view_of c.update_progress.new.self)
    c.update_progress.result c.update_progress.ensures.step c.update_progress.ensures.config c.update_progress.ensures.flag)
