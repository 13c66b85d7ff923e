use Rattle.std.proofs.Common.{ap, ◌∙◌}
use Rattle.raft_steps.specs.Replies.{update_matching}
use Rattle.raft_steps.specs.ReplicationHandler.{commit_granted}
use Rattle.raft_handler_leader.proofs.replies.update_matching.Goals as goal

pub returns : goal.returns
unfolding update_matching
returns g c = c.in_ok-commit_granted.ensures ∙ ap (commit_granted g.C.NodeId.Ord.cmp c.args.config.now) c.note_matching.ensures
