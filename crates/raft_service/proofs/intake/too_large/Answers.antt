use Rattle.std.proofs.Common.{[], ◌∷◌, ◌++◌, ap, ◌∙◌}
use Rattle.raft_machine.specs.declared.command.Failure.TheVariants.{TooLong}
use Rattle.raft_machine.specs.declared.command.Reply.TheVariants.{Failed}
use Rattle.raft_service.proofs.Repeated.{repeat_more}
use Rattle.raft_service.proofs.intake.too_large.Goals as goal

pub loop-preserved : goal.loop-preserved
loop-preserved c = c.in_ok-push.ensures.items ∙ ap (λ rs. rs ++ Failed TooLong ∷ []) c.loop.invariant ∙ repeat_more c.loop.counter (Failed TooLong)
