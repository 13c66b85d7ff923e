use Rattle.std.proofs.Common.{◌≡◌, [], ◌∷◌}
use Rattle.std.specs.List.{repeat}
use Rattle.raft_machine.specs.declared.command.Failure.TheVariants.{TooLong}
use Rattle.raft_machine.specs.declared.command.Reply.TheVariants.{Failed}
use Rattle.raft_service.proofs.intake.too_large.Given as goal

abbrev pub invariant-loop : goal.invariant-loop
invariant-loop l = l.replies.items ≡ repeat l.counter (Failed TooLong ∷ [])
