use Rattle.std.proofs.Common.{◌∙◌}
use Rattle.raft_machine.specs.Machine.{state_of}
use Rattle.raft_machine.proofs.Pieces.{front_on}
use Rattle.raft_machine.proofs.machine.Machine.write_front.Goals as goal

pub returns-clause-next : goal.returns-clause-next
returns-clause-next c =
    front_on (state_of c.args.self.now) c.args.out.now.items _ _ _ c.in_ok-push.ensures.items (c.from_vec.ensures ∙ c.new.ensures.items) c.in_ok-write_front.ensures.front
