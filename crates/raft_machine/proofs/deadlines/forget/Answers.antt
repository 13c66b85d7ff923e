use Rattle.raft_machine.proofs.Noted.{kept_but}
use Rattle.raft_machine.proofs.deadlines.forget.Goals as goal

pub returns : goal.returns
returns c = kept_but c.args.deadlines.now c.remove.new.self c.args.at c.args.key.items c.remove.ensures.keys
