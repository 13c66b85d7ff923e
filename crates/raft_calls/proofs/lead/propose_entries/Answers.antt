use Rattle.raft_calls.specs.Engines.{view_of}
use Rattle.raft_calls.proofs.Refused.{propose_ended}
use Rattle.raft_calls.proofs.lead.propose_entries.Goals as goal

pub returns : goal.returns
returns c =
    rw c.refusal_of.ensures
    (propose_ended c.args.entries.items (view_of c.args.engine.now) (view_of c.propose.new.self) c.propose.result c.propose.ensures.step c.propose.ensures.config c.propose.ensures.flag)
