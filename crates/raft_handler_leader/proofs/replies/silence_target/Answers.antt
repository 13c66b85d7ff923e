use Rattle.std.proofs.Common.{◌∙◌, ap, sym, is_some}
use Rattle.raft_handler_leader.proofs.replies.silence_target.Goals as goal

pub acknowledge-requires-clause-known : goal.acknowledge-requires-clause-known
acknowledge-requires-clause-known g c = ap is_some (sym c.entry_of.ensures ∙ c.in-Some.is)
