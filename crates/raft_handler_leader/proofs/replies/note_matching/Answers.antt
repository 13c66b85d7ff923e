use Rattle.std.proofs.Common.{◌≡◌, ◌∙◌, ap, sym, is_some, Some}
use Rattle.raft_progress.specs.Table.{get}
use Rattle.raft_steps.proofs.Replied.{acknowledgement_rises}
use Rattle.raft_handler_leader.proofs.replies.note_matching.Goals as goal

pub acknowledge-requires-clause-known : goal.acknowledge-requires-clause-known
acknowledge-requires-clause-known g c = ap is_some (sym c.entry_of.ensures ∙ c.in-Some.is)

pub acknowledge-requires-clause-rises : goal.acknowledge-requires-clause-rises
acknowledge-requires-clause-rises g c =
    let cmp = g.C.NodeId.Ord.cmp in
    let held : get cmp c.args.leader.now.progress c.args.target.now ≡ Some c.in-Some.entry = sym c.entry_of.ensures ∙ c.in-Some.is in
    acknowledgement_rises cmp g.met.C.NodeId.Ord.total c.args.leader.now c.args.target.now c.args.number c.args.matching.now c.args.state.now c.in-Some.entry c.matched-entry.result
    held c.requires.ahead c.requires.passed c.matched-entry.ensures
