use Rattle.std.proofs.Common.{◌∙◌, sym, ap}
use Rattle.raft_progress.specs.Table.{row_ids}
use Rattle.raft_proposer.proofs.candidate.Candidate.copy.Goals as goal

-- a copy of the set has the same members
pub invariant_of-result : goal.invariant_of-result
invariant_of-result g c =
    let h = c.in_ok-copy.ensures in
    let alike = (g.met.QS.QuorumSet.copy_is _ _ h.0).0 in
    (ap row_ids h.1 ∙ c.self.invariant.0 ∙ sym alike, rw (c.in_ok-copy-2.ensures, alike) c.self.invariant.1)
