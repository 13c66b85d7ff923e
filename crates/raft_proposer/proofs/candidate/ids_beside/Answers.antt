use Rattle.std.proofs.Common.{◌≡◌, refl}
use Rattle.raft_progress.specs.Table.{learners_beside}
use Rattle.raft_proposer.proofs.Beside.{stay_beside}
use Rattle.raft_proposer.proofs.candidate.ids_beside.Goals as goal

pub returns-clause-again : goal.returns-clause-again
returns-clause-again g c =
    let e : c.in_ok-beside.beside ≡ learners_beside g.C.NodeId.Ord.cmp (g.QS.QuorumSet.members c.args.quorum_set.now) c.args.ids.now =
    rw (c.in_ok-beside.ensures, c.deref.ensures.value, c.in_ok-voters.ensures) refl in
    stay_beside g.C.NodeId.Ord.cmp g.met.C.NodeId.Ord.total g.met.C.NodeId.NodeId.equal_is_same (g.QS.QuorumSet.members c.args.quorum_set.now) c.args.ids.now c.in_ok-beside.beside e
