use Rattle.proof_progress.proofs.Matches.{quorums_commit}
use Rattle.proof_progress.proofs.Proposed.{proposal_commits}
use Rattle.proof_progress.proofs.Rounds.{answers_end}
use Rattle.proof_progress.proofs.answers_bring_commits.Goals as goal

pub returns-clause-end : goal.returns-clause-end
returns-clause-end g c =
    let cmp = g.C.NodeId.Ord.cmp in
    let total = g.met.C.NodeId.Ord.total in
    let same = g.met.C.NodeId.NodeId.equal_is_same in
    λ config target k old new h r. answers_end cmp total same config h.payload target k old new h.sound h.unpurged h.asked r

pub returns-clause-commit : goal.returns-clause-commit
returns-clause-commit g c =
    let cmp = g.C.NodeId.Ord.cmp in
    let total = g.met.C.NodeId.Ord.total in
    let same = g.met.C.NodeId.NodeId.equal_is_same in
    λ config target k old new h r m own t ts a q. quorums_commit cmp total same config target k old new h r m own t ts a q

pub returns-clause-propose : goal.returns-clause-propose
returns-clause-propose g c =
    let cmp = g.C.NodeId.Ord.cmp in
    let total = g.met.C.NodeId.Ord.total in
    let same = g.met.C.NodeId.NodeId.equal_is_same in
    λ config e es old mid new payload sound h t ts once voters quorum r. proposal_commits cmp total same g.C.Entry.RaftEntry g.met.C.Entry.RaftEntry.with_id_has config payload e es old sound h.plain mid h t ts once voters quorum new r
