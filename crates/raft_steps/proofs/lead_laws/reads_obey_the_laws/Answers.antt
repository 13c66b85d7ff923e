use Rattle.raft_steps.proofs.LawsLead.{reads_committed, reads_no_more, reads_own}
use Rattle.raft_steps.proofs.lead_laws.reads_obey_the_laws.Goals as goal

pub returns : goal.returns
returns g c =
    let cmp = g.C.NodeId.Ord.cmp in
    let total = g.met.C.NodeId.Ord.total in
    record { committed = λ l. reads_committed cmp total l; own = λ l. reads_own cmp total l; no_more = λ l. reads_no_more cmp total l }
