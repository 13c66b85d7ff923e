use Rattle.raft_steps.proofs.HeldNodes.{engine_tables, table_of_members}
use Rattle.raft_steps.proofs.lead_laws.tables_follow_the_membership.Goals as goal

pub returns : goal.returns
returns g c =
    let cmp = g.C.NodeId.Ord.cmp in
    record {
      progress = λ config l h. table_of_members cmp l.core.state.em.membership l.leader.progress h.leader_fits.progress;
      clock = λ config l h. table_of_members cmp l.core.state.em.membership l.leader.clock_progress h.leader_fits.clock;
      of_engine = λ config m h. engine_tables cmp config m h;
    }
