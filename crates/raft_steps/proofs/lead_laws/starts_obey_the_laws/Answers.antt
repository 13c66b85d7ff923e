use Rattle.raft_steps.proofs.LawsLead.{startup_deletes, startup_leads, startup_purges, startup_queues, startup_stores, step_down_deletes, step_down_purges, step_down_queues, step_down_stores, steps_down}
use Rattle.raft_steps.proofs.lead_laws.starts_obey_the_laws.Goals as goal

pub returns-clause-queue : goal.returns-clause-queue
returns-clause-queue g c =
    let cmp = g.C.NodeId.Ord.cmp in
    let total = g.met.C.NodeId.Ord.total in
    let entry = g.C.Entry.RaftEntry in
    record {
      by_startup = λ config m. startup_queues cmp total entry config m;
      by_step_down = λ config m. step_down_queues cmp total entry config m;
    }

pub returns-clause-deletes : goal.returns-clause-deletes
returns-clause-deletes g c =
    let cmp = g.C.NodeId.Ord.cmp in
    let entry = g.C.Entry.RaftEntry in
    record { by_startup = λ config m. startup_deletes cmp entry config m; by_step_down = λ config m. step_down_deletes cmp entry config m }

pub returns-clause-purges : goal.returns-clause-purges
returns-clause-purges g c =
    let cmp = g.C.NodeId.Ord.cmp in
    let entry = g.C.Entry.RaftEntry in
    record { by_startup = λ config m. startup_purges cmp entry config m; by_step_down = λ config m. step_down_purges cmp entry config m }

pub returns-clause-lead : goal.returns-clause-lead
returns-clause-lead g c =
    let cmp = g.C.NodeId.Ord.cmp in
    let entry = g.C.Entry.RaftEntry in
    let named = g.met.C.Entry.RaftEntry.with_id_has in
    record {
      leads = λ config m e. startup_leads cmp entry config m e;
      stores_by_startup = λ config m. startup_stores cmp entry config named m;
      stores_by_step_down = λ config m. step_down_stores cmp entry config named m;
    }

pub returns-clause-down : goal.returns-clause-down
returns-clause-down g c = λ config m settled out. steps_down g.C.NodeId.Ord.cmp g.C.Entry.RaftEntry config m settled out
