use Rattle.std.proofs.Common.{sym, subst, ◌^◌, ◌<◌}
use Rattle.raft_state.specs.Order.{next}
use Rattle.raft_steps.specs.Parts.{led_of}
use Rattle.raft_steps.proofs.Started.{local_may}
use Rattle.raft_engine.proofs.starts.lead_on.Goals as goal

pub initiate_replication-requires-clause-rows : goal.initiate_replication-requires-clause-rows
initiate_replication-requires-clause-rows g c =
    (local_may g.C.NodeId.Ord.cmp g.met.C.NodeId.Ord.total g.met.C.NodeId.NodeId.equal_is_same c.args.config.now 1 c.last_log_id-last.result
    (led_of c.args.leader.now c.args.state.now c.args.output.now) _ c.in_ok-update_local_progress.ensures
    (subst (λ o. next o < 2 ^ 64) (sym c.last_log_id-last.ensures) c.requires.send.log) c.requires.send).rows

pub initiate_replication-requires-clause-log : goal.initiate_replication-requires-clause-log
initiate_replication-requires-clause-log g c =
    (local_may g.C.NodeId.Ord.cmp g.met.C.NodeId.Ord.total g.met.C.NodeId.NodeId.equal_is_same c.args.config.now 1 c.last_log_id-last.result
    (led_of c.args.leader.now c.args.state.now c.args.output.now) _ c.in_ok-update_local_progress.ensures
    (subst (λ o. next o < 2 ^ 64) (sym c.last_log_id-last.ensures) c.requires.send.log) c.requires.send).log
