use Rattle.std.proofs.Common.{refl, ap, lit<}
use Rattle.raft_steps.specs.Parts.{led_of}
use Rattle.raft_steps.proofs.Sending.{rebuilt_may, progresses_may, same_may}
use Rattle.raft_handler_leader.proofs.replication_handler.append_membership.Goals as goal

pub initiate_replication-requires-clause-rows : goal.initiate_replication-requires-clause-rows
initiate_replication-requires-clause-rows g c =
    (rebuilt_may g.C.NodeId.Ord.cmp c.args.config.now 1 _ _ c.in_ok-rebuild_replication_streams.ensures.step
    (progresses_may g.C.NodeId.Ord.cmp 1 _ _ c.in_ok-rebuild_progresses.ensures (lit< tt)
    (same_may 1 (led_of c.args.leader.now c.args.state.now c.args.output.now) _ refl (ap (λ s. s.ids) c.append_membership.ensures) c.requires.may))).rows

pub initiate_replication-requires-clause-log : goal.initiate_replication-requires-clause-log
initiate_replication-requires-clause-log g c =
    (rebuilt_may g.C.NodeId.Ord.cmp c.args.config.now 1 _ _ c.in_ok-rebuild_replication_streams.ensures.step
    (progresses_may g.C.NodeId.Ord.cmp 1 _ _ c.in_ok-rebuild_progresses.ensures (lit< tt)
    (same_may 1 (led_of c.args.leader.now c.args.state.now c.args.output.now) _ refl (ap (λ s. s.ids) c.append_membership.ensures) c.requires.may))).log
