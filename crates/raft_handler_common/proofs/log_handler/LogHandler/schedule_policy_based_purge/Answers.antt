use Rattle.std.proofs.Common.{sym, subst}
use Rattle.raft_handler_common.specs.Handlers.{view_of_log}
use Rattle.raft_steps.specs.Invariants.{IsSound}
use Rattle.raft_steps.proofs.KeptPurge.{scheduled_is_sound}
use Rattle.raft_handler_common.proofs.log_handler.LogHandler.schedule_policy_based_purge.Goals as goal

pub returns-clause-sound : goal.returns-clause-sound
returns-clause-sound g c =
    let cmp = g.C.NodeId.Ord.cmp in
    let h = c.args.self.now in
    λ leader candidate before unspent.
    subst (λ k. IsSound cmp h.config.now (record { core = k; leader = leader; candidate = candidate })) (sym c.schedule_policy_based_purge.ensures)
    (scheduled_is_sound cmp g.met.C.NodeId.Ord.total g.met.C.NodeId.NodeId.equal_is_same h.config.now (record { core = view_of_log h; leader = leader; candidate = candidate }) (before unspent))
