use Rattle.std.proofs.Common.{rules, ◌≡◌, false}
use Rattle.raft_handler_common.specs.Handlers.{view_of_log}
use Rattle.raft_steps.proofs.KeptPurge.{purge_is_sound}
use Rattle.raft_steps.proofs.Settled.{settled_core}
use Rattle.raft_handler_common.proofs.log_handler.LogHandler.purge_log.Goals as goal

pub returns-clause-sound : goal.returns-clause-sound
returns-clause-sound g c =
    let h = c.args.self.now in
    let unspent : h.output.now.spent ≡ false = search rules in
    λ leader candidate before.
    settled_core g.C.NodeId.Ord.cmp h.config.now _ _ _ _ _ leader candidate _ c.settle.ensures c.purge_log-done.ensures
    (purge_is_sound g.C.NodeId.Ord.cmp g.met.C.NodeId.Ord.total g.met.C.NodeId.NodeId.equal_is_same h.config.now
    (record { core = view_of_log h; leader = leader; candidate = candidate }) (before unspent))
