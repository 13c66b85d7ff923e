use Rattle.std.proofs.Common.{Some}
use Rattle.raft_handler_common.specs.Handlers.{view_of_log}
use Rattle.raft_steps.proofs.KeptPurge.{target_sound, targeted_is_sound}
use Rattle.raft_handler_common.proofs.log_handler.LogHandler.update_purge_upto.Goals as goal

pub returns-clause-sound : goal.returns-clause-sound
returns-clause-sound g c =
    let cmp = g.C.NodeId.Ord.cmp in
    let total = g.met.C.NodeId.Ord.total in
    let same = g.met.C.NodeId.NodeId.equal_is_same in
    let h = c.args.self.now in
    λ leader candidate before unspent.
    targeted_is_sound cmp total same h.config.now (Some c.args.purge_upto) (record { core = view_of_log h; leader = leader; candidate = candidate })
    (target_sound cmp total same h.state.now (before unspent).sound (Some c.args.purge_upto) c.requires.fit c.requires.above c.requires.below) (before unspent)
