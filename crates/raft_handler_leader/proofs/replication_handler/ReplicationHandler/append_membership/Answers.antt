use Rattle.std.proofs.Common.{rules, ◌≡◌, false, Some}
use Rattle.raft_handler_leader.specs.Handlers.{view_of_replication}
use Rattle.raft_steps.proofs.Counted.{counted_once}
use Rattle.raft_steps.proofs.KeptLead.{join_kept}
use Rattle.raft_steps.proofs.Settled.{settled_led, settled_beside}
use Rattle.raft_steps.specs.Parts.{led_machine}
use Rattle.raft_steps.proofs.KeptCommit.{join_is_sound}
use Rattle.raft_handler_leader.proofs.replication_handler.ReplicationHandler.append_membership.Goals as goal

pub append_copy-done-requires-clause-may : goal.append_copy-done-requires-clause-may
append_copy-done-requires-clause-may g c =
    let h = c.args.self.now in
    let unspent : h.output.now.spent ≡ false = search rules in
    counted_once g.C.NodeId.Ord.cmp h.config.now (view_of_replication h) (c.requires.sound unspent) (search rules)

pub append_copy-done-requires-clause-log : goal.append_copy-done-requires-clause-log
append_copy-done-requires-clause-log g c =
    let h = c.args.self.now in
    let unspent : h.output.now.spent ≡ false = search rules in
    (counted_once g.C.NodeId.Ord.cmp h.config.now (view_of_replication h) (c.requires.sound unspent) (search rules)).log

pub returns-clause-sound : goal.returns-clause-sound
returns-clause-sound g c =
    let h = c.args.self.now in
    let unspent : h.output.now.spent ≡ false = search rules in
    settled_led g.C.NodeId.Ord.cmp h.config.now _ _ _ _ _ _ _ c.settle.ensures c.append_copy-done.ensures
    (join_kept g.C.NodeId.Ord.cmp g.met.C.NodeId.Ord.total g.met.C.NodeId.NodeId.equal_is_same h.config.now (record { log_id = Some c.args.log_id.now; membership = c.args.membership.now }) (view_of_replication h) (c.requires.sound unspent))

pub returns-clause-beside : goal.returns-clause-beside
returns-clause-beside g c =
    let h = c.args.self.now in
    let unspent : h.output.now.spent ≡ false = search rules in
    λ candidate before.
    settled_beside g.C.NodeId.Ord.cmp h.config.now _ _ _ _ _ _ candidate _ c.settle.ensures c.append_copy-done.ensures
    (join_is_sound g.C.NodeId.Ord.cmp g.met.C.NodeId.Ord.total g.met.C.NodeId.NodeId.equal_is_same h.config.now (record { log_id = Some c.args.log_id.now; membership = c.args.membership.now }) (led_machine (view_of_replication h) candidate) c.requires.may.own_vote (before unspent))
