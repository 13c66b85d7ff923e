use Rattle.std.proofs.Common.{rules, ◌≡◌, false, None}
use Rattle.raft_handler_leader.specs.Handlers.{view_of_leader}
use Rattle.raft_steps.proofs.Counted.{counted_once}
use Rattle.raft_steps.proofs.KeptLead.{initiate_kept}
use Rattle.raft_steps.proofs.Settled.{settled_led, settled_beside}
use Rattle.raft_steps.specs.Parts.{led_machine}
use Rattle.raft_steps.proofs.KeptEngine.{initiate_is_sound}
use Rattle.raft_steps.specs.Refusals.{refusals_of_counter_led}
use Rattle.raft_handler_leader.proofs.Settling.{ends_settled}
use Rattle.raft_handler_leader.proofs.leader_handler.LeaderHandler.send_heartbeat.Goals as goal

pub initiate_replication-done-requires-clause-rows : goal.initiate_replication-done-requires-clause-rows
initiate_replication-done-requires-clause-rows g c =
    let h = c.args.self.now in
    let unspent : h.output.now.spent ≡ false = search rules in
    (counted_once g.C.NodeId.Ord.cmp h.config.now (view_of_leader h) (c.requires unspent) (search rules)).rows

pub initiate_replication-done-requires-clause-log : goal.initiate_replication-done-requires-clause-log
initiate_replication-done-requires-clause-log g c =
    let h = c.args.self.now in
    let unspent : h.output.now.spent ≡ false = search rules in
    (counted_once g.C.NodeId.Ord.cmp h.config.now (view_of_leader h) (c.requires unspent) (search rules)).log

pub returns-clause-step : goal.returns-clause-step
returns-clause-step g c =
    let counted : refusals_of_counter_led (view_of_leader c.args.self.now) ≡ None = search rules in
    ends_settled _ _ _ _ _ _ _ _ _ _ counted c.settle.ensures c.initiate_replication-done.ensures

pub returns-clause-sound : goal.returns-clause-sound
returns-clause-sound g c =
    let h = c.args.self.now in
    let unspent : h.output.now.spent ≡ false = search rules in
    settled_led g.C.NodeId.Ord.cmp h.config.now _ _ _ _ _ _ _ c.settle.ensures c.initiate_replication-done.ensures
    (initiate_kept g.C.NodeId.Ord.cmp g.met.C.NodeId.Ord.total g.met.C.NodeId.NodeId.equal_is_same h.config.now _ (view_of_leader h) (c.requires unspent))

pub returns-clause-beside : goal.returns-clause-beside
returns-clause-beside g c =
    let h = c.args.self.now in
    let unspent : h.output.now.spent ≡ false = search rules in
    λ candidate before.
    settled_beside g.C.NodeId.Ord.cmp h.config.now _ _ _ _ _ _ candidate _ c.settle.ensures c.initiate_replication-done.ensures
    (initiate_is_sound g.C.NodeId.Ord.cmp g.met.C.NodeId.Ord.total g.met.C.NodeId.NodeId.equal_is_same h.config.now _ (led_machine (view_of_leader h) candidate) (before unspent))
