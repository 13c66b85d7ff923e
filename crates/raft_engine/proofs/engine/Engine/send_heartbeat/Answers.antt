use Rattle.std.proofs.Common.{refl, true}
use Rattle.raft_steps.specs.Refusals.{refusals_of_counter_led}
use Rattle.raft_steps.specs.ReplicationHandler.{initiate_replication}
use Rattle.raft_engine.proofs.Leading.{ends_led, stays_led}
use Rattle.raft_engine.proofs.engine.Engine.send_heartbeat.Goals as goal

pub returns-in-Some-clause-sound : goal.returns-in-Some-clause-sound
returns-in-Some-clause-sound g c =
    let e = c.args.self.now in
    stays_led g.C.NodeId.Ord.cmp e.config e.leader c.in-Some.leader c.deref_mut.result.now c.send_heartbeat.new.leader e.state c.send_heartbeat.new.state
    e.output c.send_heartbeat.new.output e.candidate c.in-Some.is c.deref_mut.ensures.value c.send_heartbeat.ensures.beside c.requires

pub returns-in-Some-clause-step : goal.returns-in-Some-clause-step
returns-in-Some-clause-step g c =
    let e = c.args.self.now in
    ends_led g.C.NodeId.Ord.cmp c.send_heartbeat.result e.leader c.in-Some.leader c.deref_mut.result.now c.send_heartbeat.new.leader e.state c.send_heartbeat.new.state e.output c.send_heartbeat.new.output e.candidate
    refusals_of_counter_led (initiate_replication g.C.NodeId.Ord.cmp e.config true) c.in-Some.is c.deref_mut.ensures.value (λ spent. rw spent refl) c.send_heartbeat.ensures.step
