use Rattle.std.proofs.Common.{refl, true}
use Rattle.std.specs.Ordering.{nat_cmp}
use Rattle.raft_steps.specs.Refusals.{refusals_of_counter_led}
use Rattle.raft_steps.specs.ReplicationHandler.{initiate_replication}
use Rattle.raft_calls.specs.Engines.{view_of}
use Rattle.raft_calls.proofs.Refused.{ended_along}
use Rattle.raft_calls.proofs.lead.send_heartbeats.Goals as goal

pub returns : goal.returns
returns c =
    rw c.refusal_of.ensures
    (ended_along refusals_of_counter_led (initiate_replication nat_cmp c.args.engine.now.config true) (λ l s. rw s refl) (view_of c.args.engine.now) (view_of c.send_heartbeat.new.self) c.send_heartbeat.result
    c.send_heartbeat.ensures.step c.send_heartbeat.ensures.config c.send_heartbeat.ensures.flag)
