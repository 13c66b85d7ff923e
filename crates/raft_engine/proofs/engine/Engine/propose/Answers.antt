use Rattle.std.proofs.Common.{refl, length}
use Rattle.raft_steps.specs.LeaderHandler.{leader_append_entries}
use Rattle.raft_steps.specs.Refusals.{refusals_of_propose}
use Rattle.raft_engine.proofs.Leading.{ends_led, stays_led}
use Rattle.raft_engine.proofs.engine.Engine.propose.Goals as goal

pub returns-in-Some-clause-sound : goal.returns-in-Some-clause-sound
returns-in-Some-clause-sound g c =
    let e = c.args.self.now in
    stays_led g.C.NodeId.Ord.cmp e.config e.leader c.in-Some.leader c.deref_mut.result.now c.propose.new.leader e.state c.propose.new.state
    e.output c.propose.new.output e.candidate c.in-Some.is c.deref_mut.ensures.value c.propose.ensures.beside c.requires.sound

pub returns-in-Some-clause-step : goal.returns-in-Some-clause-step
returns-in-Some-clause-step g c =
    let e = c.args.self.now in
    ends_led g.C.NodeId.Ord.cmp c.propose.result e.leader c.in-Some.leader c.deref_mut.result.now c.propose.new.leader e.state c.propose.new.state e.output c.propose.new.output e.candidate
    (refusals_of_propose (length c.args.entries.items)) (leader_append_entries g.C.NodeId.Ord.cmp g.C.Entry.RaftEntry e.config c.args.entries.items) c.in-Some.is c.deref_mut.ensures.value (λ spent. rw spent refl) c.propose.ensures.step
