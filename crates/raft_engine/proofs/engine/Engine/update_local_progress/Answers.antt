use Rattle.std.proofs.Common.{refl}
use Rattle.raft_steps.specs.Laws.{takes_local}
use Rattle.raft_steps.specs.Refusals.{refusals_of_local_progress}
use Rattle.raft_steps.specs.ReplicationHandler.{update_local_progress}
use Rattle.raft_engine.proofs.Leading.{commits_led, ends_led, stays_led}
use Rattle.raft_engine.proofs.engine.Engine.update_local_progress.Goals as goal

pub returns-in-Some-clause-sound : goal.returns-in-Some-clause-sound
returns-in-Some-clause-sound g c =
    let e = c.args.self.now in
    stays_led g.C.NodeId.Ord.cmp e.config e.leader c.in-Some.leader c.deref_mut.result.now c.update_local_progress.new.leader e.state c.update_local_progress.new.state
    e.output c.update_local_progress.new.output e.candidate c.in-Some.is c.deref_mut.ensures.value c.update_local_progress.ensures.beside c.requires.sound

pub returns-in-Some-clause-step : goal.returns-in-Some-clause-step
returns-in-Some-clause-step g c =
    let e = c.args.self.now in
    ends_led g.C.NodeId.Ord.cmp c.update_local_progress.result e.leader c.in-Some.leader c.deref_mut.result.now c.update_local_progress.new.leader e.state c.update_local_progress.new.state e.output c.update_local_progress.new.output e.candidate
    (refusals_of_local_progress g.C.NodeId.Ord.cmp e.config c.args.upto) (update_local_progress g.C.NodeId.Ord.cmp e.config c.args.upto) c.in-Some.is c.deref_mut.ensures.value (λ spent. rw spent refl) c.update_local_progress.ensures.step

pub returns-in-Some-clause-commits : goal.returns-in-Some-clause-commits
returns-in-Some-clause-commits g c =
    let e = c.args.self.now in
    commits_led g.C.NodeId.Ord.cmp c.update_local_progress.result e.leader c.in-Some.leader c.deref_mut.result.now c.update_local_progress.new.leader e.state c.update_local_progress.new.state e.output c.update_local_progress.new.output e.candidate
    (takes_local g.C.NodeId.Ord.cmp e.config c.args.upto) c.in-Some.is c.deref_mut.ensures.value c.update_local_progress.ensures.commits
