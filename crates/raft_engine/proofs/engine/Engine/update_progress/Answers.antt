use Rattle.std.proofs.Common.{refl}
use Rattle.raft_steps.specs.Replies.{update_progress}
use Rattle.raft_steps.specs.ReplyLaws.{takes_matching}
use Rattle.raft_steps.specs.ReplyRefusals.{refusals_of_progress}
use Rattle.raft_engine.proofs.Leading.{commits_led, ends_led, stays_led}
use Rattle.raft_engine.proofs.engine.Engine.update_progress.Goals as goal

pub returns-in-Some-clause-sound : goal.returns-in-Some-clause-sound
returns-in-Some-clause-sound g c =
    let e = c.args.self.now in
    stays_led g.C.NodeId.Ord.cmp e.config e.leader c.in-Some.leader c.deref_mut.result.now c.update_progress.new.leader e.state c.update_progress.new.state
    e.output c.update_progress.new.output e.candidate c.in-Some.is c.deref_mut.ensures.value c.update_progress.ensures.beside c.requires

pub returns-in-Some-clause-step : goal.returns-in-Some-clause-step
returns-in-Some-clause-step g c =
    let e = c.args.self.now in
    ends_led g.C.NodeId.Ord.cmp c.update_progress.result e.leader c.in-Some.leader c.deref_mut.result.now c.update_progress.new.leader e.state c.update_progress.new.state e.output c.update_progress.new.output e.candidate
    (refusals_of_progress g.C.NodeId.Ord.cmp e.config c.args.target c.args.request_id c.args.repl_res) (update_progress g.C.NodeId.Ord.cmp e.config c.args.target c.args.request_id c.args.repl_res) c.in-Some.is c.deref_mut.ensures.value (λ spent. rw spent refl) c.update_progress.ensures.step

pub returns-in-Some-clause-commits : goal.returns-in-Some-clause-commits
returns-in-Some-clause-commits g c =
    let e = c.args.self.now in
    commits_led g.C.NodeId.Ord.cmp c.update_progress.result e.leader c.in-Some.leader c.deref_mut.result.now c.update_progress.new.leader e.state c.update_progress.new.state e.output c.update_progress.new.output e.candidate
    (λ _. takes_matching c.args.request_id c.args.repl_res) c.in-Some.is c.deref_mut.ensures.value c.update_progress.ensures.commits
