use Rattle.std.proofs.Common.{rules, ◌≡◌, false}
use Rattle.raft_steps.specs.Parts.{machine_of}
use Rattle.raft_steps.specs.VoteHandler.{rejects_vote}
use Rattle.raft_steps.proofs.Followed.{answer_is, append_is}
use Rattle.raft_engine.proofs.requests.append_entries.Goals as goal

pub returns-clause-answer : goal.returns-clause-answer
returns-clause-answer g c =
    let low : rejects_vote g.C.NodeId.Ord.cmp c.args.state.now c.args.vote.now ≡ false = search rules in
    answer_is g.C.NodeId.Ord.cmp g.C.Entry.RaftEntry c.args.config.now c.args.vote.now c.args.prev_log_id.now c.args.now
    (machine_of c.args.state.now c.args.output.now c.args.leader.now c.args.candidate.now)
    (machine_of c.update_vote.new.state c.update_vote.new.output c.update_vote.new.leader c.update_vote.new.candidate) _ low
    c.in_ok-_taken.ensures.step c.in_ok-answer.ensures.answer

pub returns-clause-step : goal.returns-clause-step
returns-clause-step g c =
    let low : rejects_vote g.C.NodeId.Ord.cmp c.args.state.now c.args.vote.now ≡ false = search rules in
    append_is g.C.NodeId.Ord.cmp g.C.Entry.RaftEntry c.args.config.now c.args.vote.now c.args.prev_log_id.now c.args.entries.items c.args.now
    (machine_of c.args.state.now c.args.output.now c.args.leader.now c.args.candidate.now)
    (machine_of c.update_vote.new.state c.update_vote.new.output c.update_vote.new.leader c.update_vote.new.candidate) _ low
    c.in_ok-_taken.ensures.step c.in_ok-answer.ensures.step
