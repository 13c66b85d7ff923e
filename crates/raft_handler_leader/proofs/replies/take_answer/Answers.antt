use Rattle.std.proofs.Common.{rules, ◌≡◌, None}
use Rattle.raft_steps.specs.Parts.{led_of}
use Rattle.raft_steps.specs.ReplyRefusals.{refusals_of_acknowledged, refusals_of_entry}
use Rattle.raft_steps.proofs.Answered.{acknowledged_end, target_ahead}
use Rattle.raft_handler_leader.proofs.replies.take_answer.Goals as goal

pub update_matching-requires-clause-end : goal.update_matching-requires-clause-end
update_matching-requires-clause-end g c =
    let cmp = g.C.NodeId.Ord.cmp in
    let passed : refusals_of_entry cmp c.args.target.now (λ e. refusals_of_acknowledged cmp c.args.state.now e c.in-Some.number c.in-Ok.matching) c.args.leader.now ≡ None = search rules in
    acknowledged_end cmp c.args.config.now c.args.target.now (led_of c.args.leader.now c.args.state.now c.args.output.now) c.requires.sound c.in-Some.number c.in-Ok.matching passed

pub update_matching-requires-clause-ahead : goal.update_matching-requires-clause-ahead
update_matching-requires-clause-ahead g c =
    target_ahead g.C.NodeId.Ord.cmp c.args.config.now c.args.target.now (led_of c.args.leader.now c.args.state.now c.args.output.now) c.requires.sound
