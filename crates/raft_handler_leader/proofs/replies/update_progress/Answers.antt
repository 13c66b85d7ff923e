use Rattle.std.proofs.Common.{ap, ◌∙◌}
use Rattle.raft_steps.specs.Parts.{led_of}
use Rattle.raft_steps.specs.Replies.{purge_unless_inflight}
use Rattle.raft_steps.proofs.Answered.{may_send_next}
use Rattle.raft_handler_leader.proofs.replies.update_progress.Goals as goal

pub send_next-requires-clause-row : goal.send_next-requires-clause-row
send_next-requires-clause-row g c =
    let cmp = g.C.NodeId.Ord.cmp in
    let before = led_of c.args.leader.now c.args.state.now c.args.output.now in
    let after = led_of c.take_reply.new.leader c.purge_unless_inflight.new.state c.purge_unless_inflight.new.output in
    let may = may_send_next cmp g.met.C.NodeId.Ord.total g.met.C.NodeId.NodeId.equal_is_same c.args.config.now c.args.target.now c.args.request_id.now c.args.repl_res.now before after
    c.requires.counted c.requires.passed c.requires.sound (c.in_ok-purge_unless_inflight.ensures ∙ ap (purge_unless_inflight cmp) c.in_ok-take_reply.ensures) in
    may.0

pub send_next-requires-clause-log : goal.send_next-requires-clause-log
send_next-requires-clause-log g c =
    let cmp = g.C.NodeId.Ord.cmp in
    let before = led_of c.args.leader.now c.args.state.now c.args.output.now in
    let after = led_of c.take_reply.new.leader c.purge_unless_inflight.new.state c.purge_unless_inflight.new.output in
    let may = may_send_next cmp g.met.C.NodeId.Ord.total g.met.C.NodeId.NodeId.equal_is_same c.args.config.now c.args.target.now c.args.request_id.now c.args.repl_res.now before after
    c.requires.counted c.requires.passed c.requires.sound (c.in_ok-purge_unless_inflight.ensures ∙ ap (purge_unless_inflight cmp) c.in_ok-take_reply.ensures) in
    may.1
