use Rattle.std.proofs.Common.{◌≡◌, sym, subst, OnOk}
use Rattle.raft_steps.specs.Invariants.{IsSoundLed}
use Rattle.raft_steps.specs.Parts.{led_of}
use Rattle.raft_steps.specs.Replies.{take_answer, update_leader_clock, update_success_progress}
use Rattle.raft_steps.proofs.KeptReplies.{clock_kept}
use Rattle.raft_handler_leader.proofs.replies.update_success_progress.Goals as goal

pub take_answer-requires-clause-sound : goal.take_answer-requires-clause-sound
unfolding update_leader_clock
take_answer-requires-clause-sound g c =
    let cmp = g.C.NodeId.Ord.cmp in
    subst (λ l. IsSoundLed cmp c.args.config.now (led_of l c.args.state.now c.args.output.now)) (sym c.raise_clock.ensures)
    (clock_kept cmp g.met.C.NodeId.Ord.total g.met.C.NodeId.NodeId.equal_is_same c.args.config.now c.args.target.now c.args.answer.now.sending_time
    (led_of c.args.leader.now c.args.state.now c.args.output.now) c.requires.sound)

pub returns : goal.returns
unfolding update_success_progress update_leader_clock
returns g c =
    subst (λ l. OnOk c.take_answer.result (led_of c.take_answer.new.leader c.take_answer.new.state c.take_answer.new.output
    ≡ take_answer g.C.NodeId.Ord.cmp c.args.config.now c.args.target.now c.args.request_id.now c.args.answer.now (led_of l c.args.state.now c.args.output.now)))
    c.raise_clock.ensures c.take_answer.ensures
