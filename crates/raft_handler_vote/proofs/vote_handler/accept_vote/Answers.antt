use Rattle.std.proofs.Common.{◌∙◌, sym, ap}
use Rattle.raft_steps.proofs.Accepted.{rejected_by, same_state, replied}
use Rattle.raft_steps.specs.Parts.{machine_of}
use Rattle.raft_handler_vote.proofs.vote_handler.accept_vote.Goals as goal

-- the closure is called on what the caller knows of
pub f-requires : goal.f-requires
f-requires g c =
    let answer = sym c.in_ok-update_vote.ensures.answer ∙ c.in-Err.is in
    let rejected = rejected_by g.C.NodeId.Ord.cmp c.args.vote.now c.args.state.now c.in-Err.rejected answer in
    let same = same_state g.C.NodeId.Ord.cmp g.C.Entry.RaftEntry c.args.config.now c.args.vote.now c.args.now
    (machine_of c.args.state.now c.args.output.now c.args.leader.now c.args.candidate.now)
    (machine_of c.update_vote.new.state c.update_vote.new.output c.update_vote.new.leader c.update_vote.new.candidate) c.in-Err.rejected answer c.in_ok-update_vote.ensures.step in
    rw rejected.1 (c.requires.callable rejected.0 c.shown.result (c.shown.ensures ∙ ap g.S.StateOf.shown_of same))

pub returns-in_ok-try_push-in-Err : goal.returns-in_ok-try_push-in-Err
returns-in_ok-try_push-in-Err g c =
    let mid = machine_of c.update_vote.new.state c.update_vote.new.output c.update_vote.new.leader c.update_vote.new.candidate in
    rw (c.in_ok-try_push-in-Err.ensures.ok)
    (replied g.C.NodeId.Ord.cmp g.C.Entry.RaftEntry c.args.config.now _ c.args.vote.now c.args.token c.args.now
    (machine_of c.args.state.now c.args.output.now c.args.leader.now c.args.candidate.now) mid c.in-Err.rejected c.into_reply-resp.result
    (sym c.in_ok-update_vote.ensures.answer ∙ c.in-Err.is) c.in_ok-update_vote.ensures.step
    (record { shown = c.shown.result; answer = c.f.result; is_state = c.shown.ensures; given = c.f.ensures; is_reply = c.into_reply-resp.ensures }))
