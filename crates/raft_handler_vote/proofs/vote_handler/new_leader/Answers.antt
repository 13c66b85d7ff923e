use Rattle.std.proofs.Common.{◌∙◌, ap}
use Rattle.raft_steps.specs.raft_proposer.Leader.{leader_in}
use Rattle.raft_steps.proofs.raft_proposer_proofs.Beside.{leader_in_is}
use Rattle.raft_handler_vote.proofs.vote_handler.new_leader.Goals as goal

pub returns : goal.returns
returns g c =
    let cmp = g.C.NodeId.Ord.cmp in
    let s = c.args.state.now in
    leader_in_is cmp s.em.membership c.in_ok-leader.leader s.vote c.in_ok-voters.voters c.in_ok-leader.leader.clock_progress.set c.deref.result.now c.deref-2.result.now
    c.in_ok-leader.ensures.0 c.in_ok-leader.ensures.1 c.in_ok-voters.ensures.groups c.in_ok-voters.ensures.ids (rw c.deref.ensures.value c.in_ok-learners.ensures.beside)
    ∙ ap (leader_in cmp s.vote s.em.membership) (c.deref-2.ensures.value ∙ c.in_ok-ids.ensures)
