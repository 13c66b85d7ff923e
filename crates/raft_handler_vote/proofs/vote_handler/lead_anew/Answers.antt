use Rattle.std.proofs.Common.{lit<}
use Rattle.raft_state.specs.State.{by_last_leader}
use Rattle.raft_steps.proofs.Leads.{fresh_may, fresh_room}
use Rattle.raft_handler_vote.proofs.vote_handler.lead_anew.Goals as goal

pub begin_lead-requires-clause-send : goal.begin_lead-requires-clause-send
begin_lead-requires-clause-send g c =
    fresh_may g.C.NodeId.Ord.cmp 2 c.in_ok-new.new c.args.state.now c.args.output.now c.args.state.now.vote c.args.state.now.em.membership (by_last_leader g.C.NodeId.Ord.cmp c.args.state.now.ids)
    c.in_ok-new.ensures c.requires.log (lit< tt)

pub begin_lead-requires-clause-room : goal.begin_lead-requires-clause-room
begin_lead-requires-clause-room g c = fresh_room g.C.NodeId.Ord.cmp c.in_ok-new.new c.args.state.now c.in_ok-new.ensures c.requires.room
