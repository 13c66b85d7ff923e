use Rattle.std.proofs.Common.{refl, ap}
use Rattle.raft_steps.specs.Parts.{led_of}
use Rattle.raft_steps.proofs.Sending.{rebuilt_may, same_may}
use Rattle.raft_handler_vote.proofs.vote_handler.begin_lead.Goals as goal

pub propose_blank-requires-clause-send : goal.propose_blank-requires-clause-send
propose_blank-requires-clause-send g c =
    rebuilt_may g.C.NodeId.Ord.cmp c.args.config.now 2 _ _ c.in_ok-rebuild_replication_streams.ensures.step
    (same_may 2 (led_of c.args.leader.now c.args.state.now c.args.output.now) _ refl (ap (λ s. s.ids) c.in_ok-update_role.ensures.others) c.requires.send)
