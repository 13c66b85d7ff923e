use Rattle.std.proofs.Common.{get_or, sym}
use Rattle.raft_recovery.proofs.Electing.{listed_here}
use Rattle.raft_recovery.proofs.Nodes.{no_node}
use Rattle.raft_recovery.proofs.premises.stranger.Goals as goal

pub returns-in_default : goal.returns-in_default
returns-in_default c = (
  listed_here c.args.up.now c.loop-id.id-index c.loop-id-test.true,
  no_node c.args.world.now.history.net.nodes (get_or c.args.up.now c.loop-id.id-index 0) (sym c.in_default.ensures),
)
