use Rattle.raft_codec.specs.Codec.{Codec}
use Rattle.proof_packed.specs.Stores.{Application}
use Rattle.raft_cluster.specs.declared.cluster.Cluster.{Cluster}
use Rattle.raft_cluster.specs.declared.dice.Dice.{Dice}
use Rattle.raft_cluster.specs.Clusters.{Holds}
use Rattle.raft_cluster.proofs.cluster.Cluster.run_step.Goals as goal

-- what holds of a cluster says nothing of its dice
dice_drawn : {S : Type 0} (app : Application S) (codec : Codec S) (c : Cluster S) (dice : Dice) → Holds app codec c → Holds app codec (record c { dice = dice })
dice_drawn app codec c dice h = record {
  follows = λ e. let f = h.follows e in record {
    given = f.given;
    actions = f.actions;
    placed = f.placed;
    cores = f.cores;
    beside = f.beside;
    is = record { ids = f.is.ids; servers = f.is.servers; sent = f.is.sent; told = f.is.told };
    running = f.running;
    frames = f.frames;
    clients = f.clients;
  };
  writes = h.writes;
  keeps = h.keeps;
  handed = h.handed;
}

pub ticks-preserved : goal.ticks-preserved
ticks-preserved g c = λ h. c.in_ok-tick.ensures (dice_drawn g.M.Machine.application g.M.Machine.codec c.ticks.self _ (c.ticks.invariant h))
