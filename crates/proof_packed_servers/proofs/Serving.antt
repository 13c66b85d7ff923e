-- What a server does next, packed.
use Rattle.std.specs.Prelude.{ℕ, Contains, refl}
use Rattle.std.proofs.Common.{◌∙◌, ap}
use Rattle.proof_packed.specs.raft_node.declared.given.Given.{Given}
use Rattle.proof_packed.specs.raft_node.WellFormed.{IsWellFormed}
use Rattle.proof_servers.specs.Servers.{Cluster, after_actions, new_cluster}
use Rattle.proof_packed.specs.Stores.{Application}
use Rattle.proof_packed_servers.specs.Laws.{PacksServer, PacksServers}
use Rattle.proof_packed_servers.specs.Servers.{PackedServer, packed_started}
use Rattle.proof_packed_servers.proofs.Clusters.{Made, crash_kept, server_fits}
use Rattle.proof_packed_servers.proofs.Disks.{first_kept}
use Rattle.proof_packed_servers.proofs.Steps.{outcome_kept, step_kept}

module _ {S : Type 0} (app : Application S) (given : Given) (wf : IsWellFormed given) where
  made_packs : (c : Cluster) (id : ℕ) → Contains given.ids id → Made given c → PacksServer app given id (c.servers id)
  made_packs c id member m = record {
    steps = λ step. step_kept app given step (c.servers id) (server_fits given wf c id member m);
    outcomes = λ step. outcome_kept app (c.servers id).node step (server_fits given wf c id member m) given;
    flushes = λ k. first_kept app k (c.servers id);
    crashes = λ k at.
        crash_kept given wf app id k at c member m
        ∙ ap (λ (s : PackedServer S). packed_started app given id at s.disk) (first_kept app k (c.servers id));
  }

pub servers_kept : {S : Type 0} → PacksServers S
servers_kept app given wf actions may id member =
    made_packs app given wf (after_actions given actions (new_cluster given)) id member (record { actions = actions; may = may; is = refl })
