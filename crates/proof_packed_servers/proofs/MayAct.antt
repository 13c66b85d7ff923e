-- What servers may do, packed servers may do.
use Rattle.std.specs.Prelude.{ℕ, List, [], ◌∷◌, map, refl}
use Rattle.std.proofs.Common.{subst}
use Rattle.proof_packed.specs.raft_node.declared.act.Act.{Act}
use Rattle.proof_packed.specs.raft_node.declared.act.Act.TheVariants.{Initialize, Elect, Take, Propose, SendHeartbeat, Fail, TriggerSnapshot, FinishSnapshot}
use Rattle.proof_packed.specs.raft_node.declared.act.Act.TheVariants.{TriggerPurge, Restart, ChangeLearners, ChangeMembership, Read, StepDown, Stop}
use Rattle.proof_packed.specs.raft_node.declared.given.Given.{Given}
use Rattle.proof_packed.specs.raft_node.WellFormed.{IsWellFormed}
use Rattle.proof_packed.specs.raft_calls.declared.message.Message.{Message}
use Rattle.proof_servers.specs.Servers as model
use Rattle.proof_servers.specs.Servers.{Action, AllMayAct, Cluster, MayAct, MayTake, after_action, new_cluster}
use Rattle.proof_servers.proofs.Included.{contains_map}
use Rattle.proof_packed.specs.Nodes.{bare_act, brought_by_act, packed_message}
use Rattle.proof_packed.specs.Stores.{Application}
use Rattle.proof_packed_servers.specs.Servers.{PackedAllMayAct, PackedMayAct, PackedMayTake, action_packed, cluster_packed, packed_new_cluster}
use Rattle.proof_packed_servers.proofs.Clusters.{Made, action_kept, made_more, new_made}

module _ {S : Type 0} (app : Application S) where
  take_kept : (bag : List Message) (id : ℕ) (act : Act) → MayTake bag id act
      → PackedMayTake app (map (packed_message app) bag) id (brought_by_act app act) (bare_act act)
  take_kept bag id Initialize h = refl
  take_kept bag id (Elect candidates) h = refl
  take_kept bag id (Take m) h = (contains_map (packed_message app) bag m h.0, h.1)
  take_kept bag id (Propose values) h = refl
  take_kept bag id SendHeartbeat h = refl
  take_kept bag id (Fail target) h = refl
  take_kept bag id TriggerSnapshot h = refl
  take_kept bag id FinishSnapshot h = refl
  take_kept bag id (TriggerPurge i) h = refl
  take_kept bag id (Restart start) h = refl
  take_kept bag id (ChangeLearners learners) h = refl
  take_kept bag id (ChangeMembership groups learners) h = refl
  take_kept bag id Read h = refl
  take_kept bag id StepDown h = refl
  take_kept bag id Stop h = refl

  module _ (given : Given) where
    may_kept : (a : Action) (c : Cluster) → MayAct given a c → PackedMayAct app given (action_packed app a) (cluster_packed app c)
    may_kept (model.Takes id step) c may = (may.0, take_kept c.released.bag id step.act may.1)
    may_kept (model.Flushes id) c may = may
    may_kept (model.Crashes id k at) c may = may

    module _ (wf : IsWellFormed given) where
      all_may : (actions : List Action) (c : Cluster) → AllMayAct given actions c → Made given c
          → PackedAllMayAct app given (map (action_packed app) actions) (cluster_packed app c)
      all_may [] c may m = tt
      all_may (a ∷ rest) c may m = (
        may_kept a c may.0,
        subst (PackedAllMayAct app given (map (action_packed app) rest)) (action_kept given wf app a c may.0 m)
            (all_may rest (after_action given a c) may.1 (made_more given c a m may.0)),
      )

      pub runs_may : (actions : List Action) → AllMayAct given actions (new_cluster given)
          → PackedAllMayAct app given (map (action_packed app) actions) (packed_new_cluster app given)
      runs_may actions may = all_may actions (new_cluster given) may (new_made given)
