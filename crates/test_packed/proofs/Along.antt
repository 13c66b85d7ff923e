-- A new node's engine is at rest.
use Rattle.std.specs.Prelude.{◌≡◌, ℕ}
use Rattle.std.proofs.Common.{sym, subst}
use Rattle.raft_command.specs.declared.config.EngineConfig.{EngineConfig}
use Rattle.raft_calls.specs.Held.{IsRestingWhereRunning}
use Rattle.raft_calls.proofs.Ready.{new_resting}
use Rattle.proof_packed.specs.Nodes.{PackedNode}
use Rattle.proof_packed.specs.Stores.{Application}
use Rattle.proof_packed.specs.Nodes.{packed_new_node}

pub new_along : {S : Type 0} (app : Application S) (settings : EngineConfig ℕ) (id : ℕ) (node : PackedNode S)
    → node ≡ packed_new_node app settings id → IsRestingWhereRunning node.engine
new_along {S = S} app settings id node is = subst (λ (n : PackedNode S). IsRestingWhereRunning n.engine) (sym is) (new_resting settings id)
