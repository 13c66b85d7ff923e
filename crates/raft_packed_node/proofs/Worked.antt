-- How a queue is executed.
use Rattle.std.specs.Prelude.{ℕ, ◌≡◌, ◌<◌, true, false}
use Rattle.std.proofs.Common.{◌∙◌, arith, subst, sym}
use Rattle.raft_node.specs.declared.node.Turn.{Turn}
use Rattle.raft_node.proofs.UntilLaws.{until-done, until-ends, until-keeps, until-step}
use Rattle.proof_packed.specs.Nodes.{PackedWork, packed_idle, packed_work_step, packed_worked}
use Rattle.proof_packed.specs.Stores.{Application, Packed}
use Rattle.raft_packed_node.specs.Effects.{weight}
use Rattle.raft_packed_node.proofs.Falls.{falls}

module _ {S : Type 0} (app : Application S) (t : Turn) (brought : Packed S) where
  abbrev pub all_worked : PackedWork S → PackedWork S
  all_worked w = packed_worked app t brought (weight w) w

  -- after a step the same is left to come
  worked-step : (w : PackedWork S) → packed_idle app t brought w ≡ false → all_worked (packed_work_step app t brought w) ≡ all_worked w
  unfolding packed_worked
  worked-step w h = until-step (packed_idle app t brought) (packed_work_step app t brought) weight (falls app t brought) w h

  pub worked-idle : (w : PackedWork S) → packed_idle app t brought w ≡ true → all_worked w ≡ w
  unfolding packed_worked
  worked-idle w h = until-done (packed_idle app t brought) (packed_work_step app t brought) (weight w) w h

  -- the queue is worked off, or the node has stopped
  pub worked-ends : (w : PackedWork S) → packed_idle app t brought (all_worked w) ≡ true
  unfolding packed_worked
  worked-ends w = until-ends (packed_idle app t brought) (packed_work_step app t brought) weight (falls app t brought) (weight w) w (omega arith)

  -- what each command keeps
  pub worked-keeps : (P : PackedWork S → Type 0) → ((w : PackedWork S) → packed_idle app t brought w ≡ false → P w → P (packed_work_step app t brought w)) → (w : PackedWork S) → P w → P (all_worked w)
  unfolding packed_worked
  worked-keeps P keeps w p = until-keeps (packed_idle app t brought) (packed_work_step app t brought) P keeps (weight w) w p

  -- the same along a step's equation
  pub worked-along : (w v u : PackedWork S) → v ≡ packed_work_step app t brought w → packed_idle app t brought w ≡ false → all_worked w ≡ u → all_worked v ≡ u
  worked-along w v u is h same = subst (λ (x : PackedWork S). all_worked x ≡ u) (sym is) (worked-step w h ∙ same)

  pub falls-along : (w v : PackedWork S) → v ≡ packed_work_step app t brought w → packed_idle app t brought w ≡ false → weight v < weight w
  falls-along w v is h = subst (λ (x : PackedWork S). weight x < weight w) (sym is) (falls app t brought w h)
