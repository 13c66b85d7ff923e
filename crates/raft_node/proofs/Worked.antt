-- How a queue is executed.
use Rattle.std.specs.Prelude.{ℕ, ◌≡◌, ◌<◌, List, true, false}
use Rattle.std.proofs.Common.{◌∙◌, arith, subst, sym}
use Rattle.raft_store.specs.declared.entry.Entry.{Entry}
use Rattle.raft_node.specs.declared.node.Turn.{Turn}
use Rattle.raft_node.specs.Work.{Work, work_step, worked, weight, idle}
use Rattle.raft_node.proofs.UntilLaws.{until-step, until-done, until-ends, until-keeps}
use Rattle.raft_node.proofs.Falls.{falls}

module _ {L : Type 0} (keep : List Entry → L) (t : Turn) where
  -- after a step the same is left to come
  pub worked-step : (w : Work L) → idle w ≡ false → worked keep (weight (work_step keep t w)) t (work_step keep t w) ≡ worked keep (weight w) t w
  unfolding worked
  worked-step w h = until-step idle (work_step keep t) weight (falls keep t) w h

  pub worked-idle : (w : Work L) → idle w ≡ true → worked keep (weight w) t w ≡ w
  unfolding worked
  worked-idle w h = until-done idle (work_step keep t) (weight w) w h

  -- the queue is worked off, or the node has stopped
  pub worked-ends : (w : Work L) → idle (worked keep (weight w) t w) ≡ true
  unfolding worked
  worked-ends w = until-ends idle (work_step keep t) weight (falls keep t) (weight w) w (omega arith)

  -- what each command keeps, at every moment
  pub worked-keeps : (P : Work L → Type 0) (fuel : ℕ) → ((w : Work L) → idle w ≡ false → P w → P (work_step keep t w)) → (w : Work L) → P w → P (worked keep fuel t w)
  unfolding worked
  worked-keeps P fuel keeps w p = until-keeps idle (work_step keep t) P keeps fuel w p

  -- without anything to do nothing is done
  pub worked-still : (fuel : ℕ) (w : Work L) → idle w ≡ true → worked keep fuel t w ≡ w
  unfolding worked
  worked-still fuel w h = until-done idle (work_step keep t) fuel w h

  -- the same along a step's equation
  pub worked-along : (w v u : Work L) → v ≡ work_step keep t w → idle w ≡ false → worked keep (weight w) t w ≡ u → worked keep (weight v) t v ≡ u
  worked-along w v u is h same = subst (λ (x : Work L). worked keep (weight x) t x ≡ u) (sym is) (worked-step w h ∙ same)

  pub falls-along : (w v : Work L) → v ≡ work_step keep t w → idle w ≡ false → weight v < weight w
  falls-along w v is h = subst (λ (x : Work L). weight x < weight w) (sym is) (falls keep t w h)
