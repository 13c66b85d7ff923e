use Rattle.std.proofs.Common.{Bool, Option, None, Some, true, false, not, ap, sym, refl, ◌≡◌, ◌∙◌, is_some}
use Rattle.raft_state.proofs.Orders.{and_both}
use Rattle.raft_calls.specs.Trust.{has_order, rise}
use Rattle.raft_calls.proofs.Trusted.{by_sound, sound_by}
use Rattle.raft_calls.proofs.trust.is_sound.Goals as goal
use Rattle.raft_calls.proofs.trust.is_sound.Goals.{then-is_none, else-is_none}

-- nothing is there, as the test says
nothing : {A : Type 0} (o : Option A) (test : Bool) → is_some o ≡ not test → test ≡ true → o ≡ None
nothing None test is h = refl
nothing (Some x) test is h = absurd (differs (is ∙ ap not h))
  where
    differs : true ≡ false → ⊥
    differs e = cc

tested : {A : Type 0} (o : Option A) (test : Bool) → is_some o ≡ not test → o ≡ None → test ≡ false → ⊥
tested o test is none h = differs (sym (ap is_some none) ∙ (is ∙ ap not h))
  where
    differs : false ≡ true → ⊥
    differs e = cc

both : (b : Bool) → b ≡ false → b ≡ true → ⊥
both b f t = differs (sym f ∙ t)
  where
    differs : false ≡ true → ⊥
    differs e = cc

pub returns-then-has_order-clause-sound : goal.returns-then-has_order-clause-sound
returns-then-has_order-clause-sound c = elim c.if-is_none.branch [
  | then-is_none w ↦ λ r. sound_by c.args.state.now (nothing c.args.state.now.accepted_by c.is_none.result c.is_none.ensures w.if-is_none.true) (sym w.has_order.ensures ∙ (sym w.value-is ∙ c.if-has_order.true)) (sym c.rise.ensures ∙ r)
  | else-is_none w ↦ λ r. absurd (both c.if-is_none.value (w.value-is ∙ w.if-is_none.false) c.if-has_order.true)
]

pub returns-else-has_order-clause-all : goal.returns-else-has_order-clause-all
returns-else-has_order-clause-all c = elim c.if-is_none.branch [
  | then-is_none w ↦ λ h none. w.value-is ∙ (w.has_order.ensures ∙ (and_both (has_order c.args.state.now) (rise c.args.state.now) (by_sound c.args.state.now h)).0)
  | else-is_none w ↦ λ h none. absurd (tested c.args.state.now.accepted_by c.is_none.result c.is_none.ensures none w.if-is_none.false)
]
