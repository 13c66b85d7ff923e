use Rattle.std.proofs.Common.{ℕ, ◌≡◌, ◌∙◌, false, sym}
use Rattle.raft_recovery.specs.Choosing.{can_be_elected}
use Rattle.raft_recovery.proofs.Electing.{each_all, each_more, not_electable}
use Rattle.raft_recovery.proofs.premises.can_elect.Goals as goal

pub loop-id-init : goal.loop-id-init
loop-id-init c = λ t h. absurd h

pub loop-id-preserved : goal.loop-id-preserved
loop-id-preserved c =
    each_more (λ (t : ℕ). can_be_elected c.args.world.now.history.net.nodes c.args.up.now t ≡ false) c.args.up.now c.loop-id.id-index
    c.loop-id-test.true c.loop-id.invariant (sym c.in_ok-candidate.ensures.exact ∙ (sym c.is_some.ensures ∙ c.if-is_some.false))

pub returns : goal.returns
returns c =
    λ _ n e.
    not_electable c.args.world.now.given c.args.world.now.history.net c.args.up.now n
    (each_all (λ (t : ℕ). can_be_elected c.args.world.now.history.net.nodes c.args.up.now t ≡ false) c.args.up.now c.loop-id.id-index
    c.loop-id-test.false c.loop-id.invariant n e.one) e
