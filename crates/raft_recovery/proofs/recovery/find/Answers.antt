use Rattle.std.proofs.Common.{ℕ}
use Rattle.raft_recovery.specs.Ways.{RecoversBy}
use Rattle.raft_recovery.proofs.Electing.{each_all, each_more}
use Rattle.raft_recovery.proofs.recovery.find.Goals as goal

pub loop-id-preserved : goal.loop-id-preserved
loop-id-preserved c =
    let w = c.args.world.now in
    λ unspent.
    each_more (λ (t : ℕ). RecoversBy w.given w.history.net c.args.up.now c.args.value.now t → ⊥) c.args.up.now c.loop-id.id-index
    c.loop-id-test.true (c.loop-id.invariant unspent) (c.in_ok-found.ensures.none c.in_default.is unspent)

pub returns-clause-none : goal.returns-clause-none
returns-clause-none c =
    let w = c.args.world.now in
    λ _ unspent.
    each_all (λ (t : ℕ). RecoversBy w.given w.history.net c.args.up.now c.args.value.now t → ⊥) c.args.up.now c.loop-id.id-index
    c.loop-id-test.false (c.loop-id.invariant unspent)
