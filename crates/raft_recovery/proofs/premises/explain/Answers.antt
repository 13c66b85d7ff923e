use Rattle.std.proofs.Common.{ℕ, get_or, IfSome, Option, subst}
use Rattle.proof_progress.specs.Elections.{Listed}
use Rattle.raft_recovery.specs.Recoveries.{LacksSnapshot}
use Rattle.raft_recovery.proofs.Electing.{listed_here}
use Rattle.raft_recovery.proofs.premises.explain.Goals as goal

pub returns-in-Some : goal.returns-in-Some
returns-in-Some c =
    let one = get_or c.args.up.now c.loop-one.one-index 0 in
    let given = c.args.world.now.given in
    let net = c.args.world.now.history.net in
    let other : Listed c.args.up.now c.in-Some.other × LacksSnapshot given net one c.in-Some.other =
    subst (λ (o : Option ℕ). IfSome o (λ other. Listed c.args.up.now other × LacksSnapshot given net one other)) c.in-Some.is c.in_ok-other.ensures in
    (listed_here c.args.up.now c.loop-one.one-index c.loop-one-test.true, other.0, other.1)
