use Rattle.raft_recovery.specs.Recoveries.{RecoversBehind}
use Rattle.raft_recovery.proofs.recovery.find_happened.Goals as goal

pub returns-in_ok-without_skipped-in-Some-clause-ok : goal.returns-in_ok-without_skipped-in-Some-clause-ok
returns-in_ok-without_skipped-in-Some-clause-ok c =
    let r : RecoversBehind c.args.world.now c.args.up.now c.args.value.now c.in-Some.tried c.in-Some.new =
    rw c.in-Some.is at c.in_ok-find.ensures.ok in
    c.in_ok-without_skipped-in-Some.ensures c.args.up.now c.args.value.now c.in-Some.tried.events r.goes r.recovers
