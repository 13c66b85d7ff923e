use Rattle.std.proofs.Common.{◌≡◌, drop, length}
use Rattle.raft_node.specs.Runs.{events_of}
use Rattle.raft_world.specs.Worlds.{run_in}
use Rattle.raft_recovery.specs.Recoveries.{Recovers}
use Rattle.raft_recovery.specs.Ways.{way_of}
use Rattle.raft_recovery.proofs.Trying.{goes_on_by, no_way}
use Rattle.raft_recovery.proofs.recovery.try_candidate.Goals as goal

pub returns-in-Some-clause-ok : goal.returns-in-Some-clause-ok
returns-in-Some-clause-ok c =
    let w = c.args.world.now in
    let new = c.in_ok-new.new in
    let r = c.in-Some.recovery in
    let h : (r.events ≡ events_of (drop (length w.history.past) new.history.past))
    × Recovers w.given w.history.net new.history.net c.args.up.now r.log_id c.args.value.now (length r.events) =
    rw c.in-Some.is at c.in_ok-recovery.ensures.ok in
    goes_on_by w new c.args.up.now c.args.value.now r (way_of w.given (run_in w).net c.args.up.now c.args.value.now c.args.id c.args.found.now)
    c.in_ok-new.ensures.goes h.0 h.1

pub go_on_again-requires : goal.go_on_again-requires
go_on_again-requires c = (way_of c.args.world.now.given (run_in c.args.world.now).net c.args.up.now c.args.value.now c.args.id c.args.found.now, c.in_ok-new.ensures.goes)

pub returns-in-None-clause-none : goal.returns-in-None-clause-none
returns-in-None-clause-none c =
    λ _.
    no_way c.args.world.now c.in_ok-new.new c.args.up.now c.args.value.now c.args.id c.args.found.now c.in_ok-new.ensures.run
    c.in_ok-new.ensures.goes c.in_ok-new.ensures.net (c.in_ok-recovery.ensures.none c.in_default.is) c.requires
