use Rattle.raft_recovery.specs.Ways.{way_of}
use Rattle.raft_recovery.proofs.Trying.{anew_goes, anew_net}
use Rattle.raft_recovery.proofs.recovery.world_after.Goals as goal

pub returns-clause-goes : goal.returns-clause-goes
returns-clause-goes c =
    anew_goes c.args.world.now c.in_ok-new.new c.go_on.new.world
    (λ given net. way_of given net c.args.up.now c.args.value.now c.args.id c.args.found.now) c.in_ok-new.ensures.new c.in_ok-go_on.ensures

pub returns-clause-net : goal.returns-clause-net
returns-clause-net c =
    anew_net c.args.world.now c.in_ok-new.new c.go_on.new.world
    (λ given net. way_of given net c.args.up.now c.args.value.now c.args.id c.args.found.now) c.in_ok-new.ensures.new c.in_ok-go_on.ensures
