use Rattle.std.proofs.Common.{◌≡◌, Some, refl, rules}
use Rattle.std.specs.Ordering.{nat_cmp}
use Rattle.raft_progress.specs.Table.{get}
use Rattle.raft_steps.specs.Parts.{led_of}
use Rattle.test_engine.proofs.Sound.{numbered}
use Rattle.test_engine.proofs.leader.renumber.Goals as goal

pub returns-in-Some : goal.returns-in-Some
returns-in-Some c =
    let held : get nat_cmp c.args.leader.now.progress c.args.target ≡ Some c.in-Some.entry = search rules in
    numbered c.args.config.now (led_of c.args.leader.now c.args.state.now c.args.output.now) c.acknowledge.new.leader c.args.target c.args.number c.in-Some.entry
    (record c.in-Some.entry { last_inflight_id = c.args.number }) held refl c.acknowledge.ensures
