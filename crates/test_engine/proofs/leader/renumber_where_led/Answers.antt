use Rattle.test_engine.proofs.Sound.{stays_led}
use Rattle.test_engine.proofs.leader.renumber_where_led.Goals as goal

pub returns-in-Some : goal.returns-in-Some
returns-in-Some c =
    stays_led c.args.config.now c.args.leader.now c.in-Some.leader c.deref_mut.result.now c.renumber.new.leader c.args.state.now c.args.state.now
    c.args.output.now c.args.output.now c.args.candidate.now c.in-Some.is c.deref_mut.ensures.value c.renumber.ensures c.requires
