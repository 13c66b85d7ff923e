use Rattle.raft_world.specs.Worlds.{events_in}
use Rattle.raft_world.proofs.Along.{report_agrees}
use Rattle.raft_world.proofs.Safe.{is_safe}
use Rattle.raft_world.proofs.run.run_schedule.Goals as goal

pub returns-clause-agree : goal.returns-clause-agree
returns-clause-agree c = report_agrees c.run_events.new.world _ c.run_events.ensures.made c.run_events.ensures.run

pub returns-clause-safe : goal.returns-clause-safe
returns-clause-safe c = is_safe c.run_events.new.world.given c.run_events.ensures.made (events_in c.run_events.new.world)
