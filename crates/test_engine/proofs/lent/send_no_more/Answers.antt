use Rattle.std.proofs.Common.{◌∙◌}
use Rattle.raft_engine.specs.Whole.{parts}
use Rattle.raft_handler_leader.specs.Handlers.{view_of_leader}
use Rattle.raft_handler_leader.specs.Handlers.{view_of_replication}
use Rattle.test_engine.proofs.Sound.{lent_sound}
use Rattle.test_engine.proofs.lent.send_no_more.Goals as goal

pub rebuild_progresses-requires : goal.rebuild_progresses-requires
rebuild_progresses-requires c =
    let lent = c.replication_handler-replication in
    lent_sound c.args.engine.now.config lent.result.config.now (parts c.args.engine.now) (view_of_leader c.in-Ok.handler) (view_of_replication lent.result)
    (lent.ensures.config ∙ c.in-Ok.ensures.1) c.in-Ok.ensures.2 lent.ensures.lent c.requires.sound
