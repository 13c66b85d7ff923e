use Rattle.std.proofs.Common.{rules}
use Rattle.raft_calls.specs.Engines.{view_of}
use Rattle.raft_calls.proofs.Fed.{held_fits}
use Rattle.raft_calls.proofs.Refused.{held_done, held_refused}
use Rattle.raft_calls.proofs.feed.hold_own.Goals as goal

pub update_local_progress-requires-clause-fit : goal.update_local_progress-requires-clause-fit
update_local_progress-requires-clause-fit c = held_fits (view_of c.args.engine.now) c.args.vote c.args.upto c.requires.ready c.requires.held

pub returns-in-Ok : goal.returns-in-Ok
returns-in-Ok c =
    held_done c.args.upto (view_of c.args.engine.now) (view_of c.update_local_progress.new.self) c.in-Ok.ensures.step c.in-Ok.ensures.config c.in-Ok.ensures.flag

pub returns-in-Err : goal.returns-in-Err
returns-in-Err c =
    held_refused c.args.upto (view_of c.args.engine.now) (view_of c.update_local_progress.new.self) _ c.in-Err.ensures.step c.in-Err.ensures.config c.in-Err.ensures.flag (search rules)
