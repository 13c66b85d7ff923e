use Rattle.raft_recovery.specs.Recoveries.{HasExecutedAt}
use Rattle.std.proofs.Common.{arith}
use Rattle.raft_recovery.proofs.Judging.{all_but_one, all_of_none, all_of_rest}
use Rattle.raft_recovery.proofs.judge.+have_executed.Goals as goal

pub returns-in-empty : goal.returns-in-empty
returns-in-empty t c =
    all_of_none (HasExecutedAt c.args.world.now.history.net c.args.log_id.now c.args.value.now) c.args.ids.now (omega (arith, c.in-empty.len_below))

pub returns-then-has : goal.returns-then-has
returns-then-has t c =
    all_of_rest (HasExecutedAt c.args.world.now.history.net c.args.log_id.now c.args.value.now) c.args.ids.now c.in-len1-up.len_at_least
    c.in_ok-has-in-len1-up.has c.in_ok-has-in-len1-up.ensures c.if-has.true c.have_executed.result c.have_executed.ensures

pub returns-else-has : goal.returns-else-has
returns-else-has t c =
    all_but_one (HasExecutedAt c.args.world.now.history.net c.args.log_id.now c.args.value.now) c.args.ids.now c.in-len1-up.len_at_least
    c.in_ok-has-in-len1-up.has c.in_ok-has-in-len1-up.ensures c.if-has.false
