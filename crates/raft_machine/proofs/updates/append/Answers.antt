use Rattle.raft_machine.proofs.Runs.{appended}
use Rattle.raft_machine.proofs.updates.append.Goals as goal

pub returns : goal.returns
returns c =
    appended c.args.keyspace.now c.args.key c.args.more.now c.length.ensures c.if-is_too_long.ensures c.deadline-expires.ensures c.take_or_empty-bytes.ensures.value c.take_or_empty-bytes.ensures.removed
    c.in_ok-extend.ensures.ok c.as_slice.ensures c.in_ok-put.ensures.ok
