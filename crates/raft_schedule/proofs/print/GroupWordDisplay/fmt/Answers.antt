use Rattle.std.proofs.Output.{has_written_append, has_written_of_eq}
use Rattle.raft_schedule.proofs.Texts.{group_whole}
use Rattle.raft_schedule.proofs.print.GroupWordDisplay.fmt.Goals as goal

pub returns-clause-writes : goal.returns-clause-writes
returns-clause-writes g c p ok =
    let first = c.in_ok-write.ensures.writes p ok in
    has_written_of_eq _ _ _ _ _ (group_whole c.args.self.now.0.now c.loop-id.id-index c.in-len1-up.len_at_least c.loop-id-test.false)
    (has_written_append _ _ _ _ _ _ first (c.loop-id.invariant first.plain))
