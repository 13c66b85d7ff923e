use Rattle.raft_wire.proofs.Replays.{step_written}
use Rattle.raft_wire.proofs.replay.write_step.Goals as goal

pub returns : goal.returns
returns c =
    step_written c.args.moment c.args.began.now c.args.commands.now c.args.out.now.items c.write.new.out.items c.write-2.new.out.items c.write-3.new.out.items c.write_changes.new.out.items
    c.count_changes.result c.write_changes.result c.in_ok-write.ensures c.in_ok-write-2.ensures c.in_ok-write-3.ensures c.count_changes.ensures c.write_changes.ensures
