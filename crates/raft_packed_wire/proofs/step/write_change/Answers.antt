use Rattle.std.proofs.Common.{sym}
use Rattle.raft_packed_wire.specs.Values.{kept}
use Rattle.raft_packed_wire.proofs.Steps.{other_written}
use Rattle.raft_packed_wire.proofs.step.write_change.Goals as goal

pub returns-in-None : goal.returns-in-None
returns-in-None g c =
    other_written (kept g.M.Machine.codec) c.args.brought.now c.write_change.result c.args.out.now.items c.write_change.new.out.items c.args.command.now
    (sym c.in-None.ensures) c.write_change.ensures
