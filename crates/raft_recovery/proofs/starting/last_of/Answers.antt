use Rattle.std.proofs.Common.{rules, sym}
use Rattle.raft_recovery.proofs.Stored.{last_stored}
use Rattle.raft_recovery.proofs.starting.last_of.Goals as goal

pub returns-in-Some : goal.returns-in-Some
returns-in-Some c = sym (last_stored c.args.front c.args.stored.now c.in-Some.entry.now (search rules))
