use Rattle.raft_machine.proofs.Runs.{expiring_some, expiring_none}
use Rattle.raft_machine.proofs.updates.expiring.Goals as goal

pub returns-in_ok-put-in-Some : goal.returns-in_ok-put-in-Some
returns-in_ok-put-in-Some c = expiring_some c.args.keyspace.now c.args.key c.args.expires c.in-Some.stored c.in-Some.ensures.stored c.remove.ensures.removed c.in_ok-put-in-Some.ensures.ok c.flag.ensures

pub returns-in-None : goal.returns-in-None
returns-in-None c = expiring_none c.args.keyspace.now c.args.key c.args.expires c.in-None.ensures.stored c.remove.ensures.removed c.flag-in-None.ensures
