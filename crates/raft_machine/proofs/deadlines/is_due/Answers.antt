use Rattle.raft_machine.proofs.Noted.{none_due, first_due}
use Rattle.raft_machine.proofs.deadlines.is_due.Goals as goal

pub returns-in-Some-clause-later : goal.returns-in-Some-clause-later
returns-in-Some-clause-later c = none_due c.args.now c.in-Some.first.now c.args.deadlines.now c.in-Some.ensures.all_from

pub returns-in-Some-clause-due : goal.returns-in-Some-clause-due
returns-in-Some-clause-due c = first_due c.args.now c.args.deadlines.now.keys c.in-Some.first.now c.in-Some.ensures.first
