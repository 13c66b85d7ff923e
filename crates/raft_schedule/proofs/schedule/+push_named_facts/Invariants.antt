use Rattle.std.proofs.Common.{length}
use Rattle.raft_schedule.proofs.schedule.+push_named_facts.Given as goal

abbrev pub decreases-push_named_facts : goal.decreases-push_named_facts
decreases-push_named_facts l = length l.words.now
