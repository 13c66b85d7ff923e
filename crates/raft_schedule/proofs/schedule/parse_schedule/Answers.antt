use Rattle.raft_schedule.proofs.Together.{no_text}
use Rattle.raft_schedule.proofs.schedule.parse_schedule.Goals as goal

pub returns-then-is_empty : goal.returns-then-is_empty
returns-then-is_empty c = no_text c.args.text.now c.if-is_empty.ensures
