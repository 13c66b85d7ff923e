use Rattle.std.proofs.Common.{sym, ◌∙◌, lit<}
use Rattle.raft_schedule.proofs.Together.{skipped_by_first, skipped_empty}
use Rattle.raft_schedule.proofs.schedule.is_skipped.Goals as goal

pub returns-then-is_empty : goal.returns-then-is_empty
returns-then-is_empty c = skipped_empty c.args.line.now c.if-is_empty.ensures

pub returns : goal.returns
returns c = c.starts_with.ensures.byte (lit< tt) (lit< tt) (λ w o h. h) ∙ sym (skipped_by_first c.args.line.now c.if-is_empty.ensures)
