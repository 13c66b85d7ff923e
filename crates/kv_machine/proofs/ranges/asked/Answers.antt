use Rattle.std.proofs.Common.{sym, ◌∙◌}
use Rattle.kv_machine.proofs.Pages.{unbounded}
use Rattle.kv_machine.proofs.ranges.asked.Goals as goal

pub returns-then-is_unbounded : goal.returns-then-is_unbounded
returns-then-is_unbounded c = unbounded c.args.request.now c.args.kvs.items (sym c.is_unbounded.ensures ∙ c.if-is_unbounded.true)
