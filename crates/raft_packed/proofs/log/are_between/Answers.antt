use Rattle.std.proofs.Common.{sym, ◌∙◌}
use Rattle.raft_packed.proofs.Ranges.{between_none, none_left}
use Rattle.raft_packed.proofs.log.are_between.Goals as goal

pub returns-then-end-from : goal.returns-then-end-from
returns-then-end-from c = λ t.
    none_left c.args.entries.now (sym c.is_empty.ensures ∙ t)
    ∙ sym (between_none c.args.from c.args.end c.args.log.now.entries c.if-end-from.true)
