use Rattle.std.proofs.Common.{◌∙◌, sym}
use Rattle.raft_recovery.proofs.Electing.{twice}
use Rattle.raft_recovery.proofs.premises.+repeated.Goals as goal

pub returns-then-contains : goal.returns-then-contains
returns-then-contains t c = twice c.args.up.now c.in-len1-up.len_at_least (sym c.contains.ensures.value ∙ c.if-contains.true)
