use Rattle.std.proofs.Common.{sym, ◌∙◌}
use Rattle.raft_cluster_text.proofs.Agree.{agrees}
use Rattle.raft_cluster_text.proofs.run.check.Goals as goal

pub returns-clause-agrees : goal.returns-clause-agrees
returns-clause-agrees c = λ h undamaged.
    agrees c.args.cluster.now c.in_ok-agreement.agreement c.in_ok-agreement.ensures h (sym c.is_damaged.ensures ∙ undamaged)
