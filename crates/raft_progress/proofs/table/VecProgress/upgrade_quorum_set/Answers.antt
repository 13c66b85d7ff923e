use Rattle.std.proofs.Common.{◌≡◌, ◌∙◌, ap, refl}
use Rattle.raft_progress.proofs.table.VecProgress.upgrade_quorum_set.Goals as goal

pub returns-clause-ok : goal.returns-clause-ok
returns-clause-ok g c =
    let old : c.deref.result.now ≡ c.args.self.now.rows = c.deref.ensures.value ∙ ap (λ t. t.rows) c.self.view_is in
    rw (c.drop.view_is, c.keep.ensures, c.in_ok-upgraded.ensures, old) refl
