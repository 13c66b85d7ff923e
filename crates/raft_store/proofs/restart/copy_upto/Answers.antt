use Rattle.std.proofs.Common.{◌≡◌, ◌∙◌, IfOk, ap, subst, take}
use Rattle.raft_state.specs.Order.{next}
use Rattle.raft_store.specs.Starting.{entries_of}
use Rattle.raft_store.proofs.Shown.{first_shown}
use Rattle.raft_store.proofs.restart.copy_upto.Goals as goal

pub returns : goal.returns
returns c =
    let e : entries_of (take c.count_upto.result c.args.log.now) ≡ take (next c.args.last.now) (entries_of c.args.log.now) =
    ap (λ n. entries_of (take n c.args.log.now)) c.count_upto.ensures ∙ first_shown (next c.args.last.now) c.args.log.now in
    subst (λ es. IfOk c.copy_log.result (λ copied. copied.items ≡ es)) e c.copy_log.ensures
