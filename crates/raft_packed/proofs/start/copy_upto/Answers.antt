use Rattle.std.proofs.Common.{◌∙◌, ◌-◌, ℕ, ap, take}
use Rattle.std.proofs.lemmas.Result.{IfOk-weaker}
use Rattle.raft_state.specs.Order.{next}
use Rattle.raft_store.specs.Starting.{entries_of}
use Rattle.raft_store.proofs.Shown.{first_shown}
use Rattle.raft_packed.proofs.start.copy_upto.Goals as goal

pub returns : goal.returns
returns c =
    let n : ℕ = next c.args.last.now - c.args.end in
    IfOk-weaker c.copy_all.result _ _
    (λ copied h. h ∙ (ap (λ (k : ℕ). entries_of (take k c.args.rest.now)) c.count_upto.ensures ∙ first_shown n c.args.rest.now)) c.copy_all.ensures
