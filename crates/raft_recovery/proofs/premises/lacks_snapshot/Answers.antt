use Rattle.std.proofs.Common.{◌≡◌, ◌∙◌, ℕ, Bool, true, Some, sym}
use Rattle.std.proofs.lemmas.Result.{IfOk-weaker}
use Rattle.raft_recovery.specs.Choosing.{found_at}
use Rattle.raft_recovery.specs.Recoveries.{LacksSnapshot}
use Rattle.raft_recovery.proofs.premises.lacks_snapshot.Goals as goal

pub returns-in-Some : goal.returns-in-Some
returns-in-Some c =
    let given = c.args.world.now.given in
    let net = c.args.world.now.history.net in
    IfOk-weaker c.lacks.result
    (λ (lacks : Bool). lacks ≡ true → (n : ℕ) → found_at net.nodes n ≡ Some c.in-Some.found → LacksSnapshot given net n c.args.other)
    (λ (lacks : Bool). lacks ≡ true → LacksSnapshot given net c.args.one c.args.other)
    (λ lacks h e. h e c.args.one (sym c.in_ok-found_at.ensures ∙ c.in-Some.is))
    c.lacks.ensures
