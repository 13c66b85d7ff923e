use Rattle.std.proofs.Common.{◌≡◌, false, inl, refl, rules}
use Rattle.raft_core.proofs.Assembled.{none_waits}
use Rattle.raft_core.proofs.driver.propose.Goals as goal

pub returns-then-not-has_waiting : goal.returns-then-not-has_waiting
returns-then-not-has_waiting g c =
    let not_waiting : c.has_waiting.result ≡ false = search rules in
    inl (none_waits c.has_waiting.result c.args.requests.now.waiting c.has_waiting.ensures not_waiting, refl, refl, refl)
