use Rattle.std.proofs.Common.{rules, ◌≡◌, subst}
use Rattle.std.proofs.lemmas.Fn.{always_returns_same}
use Rattle.raft_world.specs.Printed.{place, Ordered}
use Rattle.raft_world.proofs.print.lines.Goals as goal

pub returns : goal.returns
returns c =
    let by_place = always_returns_same _ (λ a r. r ≡ place a.0.now) _ (λ a r q k. search rules) in
    subst (λ from. Ordered from c.sort_by_key.new.self.items) c.in_ok-lines.ensures (record {
      same = c.sort_by_key.ensures.permutation;
      rising = c.in_ok-sort_by_key.ensures.sorted place by_place;
      stable = c.sort_by_key.ensures.stable place by_place;
    })
