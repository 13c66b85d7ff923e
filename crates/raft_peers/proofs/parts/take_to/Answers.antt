use Rattle.std.proofs.Common.{◌≡◌, subst, rules}
use Rattle.std.specs.Prelude.{Contains}
use Rattle.raft_peers.proofs.Among.{swap_left, swapped_out}
use Rattle.raft_peers.proofs.parts.take_to.Goals as goal

pub returns-clause-taken : goal.returns-clause-taken
returns-clause-taken c = λ o is.
    let same : c.swap_remove.result ≡ o = cc in
    subst (Contains c.args.outgoing.now.items) same (swapped_out c.args.outgoing.now.items c.in_ok-at.at c.swap_remove.result (search rules) c.swap_remove.ensures.value)

pub returns-clause-left : goal.returns-clause-left
returns-clause-left c =
    swap_left c.args.outgoing.now.items c.swap_remove.new.self.items c.in_ok-at.at c.swap_remove.result (search rules) c.swap_remove.ensures.value
    c.swap_remove.ensures.items
