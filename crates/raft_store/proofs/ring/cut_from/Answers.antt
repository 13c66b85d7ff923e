use Rattle.std.proofs.Common.{rules, ◌≡◌, ◌-◌, sym}
use Rattle.raft_store.proofs.Numbered.{cut-numbered}
use Rattle.raft_store.proofs.ring.cut_from.Goals as goal

pub returns-clause-cut : goal.returns-clause-cut
returns-clause-cut c =
    let keep : c.saturating_sub.result ≡ c.args.since - c.args.first = search rules in
    rw c.truncate.ensures.items (sym (cut-numbered c.saturating_sub.result c.args.first c.args.since c.args.items.now.items keep))
