use Rattle.std.proofs.Common.{rules, ◌≡◌, ◌∙◌, ap, length, sym}
use Rattle.raft_store.proofs.Numbered.{length-numbered}
use Rattle.raft_store.proofs.ring.Ring.len.Goals as goal

pub returns-clause-count : goal.returns-clause-count
returns-clause-count c =
    let counted : c.len.result ≡ length c.self.inside.items.items = search rules in
    counted ∙ (sym (length-numbered c.self.inside.first c.self.inside.items.items) ∙ ap length c.self.view_is)
