use Rattle.std.proofs.Common.{sym, ap, ◌∙◌}
use Rattle.std.specs.FinMap as map
use Rattle.kv_machine.specs.Store.{Map, keys}
use Rattle.kv_machine.proofs.Histories.{keys-store_of}
use Rattle.kv_machine.proofs.keyspace.Keyspace.get.Goals as goal

pub returns : goal.returns
returns c =
    let a = c.self.inside in
    c.get.ensures
    ∙ ap (λ (m : Map). map.get m c.args.key.now) (sym (keys-store_of a.table a.compacted a.revisions.items a.pending.items a.current c.self.invariant) ∙ ap keys c.self.view_is)
