use Rattle.std.proofs.Common.{sym, ap, ◌∙◌}
use Rattle.kv_machine.specs.Store.{keys}
use Rattle.kv_machine.proofs.Histories.{keys-store_of}
use Rattle.kv_machine.proofs.keyspace.Keyspace.table.Goals as goal

pub returns : goal.returns
returns c =
    let a = c.self.inside in
    sym (keys-store_of a.table a.compacted a.revisions.items a.pending.items a.current c.self.invariant) ∙ ap keys c.self.view_is
