use Rattle.std.proofs.Common.{rules, ◌≡◌, ◌∙◌, ap, map}
use Rattle.std.specs.Map.{values_of}
use Rattle.std.specs.Map.Iter.{deref}
use Rattle.std.proofs.lemmas.Map.Iter.{iter_end}
use Rattle.raft_store.specs.Starting.{entries_of}
use Rattle.raft_packed.proofs.store.PackedStore.entries.Goals as goal

pub returns : goal.returns
returns g c =
    let e : map deref c.loop-entry.yielded ≡ values_of c.args.self.now.store.log = search (rules, iter_end) in
    ap entries_of c.loop-entry.invariant ∙ e
