use Rattle.std.proofs.Common.{rules, ◌≡◌, ◌∙◌, ◌++◌, ap, map}
use Rattle.std.specs.Map.{values_of}
use Rattle.std.specs.Map.Iter.{deref}
use Rattle.std.proofs.lemmas.Map.Iter.{iter_end}
use Rattle.raft_store.specs.Entries.{entry_meaning}
use Rattle.raft_store.proofs.Shown.{ids_shown}
use Rattle.raft_packed.proofs.start.push_ids.Goals as goal

pub returns : goal.returns
returns c =
    let e : map deref c.loop-entry.yielded ≡ values_of c.args.stored.now.entries = search (rules, iter_end) in
    c.loop-entry.invariant ∙ ap (λ ids. c.args.ids.now.items ++ ids) (ids_shown c.loop-entry.yielded ∙ ap (map entry_meaning.id_of) e)
