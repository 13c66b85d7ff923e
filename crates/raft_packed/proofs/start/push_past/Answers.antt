use Rattle.std.proofs.Common.{rules, ◌≡◌, ◌∙◌, ◌++◌, ap, map, Bor}
use Rattle.std.specs.Map.{values_of}
use Rattle.std.specs.Map.Iter.{deref_pair}
use Rattle.std.specs.BTreeMap.Range.{entries_between}
use Rattle.std.specs.declared.ops.Bound.TheVariants.{Included, Unbounded}
use Rattle.std.specs.Ordering.{nat_cmp}
use Rattle.std.proofs.lemmas.List.{map-append}
use Rattle.std.proofs.lemmas.Map.Iter.{iter_end}
use Rattle.raft_store.specs.declared.entry.Entry.{Entry}
use Rattle.raft_store.specs.Starting.{entries_of}
use Rattle.raft_packed.proofs.Ranges.{entries_shown, range-past}
use Rattle.raft_packed.proofs.start.push_past.Goals as goal

pub returns : goal.returns
returns c =
    let e : map deref_pair c.loop-entry.yielded ≡ entries_between nat_cmp (Included c.args.from) Unbounded c.args.stored.now.entries = search (rules, iter_end) in
    ap entries_of c.loop-entry.invariant ∙ map-append (λ (x : Bor Entry). x.now) c.args.log.now.items (map (λ p. p.1) c.loop-entry.yielded)
    ∙ ap (λ es. entries_of c.args.log.now.items ++ es) (entries_shown c.loop-entry.yielded ∙ ap values_of e ∙ range-past c.args.from c.args.stored.now.entries)
