use Rattle.std.proofs.Common.{rules, ◌≡◌, ◌∙◌, ap, map}
use Rattle.std.specs.Map.{values_of}
use Rattle.std.specs.Map.Iter.{deref_pair}
use Rattle.std.specs.BTreeMap.Range.{entries_between}
use Rattle.std.specs.declared.ops.Bound.TheVariants.{Included}
use Rattle.std.specs.Ordering.{nat_cmp}
use Rattle.std.proofs.lemmas.Map.Iter.{iter_end}
use Rattle.proof_packed_stores.specs.Stores.{with_entries}
use Rattle.raft_packed.proofs.Ranges.{range-between, shown_values}
use Rattle.raft_packed.proofs.log.apply_between.Goals as goal

pub returns : goal.returns
returns g c =
    let e : map deref_pair c.loop-entry.yielded ≡ entries_between nat_cmp (Included c.args.from) (Included c.args.last) c.args.log.now.entries = search (rules, iter_end) in
    let app = g.M.Machine.application in
    let old = c.args.states.now in
    c.loop-entry.invariant
    ∙ ap (λ es. record old { applied = with_entries app old.applied es }) (shown_values c.loop-entry.yielded ∙ ap values_of e ∙ range-between c.args.from c.args.last c.args.log.now.entries)
