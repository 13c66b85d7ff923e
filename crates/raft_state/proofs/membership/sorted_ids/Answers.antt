use Rattle.std.proofs.Common.{◌∷◌, [], refl}
use Rattle.std.specs.BTreeSet.{insert_key}
use Rattle.std.proofs.lemmas.List.Sums.{fold-append}
use Rattle.raft_state.proofs.membership.sorted_ids.Goals as goal

pub loop-id-preserved : goal.loop-id-preserved
loop-id-preserved g c = (
  rw (c.in_ok-insert.ensures.keys, c.loop-id.invariant.0, fold-append (insert_key g.NID.Ord.cmp) [] c.loop-id.yielded (c.in-Some.id ∷ [])) refl,
  c.insert.ensures.ordered,
)
