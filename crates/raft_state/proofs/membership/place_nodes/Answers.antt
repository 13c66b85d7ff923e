use Rattle.std.proofs.Common.{◌∷◌, [], refl}
use Rattle.std.specs.BTreeMap.{insert_entry}
use Rattle.std.proofs.lemmas.List.Sums.{fold-append}
use Rattle.raft_state.proofs.membership.place_nodes.Goals as goal

pub loop-id-preserved-in_ok-insert : goal.loop-id-preserved-in_ok-insert
loop-id-preserved-in_ok-insert g c = (
  rw (c.in_ok-insert.ensures.entries, c.loop-id.invariant.0, fold-append (λ placed entry. insert_entry g.NID.Ord.cmp placed entry.0 entry.1) [] c.loop-id.yielded ((c.in-Some.id, c.in-Some.node) ∷ [])) refl,
  c.insert.ensures.ordered,
)
