use Rattle.std.proofs.Common.{◌≡◌, fold, take}
use Rattle.std.specs.BTreeMap.{IsOrdered}
use Rattle.raft_state.specs.Members.{with_voters}
use Rattle.raft_state.proofs.membership.place_groups.Given as goal

abbrev pub invariant-loop-group : goal.invariant-loop-group
invariant-loop-group g l = record {
  placed : l.placed.entries ≡ fold (with_voters g.NID.Ord.cmp g.N.Node.default_node) l.initial.placed.entries (take l.group-index l.groups);
  ordered : IsOrdered g.NID.Ord.cmp l.initial.placed → IsOrdered g.NID.Ord.cmp l.placed;
}
