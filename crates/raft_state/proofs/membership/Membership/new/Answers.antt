use Rattle.std.proofs.Common.{◌≡◌, ◌∙◌, sym, map}
use Rattle.std.specs.Map.{keys_of}
use Rattle.raft_state.specs.Members.{group_of, placed_nodes}
use Rattle.raft_state.specs.Sorted.{has_id}
use Rattle.raft_state.proofs.Groups.{groups_ascend}
use Rattle.raft_state.proofs.Voters.{voters_placed}
use Rattle.raft_state.proofs.membership.Membership.new.Goals as goal

pub invariant_of-result : goal.invariant_of-result
invariant_of-result g c =
    let groups : c.from_vec.result ≡ map (group_of g.NID.Ord.cmp) (map (λ group. group.items) c.args.groups.items) = c.from_vec.ensures ∙ c.in_ok-groups.ensures in
    let given : c.from_vec.result ≡ c.deref.result.now = c.from_vec.ensures ∙ sym c.deref.ensures.value in
    rw c.from_vec-2.ensures
    record {
      groups_ordered = rw groups (groups_ascend g.NID.Ord.cmp g.met.NID.Ord.total (map (λ group. group.items) c.args.groups.items));
      ordered = c.in_ok-nodes.ensures.ascending;
      voters =
          rw given
          (voters_placed
          g.NID.Ord.cmp
          g.met.NID.Ord.total
          g.N.Node.default_node
          c.deref.result.now
          (placed_nodes g.NID.Ord.cmp c.args.nodes.items)
          (has_id g.NID.Ord.cmp (keys_of c.in_ok-nodes.nodes.items))
          (λ q h. rw c.in_ok-nodes.ensures.nodes h));
    }
