use Rattle.std.proofs.Common.{map, rules}
use Rattle.std.proofs.lemmas.List.{map_push}
use Rattle.raft_state.specs.Members.{group_of}
use Rattle.raft_state.proofs.membership.sorted_groups.Goals as goal

pub loop-ids-preserved : goal.loop-ids-preserved
loop-ids-preserved g c =
    rw (c.in_ok-push.ensures.items, c.loop-ids.invariant, map_push (λ group. group.items) c.loop-ids.yielded c.in-Some.ids, map_push (group_of g.NID.Ord.cmp) (map (λ group. group.items) c.loop-ids.yielded) c.in-Some.ids.items)
    (search rules)
