use Rattle.std.proofs.Common.{map, rules}
use Rattle.std.proofs.lemmas.List.{map_push}
use Rattle.raft_state.specs.Members.{group_of}
use Rattle.raft_progress.proofs.quorum.Joint.new.Goals as goal

pub loop-group-preserved : goal.loop-group-preserved
loop-group-preserved g c =
    rw (c.in_ok-push.ensures.ok, c.loop-group.invariant, map_push (λ group. group.items) c.loop-group.yielded c.in-Some.group, map_push (group_of g.ID.Ord.cmp) (map (λ group. group.items) c.loop-group.yielded) c.in-Some.group.items)
    (search rules)
