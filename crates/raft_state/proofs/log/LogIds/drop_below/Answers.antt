use Rattle.std.proofs.Common.{rules, nat_lt, not}
use Rattle.std.proofs.lemmas.Fn.{filter_same}
use Rattle.raft_state.proofs.Places.{follow_drop}
use Rattle.raft_state.proofs.log.LogIds.drop_below.Goals as goal

pub invariant_of-self : goal.invariant_of-self
invariant_of-self g c = λ e. rw c.drop_front.ensures (follow_drop c.count_below-dropped.result c.self.inside.ids.items (c.self.invariant e))

pub returns-else-self : goal.returns-else-self
returns-else-self g c =
    rw (← c.self.view_is)
    (filter_same _ (λ x. not (nat_lt x.index c.args.index)) _ (λ x b f r. search rules) _ _ c.retain.ensures.filtered)
