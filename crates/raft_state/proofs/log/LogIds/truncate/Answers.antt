use Rattle.std.proofs.Common.{rules, nat_lt}
use Rattle.std.proofs.lemmas.Fn.{filter_same}
use Rattle.raft_state.proofs.Places.{follow_take}
use Rattle.raft_state.proofs.log.LogIds.truncate.Goals as goal

pub invariant_of-self : goal.invariant_of-self
invariant_of-self g c = λ e. rw c.truncate.ensures.items (follow_take c.count_below-kept.result c.self.inside.ids.items (c.self.invariant e))

pub returns-else-self : goal.returns-else-self
returns-else-self g c =
    rw (← c.self.view_is)
    (filter_same _ (λ x. nat_lt x.index c.args.index) _ (λ x b f r. search rules) _ _ c.retain.ensures.filtered)
