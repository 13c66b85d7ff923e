use Rattle.std.proofs.Common.{rules, ◌≡◌, ◌∙◌, ◌++◌, true, sym, ap}
use Rattle.raft_state.specs.Log.{last}
use Rattle.raft_state.specs.Consecutive.{follow_on}
use Rattle.raft_state.proofs.Places.{follow_more}
use Rattle.raft_state.proofs.log.LogIds.extend.Goals as goal

pub invariant_of-self-else-not-follow : goal.invariant_of-self-else-not-follow
invariant_of-self-else-not-follow g c = λ e.
    let n : c.push_all.new.items.items ≡ c.self.inside.ids.items ++ c.args.ids.now = search rules in
    let f : c.is_consecutive-follow.result ≡ true = search rules in
    let l : c.last.result ≡ last c.self.inside.ids.items = search rules in
    rw n (follow_more c.self.inside.ids.items c.args.ids.now (c.self.invariant e) (ap (λ p. follow_on p c.args.ids.now) (sym l) ∙ (sym c.is_consecutive-follow.ensures ∙ f)))
