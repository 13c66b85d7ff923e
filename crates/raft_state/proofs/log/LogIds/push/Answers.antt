use Rattle.std.proofs.Common.{rules, ◌≡◌, ◌∙◌, ◌++◌, ◌∷◌, [], true, sym, ap}
use Rattle.raft_state.specs.Log.{last}
use Rattle.raft_state.specs.Consecutive.{follows}
use Rattle.raft_state.proofs.Places.{follow_more, follow_one}
use Rattle.raft_state.proofs.log.LogIds.push.Goals as goal

pub invariant_of-self-else-not-follows : goal.invariant_of-self-else-not-follows
invariant_of-self-else-not-follows g c = λ e.
    let n : c.push_back.new.self.items ≡ c.self.inside.ids.items ++ c.args.id ∷ [] = search rules in
    let f : c.is_next-follows.result ≡ true = search rules in
    let l : c.last.result ≡ last c.self.inside.ids.items = search rules in
    rw n (follow_more c.self.inside.ids.items (c.args.id ∷ []) (c.self.invariant e) (follow_one (last c.self.inside.ids.items) c.args.id (ap (λ p. follows p c.args.id.index) (sym l) ∙ (sym c.is_next-follows.ensures ∙ f))))
