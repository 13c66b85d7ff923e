use Rattle.std.proofs.Common.{rules, ◌≡◌, ◌++◌, ◌∷◌, [], ◌+◌, length, subst, sym}
use Rattle.raft_calls.specs.Inboxes.{AddsNumbers, IsIndexed}
use Rattle.raft_calls.proofs.Indexed.{is_indexed-more}
use Rattle.raft_calls.proofs.bag.Bag.push.Goals as goal

pub invariant_of-self-2 : goal.invariant_of-self-2
invariant_of-self-2 c =
    let grown : c.push.new.self.items ≡ c.self.inside.messages.items ++ c.args.message ∷ [] = search rules in
    let noted : AddsNumbers c.args.message.to ((length c.self.inside.messages.items + 1) ∷ []) c.self.inside.inboxes c.add.new.self = search rules in
    subst (λ ms. IsIndexed ms c.add.new.self) (sym grown) (is_indexed-more c.self.inside.messages.items c.args.message c.self.inside.inboxes c.add.new.self c.self.invariant noted)
