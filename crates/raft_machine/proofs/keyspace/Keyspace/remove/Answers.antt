use Rattle.std.proofs.Common.{sym, ◌∙◌}
use Rattle.std.specs.FinMap as map
use Rattle.std.proofs.lemmas.Option.{none-some}
use Rattle.raft_machine.proofs.Spaces.{timely-remove, timely-forget, deadline-removed}
use Rattle.raft_machine.proofs.keyspace.Keyspace.remove.Goals as goal

pub invariant_of-self : goal.invariant_of-self
invariant_of-self c = rw c.remove.ensures.removed (timely-remove c.self.inside.table c.self.inside.deadlines c.self.inside.moment c.args.key.now c.self.invariant)

pub invariant_of-self-in-Some : goal.invariant_of-self-in-Some
invariant_of-self-in-Some c =
    rw c.remove.ensures.removed
    (timely-forget (map.remove c.self.inside.table c.args.key.now) c.self.inside.deadlines c.forget.new.deadlines c.self.inside.moment c.in-Some.at c.args.key.now
    (timely-remove c.self.inside.table c.self.inside.deadlines c.self.inside.moment c.args.key.now c.self.invariant)
    (rw (sym (c.into_vec.ensures ∙ c.in_ok-key.ensures.key)) c.forget.ensures)
    (λ e. none-some c.in-Some.at (sym (deadline-removed c.self.inside.table c.args.key.now) ∙ e)))

pub invariant_of-self-in-None-1 : goal.invariant_of-self-in-None-1
invariant_of-self-in-None-1 c = rw c.remove.ensures.removed (timely-remove c.self.inside.table c.self.inside.deadlines c.self.inside.moment c.args.key.now c.self.invariant)
