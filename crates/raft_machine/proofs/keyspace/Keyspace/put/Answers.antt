use Rattle.std.proofs.Common.{sym, ◌∙◌, ◌≡◌, true}
use Rattle.std.specs.FinMap as map
use Rattle.raft_machine.specs.Space.{lives}
use Rattle.raft_machine.proofs.Spaces.{timely-put, timely-forget, deadline-inserted}
use Rattle.raft_machine.proofs.keyspace.Keyspace.put.Goals as goal

pub invariant_of-self-in-Some : goal.invariant_of-self-in-Some
invariant_of-self-in-Some c =
    let live : lives c.self.inside.moment c.args.stored.expires ≡ true = sym c.if-not-lives.ensures in
    let outdated = rw c.in-Some.is at c.outdated.ensures in
    let copied = rw outdated.0 at c.in_ok-copied.ensures in
    rw c.in_ok-old.ensures.ok
    (timely-forget (map.insert c.self.inside.table c.args.key c.args.stored) c.note.new.deadlines c.forget.new.deadlines c.self.inside.moment c.in-Some.at c.args.key
    (timely-put c.self.inside.table c.self.inside.deadlines c.note.new.deadlines c.self.inside.moment c.args.key c.args.stored c.self.invariant live c.note.ensures.keeps c.in_ok-note.ensures.noted)
    (rw (sym copied) c.forget.ensures)
    (λ e. outdated.1 (sym (deadline-inserted c.self.inside.table c.args.key c.args.stored) ∙ e)))

pub invariant_of-self-in_default : goal.invariant_of-self-in_default
invariant_of-self-in_default c =
    let live : lives c.self.inside.moment c.args.stored.expires ≡ true = sym c.if-not-lives.ensures in
    rw c.in_ok-old.ensures.ok (timely-put c.self.inside.table c.self.inside.deadlines c.note.new.deadlines c.self.inside.moment c.args.key c.args.stored c.self.invariant live c.note.ensures.keeps c.in_ok-note.ensures.noted)
