use Rattle.std.proofs.Common.{◌≡◌, None, subst, w64}
use Rattle.std.specs.Prelude.{IfOk, IfSome}
use Rattle.std.proofs.lemmas.Int.{to_z-of_z}
use Rattle.raft_machine.specs.Space.{Space}
use Rattle.raft_machine.specs.Commands.{counted, sum_at}
use Rattle.raft_machine.proofs.Counting.{timely-added, space-counted, space-stays}
use Rattle.raft_machine.proofs.Loaded.{made}
use Rattle.raft_machine.proofs.keyspace.Keyspace.add.Goals as goal

pub invariant_of-self : goal.invariant_of-self
invariant_of-self c =
    timely-added c.self.inside.table c.add.new.self c.self.inside.deadlines c.self.inside.moment c.args.key.now c.add.result c.self.invariant c.add.ensures.added c.add.ensures.err

pub returns-clause-sum : goal.returns-clause-sum
returns-clause-sum c =
    subst (λ (s : Space). IfOk c.add.result (λ o. o ≡ sum_at s.map c.args.key.now c.args.by)) c.self.view_is
    (subst (λ b. IfOk c.add.result (λ o. o ≡ sum_at c.self.inside.table c.args.key.now b)) (to_z-of_z w64 c.args.by c.ranges.by) c.add.ensures.sum)

pub returns-clause-added : goal.returns-clause-added
returns-clause-added c =
    subst (λ (s : Space). IfOk c.add.result (λ o. IfSome o (λ x. made c.add.new.self c.self.inside.moment ≡ (counted s c.args.key.now x).0))) c.self.view_is
    (space-counted c.self.inside.table c.add.new.self c.self.inside.deadlines c.self.inside.moment c.args.key.now c.add.result c.self.invariant c.add.ensures.added)

pub returns-clause-none : goal.returns-clause-none
returns-clause-none c =
    subst (λ (s : Space). IfOk c.add.result (λ o. o ≡ None → made c.add.new.self c.self.inside.moment ≡ s)) c.self.view_is
    (space-stays c.self.inside.table c.add.new.self c.self.inside.moment c.args.key.now c.add.result c.add.ensures.added)
