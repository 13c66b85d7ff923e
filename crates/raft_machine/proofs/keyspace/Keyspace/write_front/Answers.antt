use Rattle.std.proofs.Common.{subst, ◌∙◌}
use Rattle.std.proofs.lemmas.Result.{on_ok_weaker}
use Rattle.std.specs.FinMap.{len-entries}
use Rattle.std.specs.Prelude.{OnOk}
use Rattle.raft_machine.specs.Pieces.{WritesFront}
use Rattle.raft_machine.specs.Space.{Space}
use Rattle.raft_machine.proofs.Loaded.{made}
use Rattle.raft_machine.proofs.Pieces.{space_front}
use Rattle.raft_machine.proofs.keyspace.Keyspace.write_front.Goals as goal

pub returns-clause-front : goal.returns-clause-front
returns-clause-front c =
    let old = c.args.out.now.items in
    let new = c.write_number-2.new.out.items in
    subst (λ (s : Space). OnOk c.write_number-2.result (WritesFront s old new)) c.self.view_is
    (on_ok_weaker c.write_number-2.result
    (λ w. space_front (made c.self.inside.table c.self.inside.moment) _ old _ new c.self.invariant.later
    (c.len.ensures ∙ len-entries c.self.inside.table) c.in_ok-write_number.ensures w)
    c.write_number-2.ensures)
