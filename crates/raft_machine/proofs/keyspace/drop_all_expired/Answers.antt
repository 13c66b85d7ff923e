use Rattle.std.proofs.Common.{sym, ◌∙◌}
use Rattle.raft_machine.proofs.Spaces.{AreNoted-dropped, alive-dropped, alive-all}
use Rattle.raft_machine.proofs.keyspace.drop_all_expired.Goals as goal

pub loop-deadlines-preserved-in-Some : goal.loop-deadlines-preserved-in-Some
loop-deadlines-preserved-in-Some c = record {
  noted = rw (c.drop_expired.ensures, c.from_vec-key.ensures) (AreNoted-dropped c.loop-deadlines.table c.loop-deadlines.deadlines c.pop_first.new.self c.args.now (c.in-Some.field-0-0, c.in-Some.bytes) c.loop-deadlines.invariant.noted c.loop-deadlines-test.ensures.due c.in-Some.ensures.removal);
  alive = rw (c.drop_expired.ensures, c.from_vec-key.ensures) (alive-dropped c.loop-deadlines.table c.args.now c.in-Some.bytes.items ∙ c.loop-deadlines.invariant.alive);
}

pub returns-clause-later : goal.returns-clause-later
returns-clause-later c = λ k t e. c.loop-deadlines-test.ensures.later t k (c.loop-deadlines.invariant.noted k t e)

pub returns-clause-alive : goal.returns-clause-alive
returns-clause-alive c = sym (alive-all c.args.now c.loop-deadlines.table (λ k t e. c.loop-deadlines-test.ensures.later t k (c.loop-deadlines.invariant.noted k t e))) ∙ c.loop-deadlines.invariant.alive
