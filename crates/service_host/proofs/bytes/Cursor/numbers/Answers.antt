use Rattle.std.proofs.Common.{arith, rules}
use Rattle.service_host.proofs.Reading.{all_numbers, next_number, no_numbers}
use Rattle.service_host.proofs.bytes.Cursor.numbers.Goals as goal

pub loop-init : goal.loop-init
loop-init c = (search (rules, no_numbers), omega arith)

pub loop-preserved : goal.loop-preserved
loop-preserved c = (
  next_number c.loop.counter _ _ _ _ _ _ _ (omega arith) c.loop.invariant.0 c.in_ok-number.ensures.number c.in_ok-number.ensures.rest c.in_ok-push.ensures.items,
  omega (arith, c.loop-test.true),
)

pub returns-clause-numbers : goal.returns-clause-numbers
returns-clause-numbers c =
    (all_numbers c.loop.counter c.in_ok-count.count _ c.args.self.now _ _ c.loop.invariant.1 c.loop-test.false c.in_ok-count.ensures.number c.in_ok-count.ensures.rest c.loop.invariant.0).0

pub returns-clause-rest : goal.returns-clause-rest
returns-clause-rest c =
    (all_numbers c.loop.counter c.in_ok-count.count _ c.args.self.now _ _ c.loop.invariant.1 c.loop-test.false c.in_ok-count.ensures.number c.in_ok-count.ensures.rest c.loop.invariant.0).1
