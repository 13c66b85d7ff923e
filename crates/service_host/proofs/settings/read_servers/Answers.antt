use Rattle.std.proofs.Common.{arith, rules}
use Rattle.service_host.proofs.Reading.{all_servers, next_server, no_servers}
use Rattle.service_host.proofs.settings.read_servers.Goals as goal

pub loop-init : goal.loop-init
loop-init c = (search (rules, no_servers), omega arith)

pub loop-preserved : goal.loop-preserved
loop-preserved c = (
  next_server c.loop.counter _ _ _ _ _ _ (omega arith) c.loop.invariant.0 c.in_ok-read_server.ensures.rest c.in_ok-read_server.ensures.ids,
  omega (arith, c.loop-test.true),
)

pub returns-clause-ids : goal.returns-clause-ids
returns-clause-ids c =
    (all_servers c.loop.counter _ _ c.args.cursor.now _ _ c.loop.invariant.1 c.loop-test.false c.in_ok-end.ensures.number c.in_ok-end.ensures.rest c.loop.invariant.0).0

pub returns-clause-rest : goal.returns-clause-rest
returns-clause-rest c =
    (all_servers c.loop.counter _ _ c.args.cursor.now _ _ c.loop.invariant.1 c.loop-test.false c.in_ok-end.ensures.number c.in_ok-end.ensures.rest c.loop.invariant.0).1
