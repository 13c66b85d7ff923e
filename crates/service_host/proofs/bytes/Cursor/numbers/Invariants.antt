use Rattle.std.proofs.Common.{◌≤◌}
use Rattle.service_host.proofs.Reading.{HasNumbers}
use Rattle.service_host.proofs.bytes.Cursor.numbers.Given as goal

abbrev pub invariant-loop : goal.invariant-loop
invariant-loop l = HasNumbers l.counter l.initial.self l.self l.numbers.items × (l.counter ≤ l.count)
