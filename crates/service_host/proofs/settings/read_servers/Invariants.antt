use Rattle.std.proofs.Common.{◌≤◌}
use Rattle.service_host.proofs.Reading.{HasServers}
use Rattle.service_host.proofs.settings.read_servers.Given as goal

abbrev pub invariant-loop : goal.invariant-loop
invariant-loop l = HasServers l.counter l.initial.cursor l.cursor l.servers.ids.items × (l.counter ≤ l.end)
