use Rattle.std.proofs.Common.{◌≡◌, find, drop}
use Rattle.raft_requests.specs.Names.{is_named}
use Rattle.raft_requests.proofs.command_name.find_named.Given as goal

abbrev pub invariant-loop-name : goal.invariant-loop-name
invariant-loop-name l = find (is_named l.word) (drop l.name-index l.names) ≡ find (is_named l.word) l.names
