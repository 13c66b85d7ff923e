-- Moments from numbers, in milliseconds since the Unix epoch.
use Rattle.std.specs.Prelude.{ℕ, Option, Some, None, ℤ, pos, negsuc, ◌+ℤ◌, ◌*ℤ◌, if◌then◌else◌}
use Rattle.std.specs.Option.{option_and_then}
use Rattle.raft_machine.specs.Commands.{fits}
use Rattle.raft_requests.specs.declared.times.TimeForm.{TimeForm}
use Rattle.raft_requests.specs.declared.times.TimeForm.TheVariants.{Seconds, Milliseconds, UnixSeconds, UnixMilliseconds}

-- what a number of 1 is
abbrev pub unit : TimeForm → ℤ
unit Seconds = pos 1000
unit Milliseconds = pos 1
unit UnixSeconds = pos 1000
unit UnixMilliseconds = pos 1

-- from when it counts
abbrev pub start : TimeForm → ℕ → ℕ
start Seconds now = now
start Milliseconds now = now
start UnixSeconds now = 0
start UnixMilliseconds now = 0

abbrev pub fitting : ℤ → Option ℤ
fitting z = if fits z then Some z else None

-- before the epoch is the epoch
abbrev pub at_epoch_or_later : ℤ → ℕ
at_epoch_or_later (pos n) = n
at_epoch_or_later (negsuc n) = 0

-- the moment that a number tells, if it and its milliseconds fit 64 bits with a sign (Redis, expireGenericCommand)
unfoldable pub moment_of : TimeForm → ℕ → ℤ → Option ℕ
moment_of form now n = option_and_then (λ m. option_and_then (λ at. Some (at_epoch_or_later at)) (fitting (m +ℤ pos (start form now)))) (fitting (n *ℤ unit form))
