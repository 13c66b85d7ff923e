-- Refusals as numbers.
use Rattle.std.specs.Prelude.{ℕ, ◌==◌, ◌||◌, Bool}
use Rattle.service_host.specs.declared.error.HostError.{HostError}
use Rattle.service_host.specs.declared.error.HostError.TheVariants.{BadInput, BadSettings, Busy, Connect, Frame, Members, Misplaced, Open, OutOfMemory, Stopped}

abbrev pub number_of : HostError → ℕ
number_of OutOfMemory = 1
number_of BadSettings = 2
number_of (Open error) = 3
number_of BadInput = 4
number_of Misplaced = 5
number_of (Connect error) = 6
number_of (Members error) = 7
number_of (Frame error) = 8
number_of Busy = 9
number_of (Stopped error) = 10

-- the service is gone: memory ran out, or it has stopped
abbrev pub ends : ℕ → Bool
ends number = number == 1 || number == 10
