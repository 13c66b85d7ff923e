-- The requests that wait for an answer, or whose answers wait for those before them.
use Rattle.std.specs.Prelude.{ℕ, ◌+◌, ◌-◌, ◌%◌, ◌^◌, Bool, true, false, length, List, [], ◌∷◌, ◌++◌, slice_set, Option, Some, None}
use Rattle.std.specs.List.{slice_get}
use Rattle.raft_connection.specs.declared.pending.Pending.{Pending}
use Rattle.raft_connection.specs.declared.pending.Slot.{Slot}
use Rattle.raft_connection.specs.declared.pending.Slot.TheVariants.{Waits, Ready}
use Rattle.raft_connection.specs.declared.pending.Waiting.{Waiting}

-- numbers follow one another, and go round
abbrev pub number_of : Pending → ℕ → ℕ
number_of p place = (p.first + place) % 2 ^ 64

abbrev pub place_of : Pending → ℕ → ℕ
place_of p number = (number + (2 ^ 64 - p.first)) % 2 ^ 64

abbrev pub with_slot : Pending → Slot → Pending
with_slot p slot = record { first = p.first; slots = p.slots ++ slot ∷ [] }

abbrev pub waiting_in : Option Slot → Option Waiting
waiting_in (Some (Waits w)) = Some w
waiting_in (Some (Ready bytes)) = None
waiting_in None = None

-- what is known of the request of a number, if it waits
abbrev pub waiting_at : Pending → ℕ → Option Waiting
waiting_at p number = waiting_in (slice_get p.slots (place_of p number))

-- with an answer to the request of a number
abbrev pub filled : Pending → ℕ → List ℕ → Pending
filled p number bytes = record { first = p.first; slots = slice_set p.slots (place_of p number) (Ready bytes) }

-- how many bytes an answer has, if it is there
abbrev pub ready_len : Option Slot → ℕ
ready_len (Some (Ready bytes)) = length bytes
ready_len (Some (Waits w)) = 0
ready_len None = 0

-- how many bytes the answers have that are there
abbrev pub ready_total : List Slot → ℕ
ready_total [] = 0
ready_total (slot ∷ slots) = ready_len (Some slot) + ready_total slots

-- how many requests wait for their answers
abbrev pub waiting_count : List Slot → ℕ
waiting_count [] = 0
waiting_count (Waits w ∷ slots) = 1 + waiting_count slots
waiting_count (Ready bytes ∷ slots) = waiting_count slots

-- ---- what may leave

abbrev pub is_first_ready : List Slot → Bool
is_first_ready [] = false
is_first_ready (Waits w ∷ slots) = false
is_first_ready (Ready bytes ∷ slots) = true

-- without the first request
abbrev pub behind : ℕ → List Slot → Pending
behind first slots = record { first = (first + 1) % 2 ^ 64; slots = slots }

abbrev pub first_ready_in : ℕ → List Slot → Option (List ℕ × Pending)
first_ready_in first [] = None
first_ready_in first (Waits w ∷ slots) = None
first_ready_in first (Ready bytes ∷ slots) = Some (bytes, behind first slots)

-- the first request's answer, if it is there, and the requests behind it
abbrev pub first_ready : Pending → Option (List ℕ × Pending)
first_ready p = first_ready_in p.first p.slots

-- the bytes of all answers before the first request that waits
abbrev pub ready_bytes : List Slot → List ℕ
ready_bytes [] = []
ready_bytes (Waits w ∷ slots) = []
ready_bytes (Ready bytes ∷ slots) = bytes ++ ready_bytes slots

-- the requests from there on
abbrev pub from_waiting : ℕ → List Slot → Pending
from_waiting first [] = record { first = first; slots = [] }
from_waiting first (Waits w ∷ slots) = record { first = first; slots = Waits w ∷ slots }
from_waiting first (Ready bytes ∷ slots) = from_waiting ((first + 1) % 2 ^ 64) slots
