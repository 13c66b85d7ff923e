-- The numbers of the messages to each node.
use Rattle.std.specs.Prelude.{ℕ, ◌≡◌, ◌+◌, ◌++◌, List, [], ◌∷◌, nat_eq, unwrap_or, if◌then◌else◌}
use Rattle.std.specs.BTreeMap.{is_at}
use Rattle.std.specs.Map.{lookup}
use Rattle.std.specs.Ordering.{nat_cmp}
use Rattle.std.specs.Slice.Iter.{iter_rest}
use Rattle.raft_calls.specs.declared.inboxes.MessageNumbers.{MessageNumbers}
use Rattle.raft_calls.specs.declared.message.Message.{Message}

-- the numbers of the messages to a node, ascending: the first message of the list has the number k
abbrev pub numbers_from : ℕ → ℕ → List Message → List ℕ
numbers_from k id [] = []
numbers_from k id (m ∷ ms) = if nat_eq m.to id then k ∷ numbers_from (k + 1) id ms else numbers_from (k + 1) id ms

-- messages are counted from 1, in the order of sending
abbrev pub numbers_to : ℕ → List Message → List ℕ
numbers_to id ms = numbers_from 1 id ms

-- the numbers kept for a node; where none are, there are none
abbrev pub inbox_of : List (ℕ × List ℕ) → ℕ → List ℕ
inbox_of inboxes id = unwrap_or (lookup (is_at (nat_cmp id)) inboxes) []

-- for each node the numbers of the messages to it are kept
pub record IsIndexed (ms : List Message) (inboxes : List (ℕ × List ℕ)) : Type 0 where
  pub each : (id : ℕ) → inbox_of inboxes id ≡ numbers_to id ms

-- one node has these numbers more, and all others have theirs as before
abbrev pub AddsNumbers : ℕ → List ℕ → List (ℕ × List ℕ) → List (ℕ × List ℕ) → Type 0
AddsNumbers id more old new = (other : ℕ) → inbox_of new other ≡ (if is_at (nat_cmp id) other then inbox_of old other ++ more else inbox_of old other)

-- the numbers that an iterator hasn't given yet
abbrev pub numbers_left : MessageNumbers → List ℕ
numbers_left walk = iter_rest walk.inner
