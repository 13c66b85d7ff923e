-- What is promised of connections.
use Rattle.std.specs.Prelude.{◌≡◌, ◌≢◌, ℕ, ◌+◌, ◌-◌, ◌<◌, ◌≤◌, ◌^◌, false, length, List, [], ◌∷◌, ◌++◌, slice_set, Some, Ok, Err, if◌then◌else◌}
use Rattle.std.specs.List.{slice_get}
use Rattle.raft_connection.specs.declared.answer.Answer.{Answer}
use Rattle.raft_connection.specs.declared.answer.AnswerError.TheVariants.{NotWaiting}
use Rattle.raft_connection.specs.declared.connection.Connection.{Connection}
use Rattle.raft_connection.specs.declared.connection.Step.{Step}
use Rattle.raft_connection.specs.declared.connection.Step.TheVariants.{Waits, Answered, Asks}
use Rattle.raft_connection.specs.declared.limits.Settings.{Settings}
use Rattle.raft_connection.specs.declared.pending.Slot.{Slot}
use Rattle.raft_connection.specs.declared.pending.Slot.TheVariants as slot
use Rattle.raft_connection.specs.declared.pending.Waiting.{Waiting}
use Rattle.raft_connection.specs.declared.session.Work.{Work}
use Rattle.raft_connection.specs.Connection.{with_more, step, asked, waiting_for, answered, taken}
use Rattle.raft_connection.specs.Pending.{number_of, waiting_at, ready_bytes}

-- more bytes come, unless the connection reads none any more
abbrev pub more_to : Connection → List ℕ → Connection
more_to c more = if c.session.is_closing then c else with_more c more

-- What comes of what is received doesn't depend on the pieces in which it comes: a step that reads a request comes to the same if
-- more bytes are there already.
abbrev pub StepsTakePieces : Type 0
StepsTakePieces =
    (settings : Settings) (now : ℕ) (c : Connection) (more : List ℕ) → (step settings now c).1 ≢ Waits
    → step settings now (with_more c more) ≡ (more_to (step settings now c).0 more, (step settings now c).1)

-- the state machine isn't asked
abbrev pub IsOwn : Step → Type 0
IsOwn Waits = Unit {0}
IsOwn Answered = Unit {0}
IsOwn (Asks a) = ⊥

-- nothing is handed out before a client has authenticated itself
abbrev pub NothingIsHandedOutBefore : Type 0
NothingIsHandedOutBefore = (settings : Settings) (now : ℕ) (c : Connection) → c.session.is_authenticated ≡ false → IsOwn (step settings now c).1

-- a request that is handed out waits for its answer, by its number
abbrev pub HandedOutWaits : Type 0
HandedOutWaits =
    (c : Connection) (w : Work) → c.pending.first < 2 ^ 64 → length c.pending.slots < 2 ^ 64
    → waiting_at (asked c w).0.pending (number_of c.pending (length c.pending.slots)) ≡ Some (waiting_for c w)

-- a request is answered once
abbrev pub AnsweredOnce : Type 0
AnsweredOnce = (c : Connection) (number : ℕ) (answer other : Answer) (after : Connection) → answered c number answer ≡ Ok after → answered after number other ≡ Err NotWaiting

-- also once answers were taken, until numbers go round
abbrev pub StaysAnswered : Type 0
StaysAnswered =
    (c : Connection) (number : ℕ) (answer other : Answer) (after : Connection) → answered c number answer ≡ Ok after
    → after.pending.first < 2 ^ 64 → number < 2 ^ 64 → length after.pending.slots ≤ 2 ^ 63
    → answered (taken after) number other ≡ Err NotWaiting

-- how many answers stand before the first request that waits, and what stands from there on
abbrev pub ready_count : List Slot → ℕ
ready_count [] = 0
ready_count (slot.Waits w ∷ slots) = 0
ready_count (slot.Ready bytes ∷ slots) = 1 + ready_count slots

abbrev pub unready : List Slot → List Slot
unready [] = []
unready (slot.Waits w ∷ slots) = slot.Waits w ∷ slots
unready (slot.Ready bytes ∷ slots) = unready slots

-- Replies leave in the order of requests, whenever they are taken: an answer that comes after bytes were taken goes behind these, where
-- it would stand had they not been taken.
abbrev pub RepliesLeaveInOrder : Type 0
RepliesLeaveInOrder =
    (slots : List Slot) (place : ℕ) (w : Waiting) (bytes : List ℕ) → slice_get slots place ≡ Some (slot.Waits w)
    → ready_bytes (slice_set slots place (slot.Ready bytes)) ≡ ready_bytes slots ++ ready_bytes (slice_set (unready slots) (place - ready_count slots) (slot.Ready bytes))
