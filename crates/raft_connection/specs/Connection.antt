-- A connection: what was received, what is known of its client, and the requests that wait.
use Rattle.std.specs.Prelude.{◌≡◌, ℕ, ◌-◌, min, nat_le, ◌||◌, ◌&&◌, ◌==◌, Bool, true, is_none, length, take, List, [], ◌∷◌, ◌++◌, Option, Some, None, Result, Ok, Err, if◌then◌else◌}
use Rattle.raft_resp.specs.Requests.{Found, request_at}
use Rattle.raft_resp.specs.declared.error.Fault.{Fault}
use Rattle.raft_resp.specs.declared.error.Stop.TheVariants as stop
use Rattle.raft_connection.specs.declared.answer.Answer.{Answer}
use Rattle.raft_connection.specs.declared.answer.AnswerError.{AnswerError}
use Rattle.raft_connection.specs.declared.answer.AnswerError.TheVariants as answer_error
use Rattle.raft_connection.specs.declared.connection.Connection.{Connection}
use Rattle.raft_connection.specs.declared.connection.Step.{Step}
use Rattle.raft_connection.specs.declared.connection.Step.TheVariants.{Waits, Answered, Asks}
use Rattle.raft_connection.specs.declared.limits.Limits.{Limits}
use Rattle.raft_connection.specs.declared.limits.Settings.{Settings}
use Rattle.raft_connection.specs.declared.pending.Replies.{Replies}
use Rattle.raft_connection.specs.declared.pending.Replies.TheVariants as replies
use Rattle.raft_connection.specs.declared.pending.Slot.TheVariants as slot
use Rattle.raft_connection.specs.declared.pending.Waiting.{Waiting}
use Rattle.raft_connection.specs.declared.refusal.Refusal.TheVariants as refusal
use Rattle.raft_connection.specs.declared.response.Response.{Response}
use Rattle.raft_connection.specs.declared.response.Response.TheVariants.{Refused}
use Rattle.raft_connection.specs.declared.session.Outcome.{Outcome}
use Rattle.raft_connection.specs.declared.session.Outcome.TheVariants as came_to
use Rattle.raft_connection.specs.declared.session.Session.{Session}
use Rattle.raft_connection.specs.declared.session.Work.{Work}
use Rattle.raft_connection.specs.declared.session.Work.TheVariants as work
use Rattle.raft_connection.specs.Answers.{answer_bytes}
use Rattle.raft_connection.specs.Keys.{work_slot}
use Rattle.raft_connection.specs.Pending.{number_of, with_slot, waiting_at, filled, ready_bytes, ready_total, from_waiting}
use Rattle.raft_connection.specs.Responses.{response_bytes}
use Rattle.raft_connection.specs.Run.{outcome}
use Rattle.raft_connection.specs.Session.{started}
use Rattle.raft_connection.specs.Words.{Word}

abbrev pub opened : Settings → ℕ → Connection
opened settings id = record { received = []; session = started id (is_none settings.secret); pending = record { first = 0; slots = [] } }

-- ---- what is received

-- for how many bytes there is room
abbrev pub room : Limits → Connection → ℕ
room limits c = if c.session.is_closing then 0 else limits.received - length c.received

abbrev pub with_more : Connection → List ℕ → Connection
with_more c more = record c { received = c.received ++ more }

abbrev pub receive : Limits → Connection → List ℕ → Connection × ℕ
receive limits c bytes =
    let n = min (length bytes) (room limits c) in
    (with_more c (take n bytes), n)

-- ---- a step

-- no request is read now: too many wait, or answers of too many bytes
abbrev pub is_waiting : Limits → Connection → Bool
is_waiting limits c = c.session.is_closing || (nat_le limits.requests (length c.pending.slots) || nat_le limits.received (ready_total c.pending.slots))

-- nor from now on
abbrev pub closed : Connection → Connection
closed c = record c { session = record c.session { is_closing = true }; received = [] }

-- the connection answers itself
abbrev pub responded : Connection → Response → Connection
responded c response = record c { pending = with_slot c.pending (slot.Ready (response_bytes c.session.protocol response)) }

abbrev pub malformed : Connection → Fault → Connection × Step
malformed c fault = (responded (closed c) (Refused (refusal.Protocol fault)), Answered)

-- more bytes have to come, unless as many are there as may be
abbrev pub unfinished : Limits → Connection → Connection × Step
unfinished limits c = (if nat_le limits.received (length c.received) then closed c else c, Waits)

-- how many replies are asked for
abbrev pub replies_of : Work → Replies
replies_of (work.Query q) = replies.One
replies_of (work.Command session c) = replies.One
replies_of (work.Transaction session cs) = replies.Array (length cs)

abbrev pub waiting_for : Connection → Work → Waiting
waiting_for c w = record { protocol = c.session.protocol; replies = replies_of w; slot = work_slot w }

-- the state machine is asked
abbrev pub asked : Connection → Work → Connection × Step
asked c w = (record c { pending = with_slot c.pending (slot.Waits (waiting_for c w)) }, Asks (record { number = number_of c.pending (length c.pending.slots); work = w }))

abbrev pub finished : Connection → Outcome → Connection × Step
finished c (came_to.Answers response) = (responded c response, Answered)
finished c (came_to.Asks w) = asked c w

abbrev pub with_session : Connection → Session → Connection
with_session c s = record c { session = s }

-- once no request is read any more, what was received is forgotten
abbrev pub forgetful : Connection → Connection
forgetful c = if c.session.is_closing then record c { received = [] } else c

abbrev pub came : Connection → Session × Outcome → Connection × Step
came c r = finished (forgetful (with_session c r.0)) r.1

-- a request of no words is answered by nothing
abbrev pub run : Settings → ℕ → Connection → List Word → Connection × Step
run settings now c [] = (c, Answered)
run settings now c (name ∷ args) = came c (outcome settings c.session now name args)

abbrev pub found : Settings → ℕ → Connection → Found (List Word) → Connection × Step
found settings now c (Ok request) = run settings now (record c { received = request.1 }) request.0
found settings now c (Err stop.Unfinished) = unfinished settings.limits c
found settings now c (Err (stop.Malformed fault)) = malformed c fault
found settings now c (Err stop.OutOfMemory) = (c, Waits)

-- what stands at the front is read, unless too many requests wait
unfoldable pub step : Settings → ℕ → Connection → Connection × Step
step settings now c = if is_waiting settings.limits c then (c, Waits) else found settings now c (request_at settings.limits.request c.received)

-- ---- answers

abbrev pub fill : Connection → ℕ → Result (List ℕ) AnswerError → Result Connection AnswerError
fill c number (Ok bytes) = Ok (record c { pending = filled c.pending number bytes })
fill c number (Err e) = Err e

abbrev pub answered_as : Connection → ℕ → Answer → Option Waiting → Result Connection AnswerError
answered_as c number answer None = Err answer_error.NotWaiting
answered_as c number answer (Some w) = fill c number (answer_bytes w answer)

-- the request of a number is answered, if it waits
abbrev pub answered : Connection → ℕ → Answer → Result Connection AnswerError
answered c number answer = answered_as c number answer (waiting_at c.pending number)

-- a call takes an answer as defined; what it refuses changes nothing
abbrev pub Takes : Connection → Connection → Result (Unit {0}) AnswerError → Result Connection AnswerError → Type 0
Takes before after (Ok _) defined = defined ≡ Ok after
Takes before after (Err answer_error.OutOfMemory) defined = after ≡ before
Takes before after (Err answer_error.NotWaiting) defined = (defined ≡ Err answer_error.NotWaiting) × (after ≡ before)
Takes before after (Err answer_error.WrongNumberOfReplies) defined = (defined ≡ Err answer_error.WrongNumberOfReplies) × (after ≡ before)

-- ---- what leaves

-- the answers before the first request that waits
abbrev pub output : Connection → List ℕ
output c = ready_bytes c.pending.slots

abbrev pub taken : Connection → Connection
taken c = record c { pending = from_waiting c.pending.first c.pending.slots }

-- exactly one of its requests has no answer that left, and no bytes wait to be read
abbrev pub is_alone : Connection → Bool
is_alone c = (length c.pending.slots == 1) && (length c.received == 0)

abbrev pub is_closing : Connection → Bool
is_closing c = c.session.is_closing && (length c.pending.slots == 0)
