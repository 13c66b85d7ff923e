-- Requests on their way to the server, and the questions that wait for its replies.
use Rattle.std.specs.Prelude.{ℕ, ◌≡◌, ◌&&◌, Bool, true, false, nat_eq, nat_le, List, [], ◌∷◌, ◌++◌, Option, Some, None, if◌then◌else◌}
use Rattle.std.specs.BTreeMap.{BTreeMap, get}
use Rattle.std.specs.BTreeSet.{BTreeSet, Updates, contains}
use Rattle.std.specs.BTreeSet as set
use Rattle.std.specs.List.{repeat}
use Rattle.std.specs.Ordering.{nat_cmp}
use Rattle.raft_answers.specs.declared.limits.Refusal.TheVariants as refusal
use Rattle.raft_answers.specs.declared.request.Operation.{Operation}
use Rattle.raft_answers.specs.declared.request.Token.{Token}
use Rattle.raft_connection.specs.declared.answer.Answer.{Answer}
use Rattle.raft_connection.specs.declared.answer.Answer.TheVariants.{Replies, Moved, NoLeader, Busy}
use Rattle.raft_connection.specs.declared.connection.Asked.{Asked}
use Rattle.raft_core.specs.Calls.{Admits, AdmitsRead}
use Rattle.raft_core.specs.declared.error.RequestError.{RequestError}
use Rattle.raft_core.specs.declared.error.RequestError.TheVariants as error
use Rattle.raft_machine.specs.declared.command.Failure.TheVariants.{TooLong}
use Rattle.raft_machine.specs.declared.command.Reply.TheVariants.{Failed}
use Rattle.raft_service.specs.declared.intake.Intake.{Intake}
use Rattle.raft_service.specs.declared.plan.Plan.{Plan}
use Rattle.raft_service.specs.declared.plan.Way.{Way}
use Rattle.raft_service.specs.declared.plan.Way.TheVariants.{Entry, Round}
use Rattle.raft_service.specs.declared.question.Question.{Question}
use Rattle.raft_service.specs.declared.settings.Address.{Address}
use Rattle.raft_service.specs.Core.{Core}
use Rattle.raft_service.specs.Plans.{count_of, planned}

abbrev pub Addresses : Type 0
Addresses = BTreeMap ℕ Address

-- no question waits
pub record Begins (core : Core) (addresses : Addresses) (new : Intake) : Type 0 where
  pub server : new.core ≡ core
  pub places : new.addresses ≡ addresses
  pub waiting : new.waiting.items ≡ []
  pub reading : new.reading.items ≡ []
  pub readers : set.IsEmpty new.readers
  pub reached : new.reached ≡ 0
  pub told : new.told ≡ 0

-- a query of a client is asked by a round, and has no answer yet
abbrev pub is_reading : Intake → ℕ → Bool
is_reading s client = contains nat_cmp s.readers client

-- ---- requests that the server doesn't take

abbrev pub moved_to : Option Address → Answer
moved_to None = NoLeader
moved_to (Some address) = Moved address.host address.port

-- another server leads, or none is known to, or nobody knows where
abbrev pub not_leader : Addresses → Option ℕ → Answer
not_leader addresses None = NoLeader
not_leader addresses (Some leader) = moved_to (get nat_cmp addresses leader)

-- each of so many commands is answered that it is too long
abbrev pub too_large : ℕ → Answer
too_large count = Replies (repeat count (Failed TooLong ∷ []))

abbrev pub refused : Addresses → ℕ → RequestError → Answer
refused addresses count (error.NotLeader leader) = not_leader addresses leader
refused addresses count (error.Refused refusal.TooLarge) = too_large count
refused addresses count (error.Refused refusal.Busy) = Busy
refused addresses count (error.Refused refusal.OutOfMemory) = Busy

-- ---- requests that it takes

-- A query may be asked by a round if it is its client's only request, since it may overtake others and be overtaken, and if the state machine has
-- reached the time, by which keys expire.
abbrev pub goes_by_round : Intake → Bool → Bool
goes_by_round s is_alone = is_alone && nat_le s.time s.reached

abbrev pub plan_for : Intake → Asked → Bool → Plan
plan_for s asked is_alone = planned s.time s.told (goes_by_round s is_alone) asked.work

abbrev pub question_of : Intake → ℕ → Asked → Bool → Question
question_of s client asked is_alone =
    record { token = record { 0 = s.next }; client = client; number = asked.number; wanted = (plan_for s asked is_alone).wanted }

-- the server admits what a request puts into the log, and a question waits behind the others for it
pub record EntersLog (operation : Operation) (q : Question) (old new : Intake) : Type 0 where
  pub admits : Admits q.token operation old.core new.core
  pub waits : new.waiting.items ≡ old.waiting.items ++ q ∷ []
  pub rest : new ≡ record old { core = new.core; waiting = new.waiting }

-- the server admits a read, and a question waits behind those that are asked by a round
pub record AsksRound (q : Question) (old new : Intake) : Type 0 where
  pub admits : AdmitsRead q.token old.core new.core
  pub waits : new.reading.items ≡ old.reading.items ++ q ∷ []
  pub reads : Updates nat_cmp old.readers new.readers q.client true
  pub rest : new ≡ record old { core = new.core; reading = new.reading; readers = new.readers }

abbrev pub AdmitsBy : Way → Question → Intake → Intake → Type 0
AdmitsBy (Entry operation) q old new = EntersLog operation q old new
AdmitsBy Round q old new = AsksRound q old new

-- The server takes a request on its way.
pub record Admitted (client : ℕ) (asked : Asked) (is_alone : Bool) (old new : Intake) : Type 0 where
  pub middle : Intake
  pub goes : AdmitsBy (plan_for old asked is_alone).way (question_of old client asked is_alone) old middle
  pub rest : new ≡ record middle { next = new.next; told = (plan_for old asked is_alone).told }

-- or nothing is done, and the request has this answer
pub record Refused (asked : Asked) (old new : Intake) (answer : Answer) : Type 0 where
  pub error : RequestError
  pub tells : answer ≡ refused old.addresses (count_of asked.work) error
  pub same : new ≡ old

abbrev pub Asks : ℕ → Asked → Bool → Intake → Intake → Option Answer → Type 0
Asks client asked is_alone old new None = Admitted client asked is_alone old new
Asks client asked is_alone old new (Some answer) = Refused asked old new answer

-- ---- replies

abbrev pub with_token : Token → Question → Option Question
with_token token q = if nat_eq q.token.0 token.0 then Some q else None

-- the first question goes, and is taken if its token is this one
abbrev pub TakesFirstOf : List Question → Token → List Question → Option Question → Type 0
TakesFirstOf [] token left taken = (taken ≡ None) × (left ≡ [])
TakesFirstOf (q ∷ qs) token left taken = (taken ≡ with_token token q) × (left ≡ qs)

-- of those that go through the log
pub record TakesFirst (token : Token) (old new : Intake) (taken : Option Question) : Type 0 where
  pub first : TakesFirstOf old.waiting.items token new.waiting.items taken
  pub rest : new ≡ record old { waiting = new.waiting }

-- its client isn't reading any more
abbrev pub FreesFirst : List Question → BTreeSet ℕ → BTreeSet ℕ → Type 0
FreesFirst [] old new = new ≡ old
FreesFirst (q ∷ qs) old new = Updates nat_cmp old new q.client false

-- of those that are asked by a round
pub record TakesRead (token : Token) (old new : Intake) (taken : Option Question) : Type 0 where
  pub first : TakesFirstOf old.reading.items token new.reading.items taken
  pub frees : FreesFirst old.reading.items old.readers new.readers
  pub rest : new ≡ record old { reading = new.reading; readers = new.readers }
