-- What is promised of a service.
use Rattle.std.specs.Prelude.{ℕ, ◌≡◌, ◌+◌, ◌≤◌, Bool, true, false, nat_eq, List, [], ◌∷◌, ◌++◌, map, Some, None, if◌then◌else◌}
use Rattle.std.specs.List.{fold}
use Rattle.raft_answers.specs.Requests.{tokens_of}
use Rattle.raft_answers.specs.declared.request.Token.{Token}
use Rattle.raft_clients.specs.Clients.{connection_at}
use Rattle.raft_clients.specs.declared.clients.Clients.{Clients}
use Rattle.raft_connection.specs.Pending.{waiting_count}
use Rattle.raft_connection.specs.declared.connection.Connection.{Connection}
use Rattle.raft_core.specs.Calls.{Receives, Releases, Ticks, Writes}
use Rattle.raft_core.specs.Laws.{ClientsAreAnsweredOnce, ReadsAreAnsweredOnce}
use Rattle.raft_core.specs.raft_reads.Reads.{read_tokens}
use Rattle.raft_core.specs.raft_peers.declared.output.Output.TheVariants as core
use Rattle.raft_executor.specs.Executor.{executed_of}
use Rattle.raft_executor.specs.KeyValue.{application}
use Rattle.raft_machine.specs.Bytes.{state}
use Rattle.raft_machine.specs.Machine.{State}
use Rattle.raft_executor.specs.proof_packed_stores.Stores.{packed}
use Rattle.raft_store.specs.declared.entry.Entry.{Entry}
use Rattle.raft_service.specs.Calls.{Calls, Feeds, Joins, Leaves, Opens}
use Rattle.raft_service.specs.Core.{CoreOutput}
use Rattle.raft_service.specs.Delivering.{DeliversAll}
use Rattle.raft_service.specs.Intake.{is_reading}
use Rattle.raft_service.specs.declared.intake.Intake.{Intake}
use Rattle.raft_service.specs.declared.output.Output.{Output}
use Rattle.raft_service.specs.declared.question.Question.{Question}
use Rattle.raft_service.specs.declared.service.OpenedService.{OpenedService}
use Rattle.raft_service.specs.declared.service.Service.{Service}
use Rattle.raft_service.specs.declared.settings.Settings.{Settings}

-- ---- the state machine

-- what executing entries makes of a state
abbrev pub state_after : State → List Entry → State
state_after st es = fold application.apply st es

-- what an output of the server makes of it: an entry is executed, and a snapshot's state is put in place
abbrev pub moved : State → CoreOutput → State
moved st (core.Send to bytes) = st
moved st (core.Append bytes end next) = st
moved st (core.Install snapshot) = snapshot.state
moved st (core.Execute entry) = state_after st (entry ∷ [])
moved st (core.Reply reply) = st
moved st (core.Read reply) = st

abbrev pub state_of : Service → State
state_of s = (executed_of s.executor).state

-- What an output makes of the entries that were executed, from the first one on: one more is, or those of a snapshot are in their place.
abbrev pub GoesOn : CoreOutput → List Entry → List Entry → Type 0
GoesOn (core.Send to bytes) es fs = fs ≡ es
GoesOn (core.Append bytes end next) es fs = fs ≡ es
GoesOn (core.Install snapshot) es fs = snapshot ≡ packed application fs
GoesOn (core.Execute entry) es fs = fs ≡ es ++ entry ∷ []
GoesOn (core.Reply reply) es fs = fs ≡ es
GoesOn (core.Read reply) es fs = fs ≡ es

abbrev pub GoOn : List CoreOutput → List Entry → List Entry → Type 0
GoOn [] es fs = fs ≡ es
GoOn (o ∷ os) es fs = (between : List Entry) × GoesOn o es between × GoOn os between fs

-- the state machine is what executing these entries, from the first one on, makes of an empty one
abbrev pub HasExecuted : List Entry → Service → Type 0
HasExecuted es s = state_of s ≡ state_after application.first es

-- The state machine is what executing the server's entries, in their order, makes of it, and nothing else changes it. A snapshot stands for entries
-- from the first one on: then it is as if these were executed. So it is with the one of the log on which the service was opened.
pub record MachineIsWhatIsExecuted : Type 0 where
  pub opens : (settings : Settings) (log : List ℕ) (opened : OpenedService) (o : Opens settings log opened) (es : List Entry)
      → o.server.applied ≡ packed application es → HasExecuted es opened.service
  pub moves : (out : List CoreOutput) (old new : Service) (before after : List Output) → DeliversAll out old before new after
      → state_of new ≡ fold moved (state_of old) out
  pub executes : (out : List CoreOutput) (old new : Service) (before after : List Output) (es fs : List Entry) → DeliversAll out old before new after
      → GoOn out es fs → HasExecuted es old → HasExecuted fs new

-- ---- questions

abbrev pub tokens_in : List Question → List Token
tokens_in qs = map (λ q. q.token) qs

-- a question waits for each request of the server that has no answer, in their order, and one for each of its reads
pub record IsAligned (s : Intake) : Type 0 where
  pub requests : tokens_in s.waiting.items ≡ tokens_of s.core.requests
  pub reads : tokens_in s.reading.items ≡ read_tokens s.core.reads

-- a call keeps it
abbrev pub KeepsAligned : Service → Service → Type 0
KeepsAligned old new = ClientsAreAnsweredOnce application state → ReadsAreAnsweredOnce application state → IsAligned old.intake → IsAligned new.intake

-- So it is from the opening on, since each call of the server answers the first of its requests, and of its reads. So each reply is a question's, and
-- each question is answered once at most.
pub record QuestionsWaitForReplies : Type 0 where
  pub opens : (settings : Settings) (log : List ℕ) (opened : OpenedService) → Opens settings log opened → IsAligned opened.service.intake
  pub ticks : (old new : Service) (outputs : List Output) → Calls (Ticks application) old new outputs → KeepsAligned old new
  pub receives : (bytes : List ℕ) (old new : Service) (outputs : List Output) → Calls (Receives application state bytes) old new outputs
      → KeepsAligned old new
  pub writes : (old new : Service) (outputs : List Output) → Calls (Writes application state) old new outputs → KeepsAligned old new
  pub releases : (position : ℕ) (old new : Service) (outputs : List Output) → Calls (Releases application state position) old new outputs
      → KeepsAligned old new
  pub feeds : (client : ℕ) (bytes : List ℕ) (old new : Service) (count : ℕ) (outputs : List Output) → Feeds client bytes old new count outputs
      → KeepsAligned old new

-- ---- a client's order

-- how many of these questions are a client's
abbrev pub count_of_client : ℕ → List Question → ℕ
count_of_client client [] = 0
count_of_client client (q ∷ qs) = (if nat_eq q.client client then 1 else 0) + count_of_client client qs

-- how many requests of a client are on their way through the log, how many by a round, and how many are on their way
abbrev pub logged : Intake → ℕ → ℕ
logged s client = count_of_client client s.waiting.items

abbrev pub read : Intake → ℕ → ℕ
read s client = count_of_client client s.reading.items

abbrev pub under_way : Intake → ℕ → ℕ
under_way s client = logged s client + read s client

-- a client's only request that is on its way is a query that is asked by a round
pub record ReadsAlone (s : Intake) (client : ℕ) : Type 0 where
  pub one_read : read s client ≡ 1
  pub none_logged : logged s client ≡ 0

abbrev pub ReadsIf : Bool → Intake → ℕ → Type 0
ReadsIf true s client = ReadsAlone s client
ReadsIf false s client = read s client ≡ 0

-- What is asked by a round may overtake requests in the log, and be overtaken: but none of its own client, which has no other on its way. That stays
-- so, since a client's connection waits for each of these, and a client to come has none.
pub record IsInOrder (clients : Clients) (s : Intake) : Type 0 where
  pub order : (client : ℕ) → ReadsIf (is_reading s client) s client
  pub waits : (client : ℕ) (c : Connection) → connection_at clients client ≡ Some c → under_way s client ≤ waiting_count c.pending.slots
  pub comes : (client : ℕ) → clients.next ≤ client → (connection_at clients client ≡ None) × (under_way s client ≡ 0)

-- a call keeps it
abbrev pub KeepsOrder : Service → Service → Type 0
KeepsOrder old new = IsInOrder old.clients old.intake → IsInOrder new.clients new.intake

-- A client's requests keep their order: so it is from the opening on.
pub record RequestsKeepTheirOrder : Type 0 where
  pub opens : (settings : Settings) (log : List ℕ) (opened : OpenedService) → Opens settings log opened
      → IsInOrder opened.service.clients opened.service.intake
  pub ticks : (old new : Service) (outputs : List Output) → Calls (Ticks application) old new outputs → KeepsOrder old new
  pub receives : (bytes : List ℕ) (old new : Service) (outputs : List Output) → Calls (Receives application state bytes) old new outputs
      → KeepsOrder old new
  pub writes : (old new : Service) (outputs : List Output) → Calls (Writes application state) old new outputs → KeepsOrder old new
  pub releases : (position : ℕ) (old new : Service) (outputs : List Output) → Calls (Releases application state position) old new outputs
      → KeepsOrder old new
  pub feeds : (client : ℕ) (bytes : List ℕ) (old new : Service) (count : ℕ) (outputs : List Output) → Feeds client bytes old new count outputs
      → KeepsOrder old new
  pub joins : (client : ℕ) (old new : Service) → Joins client old new → KeepsOrder old new
  pub leaves : (client : ℕ) (old new : Service) → Leaves client old new → KeepsOrder old new
