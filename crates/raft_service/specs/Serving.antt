-- Clients are served: their requests are read, and their answers are sent.
use Rattle.std.specs.Prelude.{ℕ, zero, suc, ◌≡◌, ◌⊎◌, Bool, true, false, List, [], ◌∷◌, ◌++◌}
use Rattle.raft_clients.specs.Clients.{Answers, Disconnects, Sends, Through, is_alone_at, is_closing_at, output_at}
use Rattle.raft_clients.specs.declared.clients.Clients.{Clients}
use Rattle.raft_connection.specs.Connection.{step}
use Rattle.raft_connection.specs.declared.answer.Answer.{Answer}
use Rattle.raft_connection.specs.declared.connection.Asked.{Asked}
use Rattle.raft_connection.specs.declared.connection.Step.{Step}
use Rattle.raft_connection.specs.declared.connection.Step.TheVariants as step_is
use Rattle.raft_service.specs.Intake.{Admitted, Refused, is_reading}
use Rattle.raft_service.specs.declared.intake.Intake.{Intake}
use Rattle.raft_service.specs.declared.output.Output.{Output}
use Rattle.raft_service.specs.declared.output.Output.TheVariants as outputs

-- the clients, the requests on their way to the server, and what a client is sent
pub record Front : Type 0 where
  pub clients : Clients
  pub intake : Intake
  pub sent : List ℕ

abbrev pub front : Clients → Intake → List ℕ → Front
front clients intake sent = record { clients = clients; intake = intake; sent = sent }

-- what a client's connection handed out is admitted, or answered at once
abbrev pub AsksOrAnswers : ℕ → Asked → Clients → Intake → Clients → Intake → Type 0
AsksOrAnswers client asked clients intake clients' intake' =
    ((clients' ≡ clients) × Admitted client asked (is_alone_at clients client) intake intake')
    ⊎ ((answer : Answer) × Refused asked intake intake' answer × Answers client asked.number answer clients clients')

-- what a step of a client's connection came to is done
abbrev pub Does : ℕ → Step → Clients → Front → Front → Type 0
Does client step_is.Answered clients old new = new ≡ record old { clients = clients }
Does client (step_is.Asks asked) clients old new = AsksOrAnswers client asked clients old.intake new.clients new.intake × (new.sent ≡ old.sent)
Does client step_is.Waits clients old new = Sends client clients new.clients × (new.intake ≡ old.intake) × (new.sent ≡ old.sent ++ output_at clients client)

-- A client's connection takes a step at this time. It waits while a query of the client is asked by a round: no request overtakes that.
abbrev pub StepsIf : Bool → ℕ → ℕ → Clients → Clients → Step → Type 0
StepsIf true client now old new came = (came ≡ step_is.Waits) × (new ≡ old)
StepsIf false client now old new came = Through client (step old.settings now) step_is.Waits old new came

abbrev pub Steps : ℕ → Intake → Clients → Clients → Step → Type 0
Steps client intake old new came = StepsIf (is_reading intake client) client intake.time old new came

-- what it comes to is done
pub record Round (client : ℕ) (old new : Front) : Type 0 where
  pub came : Step
  pub stepped : Clients
  pub steps : Steps client old.intake old.clients stepped came
  pub does : Does client came stepped old new

-- so many times
abbrev pub Rounds : ℕ → ℕ → Front → Front → Type 0
Rounds client zero old new = new ≡ old
Rounds client (suc n) old new = (middle : Front) × Rounds client n old middle × Round client middle new

-- ---- outputs

-- bytes for a client, if there are some
abbrev pub to_client : ℕ → List ℕ → List Output
to_client client [] = []
to_client client (b ∷ bs) = outputs.ToClient client (b ∷ bs) ∷ []

-- a client whose connection is to be closed is disconnected
abbrev pub ClosesIf : Bool → ℕ → Clients → Clients → List Output → Type 0
ClosesIf false client old new out = (new ≡ old) × (out ≡ [])
ClosesIf true client old new out = Disconnects client old new × (out ≡ outputs.Close client ∷ [])

abbrev pub Closes : ℕ → Clients → Clients → List Output → Type 0
Closes client old new out = ClosesIf (is_closing_at old client) client old new out

-- A client's requests are read, in rounds, and it is sent what there is for it.
pub record Serves (client : ℕ) (old : Clients) (intake : Intake) (before : List Output) (new : Clients) (intake' : Intake) (after : List Output) : Type 0 where
  pub count : ℕ
  pub served : Clients
  pub sent : List ℕ
  pub closing : List Output
  pub rounds : Rounds client count (front old intake []) (front served intake' sent)
  pub closes : Closes client served new closing
  pub leaves : after ≡ before ++ (to_client client sent ++ closing)

-- clients, one after another
abbrev pub ServesAll : List ℕ → Clients → Intake → List Output → Clients → Intake → List Output → Type 0
ServesAll [] old intake before new intake' after = (new ≡ old) × (intake' ≡ intake) × (after ≡ before)
ServesAll (client ∷ more) old intake before new intake' after =
    (middle : Clients) × (between : Intake) × (out : List Output) × Serves client old intake before middle between out × ServesAll more middle between out new intake' after
