-- What a call of a host does.
use Rattle.std.specs.Prelude.{ℕ, ◌≡◌, ◌⊎◌, ◌-◌, drop, min, take, length, List, [], ◌∷◌, ◌++◌, Option, Some, None}
use Rattle.raft_service.specs.raft_core.Calls.{Moves, Receives, Releases, Ticks, Writes}
use Rattle.raft_executor.specs.KeyValue.{application}
use Rattle.raft_machine.specs.Bytes.{state}
use Rattle.raft_node.specs.declared.act.Act.TheVariants as act
use Rattle.raft_service.specs.raft_packed_server.declared.batch.NewLog.{NewLog}
use Rattle.raft_service.specs.Calls.{BeginsLog, Calls, Feeds, GivesUp, Joins, Leaves, Opens, TakesOver, at_time, with_core}
use Rattle.raft_service.specs.declared.output.Output as service_output
use Rattle.raft_service.specs.declared.service.OpenedService.{OpenedService}
use Rattle.raft_service.specs.declared.service.Service.{Service}
use Rattle.raft_service.specs.declared.settings.Settings as service_settings
use Rattle.service_host.specs.declared.frames.OutputKind.TheVariants as kind
use Rattle.service_host.specs.declared.host.Host.{Host}
use Rattle.service_host.specs.declared.host.Running.{Running}
use Rattle.service_host.specs.declared.pieces.TheConstants.{MOST}
use Rattle.service_host.specs.declared.inputs.Input.{Input}
use Rattle.service_host.specs.declared.inputs.Input.TheVariants.{BeginLog, Idle, LogPiece, Settings, Open, Peer, Tick, Connect, Client}
use Rattle.service_host.specs.declared.inputs.Input.TheVariants.{Disconnect, Write, Flushed, Initialize, Members, Status, TakeOver, GiveUpLog}
use Rattle.service_host.specs.Frames.{framed, frames, piece_of}
use Rattle.service_host.specs.Inputs.{IsInput}
use Rattle.service_host.specs.Pieces.{Left, all_of, behind_piece, none_left}

-- a call of the service that puts outputs out, as bytes
abbrev pub Puts : (Service → Service → List service_output.Output → Type 0) → Service → Service → List ℕ → Type 0
Puts R old new out = (given : List service_output.Output) × R old new given × (out ≡ frames given)

-- the bytes of a client: how many were taken, and what came of them
pub record Feeding (client : ℕ) (bytes : List ℕ) (old new : Service) (out : List ℕ) : Type 0 where
  pub count : ℕ
  pub given : List service_output.Output
  pub feeds : Feeds client bytes old new count given
  pub tells : out ≡ framed kind.Taken count [] ++ frames given

-- the service is given the first entry
pub record Begun (old new : Service) (out : List ℕ) : Type 0 where
  pub moves : Moves application (act.Initialize ∷ []) old.intake.core new.intake.core
  pub rest : new ≡ with_core old new.intake.core
  pub quiet : out ≡ []

-- where a new log ends, if one is begun; and what is left of the bytes of one: all of the new one's
abbrev pub new_log : Option NewLog → List ℕ
new_log None = []
new_log (Some log) = framed kind.NewLog log.end []

abbrev pub begun_with : Option NewLog → Left → Left
begun_with None left = left
begun_with (Some log) left = all_of log

-- where it ends, if it takes the old one's place; and what is left of its bytes: none
abbrev pub taken_over : Option ℕ → List ℕ
taken_over None = []
taken_over (Some end) = framed kind.TakenOver end []

abbrev pub taken_from : Option ℕ → Left → Left
taken_from None left = left
taken_from (Some end) left = none_left

-- what an input does at a service that is open, if no new log's bytes are concerned
abbrev pub Serves : Input → Service → Service → List ℕ → Type 0
Serves (Peer frame) old new out = Puts (Calls (Receives application state frame.now)) old new out
Serves (Tick elapsed random now) old new out = Puts (Calls (Ticks application)) (at_time now old) new out
Serves (Connect client) old new out = Joins client old new × (out ≡ [])
Serves (Client client sent) old new out = Feeding client sent.now old new out
Serves (Disconnect client) old new out = Leaves client old new × (out ≡ [])
Serves Write old new out = Puts (Calls (Writes application state)) old new out
Serves (Flushed position) old new out = Puts (Calls (Releases application state position)) old new out
Serves Initialize old new out = Begun old new out
Serves (Members voters learners) old new out = (new ≡ old) × (out ≡ [])
Serves Status old new out = new ≡ old
Serves Idle old new out = (new ≡ old) × ((out ≡ []) ⊎ (out ≡ framed kind.More 0 []))
Serves _ old new out = ⊥

-- what an input does at a service that is open, and to what is left of a new log's bytes
abbrev pub Does : Input → Running → Running → List ℕ → Type 0
Does BeginLog old new out =
    (log : Option NewLog) × BeginsLog old.service log new.service × (out ≡ new_log log) × (new.new_log ≡ begun_with log old.new_log)
Does LogPiece old new out =
    (new.service ≡ old.service) × (out ≡ piece_of old.new_log.at (take MOST old.new_log.bytes)) × (new.new_log ≡ behind_piece old.new_log)
Does TakeOver old new out =
    (end : Option ℕ) × TakesOver old.service end new.service × (out ≡ taken_over end) × (new.new_log ≡ taken_from end old.new_log)
Does GiveUpLog old new out = GivesUp old.service new.service × (out ≡ []) × (new.new_log ≡ none_left)
Does input old new out = Serves input old.service new.service out × (new.new_log ≡ old.new_log)

-- what the next read gives
abbrev pub unread : Host → List ℕ
unread host = drop host.read host.out.items
