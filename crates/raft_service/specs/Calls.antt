-- What each call of a service does.
use Rattle.std.specs.Prelude.{ℕ, ◌≡◌, max, List, [], Option}
use Rattle.raft_clients.specs.Clients.{Connects, Disconnects, Keeps, Nobody, Takes}
use Rattle.raft_clients.specs.declared.clients.Clients.{Clients}
use Rattle.raft_core.specs.Calls as core
use Rattle.raft_executor.specs.Executor.{executed_of, installed}
use Rattle.raft_executor.specs.KeyValue.{application}
use Rattle.raft_machine.specs.Bytes.{state}
use Rattle.raft_core.specs.raft_packed_server.declared.batch.NewLog.{NewLog}
use Rattle.raft_service.specs.Core.{Core, CoreOutput, OpenedCore}
use Rattle.raft_service.specs.Delivering.{DeliversAll}
use Rattle.raft_service.specs.Intake.{Begins}
use Rattle.raft_service.specs.Serving.{Serves, ServesAll}
use Rattle.raft_service.specs.declared.output.Output.{Output}
use Rattle.raft_service.specs.declared.service.OpenedService.{OpenedService}
use Rattle.raft_service.specs.declared.service.Service.{Service}
use Rattle.raft_service.specs.declared.settings.Settings.{Settings}

-- One that was opened: its server begins on the log, its machine has executed what the log's snapshot has, and nobody is connected.
pub record Opens (settings : Settings) (log : List ℕ) (opened : OpenedService) : Type 0 where
  pub server : OpenedCore
  pub begins : core.Begins application state settings.given settings.id log server
  pub end : opened.end ≡ server.end
  pub intake : Begins server.core settings.addresses opened.service.intake
  pub named : opened.service.id ≡ settings.id
  pub executed : executed_of opened.service.executor ≡ installed server.applied
  pub clients : Nobody settings.connections settings.clients opened.service.clients

-- the server made this of a call
abbrev pub with_core : Service → Core → Service
with_core s server = record s { intake = record s.intake { core = server } }

-- a new log is begun for its server, or none is; nothing else is done
pub record BeginsLog (old : Service) (log : Option NewLog) (new : Service) : Type 0 where
  pub begins : core.MayBeginLog state old.id old.intake.core log new.intake.core
  pub rest : new ≡ with_core old new.intake.core

-- it takes the old one's place, or none does; nothing else is done
pub record TakesOver (old : Service) (end : Option ℕ) (new : Service) : Type 0 where
  pub takes_over : core.TakesOverLog old.intake.core end new.intake.core
  pub rest : new ≡ with_core old new.intake.core

-- it is given up
pub record GivesUp (old new : Service) : Type 0 where
  pub gives_up : core.GivesUpLog old.intake.core new.intake.core
  pub rest : new ≡ with_core old new.intake.core

-- the clients that were answered are served
pub record Finishes (old : Service) (before : List Output) (new : Service) (after : List Output) : Type 0 where
  pub answered : List ℕ
  pub serves : ServesAll answered old.clients old.intake before new.clients new.intake after
  pub rest : new ≡ record old { clients = new.clients; intake = new.intake }

-- the state machine's moment
abbrev pub moment_of : Service → ℕ
moment_of s = (executed_of s.executor).state.space.moment

-- requests are read at the machine's moment
abbrev pub at_moment : Service → Service
at_moment s = record s { intake = record s.intake { reached = moment_of s } }

-- What the server put out is done, in its order, and then the clients that were answered are served.
pub record Handles (out : List CoreOutput) (old new : Service) (outputs : List Output) : Type 0 where
  pub middle : Service
  pub so_far : List Output
  pub delivers : DeliversAll out old [] middle so_far
  pub finishes : Finishes (at_moment middle) so_far new outputs

-- A call of the server, of which the relation R tells, and what it put out is done.
pub record Calls (R : Core → List CoreOutput → Core → Type 0) (old new : Service) (outputs : List Output) : Type 0 where
  pub server : Core
  pub out : List CoreOutput
  pub called : R old.intake.core out server
  pub handles : Handles out (with_core old server) new outputs

-- The time is told. It isn't before the machine's moment, by which keys have expired.
abbrev pub at_time : ℕ → Service → Service
at_time now s = record s { intake = record s.intake { time = max now (moment_of s) } }

-- A client's bytes are taken, as many as there is room for, and it is served.
pub record Feeds (client : ℕ) (bytes : List ℕ) (old new : Service) (count : ℕ) (outputs : List Output) : Type 0 where
  pub fed : Clients
  pub takes : Takes client bytes old.clients fed count
  pub serves : Serves client fed old.intake [] new.clients new.intake outputs
  pub rest : new ≡ record old { clients = new.clients; intake = new.intake }

-- a client connects
pub record Joins (client : ℕ) (old new : Service) : Type 0 where
  pub connects : Connects client old.clients new.clients
  pub rest : new ≡ record old { clients = new.clients }

-- nothing changes
pub record Stays (old new : Service) : Type 0 where
  pub keeps : Keeps old.clients new.clients
  pub rest : new ≡ record old { clients = new.clients }

-- a client is gone
pub record Leaves (client : ℕ) (old new : Service) : Type 0 where
  pub disconnects : Disconnects client old.clients new.clients
  pub rest : new ≡ record old { clients = new.clients }
