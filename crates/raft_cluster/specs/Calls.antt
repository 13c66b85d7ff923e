-- What a machine's calls do: what its server does, and what becomes of its disk.
use Rattle.std.specs.Prelude.{ℕ, ◌≡◌, ◌⊎◌, Bool, true, false, List, [], Option, None, Some, IfSome, take, if◌then◌else◌}
use Rattle.raft_node.specs.declared.given.Given.{Given}
use Rattle.raft_codec.specs.Codec.{Codec}
use Rattle.raft_answers.specs.declared.request.Operation.{Operation}
use Rattle.raft_answers.specs.declared.request.Token.{Token}
use Rattle.proof_packed.specs.Stores.{Application}
use Rattle.proof_requests.specs.raft_packed_server.Checkpoints.{new_log_bytes}
use Rattle.proof_requests.specs.raft_packed_server.declared.batch.NewLog.{NewLog}
use Rattle.proof_requests.specs.raft_core.declared.driver.OpenedCore.{OpenedCore}
use Rattle.proof_requests.specs.raft_core.declared.error.FrameError.{FrameError}
use Rattle.proof_requests.specs.raft_core.declared.error.FrameError.TheVariants.{Core}
use Rattle.proof_requests.specs.raft_core.raft_peers.declared.output.Output.{Output}
use Rattle.proof_requests.specs.raft_core.Calls.{Admits, AdmitsRead, Begins, BeginsNewLog, GivesUpLog, Releases, TakesOverLog, Writes}
use Rattle.proof_requests.specs.raft_core.Views.{CoreView}
use Rattle.raft_cluster.specs.declared.comes.Comes.{Comes}
use Rattle.raft_cluster.specs.declared.comes.Comes.TheVariants.{Done as IsDone, NotOpen, NotTaken, Opened}
use Rattle.raft_cluster.specs.declared.machine.Handed.{Handed}
use Rattle.raft_cluster.specs.declared.machine.Done.{Done}
use Rattle.raft_cluster.specs.declared.machine.Machine.{Machine}
use Rattle.raft_cluster.specs.Disks.{flushed, flushed_beside, torn}
use Rattle.raft_cluster.specs.Outputs.{handed_in, is_packet, others_in}
use Rattle.raft_cluster.specs.Servers.{log_on}

module _ {S : Type 0} where
  -- Calls

  -- nothing happens: the server isn't open, or refuses
  abbrev pub Rests : Machine S → List (Output S) → Machine S → Type 0
  Rests old out new = (out ≡ []) × (new ≡ old)

  -- the server stops: of what it handed out so many bytes are on disk
  pub record Stops (old : Machine S) (out : List (Output S)) (new : Machine S) : Type 0 where
    pub none : out ≡ []
    pub id : new.id ≡ old.id
    pub closed : new.core ≡ None
    pub written : new.written ≡ None
    pub bytes : ℕ
    pub disk : new.disk.items ≡ torn bytes old

  -- a call of a server that does this, if it is open and doesn't stop
  abbrev pub Calls : (Machine S → List (Output S) → Machine S → Type 0) → Machine S → List (Output S) → Machine S → Type 0
  Calls Does old out new = Rests old out new ⊎ (Stops old out new ⊎ Does old out new)

  -- nothing else
  abbrev pub Never : Machine S → List (Output S) → Machine S → Type 0
  Never old out new = ⊥

  -- the server does this (`raft_core`), and nothing else happens
  pub record ByCore (Does : CoreView S → List (Output S) → CoreView S → Type 0) (old : Machine S) (out : List (Output S)) (new : Machine S)
      : Type 0 where
    pub core : CoreView S
    pub is_open : old.core ≡ Some core
    pub next : CoreView S
    pub does : Does core out next
    pub becomes : new ≡ record old { core = Some next }

  -- bytes that were handed out are on their way to the disk
  abbrev pub with_handed : Option Handed → Machine S → Machine S
  with_handed None m = m
  with_handed (Some handed) m = record m { written = Some handed }

-- a server writes: the bytes for its log's end are on their way, and all else leaves
pub record ByWrite {S : Type 0} (app : Application S) (codec : Codec S) (old : Machine S) (out : List (Output S)) (new : Machine S) : Type 0 where
  pub core : CoreView S
  pub is_open : old.core ≡ Some core
  pub next : CoreView S
  pub said : List (Output S)
  pub does : Writes app codec core said next
  pub leaves : out ≡ others_in said
  pub becomes : new ≡ with_handed (handed_in said) (record old { core = Some next })

-- the bytes that were handed out, if any, are on disk, and in the file beside it, and the server hears up to where the log is
pub record ByFlush {S : Type 0} (app : Application S) (codec : Codec S) (old : Machine S) (out : List (Output S)) (new : Machine S) : Type 0 where
  pub core : CoreView S
  pub is_open : old.core ≡ Some core
  pub next : CoreView S
  pub position : ℕ
  pub end : IfSome old.written (λ handed. position ≡ handed.end)
  pub does : Releases app codec position core out next
  pub id : new.id ≡ old.id
  pub now : new.core ≡ Some next
  pub written : new.written ≡ None
  pub disk : new.disk.items ≡ flushed old
  pub beside : new.beside.items ≡ flushed_beside old

-- a server begins a new log, whose bytes make a file beside its disk
pub record ByNewLog {S : Type 0} (codec : Codec S) (old : Machine S) (out : List (Output S)) (new : Machine S) : Type 0 where
  pub none : out ≡ []
  pub core : CoreView S
  pub is_open : old.core ≡ Some core
  pub next : CoreView S
  pub log : NewLog
  pub does : BeginsNewLog codec (log_on old) core log next
  pub beside : new.beside.items ≡ new_log_bytes log
  pub becomes : new ≡ record old { core = Some next; beside = new.beside }

module _ {S : Type 0} where
  -- that file takes the disk's place, all at once
  pub record ByTakeOver (old : Machine S) (out : List (Output S)) (new : Machine S) : Type 0 where
    pub none : out ≡ []
    pub core : CoreView S
    pub is_open : old.core ≡ Some core
    pub next : CoreView S
    pub end : ℕ
    pub does : TakesOverLog core (Some end) next
    pub id : new.id ≡ old.id
    pub now : new.core ≡ Some next
    pub written : new.written ≡ old.written
    pub disk : new.disk.items ≡ old.beside.items

  -- or it is given up
  abbrev pub GivesUp : CoreView S → List (Output S) → CoreView S → Type 0
  GivesUp old out new = (out ≡ []) × GivesUpLog old new

-- Frames

-- a frame wasn't taken
abbrev pub is_refused : Comes → Bool
is_refused (NotTaken e) = true
is_refused NotOpen = true
is_refused _ = false

-- the server has stopped on a frame, or does nothing
abbrev pub Refuses : {S : Type 0} → FrameError → Machine S → Done S → Machine S → Type 0
Refuses (Core e) old done new = (new ≡ record old { core = None; written = None }) × (done.outputs.items ≡ [])
Refuses _ old done new = (new ≡ old) × (done.outputs.items ≡ [])

-- a packet was taken, whoever sent it
abbrev pub is_forged : List ℕ → Comes → Bool
is_forged bytes comes = if is_refused comes then false else is_packet bytes

-- Requests

-- nothing else came of a call
abbrev pub is_done : Comes → Bool
is_done IsDone = true
is_done _ = false

module _ {S : Type 0} where
  -- a request is taken, and waits behind the others
  pub record ByRequest (token : Token) (operation : Operation) (old new : Machine S) : Type 0 where
    pub core : CoreView S
    pub is_open : old.core ≡ Some core
    pub next : CoreView S
    pub admits : Admits token operation core next
    pub becomes : new ≡ record old { core = Some next }

  abbrev pub RequestsIf : Bool → Token → Operation → Machine S → Machine S → Type 0
  RequestsIf true token operation old new = ByRequest token operation old new
  RequestsIf false token operation old new = new ≡ old

  -- a read that needs no entry is
  pub record ByRead (token : Token) (old new : Machine S) : Type 0 where
    pub core : CoreView S
    pub is_open : old.core ≡ Some core
    pub next : CoreView S
    pub admits : AdmitsRead token core next
    pub becomes : new ≡ record old { core = Some next }

  abbrev pub ReadsIf : Bool → Token → Machine S → Machine S → Type 0
  ReadsIf true token old new = ByRead token old new
  ReadsIf false token old new = new ≡ old

-- Starts

abbrev pub is_opened : Comes → Bool
is_opened (Opened end len) = true
is_opened _ = false

module _ {S : Type 0} (app : Application S) (codec : Codec S) where
  -- the server opens on what is on disk, and cuts off what stands behind its log
  pub record ByStart (given : Given) (old new : Machine S) : Type 0 where
    pub was_closed : old.core ≡ None
    pub opened : OpenedCore S
    pub begins : Begins app codec given (log_on old) old.disk.items opened
    pub id : new.id ≡ old.id
    pub now : new.core ≡ Some opened.core
    pub written : new.written ≡ old.written
    pub disk : new.disk.items ≡ take opened.end old.disk.items

  abbrev pub StartsIf : Bool → Given → Machine S → Machine S → Type 0
  StartsIf true given old new = ByStart given old new
  StartsIf false given old new = new ≡ old
