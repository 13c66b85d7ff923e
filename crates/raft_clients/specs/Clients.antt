-- Connections by the numbers of their clients.
use Rattle.std.specs.Prelude.{ℕ, ◌≡◌, ◌+◌, ◌≤◌, ◌<◌, Bool, false, length, List, [], Option, Some, None, Result, Ok, Err}
use Rattle.std.specs.Ordering.{nat_cmp}
use Rattle.std.specs.BTreeMap.{btree_map_len, get, is_at}
use Rattle.raft_connection.specs.Connection.{answered, is_alone, is_closing, opened, output, receive, taken}
use Rattle.raft_connection.specs.declared.answer.Answer.{Answer}
use Rattle.raft_connection.specs.declared.answer.AnswerError.{AnswerError}
use Rattle.raft_connection.specs.declared.connection.Connection.{Connection}
use Rattle.raft_connection.specs.declared.limits.Settings.{Settings}
use Rattle.raft_clients.specs.declared.clients.Clients.{Clients}

-- a client's connection, if it is connected
abbrev pub connection_at : Clients → ℕ → Option Connection
connection_at s client = get nat_cmp s.connections client

-- A client's connection is this one now, or none; nothing else changes.
pub record Puts (client : ℕ) (after : Option Connection) (old new : Clients) : Type 0 where
  pub at : connection_at new client ≡ after
  pub others : (other : ℕ) → is_at (nat_cmp client) other ≡ false → connection_at new other ≡ connection_at old other
  pub rest : new ≡ record old { connections = new.connections }

-- nobody is connected
pub record Nobody (settings : Settings) (limit : ℕ) (new : Clients) : Type 0 where
  pub none : (client : ℕ) → connection_at new client ≡ None
  pub set : new.settings ≡ settings
  pub most : new.limit ≡ limit
  pub next : new.next ≡ 0

-- nothing changes
pub record Keeps (old new : Clients) : Type 0 where
  pub entries : new.connections.entries ≡ old.connections.entries
  pub rest : new ≡ record old { connections = new.connections }

-- A client's connection begins. Clients' numbers ascend, and there are no more than may be.
pub record Connects (client : ℕ) (old new : Clients) : Type 0 where
  pub ascends : old.next ≤ client
  pub fits : btree_map_len old.connections < old.limit
  pub at : connection_at new client ≡ Some (opened old.settings client)
  pub others : (other : ℕ) → is_at (nat_cmp client) other ≡ false → connection_at new other ≡ connection_at old other
  pub next : new.next ≡ client + 1
  pub rest : new ≡ record old { connections = new.connections; next = new.next }

abbrev pub Disconnects : ℕ → Clients → Clients → Type 0
Disconnects client old new = Puts client None old new

-- A client's connection changes so, and gives this; where there is none, nothing changes.
abbrev pub ThroughAt : {R : Type 0} → Option Connection → ℕ → (Connection → Connection × R) → R → Clients → Clients → R → Type 0
ThroughAt None client change absent old new given = (given ≡ absent) × (new ≡ old)
ThroughAt (Some c) client change absent old new given = (given ≡ (change c).1) × Puts client (Some (change c).0) old new

abbrev pub Through : {R : Type 0} → ℕ → (Connection → Connection × R) → R → Clients → Clients → R → Type 0
Through client change absent old new given = ThroughAt (connection_at old client) client change absent old new given

-- A client's connection changes so; where there is none, nothing changes.
abbrev pub ChangesAt : Option Connection → ℕ → (Connection → Connection) → Clients → Clients → Type 0
ChangesAt None client change old new = new ≡ old
ChangesAt (Some c) client change old new = Puts client (Some (change c)) old new

abbrev pub Changes : ℕ → (Connection → Connection) → Clients → Clients → Type 0
Changes client change old new = ChangesAt (connection_at old client) client change old new

-- bytes of a client are taken, those of one that isn't connected all
abbrev pub Takes : ℕ → List ℕ → Clients → Clients → ℕ → Type 0
Takes client bytes old new count = Through client (λ c. receive old.settings.limits c bytes) (length bytes) old new count

-- an answer that is waited for is taken, and any other changes nothing
abbrev pub given : Connection → Result Connection AnswerError → Connection
given before (Ok after) = after
given before (Err e) = before

abbrev pub Gives : ℕ → Answer → Connection → Connection → Type 0
Gives number answer before after = after ≡ given before (answered before number answer)

abbrev pub Answers : ℕ → ℕ → Answer → Clients → Clients → Type 0
Answers client number answer old new = Changes client (λ c. given c (answered c number answer)) old new

-- what is sent a client is taken
abbrev pub Sends : ℕ → Clients → Clients → Type 0
Sends client old new = Changes client taken old new

abbrev pub output_in : Option Connection → List ℕ
output_in None = []
output_in (Some c) = output c

abbrev pub output_at : Clients → ℕ → List ℕ
output_at s client = output_in (connection_at s client)

abbrev pub is_alone_in : Option Connection → Bool
is_alone_in None = false
is_alone_in (Some c) = is_alone c

abbrev pub is_alone_at : Clients → ℕ → Bool
is_alone_at s client = is_alone_in (connection_at s client)

abbrev pub is_closing_in : Option Connection → Bool
is_closing_in None = false
is_closing_in (Some c) = is_closing c

abbrev pub is_closing_at : Clients → ℕ → Bool
is_closing_at s client = is_closing_in (connection_at s client)
