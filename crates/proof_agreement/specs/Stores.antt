-- What nodes store, what was sent, and what is recorded of a run. Logs are lists here, and an entry's index is its
-- place.
use Rattle.std.specs.Prelude.{ℕ, ◌-◌, Bool, false, List, [], ◌++◌, length, get_or, take, drop}
use Rattle.proof_agreement.specs.Machine.{Entry, Log, Setup, last_leader, effective_membership}

-- The streams of a leader: its leader id, and the place of the membership that they were built for (openraft:
-- ReplicationSessionId).
pub record Session : Type 0 where
  pub leader : ℕ
  pub membership : ℕ

abbrev pub no_session : Session
no_session = record { leader = 0; membership = 0 }

-- What survives a stop: the vote, the log's entries from the index `front` on (those before it were purged), the
-- snapshot as the list of the entries that it covers, and the saved committed id (`saved` entries, the last of leader
-- id `saved_leader`). What a running node has besides: how many entries it has applied (`committed`), the applied list
-- kept for a snapshot, and the session of its streams. (openraft: RaftLogStorage, RaftStateMachine.)
pub record Store (A : Type 0) : Type 0 where
  pub vote : ℕ
  pub vote_committed : Bool
  pub front : ℕ
  pub entries : List (Entry A)
  pub snapshot : List (Entry A)
  pub saved : ℕ
  pub saved_leader : ℕ
  pub committed : ℕ
  pub noted : List (Entry A)
  pub session : Session

-- the whole log: the snapshot's entries, and the stored ones above them
abbrev pub whole : {A : Type 0} → Store A → List (Entry A)
whole S = S.snapshot ++ drop (length S.snapshot - S.front) S.entries

-- what a node has applied
abbrev pub applied : {A : Type 0} → Store A → List (Entry A)
applied S = take S.committed (whole S)

-- An append request (Raft paper, section 5.3): entries from an index on, the leader id of the entry before them, how
-- many entries its sender knew as committed, and the leader id of the last of those. With no entries and index 0 it is
-- a heartbeat.
pub record Append (A : Type 0) : Type 0 where
  pub session : Session
  pub from : ℕ
  pub previous : ℕ
  pub entries : List (Entry A)
  pub committed : ℕ
  pub committed_leader : ℕ

-- A vote request of a leader id, with the end of the candidate's log; a granted reply of a node; an append request; a
-- snapshot with its session; and a node's reply to either of the two: it has the first `upto` entries, the last of
-- leader id `last`.
pub data Message (A : Type 0) : Type 0 where
  VoteRequest : (d last len : ℕ) → Message A
  VoteGranted : (n d : ℕ) → Message A
  AppendRequest : (r : Append A) → Message A
  SnapshotRequest : (q : Session) (es : List (Entry A)) → Message A
  Accepted : (n : ℕ) (q : Session) (last upto : ℕ) → Message A

-- an entry that a node applied as committed, with its index
pub record ExecutedCommit (A : Type 0) : Type 0 where
  pub node : ℕ
  pub index : ℕ
  pub entry : Entry A

-- a snapshot that a node installed
pub record InstalledSnapshot (A : Type 0) : Type 0 where
  pub node : ℕ
  pub entries : List (Entry A)

-- a leader committed its own entry at `index` by a quorum: its whole log up to there
pub record DecidedCommit (A : Type 0) : Type 0 where
  pub leader : ℕ
  pub index : ℕ
  pub entries : List (Entry A)

-- a leader and its whole log when it became leader
pub record EstablishedLeader (A : Type 0) : Type 0 where
  pub leader : ℕ
  pub entries : List (Entry A)

-- all stores, all messages ever sent, and the four records of a run
pub record Stores (A : Type 0) : Type 0 where
  pub store : ℕ → Store A
  pub messages : List (Message A)
  pub executed : List (ExecutedCommit A)
  pub installed : List (InstalledSnapshot A)
  pub decided : List (DecidedCommit A)
  pub established : List (EstablishedLeader A)

-- nothing is stored, sent or recorded
abbrev pub empty : {A : Type 0} → Setup A → Stores A
empty s =
    record {
      store = λ n. record { vote = 0; vote_committed = false; front = 0; entries = []; snapshot = []; saved = 0; saved_leader = 0; committed = 0; noted = []; session = no_session };
      messages = [];
      executed = [];
      installed = [];
      decided = [];
      established = [];
    }

-- the first entry of every log
abbrev pub first_entry : {A : Type 0} → Setup A → Entry A
first_entry s = record { leader = 0; payload = s.first_payload }

-- the entry at an index of a list (beyond its end the first entry is used, and means nothing)
abbrev pub entry_at : {A : Type 0} → Setup A → List (Entry A) → ℕ → Entry A
entry_at s xs i = get_or xs i (first_entry s)

abbrev pub of_list : {A : Type 0} → Setup A → List (Entry A) → Log A
of_list s xs = record { len = length xs; at = entry_at s xs }

-- the leader id of a list's last entry
abbrev pub last_leader_of : {A : Type 0} → Setup A → List (Entry A) → ℕ
last_leader_of s xs = last_leader (entry_at s xs) (length xs)

-- the membership that is effective in a whole log
abbrev pub effective_membership_of : {A : Type 0} → Setup A → List (Entry A) → A
effective_membership_of s xs = effective_membership s (of_list s xs) (length xs)
