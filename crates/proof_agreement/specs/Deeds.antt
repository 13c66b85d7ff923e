-- Deeds: each executed command of a node is zero or more of them. A condition is about the node's own store and the
-- messages sent, so an engine can test it; what a deed changes is `does`.
use Rattle.std.specs.Prelude.{ℕ, suc, ◌+◌, ◌-◌, ◌<◌, ◌≤◌, ◌≡◌, ◌≢◌, ◌⊎◌, Bool, true, false, List, [], ◌∷◌, ◌++◌, length, take, drop}
use Rattle.proof_agreement.specs.Machine.{Entry, Setup, Includes, IsQuorum, ShareGroup, last_membership, AtOrBelow, last_leader, updated}
use Rattle.proof_agreement.specs.Stores.{Store, Append, Message, VoteRequest, VoteGranted, AppendRequest, SnapshotRequest, Accepted, Session, Stores, no_session, whole, entry_at, last_leader_of, effective_membership_of, first_entry}

-- n leads: its stored vote is its own, and committed
pub record Leads {A : Type 0} (s : Setup A) (S : Store A) (n : ℕ) : Type 0 where
  pub own : s.owner S.vote ≡ n
  pub vote_committed : S.vote_committed ≡ true

-- n has its streams, and they are those of its vote
pub record Streams {A : Type 0} (s : Setup A) (S : Store A) (n : ℕ) : Type 0 where
  pub leads : Leads s S n
  pub session : S.session.leader ≡ S.vote

-- n is a candidate: its stored vote is its own, above the first one, and not committed
pub record IsCandidate {A : Type 0} (s : Setup A) (S : Store A) (n : ℕ) : Type 0 where
  pub own : s.owner S.vote ≡ n
  pub not_committed : S.vote_committed ≡ false
  pub positive : 0 < S.vote

-- n follows another leader
pub record IsFollower {A : Type 0} (s : Setup A) (S : Store A) (n : ℕ) : Type 0 where
  pub vote_committed : S.vote_committed ≡ true
  pub other : n ≢ s.owner S.vote

-- the append request r was sent under the leader id of the stored vote
pub record FromLeader {A : Type 0} (W : Stores A) (S : Store A) (r : Append A) : Type 0 where
  pub sent : Includes W.messages (AppendRequest r)
  pub session : r.session.leader ≡ S.vote

-- so was this snapshot
pub record SnapshotFromLeader {A : Type 0} (W : Stores A) (S : Store A) (q : Session) (es : List (Entry A)) : Type 0 where
  pub sent : Includes W.messages (SnapshotRequest q es)
  pub session : q.leader ≡ S.vote

-- r names the leader id x at index k: its previous id, or that of an entry
abbrev pub Names : {A : Type 0} → Setup A → Append A → ℕ → ℕ → Type 0
Names s r k x = ((suc k ≡ r.from) × (x ≡ r.previous)) ⊎ ((j : ℕ) × (k ≡ r.from + j) × (j < length r.entries) × (x ≡ (entry_at s r.entries j).leader))

-- S holds the leader id x at index k: the index is committed, or the log has exactly that id there (openraft:
-- has_log_id)
abbrev pub Holds : {A : Type 0} → Setup A → Store A → ℕ → ℕ → Type 0
Holds s S k x = (k < S.committed) ⊎ ((k < length (whole S)) × ((entry_at s (whole S) k).leader ≡ x))

-- the stored entries reach the snapshot's end, so that an entry can be appended to the whole log
abbrev pub Reaches : {A : Type 0} → Store A → Type 0
Reaches S = length S.snapshot ≤ S.front + length S.entries

-- the place of the last membership of a whole log
abbrev pub last_membership_of : {A : Type 0} → Setup A → List (Entry A) → ℕ
last_membership_of s xs = last_membership s (entry_at s xs) (length xs)

-- m accepted more than the first k entries of leader id d
pub record HasAccepted {A : Type 0} (W : Stores A) (m d k : ℕ) : Type 0 where
  pub session : Session
  pub last : ℕ
  pub upto : ℕ
  pub past : k < upto
  pub leader : session.leader ≡ d
  pub sent : Includes W.messages (Accepted m session last upto)

-- A leader may propose the membership x when groups change: an entry of its own is committed at it, so is its last
-- membership, and a voter group is shared.
pub record MayProposeMembership {A : Type 0} (s : Setup A) (S : Store A) (x : A) : Type 0 where
  pub mine : ℕ
  pub own : mine < S.committed
  pub own_is : (entry_at s (whole S) mine).leader ≡ S.vote
  pub last : last_membership_of s (whole S) < S.committed
  pub share : ShareGroup s (effective_membership_of s (whole S)) x

-- n answers a vote request of its own vote's leader id whose log is at least as up to date (Raft paper, section 5.4.1)
pub record MayAnswerVote {A : Type 0} (s : Setup A) (W : Stores A) (n last len : ℕ) : Type 0 where
  pub sent : Includes W.messages (VoteRequest (W.store n).vote last len)
  pub up_to_date : AtOrBelow (last_leader_of s (whole (W.store n))) (length (whole (W.store n))) last len
  pub not_committed : (W.store n).vote_committed ≡ false

-- a candidate with a log whose quorum granted; its own grant needs no message
pub record MayWin {A : Type 0} (s : Setup A) (W : Stores A) (n : ℕ) (q : ℕ → Bool) : Type 0 where
  pub candidate : IsCandidate s (W.store n) n
  pub some : 0 < length (whole (W.store n))
  pub quorum : IsQuorum s (effective_membership_of s (whole (W.store n))) q
  pub each : (m : ℕ) → q m ≡ true → (m ≡ n) ⊎ Includes W.messages (VoteGranted m (W.store n).vote)

-- n adopts the vote of a leader that sent it something
pub record MayTakeVote {A : Type 0} (s : Setup A) (W : Stores A) (n d : ℕ) (m : Message A) : Type 0 where
  pub sent : Includes W.messages m
  pub not_lower : (W.store n).vote ≤ d
  pub other : n ≢ s.owner d

-- a leader appends an entry of its own; a membership under one of the two rules for groups
pub record MayAppendOwn {A : Type 0} (s : Setup A) (S : Store A) (n : ℕ) (payload : A) : Type 0 where
  pub leads : Leads s S n
  pub reaches : Reaches S
  pub same : s.is_membership payload ≡ true → s.groups_kept ≡ true → s.first_group payload ≡ s.first_group s.first_payload
  pub settled : s.is_membership payload ≡ true → s.groups_kept ≡ true → last_membership_of s (whole S) < S.committed
  pub change : s.is_membership payload ≡ true → s.groups_kept ≡ false → MayProposeMembership s S payload

-- a leader sends m entries from index i on
pub record MaySendAppend {A : Type 0} (s : Setup A) (S : Store A) (n i m : ℕ) : Type 0 where
  pub streams : Streams s S n
  pub fits : i + m ≤ length (whole S)

-- a follower lacks an id that its leader's request names, and truncates its log there
pub record MayTruncateConflict {A : Type 0} (s : Setup A) (W : Stores A) (n : ℕ) (r : Append A) (k x : ℕ) : Type 0 where
  pub request : FromLeader W (W.store n) r
  pub follower : IsFollower s (W.store n) n
  pub names : Names s r k x
  pub inside : k < length (whole (W.store n))
  pub lacks : Holds s (W.store n) k x → ⊥

-- a follower appends the request's entries after the first `skip` to its log, which holds the id before them
pub record MayAppendEntries {A : Type 0} (s : Setup A) (W : Stores A) (n : ℕ) (r : Append A) (skip : ℕ) : Type 0 where
  pub request : FromLeader W (W.store n) r
  pub follower : IsFollower s (W.store n) n
  pub reaches : Reaches (W.store n)
  pub next : length (whole (W.store n)) ≡ r.from + skip
  pub within : skip ≤ length r.entries
  pub holds : (k : ℕ) → length (whole (W.store n)) ≡ suc k → (x : ℕ) × Names s r k x × Holds s (W.store n) k x

-- a node holds an id that its leader's request names, and says so
pub record MayAccept {A : Type 0} (s : Setup A) (W : Stores A) (n : ℕ) (r : Append A) (k x : ℕ) : Type 0 where
  pub request : FromLeader W (W.store n) r
  pub vote_committed : (W.store n).vote_committed ≡ true
  pub names : Names s r k x
  pub holds : Holds s (W.store n) k x

-- a follower commits m entries: no more than it holds of one request of its leader, and than another one says is
-- committed
pub record MayCommit {A : Type 0} (s : Setup A) (W : Stores A) (n : ℕ) (r : Append A) (k x : ℕ) (told : Append A) (m : ℕ) : Type 0 where
  pub accepted : MayAccept s W n r k x
  pub told_by_leader : FromLeader W (W.store n) told
  pub held : m ≤ suc k
  pub told_so : m ≤ told.committed
  pub higher : (W.store n).committed ≤ m

-- a leader commits its own entry at index c, which a quorum of the effective groups accepted (Raft paper, section
-- 5.4.2)
pub record MayCommitByQuorum {A : Type 0} (s : Setup A) (W : Stores A) (n c : ℕ) (q : ℕ → Bool) : Type 0 where
  pub streams : Streams s (W.store n) n
  pub quorum : IsQuorum s (effective_membership_of s (whole (W.store n))) q
  pub inside : c < length (whole (W.store n))
  pub own : (entry_at s (whole (W.store n)) c).leader ≡ (W.store n).vote
  pub each : (m : ℕ) → q m ≡ true → (m ≡ n) ⊎ HasAccepted W m (W.store n).vote c

-- a leader commits what a message of its own said is committed
pub record MayCommitAsLeader {A : Type 0} (s : Setup A) (W : Stores A) (n : ℕ) (told : Append A) (m : ℕ) : Type 0 where
  pub leads : Leads s (W.store n) n
  pub told_by_leader : FromLeader W (W.store n) told
  pub held : m ≤ length (whole (W.store n))
  pub told_so : m ≤ told.committed
  pub higher : (W.store n).committed ≤ m

-- after a restart the snapshot is applied, and no more than was
pub record MayRestart {A : Type 0} (S : Store A) (c : ℕ) : Type 0 where
  pub snapshot : length S.snapshot ≤ c
  pub lower : c ≤ S.committed

-- after a restart all up to the saved committed id is applied, if the whole log holds that id
pub record MayRestartSaved {A : Type 0} (s : Setup A) (S : Store A) (k : ℕ) : Type 0 where
  pub saved : S.saved ≡ suc k
  pub snapshot : length S.snapshot ≤ S.saved
  pub inside : k < length (whole S)
  pub held : (entry_at s (whole S) k).leader ≡ S.saved_leader

-- the first entry is appended to an empty store
pub record MayInitialize {A : Type 0} (S : Store A) : Type 0 where
  pub no_entries : S.entries ≡ []
  pub no_snapshot : S.snapshot ≡ []
  pub first_vote : S.vote ≡ 0
  pub not_committed : S.vote_committed ≡ false

-- entries that the snapshot covers are removed: the front moves to k
pub record MayPurge {A : Type 0} (S : Store A) (k : ℕ) : Type 0 where
  pub past : S.front ≤ k
  pub covered : k ≤ length S.snapshot

-- A snapshot of the leader contradicts the log at its last index k, and the log is truncated from j on: from k itself,
-- or from anywhere above the committed index when the groups are kept.
pub record MayTruncateForSnapshot {A : Type 0} (s : Setup A) (W : Stores A) (n j k : ℕ) (q : Session) (es : List (Entry A)) : Type 0 where
  pub request : SnapshotFromLeader W (W.store n) q es
  pub follower : IsFollower s (W.store n) n
  pub ends : length es ≡ suc k
  pub inside : k < length (whole (W.store n))
  pub apart : (entry_at s (whole (W.store n)) k).leader ≢ (entry_at s es k).leader
  pub past : (W.store n).committed ≤ j
  pub shorter : j ≤ k
  pub deep : (s.groups_kept ≡ true) ⊎ (j ≡ k)

-- a snapshot of the leader beyond what is committed, if the log ends before its last index or holds its last id
pub record MayInstall {A : Type 0} (s : Setup A) (W : Stores A) (n k : ℕ) (q : Session) (es : List (Entry A)) : Type 0 where
  pub request : SnapshotFromLeader W (W.store n) q es
  pub follower : IsFollower s (W.store n) n
  pub ends : length es ≡ suc k
  pub past : (W.store n).committed ≤ k
  pub fits : (length (whole (W.store n)) ≤ k) ⊎ ((k < length (whole (W.store n))) × ((entry_at s (whole (W.store n)) k).leader ≡ (entry_at s es k).leader))

-- all that the leader's snapshot covers is committed here, and the node says so
pub record MayAcceptSnapshot {A : Type 0} (W : Stores A) (n : ℕ) (q : Session) (es : List (Entry A)) : Type 0 where
  pub request : SnapshotFromLeader W (W.store n) q es
  pub vote_committed : (W.store n).vote_committed ≡ true
  pub committed : length es ≤ (W.store n).committed

pub data Deed (A : Type 0) : Type 0 where
  -- SaveVote of a vote that isn't committed; of a candidate's own committed vote; of a leader's vote that came with a
  -- request
  SaveVote : (n d : ℕ) → Deed A
  Win : (n : ℕ) (q : ℕ → Bool) → Deed A
  FollowByAppend : (n : ℕ) (r : Append A) → Deed A
  FollowBySnapshot : (n : ℕ) (q : Session) (es : List (Entry A)) → Deed A
  -- SendVote; the Respond of a granted vote
  RequestVotes : (n : ℕ) → Deed A
  AnswerVote : (n last len : ℕ) → Deed A
  -- AppendInputEntries of the first entry, of a leader (one entry), of a follower
  Initialize : (n : ℕ) → Deed A
  LeaderAppend : (n : ℕ) (payload : A) → Deed A
  FollowerAppend : (n : ℕ) (r : Append A) (skip : ℕ) → Deed A
  -- DeleteConflictLog for an append request, and for a snapshot; PurgeLog
  TruncateConflict : (n : ℕ) (r : Append A) (k x : ℕ) → Deed A
  TruncateForSnapshot : (n j k : ℕ) (q : Session) (es : List (Entry A)) → Deed A
  Purge : (n k : ℕ) → Deed A
  -- RebuildReplicationStreams; QuitLeader, and a stop of the node; BecomeLeader
  BuildStreams : (n : ℕ) → Deed A
  EndStreams : (n : ℕ) → Deed A
  RecordEstablished : (n : ℕ) → Deed A
  -- Replicate of entries, or of none; of the snapshot
  SendAppend : (n i m : ℕ) → Deed A
  SendSnapshot : (n : ℕ) → Deed A
  -- the Respond of a success, to an append request and to a snapshot
  AcceptAppend : (n : ℕ) (r : Append A) (k x : ℕ) → Deed A
  AcceptSnapshot : (n : ℕ) (q : Session) (es : List (Entry A)) → Deed A
  -- ReplicateCommitted
  CommitByQuorum : (n c : ℕ) (q : ℕ → Bool) → Deed A
  -- Commit of a follower, and of a leader; then one Apply for each entry
  FollowerCommit : (n : ℕ) (r : Append A) (k x : ℕ) (told : Append A) (m : ℕ) → Deed A
  LeaderCommit : (n : ℕ) (told : Append A) (m : ℕ) → Deed A
  Apply : (n i : ℕ) → Deed A
  -- the state machine's install; its build command; a build that ended, used or not
  InstallSnapshot : (n k : ℕ) (q : Session) (es : List (Entry A)) → Deed A
  Note : (n : ℕ) → Deed A
  BuildSnapshot : (n : ℕ) → Deed A
  DropNote : (n : ℕ) → Deed A
  -- before a restart the saved committed id is forgotten
  ForgetSaved : (n : ℕ) → Deed A
  -- a restart, by the snapshot or by the saved committed id
  Restart : (n c : ℕ) → Deed A
  RestartSaved : (n k : ℕ) → Deed A

-- under which condition a deed may be done
abbrev pub MayDo : {A : Type 0} → Setup A → Stores A → Deed A → Type 0
MayDo s W (SaveVote n d) = (W.store n).vote < d
MayDo s W (Win n q) = MayWin s W n q
MayDo s W (FollowByAppend n r) = MayTakeVote s W n r.session.leader (AppendRequest r)
MayDo s W (FollowBySnapshot n q es) = MayTakeVote s W n q.leader (SnapshotRequest q es)
MayDo s W (RequestVotes n) = IsCandidate s (W.store n) n
MayDo s W (AnswerVote n last len) = MayAnswerVote s W n last len
MayDo s W (Initialize n) = MayInitialize (W.store n)
MayDo s W (LeaderAppend n payload) = MayAppendOwn s (W.store n) n payload
MayDo s W (FollowerAppend n r skip) = MayAppendEntries s W n r skip
MayDo s W (TruncateConflict n r k x) = MayTruncateConflict s W n r k x
MayDo s W (TruncateForSnapshot n j k q es) = MayTruncateForSnapshot s W n j k q es
MayDo s W (Purge n k) = MayPurge (W.store n) k
MayDo s W (BuildStreams n) = Unit {0}
MayDo s W (EndStreams n) = Unit {0}
MayDo s W (RecordEstablished n) = Leads s (W.store n) n
MayDo s W (SendAppend n i m) = MaySendAppend s (W.store n) n i m
MayDo s W (SendSnapshot n) = Streams s (W.store n) n
MayDo s W (AcceptAppend n r k x) = MayAccept s W n r k x
MayDo s W (AcceptSnapshot n q es) = MayAcceptSnapshot W n q es
MayDo s W (CommitByQuorum n c q) = MayCommitByQuorum s W n c q
MayDo s W (FollowerCommit n r k x told m) = MayCommit s W n r k x told m
MayDo s W (LeaderCommit n told m) = MayCommitAsLeader s W n told m
MayDo s W (Apply n i) = i < (W.store n).committed
MayDo s W (InstallSnapshot n k q es) = MayInstall s W n k q es
MayDo s W (Note n) = Unit {0}
MayDo s W (BuildSnapshot n) = length (W.store n).snapshot ≤ length (W.store n).noted
MayDo s W (DropNote n) = Unit {0}
MayDo s W (ForgetSaved n) = Unit {0}
MayDo s W (Restart n c) = MayRestart (W.store n) c
MayDo s W (RestartSaved n k) = MayRestartSaved s (W.store n) k

-- another store at n
abbrev pub put : {A : Type 0} → Stores A → ℕ → Store A → Stores A
put W n S = record W { store = updated W.store n S }

-- one more message
abbrev pub say : {A : Type 0} → Stores A → Message A → Stores A
say W m = record W { messages = m ∷ W.messages }

-- the store with m entries applied, and saved as committed
abbrev pub with_committed : {A : Type 0} → Setup A → Store A → ℕ → Store A
with_committed s S m = record S { committed = m; saved = m; saved_leader = last_leader (entry_at s (whole S)) m }

-- the stored entries below index i
abbrev pub below : {A : Type 0} → Store A → ℕ → List (Entry A)
below S i = take (i - S.front) S.entries

-- what a leader sends: m entries from index i on
abbrev pub segment : {A : Type 0} → Setup A → Store A → ℕ → ℕ → Append A
segment s S i m = record { session = S.session; from = i; previous = last_leader (entry_at s (whole S)) i; entries = take m (drop i (whole S)); committed = S.saved; committed_leader = S.saved_leader }

-- a heartbeat that says c entries are committed, the last of them the leader's own
abbrev pub heartbeat : {A : Type 0} → Store A → ℕ → Append A
heartbeat S c = record { session = S.session; from = 0; previous = 0; entries = []; committed = c; committed_leader = S.vote }

-- what a deed does
abbrev pub does : {A : Type 0} → Setup A → Stores A → Deed A → Stores A
does s W (SaveVote n d) = put W n (record (W.store n) { vote = d; vote_committed = false })
does s W (Win n q) = put W n (record (W.store n) { vote_committed = true })
does s W (FollowByAppend n r) = put W n (record (W.store n) { vote = r.session.leader; vote_committed = true })
does s W (FollowBySnapshot n q es) = put W n (record (W.store n) { vote = q.leader; vote_committed = true })
does s W (RequestVotes n) = say W (VoteRequest (W.store n).vote (last_leader_of s (whole (W.store n))) (length (whole (W.store n))))
does s W (AnswerVote n last len) = say W (VoteGranted n (W.store n).vote)
does s W (Initialize n) = put W n (record (W.store n) { entries = first_entry s ∷ [] })
does s W (LeaderAppend n payload) = put W n (record (W.store n) { entries = (W.store n).entries ++ record { leader = (W.store n).vote; payload = payload } ∷ [] })
does s W (FollowerAppend n r skip) = put W n (record (W.store n) { entries = (W.store n).entries ++ drop skip r.entries })
does s W (TruncateConflict n r k x) = put W n (record (W.store n) { entries = below (W.store n) k })
does s W (TruncateForSnapshot n j k q es) = put W n (record (W.store n) { entries = below (W.store n) j })
does s W (Purge n k) = put W n (record (W.store n) { front = k; entries = drop (k - (W.store n).front) (W.store n).entries })
does s W (BuildStreams n) = put W n (record (W.store n) { session = record { leader = (W.store n).vote; membership = last_membership_of s (whole (W.store n)) } })
does s W (EndStreams n) = put W n (record (W.store n) { session = no_session })
does s W (RecordEstablished n) = record W { established = record { leader = (W.store n).vote; entries = whole (W.store n) } ∷ W.established }
does s W (SendAppend n i m) = say W (AppendRequest (segment s (W.store n) i m))
does s W (SendSnapshot n) = say W (SnapshotRequest (W.store n).session (W.store n).snapshot)
does s W (AcceptAppend n r k x) = say W (Accepted n r.session x (suc k))
does s W (AcceptSnapshot n q es) = say W (Accepted n q (last_leader_of s es) (length es))
does s W (CommitByQuorum n c q) =
    record (say W (AppendRequest (heartbeat (W.store n) (suc c)))) {
      decided = record { leader = (W.store n).session.leader; index = c; entries = take (suc c) (whole (W.store n)) } ∷ W.decided;
    }
does s W (FollowerCommit n r k x told m) = put W n (with_committed s (W.store n) m)
does s W (LeaderCommit n told m) = put W n (with_committed s (W.store n) m)
does s W (Apply n i) = record W { executed = record { node = n; index = i; entry = entry_at s (whole (W.store n)) i } ∷ W.executed }
does s W (InstallSnapshot n k q es) = record (put W n (record (W.store n) { snapshot = es; committed = suc k })) { installed = record { node = n; entries = es } ∷ W.installed }
does s W (Note n) = put W n (record (W.store n) { noted = take (W.store n).committed (whole (W.store n)) })
does s W (BuildSnapshot n) = put W n (record (W.store n) { snapshot = (W.store n).noted; noted = [] })
does s W (DropNote n) = put W n (record (W.store n) { noted = [] })
does s W (ForgetSaved n) = put W n (record (W.store n) { saved = 0; saved_leader = 0 })
does s W (Restart n c) = put W n (record (W.store n) { committed = c; noted = []; session = no_session })
does s W (RestartSaved n k) = put W n (record (W.store n) { committed = (W.store n).saved; noted = []; session = no_session })

abbrev pub run_all : {A : Type 0} → Setup A → List (Deed A) → Stores A → Stores A
run_all s [] W = W
run_all s (e ∷ es) W = run_all s es (does s W e)

-- each deed of a list may be done in its turn
abbrev pub AllMayDo : {A : Type 0} → Setup A → List (Deed A) → Stores A → Type 0
AllMayDo s [] W = Unit {0}
AllMayDo s (e ∷ es) W = MayDo s W e × AllMayDo s es (does s W e)
