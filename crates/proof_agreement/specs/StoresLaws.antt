-- What is promised about the stores, the messages and the records of each run of deeds.
use Rattle.std.specs.Prelude.{ℕ, suc, ◌<◌, ◌≤◌, ◌≡◌, ◌⊎◌, true, Bool, List, ◌++◌, length, take}
use Rattle.proof_agreement.specs.Machine.{Entry, Setup, Includes, IsQuorum}
use Rattle.proof_agreement.specs.Stores.{Store, ExecutedCommit, InstalledSnapshot, DecidedCommit, EstablishedLeader, Stores, empty, whole, applied, entry_at, effective_membership_of}
use Rattle.proof_agreement.specs.Deeds.{Deed, HasAccepted, run_all}

-- ys begins with xs
abbrev pub BeginsWith : {A : Type 0} → List (Entry A) → List (Entry A) → Type 0
BeginsWith ys xs = take (length xs) ys ≡ xs

-- an executed commit, or an installed snapshot, gives the entry e at the index i
abbrev pub Gives : {A : Type 0} → Setup A → Stores A → ℕ → Entry A → Type 0
Gives s W i e =
    ((x : ExecutedCommit _) × Includes W.executed x × (x.index ≡ i) × (x.entry ≡ e))
    ⊎ ((x : InstalledSnapshot _) × Includes W.installed x × (i < length x.entries) × (entry_at s x.entries i ≡ e))

-- State Machine Safety (Raft paper, section 5): no two of them give different entries at one index
abbrev pub StoresAgree : {A : Type 0} → Setup A → Stores A → Type 0
StoresAgree s W = (i : ℕ) (e f : Entry _) → Gives s W i e → Gives s W i f → e ≡ f

-- something was agreed on: what is executed or installed stands in the log of a leader's commit
abbrev pub StoresDecided : {A : Type 0} → Setup A → Stores A → Type 0
StoresDecided s W = (i : ℕ) (e : Entry _) → Gives s W i e → (c : DecidedCommit _) × Includes W.decided c × (i < length c.entries) × (entry_at s c.entries i ≡ e)

-- so does what a node has applied
abbrev pub AppliedDecided : {A : Type 0} → Setup A → Stores A → Type 0
AppliedDecided s W =
    (n i : ℕ) → i < length (applied (W.store n))
    → (c : DecidedCommit _) × Includes W.decided c × (i < length c.entries) × (entry_at s c.entries i ≡ entry_at s (applied (W.store n)) i)

-- what a commit records of its leader's log ends with the entry that it commits, which is the leader's own
abbrev pub CommitsEnd : {A : Type 0} → Setup A → Stores A → Type 0
CommitsEnd s W = (c : DecidedCommit _) → Includes W.decided c → (length c.entries ≡ suc c.index) × ((entry_at s c.entries c.index).leader ≡ c.leader)

-- Leader Completeness (Raft paper, section 5) over the records: whichever came first, the whole log of a leader begins
-- with what a leader of a lower id committed
abbrev pub StoresComplete : {A : Type 0} → Stores A → Type 0
StoresComplete W = (c : DecidedCommit _) (l : EstablishedLeader _) → Includes W.decided c → Includes W.established l → c.leader < l.leader → BeginsWith l.entries c.entries

-- a whole log of a node, or of a record
abbrev pub IsWholeLog : {A : Type 0} → Stores A → List (Entry A) → Type 0
IsWholeLog W xs =
    ((n : ℕ) × (whole (W.store n) ≡ xs))
    ⊎ ((l : EstablishedLeader _) × Includes W.established l × (l.entries ≡ xs))
    ⊎ ((c : DecidedCommit _) × Includes W.decided c × (c.entries ≡ xs))

-- Log Matching (Raft paper, section 5.3): two whole logs with the same id at an index are the same up to it
abbrev pub StoresMatch : {A : Type 0} → Setup A → Stores A → Type 0
StoresMatch s W =
    (xs ys : List (Entry _)) (i : ℕ) →
    IsWholeLog W xs →
    IsWholeLog W ys →
    i < length xs →
    i < length ys →
    (entry_at s xs i).leader ≡ (entry_at s ys i).leader →
    take (suc i) xs ≡ take (suc i) ys

-- what is recorded of a leader's whole log: all of it once the leader is established, and what it decides
abbrev pub IsRecordOf : {A : Type 0} → Stores A → ℕ → List (Entry A) → Type 0
IsRecordOf W d xs =
    ((l : EstablishedLeader _) × Includes W.established l × (l.leader ≡ d) × (l.entries ≡ xs))
    ⊎ ((c : DecidedCommit _) × Includes W.decided c × (c.leader ≡ d) × (c.entries ≡ xs))

-- Leader Append-Only (Raft paper, section 5.3): a leader's log only grows, so of two records the longer begins with the
-- shorter
abbrev pub LeadersAppend : {A : Type 0} → Stores A → Type 0
LeadersAppend W = (d : ℕ) (xs ys : List (Entry _)) → IsRecordOf W d xs → IsRecordOf W d ys → length xs ≤ length ys → BeginsWith ys xs

-- of what two nodes have applied, the longer begins with the shorter
abbrev pub AppliedAgree : {A : Type 0} → Stores A → Type 0
AppliedAgree W = (n m : ℕ) → (W.store n).committed ≤ (W.store m).committed → BeginsWith (applied (W.store m)) (applied (W.store n))

-- a leader's own entries are above all that leaders of lower ids ever commit (so a read that waits for one of them is
-- safe)
abbrev pub OwnEntriesAbove : {A : Type 0} → Setup A → Stores A → Type 0
OwnEntriesAbove s W =
    (c : DecidedCommit _) (xs : List (Entry _)) (i : ℕ) →
    Includes W.decided c →
    IsWholeLog W xs →
    i < length xs →
    c.leader < (entry_at s xs i).leader →
    c.index < i

-- what d's node stores after the first deeds of a run
abbrev pub leader_store : {A : Type 0} → Setup A → List (Deed A) → ℕ → Store A
leader_store s before d = (run_all s before (empty s)).store (s.owner d)

-- at a moment of the run, after the deeds `before`, d's node led under d, and its whole log held the id of d at index k
pub record LedWith {A : Type 0} (s : Setup A) (deeds : List (Deed A)) (d k : ℕ) : Type 0 where
  pub before : List (Deed A)
  pub rest : List (Deed A)
  pub all : before ++ rest ≡ deeds
  pub vote : (leader_store s before d).vote ≡ d
  pub vote_committed : (leader_store s before d).vote_committed ≡ true
  pub past : k < length (whole (leader_store s before d))
  pub own : (entry_at s (whole (leader_store s before d)) k).leader ≡ d

-- The entry at k of leader d is chosen in a run: at such a moment, a quorum of the membership that was effective then
-- is of d's own node and of nodes that accepted the entry, whenever (Raft paper, section 5.4.2).
pub record IsChosen {A : Type 0} (s : Setup A) (deeds : List (Deed A)) (d k : ℕ) : Type 0 where
  pub moment : LedWith s deeds d k
  pub by : ℕ → Bool
  pub quorum : IsQuorum s (effective_membership_of s (whole (leader_store s moment.before d))) by
  pub each : (n : ℕ) → by n ≡ true → (n ≡ s.owner d) ⊎ HasAccepted (run_all s deeds (empty s)) n d k

-- Leader Completeness for chosen entries: the whole log of each leader of a greater id begins with what d's log had up
-- to the chosen entry
abbrev pub ChosenComplete : {A : Type 0} → Setup A → List (Deed A) → Type 0
ChosenComplete s deeds =
    (d k : ℕ) (x : IsChosen s deeds d k) (l : EstablishedLeader _) →
    Includes (run_all s deeds (empty s)).established l →
    d < l.leader →
    BeginsWith l.entries (take (suc k) (whole (leader_store s x.moment.before d)))

-- what a leader commits by a quorum is chosen by it
abbrev pub CommittedIsChosen : {A : Type 0} → Setup A → List (Deed A) → Type 0
CommittedIsChosen s deeds = (c : DecidedCommit _) → Includes (run_all s deeds (empty s)).decided c → IsChosen s deeds c.leader c.index

-- n acknowledged the entry at k of leader d: by a reply, or as d's own node while it led with that entry, or a later
-- one, in its log
abbrev pub HasAcknowledged : {A : Type 0} → Setup A → List (Deed A) → ℕ → ℕ → ℕ → Type 0
HasAcknowledged s deeds n d k = HasAccepted (run_all s deeds (empty s)) n d k ⊎ ((n ≡ s.owner d) × (j : ℕ) × (k ≤ j) × LedWith s deeds d j)

-- a quorum of one membership is a quorum of each: so it is if all have the same voter groups
abbrev pub OneQuorum : {A : Type 0} → Setup A → Type 0
OneQuorum s = (x y : _) (q : ℕ → Bool) → IsQuorum s x q → IsQuorum s y q

-- the entry at k of leader d is chosen by nodes whose acknowledgements are a quorum of the membership x
pub record IsChosenBy {A : Type 0} (s : Setup A) (deeds : List (Deed A)) (x : A) (d k : ℕ) : Type 0 where
  pub by : ℕ → Bool
  pub quorum : IsQuorum s x by
  pub each : (n : ℕ) → by n ≡ true → HasAcknowledged s deeds n d k

-- Leader Completeness for chosen entries when the groups never change: an entry of any whole log that its leader d has
-- chosen is in the whole log of each leader of a greater id
abbrev pub ChosenCompleteFixed : {A : Type 0} → Setup A → List (Deed A) → Type 0
ChosenCompleteFixed s deeds =
    (x : _) (d k : ℕ) (xs : List (Entry _)) (l : EstablishedLeader _) →
    OneQuorum s →
    IsChosenBy s deeds x d k →
    IsWholeLog (run_all s deeds (empty s)) xs →
    k < length xs →
    (entry_at s xs k).leader ≡ d →
    Includes (run_all s deeds (empty s)).established l →
    d < l.leader →
    BeginsWith l.entries (take (suc k) xs)
