pub mod Quorums  -- two quorums of groups that share one meet
pub mod Memberships  -- the place of the last membership of a log's first entries
pub mod Logs  -- logs that agree on their first entries, and a function with another value at one place
pub mod Invariants  -- what holds of each world that the machine reaches
pub mod Stability  -- what each event changes at most, and that it keeps the invariants
pub mod LeaderIds  -- what follows from the invariants alone: leader ids in logs, and who proposed a membership
pub mod Completeness  -- leader completeness: each leader's log holds what is chosen under a lower leader id
pub mod Consequences  -- what follows from the invariants and completeness in one world
pub mod NodeEvents  -- each event that changes one node alone keeps the invariants
pub mod RecordEvents  -- each event that changes a leader's history, an acknowledgement or a record keeps the invariants
pub mod ProposeEvent  -- an entry that a leader appends to its log keeps the invariants
pub mod EstablishEvent  -- establishing a leader keeps the invariants
pub mod Theorems  -- the invariants hold at the start and after each event, and the theorems follow from them
pub mod Bridge  -- what a node's tests allow in the machine
pub mod Example  -- the example run is allowed
pub mod LowTruncation  -- the run with a low truncation, which executes two entries at one index
pub mod HastyMembership  -- the run with hasty memberships, which executes two entries at one index
pub mod FixedGroups  -- the machine with fixed voter groups is a special case
pub mod Growth  -- each event gives Grows, and leaves a candidate's log alone
pub mod LeaderNumbers  -- leader ids as numbers, in their order
pub mod WholeLogs  -- how a change of stored entries, front or snapshot changes the whole log
pub mod StoresFollow  -- how stores, messages and records relate to the machine, and that each event keeps this
pub mod VoteDeeds  -- a deed is a few events of the machine; the deeds of votes
pub mod LogDeeds  -- the deeds that change a follower's log, acknowledge it, and commit
pub mod SnapshotDeeds  -- the deeds with snapshots, also an install that stops after its truncation
pub mod LeaderDeeds  -- the deeds of candidates and leaders
pub mod StoresTheorems  -- each run of deeds is followed by a world of the machine; the laws of stores
pub mod StoresExample  -- the example runs over stores are allowed
pub mod StoresBridge  -- what a node may conclude from its own store and from messages
