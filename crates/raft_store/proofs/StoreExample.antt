-- Stores for the computed examples.
use Rattle.std.specs.Prelude.{ℕ, List, [], ◌∷◌, None, Some, take}
use Rattle.raft_state.specs.declared.ids.LogId.{LogId}
use Rattle.raft_state.specs.declared.ids.Vote.{Vote}
use Rattle.raft_state.specs.declared.membership.Members.{Members}
use Rattle.raft_state.specs.declared.membership.SnapshotMeta.{SnapshotMeta}
use Rattle.raft_steps.specs.raft_command.declared.command.Command.TheVariants.{AppendInputEntries, SaveVote, SendVote, RebuildReplicationStreams, BecomeLeader, ReplicateCommitted, Commit}
use Rattle.raft_store.specs.declared.entry.Entry.{Entry}
use Rattle.raft_store.specs.declared.entry.Payload.TheVariants.{Blank, Membership}
use Rattle.raft_store.specs.Entries.{entry_meaning}
use Rattle.raft_store.specs.Mirror.{keyed}
use Rattle.raft_store.specs.Store.{no_store, exec, exec_all}
use Rattle.raft_store.specs.Types.{WorldCommand, WorldStore}
use Rattle.raft_steps.proofs.Example.{lid, pending, committed, nodes_of, stored, three}

-- one voter
abbrev pub alone : Members ℕ (Unit {0})
alone = record { groups = (1 ∷ []) ∷ []; nodes = nodes_of (1 ∷ []) }

-- the first entry, of a membership, and blank entries
abbrev pub first : Members ℕ (Unit {0}) → Entry
first m = record { log_id = lid 0 0 0; payload = Membership m }

abbrev pub blank : ℕ → ℕ → ℕ → Entry
blank t n i = record { log_id = lid t n i; payload = Blank }

-- a snapshot's meta: its last id, and the first membership
abbrev pub meta_upto : LogId ℕ → Members ℕ (Unit {0}) → SnapshotMeta ℕ (Unit {0})
meta_upto x m = record { last_log_id = Some x; last_membership = stored (Some (lid 0 0 0)) m; snapshot_id = [] }

-- a store with a vote and these entries
abbrev pub holding : Vote ℕ → List Entry → WorldStore
holding v es = record (no_store 0) { vote = v; log = keyed entry_meaning es }

-- the nine commands of a voter that is alone, from its first entry to its committed one
abbrev pub first_commands : List WorldCommand
first_commands =
    AppendInputEntries (pending 0 0) (first alone ∷ [])
    ∷ SaveVote (pending 1 1)
    ∷ SendVote (record { vote = pending 1 1; last_log_id = Some (lid 0 0 0) })
    ∷ RebuildReplicationStreams []
    ∷ SaveVote (committed 1 1)
    ∷ BecomeLeader
    ∷ AppendInputEntries (committed 1 1) (blank 1 1 1 ∷ [])
    ∷ ReplicateCommitted (Some (lid 1 1 1))
    ∷ Commit 1 None (lid 1 1 1)
    ∷ []

-- what a store keeps of a command
abbrev pub keeping : WorldCommand → WorldStore → WorldStore
keeping c t = exec entry_meaning (λ es. es) c t

-- the store of that voter after the first few of them
abbrev pub after : ℕ → WorldStore
after n = exec_all entry_meaning (λ es. es) (no_store 0) (take n first_commands)

-- the snapshot of another node's log, up to (4, 2, 6)
abbrev pub snapshot : List Entry
snapshot = first three ∷ blank 1 1 1 ∷ blank 4 2 2 ∷ blank 4 2 3 ∷ blank 4 2 4 ∷ blank 4 2 5 ∷ blank 4 2 6 ∷ []

-- it is stored beside this map, which is not purged
abbrev pub unpurged : List Entry → WorldStore
unpurged es = record (holding (committed 5 3) es) { meta = meta_upto (lid 4 2 6) three; snap = snapshot; applied = snapshot }

-- the map contradicts the snapshot, and ends before it
abbrev pub conflicting : WorldStore
conflicting = unpurged (first three ∷ blank 1 1 1 ∷ blank 5 3 2 ∷ [])
