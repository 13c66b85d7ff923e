-- What is promised of the snapshots that servers send.
use Rattle.std.specs.Prelude.{◌≡◌, Contains, List, [], length}
use Rattle.proof_deeds.specs.raft_store.declared.entry.Entry.{Entry}
use Rattle.proof_deeds.specs.raft_calls.declared.message.Body.{Body}
use Rattle.proof_deeds.specs.raft_calls.declared.message.Body.TheVariants.{SnapshotRequest}
use Rattle.proof_deeds.specs.raft_calls.declared.message.Message.{Message}
use Rattle.proof_servers.specs.Laws.{OfEachCluster}

-- the entries of the snapshot that a message brings
abbrev pub entries_in : Body → List Entry
entries_in (SnapshotRequest origin s) = s.snapshot
entries_in _ = []

-- State machine safety of snapshots (Raft paper, figure 3): messages that have left servers, and bring as many entries, bring the same
abbrev pub SnapshotsAgree : Type 0
SnapshotsAgree =
    OfEachCluster (λ given c. (m n : Message) → Contains c.released.bag m → Contains c.released.bag n
    → length (entries_in m.body) ≡ length (entries_in n.body) → entries_in m.body ≡ entries_in n.body)
