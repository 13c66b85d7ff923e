-- Entries by index, without a gap.
use Rattle.std.specs.Prelude.{ℕ, ◌+◌, List, [], ◌∷◌, length, map}
use Rattle.raft_state.specs.declared.config.RaftEntry
use Rattle.raft_state.specs.LogLaws.{IsRun}
use Rattle.raft_steps.specs.raft_command.declared.command.Command.TheVariants.{SaveVote, AppendInputEntries, DeleteConflictLog, PurgeLog, Commit, StateMachine, BecomeLeader, QuitLeader, ReplicateCommitted, Replicate, RebuildReplicationStreams, SendVote, Respond}
use Rattle.raft_store.specs.Entries.{entry_meaning}
use Rattle.raft_store.specs.Store.{index_of}
use Rattle.raft_store.specs.Types.{WorldCommand, WorldStore}

-- items with their indexes, from the first one's on
abbrev pub numbered : {A : Type 0} → ℕ → List A → List (ℕ × A)
numbered i [] = []
numbered i (x ∷ xs) = (i, x) ∷ numbered (i + 1) xs

module _ {NID N E : Type 0} (entry : RaftEntry.Ghosts E NID N) where
  -- the index at which entries continue a map: after its last one, or, where it is empty, any
  abbrev pub next_in : List (ℕ × E) → List E → ℕ
  next_in [] [] = 0
  next_in [] (e ∷ es) = index_of entry e
  next_in (p ∷ ps) es = p.0 + length (p ∷ ps)

  -- entries continue a map: their indexes are consecutive from there on
  abbrev pub Continues : List (ℕ × E) → List E → Type 0
  Continues log es = IsRun (next_in log es) (map entry.id_of es)

-- a store can take a command: entries that are appended continue the stored ones
abbrev pub CanStore : WorldCommand → WorldStore → Type 0
CanStore (AppendInputEntries v es) t = Continues entry_meaning t.log es
CanStore (SaveVote _) t = Unit {0}
CanStore (DeleteConflictLog _) t = Unit {0}
CanStore (PurgeLog _) t = Unit {0}
CanStore (Commit _ _ _) t = Unit {0}
CanStore (StateMachine _) t = Unit {0}
CanStore BecomeLeader t = Unit {0}
CanStore QuitLeader t = Unit {0}
CanStore (ReplicateCommitted _) t = Unit {0}
CanStore (Replicate _ _) t = Unit {0}
CanStore (RebuildReplicationStreams _) t = Unit {0}
CanStore (SendVote _) t = Unit {0}
CanStore (Respond _ _) t = Unit {0}
