-- What a node keeps when it stops (Raft paper, figure 2: its persistent state, and section 7: its snapshot), and how
-- each command changes it.
use Rattle.std.specs.Prelude.{ℕ, ◌+◌, nat_lt, nat_le, Bool, false, not, ◌&&◌, List, [], ◌∷◌, ◌++◌, Option, None, Some, map, filter, fold, length, take}
use Rattle.std.specs.Ordering.{nat_cmp}
use Rattle.std.specs.Map.{values_of}
use Rattle.std.specs.BTreeMap.{insert_entry}
use Rattle.std.specs.declared.cmp.Ordering.{Ordering}
use Rattle.raft_state.specs.declared.config.RaftEntry
use Rattle.raft_state.specs.declared.ids.LogId.{LogId}
use Rattle.raft_state.specs.declared.ids.Vote.{Vote}
use Rattle.raft_state.specs.declared.membership.SnapshotMeta.{SnapshotMeta}
use Rattle.raft_state.specs.Log.{at}
use Rattle.raft_state.specs.Members.{no_members}
use Rattle.raft_state.specs.State.{is_found}
use Rattle.raft_steps.specs.raft_command.declared.command.Command.{Command}
use Rattle.raft_steps.specs.raft_command.declared.command.Command.TheVariants.{SaveVote, AppendInputEntries, DeleteConflictLog, PurgeLog, Commit, StateMachine, BecomeLeader, QuitLeader, ReplicateCommitted, Replicate, RebuildReplicationStreams, SendVote, Respond}
use Rattle.raft_steps.specs.raft_command.declared.sm.CommandPayload.{CommandPayload}
use Rattle.raft_steps.specs.raft_command.declared.sm.CommandPayload.TheVariants.{BuildSnapshot, GetSnapshot, BeginReceivingSnapshot, InstallFullSnapshot, Apply}

-- a vote; the entries by index, ascending; the last purged id; a snapshot with its entries from index 0 on; the saved
-- committed id; the entries that the state machine has applied, from index 0 on
pub record Store (NID N E : Type 0) : Type 0 where
  pub vote : Vote NID
  pub log : List (ℕ × E)
  pub front : Option (LogId NID)
  pub meta : SnapshotMeta NID N
  pub snap : List E
  pub saved : Option (LogId NID)
  pub applied : List E

-- the entries from an index on
abbrev pub past : {E : Type 0} → ℕ → List (ℕ × E) → List E
past n log = values_of (filter (λ p. not (nat_lt p.0 n)) log)

-- the entries from one index on and below another
abbrev pub between : {E : Type 0} → ℕ → ℕ → List (ℕ × E) → List E
between from end log = values_of (filter (λ p. nat_le from p.0 && nat_lt p.0 end) log)

-- the whole log (Raft paper, sections 5.3 and 7): the snapshot's entries, and the stored ones above it
abbrev pub whole : {NID N E : Type 0} → Store NID N E → List E
whole t = t.snap ++ past (length t.snap) t.log

-- the whole log up to an index, that index included
abbrev pub whole_upto : {NID N E : Type 0} → Store NID N E → ℕ → List E
whole_upto t i = take (i + 1) (whole t)

module _ {NID N E : Type 0} (cmp : NID → NID → Ordering) (entry : RaftEntry.Ghosts E NID N) where
  -- the whole log's entry at the id's index has the id
  abbrev pub holds : Store NID N E → LogId NID → Bool
  holds t x = is_found cmp (at (map entry.id_of (whole t)) x.index) x

-- the entries above those that the state machine has applied, up to an id
abbrev pub due : {NID N E : Type 0} → Store NID N E → LogId NID → List E
due t upto = between (length t.applied) (upto.index + 1) t.log

module _ {NID N E : Type 0} (entry : RaftEntry.Ghosts E NID N) where
  abbrev pub index_of : E → ℕ
  index_of e = (entry.id_of e).index

  -- an entry stored at its index
  abbrev pub put : List (ℕ × E) → E → List (ℕ × E)
  put log e = insert_entry nat_cmp log (index_of e) e

module _ {C NID N E D R S : Type 0} (entry : RaftEntry.Ghosts E NID N) (entries_in : S → List E) where
  -- how a command to the state machine changes it: an installed snapshot replaces what was applied
  abbrev pub exec_payload : CommandPayload C NID N E D R S → Store NID N E → Store NID N E
  exec_payload BuildSnapshot t = t
  exec_payload (GetSnapshot _) t = t
  exec_payload (BeginReceivingSnapshot _) t = t
  exec_payload (InstallFullSnapshot s) t = record t { meta = s.meta; snap = entries_in s.snapshot; applied = entries_in s.snapshot }
  exec_payload (Apply _) t = t

  -- how a command changes a store
  abbrev pub exec : Command C NID N E D R S → Store NID N E → Store NID N E
  exec (SaveVote v) t = record t { vote = v }
  exec (AppendInputEntries v es) t = record t { log = fold (put entry) t.log es }
  exec (DeleteConflictLog since) t = record t { log = filter (λ p. nat_lt p.0 since.index) t.log }
  exec (PurgeLog upto) t = record t { log = filter (λ p. nat_lt upto.index p.0) t.log; front = Some upto }
  exec (Commit seq already upto) t = record t { saved = Some upto; applied = t.applied ++ due t upto }
  exec (StateMachine c) t = exec_payload c.payload t
  exec BecomeLeader t = t
  exec QuitLeader t = t
  exec (ReplicateCommitted _) t = t
  exec (Replicate _ _) t = t
  exec (RebuildReplicationStreams _) t = t
  exec (SendVote _) t = t
  exec (Respond _ _) t = t

  -- commands in their order
  abbrev pub exec_all : Store NID N E → List (Command C NID N E D R S) → Store NID N E
  exec_all t [] = t
  exec_all t (c ∷ cs) = exec_all (exec c t) cs

-- the store of a new node, under the first vote
abbrev pub no_store : {NID N E : Type 0} → NID → Store NID N E
no_store first = record {
  vote = record { leader_id = record { term = 0; node_id = first }; committed = false };
  log = [];
  front = None;
  meta = record { last_log_id = None; last_membership = record { log_id = None; membership = no_members }; snapshot_id = [] };
  snap = [];
  saved = None;
  applied = [];
}
