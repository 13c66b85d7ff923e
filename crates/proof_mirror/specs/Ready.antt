-- When each queued command finds what it needs, and the store after them is in step with the engine.
use Rattle.std.specs.Prelude.{ℕ, ◌≡◌, ◌≤◌, ◌<◌, ◌+◌, ◌⊎◌, true, false, List, [], ◌∷◌, ◌++◌, Option, None, Some, IfSome, map, length, take}
use Rattle.std.specs.Map.{values_of}
use Rattle.std.specs.Ordering.{is_eq, is_gt}
use Rattle.std.specs.declared.cmp.Ordering.{Ordering}
use Rattle.raft_state.specs.declared.config.RaftEntry
use Rattle.raft_state.specs.declared.ids.LogId.{LogId}
use Rattle.raft_state.specs.declared.membership.SnapshotMeta.{SnapshotMeta}
use Rattle.raft_state.specs.declared.state.RaftState.{RaftState}
use Rattle.raft_state.specs.Consecutive.{follows_on}
use Rattle.raft_state.specs.Invariants.{LogOrder, first_index}
use Rattle.raft_state.specs.Log.{last, at}
use Rattle.raft_state.specs.LogLaws.{IsRun}
use Rattle.raft_state.specs.Order.{next, vote_cmp}
use Rattle.raft_state.specs.State.{commits, has_log_id}
use Rattle.raft_progress_entry.specs.declared.entry.Inflight.{Inflight}
use Rattle.raft_progress_entry.specs.declared.entry.Inflight.TheVariants as inflight
use Rattle.raft_command.specs.declared.command.Command.{Command}
use Rattle.raft_command.specs.declared.command.Command.TheVariants.{SaveVote, AppendInputEntries, DeleteConflictLog, PurgeLog, Commit, StateMachine, BecomeLeader, QuitLeader, ReplicateCommitted, Replicate, RebuildReplicationStreams, SendVote, Respond}
use Rattle.raft_command.specs.declared.message.Snapshot.{Snapshot}
use Rattle.raft_command.specs.declared.sm.CommandPayload.{CommandPayload}
use Rattle.raft_command.specs.declared.sm.CommandPayload.TheVariants.{BuildSnapshot, GetSnapshot, BeginReceivingSnapshot, InstallFullSnapshot, Apply}
use Rattle.raft_progress_entry.specs.declared.entry.ProgressEntry.{ProgressEntry}
use Rattle.std.specs.List.{AllByRecursion}
use Rattle.raft_steps.specs.FollowingHandler.{new_entries}
use Rattle.raft_steps.specs.Parts.{Core, Led, Machine}
use Rattle.raft_proposer.specs.Joint.{JointLeader, JointCandidate}
use Rattle.raft_store.specs.Store.{Store, whole, index_of, exec, exec_all}
use Rattle.raft_store.specs.Mirror.{Tells, Mirrors, keyed, map_ids, ids_of}

module _ {NID N E : Type 0} (entry : RaftEntry.Ghosts E NID N) where
  -- what holds of a store at any moment: each key is its entry's index, the stored entries follow the last purged one,
  -- which is within the snapshot, whose entries begin at 0 as its meta says; what was applied begins the whole log, and
  -- covers the snapshot
  pub record Shaped (t : Store NID N E) : Type 0 where
    pub keys : t.log ≡ keyed entry (values_of t.log)
    pub run : IsRun (next t.front) (map_ids entry t)
    pub front : next t.front ≤ length t.snap
    pub tells : Tells entry t.meta t.snap
    pub snap_run : IsRun 0 (map entry.id_of t.snap)
    pub applied : t.applied ≡ take (length t.applied) (whole t)
    pub recorded : length t.snap ≤ length t.applied

  -- an id is at its index, as the last purged one or in a stored entry
  abbrev pub IsStored : Store NID N E → LogId NID → Type 0
  IsStored t x = at (ids_of entry t) x.index ≡ Some x

  -- what is sent is there: the ids around a range, and its stored entries; or the snapshot
  abbrev pub HasWhatIsSent : Store NID N E → Inflight NID → Type 0
  HasWhatIsSent t inflight.None = Unit {0}
  HasWhatIsSent t (inflight.Logs _ range) = IfSome range.prev (IsStored t) × IfSome range.last (IsStored t) × (next t.front ≤ next range.prev)
  HasWhatIsSent t (inflight.Snapshot _ last) = last ≡ t.meta.last_log_id

  -- a log may be purged up to an id within the snapshot, not below the last purged one: a stored one, or the snapshot's
  -- last above all stored ones; at the snapshot's end it is its last
  pub record MayPurge (t : Store NID N E) (x : LogId NID) : Type 0 where
    pub above : next t.front ≤ x.index + 1
    pub within : x.index < length t.snap
    pub end : x.index + 1 ≡ length t.snap → t.meta.last_log_id ≡ Some x
    pub held : IsStored t x ⊎ ((t.meta.last_log_id ≡ Some x) × (next (last (ids_of entry t)) ≤ x.index))

module _ {NID N E : Type 0} (cmp : NID → NID → Ordering) (entry : RaftEntry.Ghosts E NID N) where
  -- a store's ids are in order: those of the last purged one and the stored entries are a log in order under the stored
  -- vote, and so are the snapshot's; a purged id at the snapshot's end is its last
  pub record Ordered (t : Store NID N E) : Type 0 where
    pub log : LogOrder cmp t.vote.leader_id (ids_of entry t) t.front
    pub snapshot : LogOrder cmp t.vote.leader_id (map entry.id_of t.snap) None
    pub front : next t.front ≡ length t.snap → t.front ≡ t.meta.last_log_id

  -- entries may be appended: with them the log is in order under the stored vote
  abbrev pub MayPut : Store NID N E → List E → Type 0
  MayPut t es = LogOrder cmp t.vote.leader_id (ids_of entry t ++ map entry.id_of es) t.front

module _ {C NID N E D R S : Type 0} (cmp : NID → NID → Ordering) (entry : RaftEntry.Ghosts E NID N) (entries_in : S → List E) where
  -- a snapshot may be installed: its meta describes its entries, a log in order under the stored vote, beyond what was
  -- applied
  pub record MayInstall (t : Store NID N E) (s : Snapshot C NID N E D R S) : Type 0 where
    pub tells : Tells entry s.meta (entries_in s.snapshot)
    pub order : LogOrder cmp t.vote.leader_id (map entry.id_of (entries_in s.snapshot)) None
    pub past : length t.applied < length (entries_in s.snapshot)

  abbrev pub CanOrder : Store NID N E → CommandPayload C NID N E D R S → Type 0
  CanOrder t BuildSnapshot = Unit {0}
  CanOrder t (GetSnapshot _) = Unit {0}
  CanOrder t (BeginReceivingSnapshot _) = Unit {0}
  CanOrder t (InstallFullSnapshot s) = MayInstall t s
  CanOrder t (Apply _) = Unit {0}

module _ {C NID N E D R S : Type 0} (cmp : NID → NID → Ordering) (entry : RaftEntry.Ghosts E NID N) (entries_in : S → List E) where
  -- what a command needs of the store at its turn: a saved vote is above the stored one, entries continue the log, a
  -- truncation begins at a stored id above what was applied, a purge is within the snapshot, a commit ends at a held id
  -- above what was applied, what is sent is there, and the vote of a request is stored
  abbrev pub Fits : Store NID N E → Command C NID N E D R S → Type 0
  Fits t (SaveVote v) = is_gt (vote_cmp cmp v t.vote) ≡ true
  Fits t (AppendInputEntries _ es) = MayPut cmp entry t es
  Fits t (DeleteConflictLog since) = IsStored entry t since × (length t.applied ≤ since.index)
  Fits t (PurgeLog upto) = MayPurge entry t upto
  Fits t (Commit _ _ upto) = (at (map entry.id_of (whole t)) upto.index ≡ Some upto) × (length t.applied ≤ upto.index)
  Fits t (StateMachine c) = CanOrder cmp entry entries_in t c.payload
  Fits t BecomeLeader = Unit {0}
  Fits t QuitLeader = Unit {0}
  Fits t (ReplicateCommitted _) = Unit {0}
  Fits t (Replicate _ f) = HasWhatIsSent entry t f
  Fits t (RebuildReplicationStreams _) = Unit {0}
  Fits t (SendVote req) = req.vote ≡ t.vote
  Fits t (Respond _ _) = Unit {0}

  -- the same before other commands: what a leader tells as committed will be applied once they are done
  abbrev pub FitsBefore : Store NID N E → List (Command C NID N E D R S) → Command C NID N E D R S → Type 0
  FitsBefore t cs (ReplicateCommitted (Some x)) = x.index < length (exec_all entry entries_in t cs).applied
  FitsBefore t cs (ReplicateCommitted None) = Unit {0}
  FitsBefore t cs (SaveVote v) = Fits t (SaveVote v)
  FitsBefore t cs (AppendInputEntries v es) = Fits t (AppendInputEntries v es)
  FitsBefore t cs (DeleteConflictLog since) = Fits t (DeleteConflictLog since)
  FitsBefore t cs (PurgeLog upto) = Fits t (PurgeLog upto)
  FitsBefore t cs (Commit seq already upto) = Fits t (Commit seq already upto)
  FitsBefore t cs (StateMachine c) = Fits t (StateMachine c)
  FitsBefore t cs BecomeLeader = Unit {0}
  FitsBefore t cs QuitLeader = Unit {0}
  FitsBefore t cs (Replicate target f) = Fits t (Replicate target f)
  FitsBefore t cs (RebuildReplicationStreams _) = Unit {0}
  FitsBefore t cs (SendVote req) = Fits t (SendVote req)
  FitsBefore t cs (Respond _ _) = Unit {0}

  -- the store is shaped before, between and after commands, so that the node may stop anywhere, and each finds what it
  -- needs
  abbrev pub Ready : Store NID N E → List (Command C NID N E D R S) → Type 0
  Ready t [] = Shaped entry t
  Ready t (c ∷ cs) = Shaped entry t × FitsBefore t cs c × Ready (exec entry entries_in c t) cs

-- the marks of a state rise by index, and its ids are a run from the purged one on (a part of `IsSoundState`)
pub record Marks {NID N : Type 0} (s : RaftState NID N) : Type 0 where
  pub run : IsRun (first_index s.purged) s.ids
  pub purged : next s.purged ≤ next s.purge_to
  pub target : next s.purge_to ≤ next s.snap.last_log_id
  pub snapshot : next s.snap.last_log_id ≤ next s.committed
  pub committed : next s.committed ≤ next (last s.ids)

module _ {NID N E : Type 0} (entry : RaftEntry.Ghosts E NID N) where
  -- a store is in step with an engine's state: it is mirrored, and what was applied is the committed beginning of the
  -- whole log
  pub record InStep (t : Store NID N E) (s : RaftState NID N) : Type 0 where
    pub mirrors : Mirrors entry t s
    pub applied : t.applied ≡ take (next s.committed) (whole t)
    pub marks : Marks s

module _ {C NID N E D R S : Type 0} (cmp : NID → NID → Ordering) (entry : RaftEntry.Ghosts E NID N) (entries_in : S → List E) where
  -- the queued commands are ready, and the store after them is in step with the state
  pub record Awaits (t : Store NID N E) (cs : List (Command C NID N E D R S)) (s : RaftState NID N) : Type 0 where
    pub ready : Ready cmp entry entries_in t cs
    pub in_step : InStep entry (exec_all entry entries_in t cs) s

  abbrev pub Pending : Store NID N E → Core C NID N E D R S → Type 0
  Pending t c = Awaits t c.output.items c.state

-- the search in a target's log ends at or above what matches, and within the log (a part of `EntryFits`)
pub record SearchFits {NID : Type 0} (ids : List (LogId NID)) (e : ProgressEntry NID) : Type 0 where
  pub above : next e.matching ≤ e.searching_end
  pub below : e.searching_end ≤ next (last ids)

-- a leader's last id is its log's, and what it knows of its targets is within the log (a part of `LeaderFits`)
pub record KnowsLog {C NID N E D R S : Type 0} (ids : List (LogId NID)) (l : JointLeader C NID N E D R S) : Type 0 where
  pub end : next l.last_log_id ≡ next (last ids)
  pub rows : AllByRecursion (λ row. SearchFits ids row.1) l.progress.rows

module _ {C NID N E D R S : Type 0} (cmp : NID → NID → Ordering) (entry : RaftEntry.Ghosts E NID N) (entries_in : S → List E) where
  -- the same of a leader's core, and of an engine
  pub record PendingLed (t : Store NID N E) (l : Led C NID N E D R S) : Type 0 where
    pub core : Pending cmp entry entries_in t l.core
    pub knows : KnowsLog l.core.state.ids l.leader

  pub record PendingIn (t : Store NID N E) (m : Machine C NID N E D R S) : Type 0 where
    pub core : Pending cmp entry entries_in t m.core
    pub knows : IfSome m.leader (KnowsLog m.core.state.ids)

module _ {NID N : Type 0} (cmp : NID → NID → Ordering) where
  -- a commit that changes something ends at an id of the log, above the committed index
  abbrev pub CommitFits : RaftState NID N → LogId NID → Type 0
  CommitFits s x = commits cmp s (Some x) ≡ true → (at s.ids x.index ≡ Some x) × (next s.committed ≤ x.index)

  -- a candidate under the state's vote has the log's last index (a part of `CandidateFits`)
  abbrev pub AsksAtEnd : RaftState NID N → JointCandidate NID → Type 0
  AsksAtEnd s c = is_eq (vote_cmp cmp c.vote s.vote) ≡ true → next c.last_log_id ≡ next (last s.ids)

-- if the log has an id at an index, the committed membership is below it: a truncation from there leaves it
abbrev pub LeavesMembership : {NID N : Type 0} → RaftState NID N → ℕ → Type 0
LeavesMembership s i = (x : LogId _) → at s.ids i ≡ Some x → next s.cm.log_id ≤ i

-- a truncation from the first of these entries leaves the committed membership
abbrev pub LeavesBefore : {NID N E : Type 0} → RaftEntry.Ghosts E NID N → RaftState NID N → List E → Type 0
LeavesBefore entry s [] = Unit {0}
LeavesBefore entry s (e ∷ es) = LeavesMembership s (index_of entry e)

module _ {NID N E : Type 0} (cmp : NID → NID → Ordering) (entry : RaftEntry.Ghosts E NID N) where
  -- what an append needs: its truncation leaves the committed membership
  pub record AppendFits (s : RaftState NID N) (prev : Option (LogId NID)) (es : List E) : Type 0 where
    pub conflict : IfSome prev (λ x. has_log_id cmp s x ≡ false → LeavesMembership s x.index)
    pub replaced : LeavesBefore entry s (new_entries cmp entry s es)

-- what a snapshot needs: its meta describes its entries, whose ids are consecutive from index 0 on
pub record SnapshotTells {NID N E : Type 0} (cmp : NID → NID → Ordering) (entry : RaftEntry.Ghosts E NID N) (meta : SnapshotMeta NID N) (es : List E) : Type 0 where
  pub tells : Tells entry meta es
  pub follow : follows_on cmp None (map entry.id_of es) ≡ true
