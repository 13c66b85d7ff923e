-- Stores whose snapshots are states (Raft paper, section 7). Where a store of `raft_store` has a list of entries from index 0 on,
-- for its snapshot and for what was applied, these have its end, its last id, its last two memberships, and the state that its
-- entries give. Each definition is that of `raft_store` which its name says after `packed_`.
use Rattle.std.specs.Prelude.{ℕ, ◌+◌, ◌-◌, nat_lt, nat_le, not, Bool, false, ◌&&◌, List, [], ◌++◌, Option, None, Some, filter, fold, length, map, take, is_some, if◌then◌else◌}
use Rattle.std.specs.Option.{option_to_list}
use Rattle.std.specs.Ordering.{nat_cmp}
use Rattle.raft_state.specs.declared.ids.LogId.{LogId}
use Rattle.raft_state.specs.declared.ids.Vote.{Vote}
use Rattle.raft_state.specs.declared.membership.SnapshotMeta.{SnapshotMeta}
use Rattle.raft_state.specs.declared.membership.StoredMembership.{StoredMembership}
use Rattle.raft_state.specs.declared.state.RaftState.{RaftState}
use Rattle.raft_state.specs.declared.state.ServerState.TheVariants.{Learner}
use Rattle.raft_state.specs.Log.{at, last}
use Rattle.raft_state.specs.Order.{next}
use Rattle.raft_state.specs.State.{is_found}
use Rattle.raft_command.specs.declared.command.Command.TheVariants.{SaveVote, AppendInputEntries, DeleteConflictLog, PurgeLog, Commit, StateMachine, BecomeLeader, QuitLeader, ReplicateCommitted, Replicate, RebuildReplicationStreams, SendVote, Respond}
use Rattle.raft_command.specs.declared.sm.CommandPayload.TheVariants.{BuildSnapshot, GetSnapshot, BeginReceivingSnapshot, InstallFullSnapshot, Apply}
use Rattle.raft_steps.specs.FollowingHandler.{memberships_in, stored_in}
use Rattle.raft_store.specs.declared.entry.Entry.{Entry}
use Rattle.raft_store.specs.Entries.{entry_meaning}
use Rattle.raft_store.specs.Mirror.{last_two}
use Rattle.raft_store.specs.Restart.{greater_id}
use Rattle.raft_store.specs.Store.{between, past, put}
use Rattle.raft_store.specs.Types.{WorldCommand, WorldPayload, WorldStore}
use Rattle.std.specs.Map.{values_of}

abbrev pub WorldMembership : Type 0
WorldMembership = StoredMembership ℕ (Unit {0})

-- a state machine: its first state, and what an entry makes of a state
pub record Application (S : Type 0) : Type 0 where
  pub first : S
  pub apply : S → Entry → S

-- what is kept of a list of entries from index 0 on: how many they are; their last id; the membership before the last, and the
-- last one (without an id, if there is none); and the state that they give
pub record Packed (S : Type 0) : Type 0 where
  pub end : ℕ
  pub last_id : Option (LogId ℕ)
  pub before : WorldMembership
  pub effective : WorldMembership
  pub state : S

-- a vote, the entries by index, the last purged id, the snapshot's meta and the saved committed id, as in any store; and the
-- snapshot and what was applied, packed
pub record PackedStore (S : Type 0) : Type 0 where
  pub vote : Vote ℕ
  pub log : List (ℕ × Entry)
  pub front : Option (LogId ℕ)
  pub meta : SnapshotMeta ℕ (Unit {0})
  pub snap : Packed S
  pub saved : Option (LogId ℕ)
  pub applied : Packed S

module _ {S : Type 0} where
  -- the committed membership of a log, the one before the last if there is one, and the effective one, the last
  abbrev pub packed_memberships : Packed S → WorldMembership × WorldMembership
  packed_memberships p = (if is_some p.before.log_id then p.before else p.effective, p.effective)

  -- the meta of a snapshot that was built
  abbrev pub packed_meta : Packed S → SnapshotMeta ℕ (Unit {0})
  packed_meta p = record { last_log_id = p.last_id; last_membership = p.effective; snapshot_id = [] }

  -- a built snapshot replaces a shorter one
  abbrev pub packed_keep_snapshot : Packed S → PackedStore S → PackedStore S
  packed_keep_snapshot p t = if nat_lt t.snap.end p.end then record t { meta = packed_meta p; snap = p } else t

  -- the entries above the snapshot
  abbrev pub packed_rest : PackedStore S → List Entry
  packed_rest t = past t.snap.end t.log

  -- the entries that a commit applies
  abbrev pub packed_due : PackedStore S → LogId ℕ → List Entry
  packed_due t upto = between t.applied.end (upto.index + 1) t.log

module _ {S : Type 0} (app : Application S) where
  -- what is kept of entries
  abbrev pub packed : List Entry → Packed S
  packed es = record {
    end = length es;
    last_id = last (map entry_meaning.id_of es);
    before = (last_two (memberships_in entry_meaning es)).0;
    effective = (last_two (memberships_in entry_meaning es)).1;
    state = fold app.apply app.first es;
  }

  -- what is kept after one more entry, and after several
  abbrev pub with_entry : Packed S → Entry → Packed S
  with_entry p e = record {
    end = p.end + 1;
    last_id = Some e.log_id;
    before = elim (stored_in entry_meaning e) [ None ↦ p.before | Some m ↦ p.effective ];
    effective = elim (stored_in entry_meaning e) [ None ↦ p.effective | Some m ↦ m ];
    state = app.apply p.state e;
  }

  abbrev pub with_entries : Packed S → List Entry → Packed S
  with_entries p es = fold with_entry p es

  -- a store, packed
  abbrev pub packed_store : WorldStore → PackedStore S
  packed_store t = record { vote = t.vote; log = t.log; front = t.front; meta = t.meta; snap = packed t.snap; saved = t.saved; applied = packed t.applied }

  -- a command to the state machine: an installed snapshot is the one that the message brought
  abbrev pub packed_exec_payload : Packed S → WorldPayload → PackedStore S → PackedStore S
  packed_exec_payload brought BuildSnapshot t = t
  packed_exec_payload brought (GetSnapshot _) t = t
  packed_exec_payload brought (BeginReceivingSnapshot _) t = t
  packed_exec_payload brought (InstallFullSnapshot s) t = record t { meta = s.meta; snap = brought; applied = brought }
  packed_exec_payload brought (Apply _) t = t

  -- how a command changes a store
  abbrev pub packed_exec : Packed S → WorldCommand → PackedStore S → PackedStore S
  packed_exec brought (SaveVote v) t = record t { vote = v }
  packed_exec brought (AppendInputEntries v es) t = record t { log = fold (put entry_meaning) t.log es }
  packed_exec brought (DeleteConflictLog since) t = record t { log = filter (λ p. nat_lt p.0 since.index) t.log }
  packed_exec brought (PurgeLog upto) t = record t { log = filter (λ p. nat_lt upto.index p.0) t.log; front = Some upto }
  packed_exec brought (Commit seq already upto) t = record t { saved = Some upto; applied = with_entries t.applied (packed_due t upto) }
  packed_exec brought (StateMachine c) t = packed_exec_payload brought c.payload t
  packed_exec brought BecomeLeader t = t
  packed_exec brought QuitLeader t = t
  packed_exec brought (ReplicateCommitted _) t = t
  packed_exec brought (Replicate _ _) t = t
  packed_exec brought (RebuildReplicationStreams _) t = t
  packed_exec brought (SendVote _) t = t
  packed_exec brought (Respond _ _) t = t

  -- the ids of the stored entries
  abbrev pub packed_ids : PackedStore S → List (LogId ℕ)
  packed_ids t = map entry_meaning.id_of (values_of t.log)

  -- the stored entries end before the snapshot, or differ at its last index, and the last purged id is below it. Then a start
  -- drops them
  abbrev pub packed_outrun : PackedStore S → LogId ℕ → Bool
  packed_outrun t x = not (is_found nat_cmp (at (packed_ids t) x.index) x) && nat_lt (next t.front) (x.index + 1)

  abbrev pub packed_settled_by : PackedStore S → Option (LogId ℕ) → PackedStore S
  packed_settled_by t None = t
  packed_settled_by t (Some x) = if packed_outrun t x then record t { log = []; front = Some x } else t

  abbrev pub packed_settled : PackedStore S → PackedStore S
  packed_settled t = packed_settled_by t t.meta.last_log_id

  -- an id from the snapshot's end on is held by the log. (Of one below, a packed store can't tell)
  abbrev pub packed_holds : PackedStore S → Option (LogId ℕ) → Bool
  packed_holds t None = false
  packed_holds t (Some x) = nat_le t.snap.end x.index && is_found nat_cmp (at (map entry_meaning.id_of (packed_rest t)) x.index) x

  -- committed at a start: the snapshot's last id; or a saved one, if wanted, above it and held
  abbrev pub packed_committed : Bool → PackedStore S → Option (LogId ℕ)
  packed_committed saved t = if saved && packed_holds t t.saved then greater_id nat_cmp t.meta.last_log_id t.saved else t.meta.last_log_id

  -- the whole log, and its front up to an index
  abbrev pub packed_whole : PackedStore S → Packed S
  packed_whole t = with_entries t.snap (packed_rest t)

  abbrev pub packed_upto : PackedStore S → ℕ → Packed S
  packed_upto t n = with_entries t.snap (take (n - t.snap.end) (packed_rest t))

  -- the state of an engine that starts on a store
  abbrev pub packed_rebuilt : PackedStore S → Option (LogId ℕ) → RaftState ℕ (Unit {0})
  packed_rebuilt t committed = record {
    vote = t.vote;
    time = None;
    ids = option_to_list t.front ++ packed_ids t;
    purged = t.front;
    purge_to = t.front;
    committed = committed;
    accepted_by = None;
    snap = t.meta;
    cm = (packed_memberships (packed_whole t)).0;
    em = (packed_memberships (packed_whole t)).1;
    role = Learner;
    building = false;
  }

  -- the store of a start, and the state of the engine that starts on it
  abbrev pub packed_restarted : Bool → PackedStore S → PackedStore S
  packed_restarted saved t = let fit = packed_settled t in record fit { applied = packed_upto fit (next (packed_committed saved fit)) }

  abbrev pub packed_started : Bool → PackedStore S → RaftState ℕ (Unit {0})
  packed_started saved t = let fit = packed_settled t in packed_rebuilt fit (packed_committed saved fit)
