-- How a start changes a store (Raft paper, figure 2 and section 5.5: a node resumes from its persistent state).
use Rattle.std.specs.Prelude.{◌+◌, nat_lt, nat_le, not, Bool, false, ◌&&◌, List, [], ◌++◌, Option, None, Some, length, take, if◌then◌else◌}
use Rattle.std.specs.Option.{option_to_list}
use Rattle.std.specs.declared.cmp.Ordering.{Ordering}
use Rattle.raft_state.specs.declared.config.RaftEntry
use Rattle.raft_state.specs.declared.ids.LogId.{LogId}
use Rattle.raft_state.specs.declared.membership.StoredMembership.{StoredMembership}
use Rattle.raft_state.specs.declared.state.RaftState.{RaftState}
use Rattle.raft_state.specs.declared.state.ServerState.TheVariants.{Learner}
use Rattle.std.specs.Ordering.{is_lt}
use Rattle.raft_state.specs.Order.{next, last_id_cmp}
use Rattle.raft_state.specs.Log.{at}
use Rattle.raft_state.specs.State.{is_found}
use Rattle.raft_steps.specs.FollowingHandler.{memberships_in}
use Rattle.raft_store.specs.Store.{Store, whole, holds}
use Rattle.raft_store.specs.Mirror.{last_two, map_ids}

-- the store without the saved committed id (figure 2: the commit index is no persistent state)
abbrev pub forgotten : {NID N E : Type 0} → Store NID N E → Store NID N E
forgotten t = record t { saved = None }

module _ {NID : Type 0} (cmp : NID → NID → Ordering) where
  -- the greater of two ids
  abbrev pub greater_id : Option (LogId NID) → Option (LogId NID) → Option (LogId NID)
  greater_id a b = if is_lt (last_id_cmp cmp a b) then b else a

module _ {NID N E : Type 0} (entry : RaftEntry.Ghosts E NID N) where
  -- the committed membership of a log, the one before the last if there is one, and the effective one, the last
  abbrev pub memberships_of : List E → StoredMembership NID N × StoredMembership NID N
  memberships_of es =
      let ms = memberships_in entry es in
      (if nat_le 2 (length ms) then (last_two ms).0 else (last_two ms).1, (last_two ms).1)

module _ {NID N E : Type 0} (cmp : NID → NID → Ordering) (entry : RaftEntry.Ghosts E NID N) where
  -- the stored entries end before the snapshot, or differ at its last index, and the last purged id is below it
  abbrev pub is_outrun : Store NID N E → LogId NID → Bool
  is_outrun t x = not (is_found cmp (at (map_ids entry t) x.index) x) && nat_lt (next t.front) (x.index + 1)

  -- the store after its entries fit the snapshot
  abbrev pub settled_by : Store NID N E → Option (LogId NID) → Store NID N E
  settled_by t None = t
  settled_by t (Some x) = if is_outrun t x then record t { log = []; front = Some x } else t

  abbrev pub settled : Store NID N E → Store NID N E
  settled t = settled_by t t.meta.last_log_id

  -- the state of an engine that starts on a store, committed up to an id
  abbrev pub rebuilt : Store NID N E → Option (LogId NID) → RaftState NID N
  rebuilt t committed = record {
    vote = t.vote;
    time = None;
    ids = option_to_list t.front ++ map_ids entry t;
    purged = t.front;
    purge_to = t.front;
    committed = committed;
    accepted_by = None;
    snap = t.meta;
    cm = (memberships_of entry (whole t)).0;
    em = (memberships_of entry (whole t)).1;
    role = Learner;
    building = false;
  }

  -- an id is held by the whole log
  abbrev pub holds_some : Store NID N E → Option (LogId NID) → Bool
  holds_some t None = false
  holds_some t (Some x) = holds cmp entry t x

  -- committed at a start: the snapshot's last id, or a saved id, if wanted, above it and held by the whole log
  abbrev pub start_committed : Bool → Store NID N E → Option (LogId NID)
  start_committed saved t = if saved && holds_some t t.saved then greater_id cmp t.meta.last_log_id t.saved else t.meta.last_log_id

  -- the store of a start: its entries fit the snapshot, and the whole log is applied up to the committed id
  abbrev pub restarted : Bool → Store NID N E → Store NID N E
  restarted saved t = let fit = settled t in record fit { applied = take (next (start_committed saved fit)) (whole fit) }

  -- the state of the engine that starts on it
  abbrev pub started : Bool → Store NID N E → RaftState NID N
  started saved t = let fit = settled t in rebuilt fit (start_committed saved fit)
