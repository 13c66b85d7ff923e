-- A snapshot that a node has built of the entries that it applied (Raft paper, section 7).
use Rattle.std.specs.Prelude.{nat_lt, List, [], map, length, if◌then◌else◌}
use Rattle.raft_state.specs.declared.config.RaftEntry
use Rattle.raft_state.specs.declared.membership.SnapshotMeta.{SnapshotMeta}
use Rattle.raft_state.specs.declared.membership.StoredMembership.{StoredMembership}
use Rattle.raft_state.specs.Log.{last}
use Rattle.raft_steps.specs.FollowingHandler.{memberships_in}
use Rattle.raft_store.specs.Mirror.{last_two}
use Rattle.raft_store.specs.Store.{Store}

module _ {NID N E : Type 0} (entry : RaftEntry.Ghosts E NID N) where
  -- the last membership of entries, none if there is none
  abbrev pub last_membership : List E → StoredMembership NID N
  last_membership es = (last_two (memberships_in entry es)).1

  -- a snapshot of entries has their last id and their last membership, and no id of its own
  abbrev pub meta_of : List E → SnapshotMeta NID N
  meta_of es = record { last_log_id = last (map entry.id_of es); last_membership = last_membership es; snapshot_id = [] }

  -- a built snapshot replaces a shorter one
  abbrev pub keep_snapshot : List E → Store NID N E → Store NID N E
  keep_snapshot es t = if nat_lt (length t.snap) (length es) then record t { meta = meta_of es; snap = es } else t
