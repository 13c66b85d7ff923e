-- When an engine's state is what its store says.
use Rattle.std.specs.Prelude.{ℕ, ◌≡◌, ◌≤◌, ◌⊎◌, List, [], ◌∷◌, ◌++◌, Option, None, length, map}
use Rattle.std.specs.Map.{values_of}
use Rattle.std.specs.Option.{option_to_list}
use Rattle.raft_state.specs.declared.config.RaftEntry
use Rattle.raft_state.specs.declared.ids.LogId.{LogId}
use Rattle.raft_state.specs.declared.ids.Vote.{Vote}
use Rattle.raft_state.specs.declared.membership.StoredMembership.{StoredMembership}
use Rattle.raft_state.specs.declared.membership.SnapshotMeta.{SnapshotMeta}
use Rattle.raft_state.specs.declared.state.RaftState.{RaftState}
use Rattle.raft_state.specs.Log.{last}
use Rattle.raft_state.specs.LogLaws.{IsRun}
use Rattle.raft_state.specs.Members.{no_members}
use Rattle.raft_state.specs.Order.{next}
use Rattle.raft_steps.specs.FollowingHandler.{memberships_in}
use Rattle.raft_store.specs.Store.{Store, whole, index_of}

-- no membership
abbrev pub none : {NID N : Type 0} → StoredMembership NID N
none = record { log_id = None; membership = no_members }

-- the last two of a list, with two others before it
abbrev pub ends : {A : Type 0} → A → A → List A → A × A
ends c e [] = (c, e)
ends c e (m ∷ ms) = ends e m ms

-- the last membership and the one before it, none if there is none
abbrev pub last_two : {NID N : Type 0} → List (StoredMembership NID N) → StoredMembership NID N × StoredMembership NID N
last_two ms = ends none none ms

module _ {NID N E : Type 0} (entry : RaftEntry.Ghosts E NID N) where
  -- a meta describes a list of entries: its last id, and its last membership
  pub record Tells (meta : SnapshotMeta NID N) (es : List E) : Type 0 where
    pub last_id : meta.last_log_id ≡ last (map entry.id_of es)
    pub membership : meta.last_membership ≡ (last_two (memberships_in entry es)).1

  -- the entries of a map at their indexes
  abbrev pub keyed : List E → List (ℕ × E)
  keyed es = map (λ e. (index_of entry e, e)) es

  -- the ids of the stored entries; and with the last purged one before them
  abbrev pub map_ids : Store NID N E → List (LogId NID)
  map_ids t = map entry.id_of (values_of t.log)

  abbrev pub ids_of : Store NID N E → List (LogId NID)
  ids_of t = option_to_list t.front ++ map_ids t

  -- the whole log has no gap: the stored entries are at their indexes and follow the last purged one, which is within the
  -- snapshot
  pub record IsGapless (t : Store NID N E) : Type 0 where
    pub keys : t.log ≡ keyed (values_of t.log)
    pub run : IsRun (next t.front) (map_ids t)
    pub front : next t.front ≤ length t.snap

  -- vote, log and purged id are the stored ones: the ids are the purged one, if any, and those of the entries after it
  pub record Holds (t : Store NID N E) (vote : Vote NID) (ids : List (LogId NID)) (purged : Option (LogId NID)) : Type 0 where
    pub vote_is : vote ≡ t.vote
    pub ids_are : ids ≡ ids_of t
    pub purged_is : purged ≡ t.front
    pub keys : t.log ≡ keyed (values_of t.log)

  -- an engine's state is what its store says; the effective membership is the last one of the whole log, and the
  -- committed one is that one or the one before
  pub record Mirrors (t : Store NID N E) (s : RaftState NID N) : Type 0 where
    pub log : Holds t s.vote s.ids s.purged
    pub meta : s.snap ≡ t.meta
    pub tells : Tells t.meta t.snap
    pub snap_run : IsRun 0 (map entry.id_of t.snap)
    pub em : s.em ≡ (last_two (memberships_in entry (whole t))).1
    pub cm : (s.cm ≡ s.em) ⊎ (s.cm ≡ (last_two (memberships_in entry (whole t))).0)
