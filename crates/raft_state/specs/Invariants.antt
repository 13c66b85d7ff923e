-- What holds of a node's state between any two calls (openraft's `Valid<RaftState>`).
use Rattle.std.specs.Prelude.{◌≡◌, ℕ, ◌+◌, ◌^◌, ◌<◌, true, ◌||◌, List, [], ◌∷◌, Option, None, Some, IfSome, slice_get}
use Rattle.std.specs.List.{AllByRecursion}
use Rattle.std.specs.declared.cmp.Ordering.{Ordering}
use Rattle.std.specs.Ordering.{is_eq, is_le, is_lt}
use Rattle.raft_state.specs.declared.ids.LeaderId.{LeaderId}
use Rattle.raft_state.specs.declared.ids.LogId.{LogId}
use Rattle.raft_state.specs.declared.state.RaftState.{RaftState}
use Rattle.raft_state.specs.Fits.{fits, is_within}
use Rattle.raft_state.specs.Log.{last}
use Rattle.raft_state.specs.LogLaws.{IsRun}
use Rattle.raft_state.specs.Order.{last_id_cmp, leader_id_cmp}

-- the index of a log's first id: that of the last purged one, or 0
abbrev pub first_index : {NID : Type 0} → Option (LogId NID) → ℕ
first_index None = 0
first_index (Some x) = x.index

-- rising ids, from the one before them on
abbrev pub Rises : {NID : Type 0} → (NID → NID → Ordering) → Option (LogId NID) → List (LogId NID) → Type 0
Rises cmp prev [] = Unit {0}
Rises cmp prev (x ∷ xs) = (is_lt (last_id_cmp cmp prev (Some x)) ≡ true) × Rises cmp (Some x) xs

-- the leader of an id isn't above this one
abbrev pub IsUnder : {NID : Type 0} → (NID → NID → Ordering) → LeaderId NID → LogId NID → Type 0
IsUnder cmp leader x = is_le (leader_id_cmp cmp x.leader_id leader) ≡ true

-- the index of an id isn't the greatest
abbrev pub IsBelowEnd : {NID : Type 0} → LogId NID → Type 0
IsBelowEnd x = x.index + 1 < 2 ^ 64

module _ {NID : Type 0} (cmp : NID → NID → Ordering) where
  -- the log is in order: no leader id in it is above the vote's, its ids rise, its indexes are consecutive from the
  -- purged one, or from 0, and below the greatest u64, and a purged id is its first
  pub record LogOrder (leader : LeaderId NID) (ids : List (LogId NID)) (purged : Option (LogId NID)) : Type 0 where
    pub by_vote : AllByRecursion (IsUnder cmp leader) ids
    pub rising : Rises cmp None ids
    pub run : IsRun (first_index purged) ids
    pub below_end : AllByRecursion IsBelowEnd ids
    pub first : IfSome purged (λ x. slice_get ids 0 ≡ Some x)

  -- purged, purge target, snapshot, committed and last id rise in this order, by id and by index, and fit the log
  pub record Watermarks (ids : List (LogId NID)) (purged purge_to snapshot committed : Option (LogId NID)) : Type 0 where
    pub at_purged : is_within cmp purged purge_to ≡ true
    pub at_target : is_within cmp purge_to snapshot ≡ true
    pub at_snapshot : is_within cmp snapshot committed ≡ true
    pub at_committed : is_within cmp committed (last ids) ≡ true
    pub target_fits : fits cmp ids purged purge_to ≡ true
    pub snapshot_fits : fits cmp ids purged snapshot ≡ true
    pub committed_fits : fits cmp ids purged committed ≡ true

  -- no accepted record is of a leader above the vote's; if it is of the vote's, its id fits the log or is committed
  pub record AcceptedRecord (leader : LeaderId NID) (record_of : LeaderId NID) (x : LogId NID) (ids : List (LogId NID)) (purged committed : Option (LogId NID)) : Type 0 where
    pub by_vote : is_le (leader_id_cmp cmp record_of leader) ≡ true
    pub held : is_eq (leader_id_cmp cmp record_of leader) ≡ true → (fits cmp ids purged (Some x) || is_within cmp (Some x) committed) ≡ true

  -- what holds of a state, by its parts
  pub record StateFits (leader : LeaderId NID) (ids : List (LogId NID)) (purged purge_to snapshot committed : Option (LogId NID)) (accepted_by : Option (LeaderId NID × LogId NID)) : Type 0 where
    pub log : LogOrder leader ids purged
    pub marks : Watermarks ids purged purge_to snapshot committed
    pub accepted : IfSome accepted_by (λ r. AcceptedRecord leader r.0 r.1 ids purged committed)

module _ {NID N : Type 0} (cmp : NID → NID → Ordering) where
  -- the log is in order, the watermarks rise, and the accepted record is held
  abbrev pub IsSoundState : RaftState NID N → Type 0
  IsSoundState s = StateFits cmp s.vote.leader_id s.ids s.purged s.purge_to s.snap.last_log_id s.committed s.accepted_by
