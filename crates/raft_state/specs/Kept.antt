-- When each call keeps a state's invariants.
use Rattle.std.specs.Prelude.{◌≡◌, ◌<◌, ◌≤◌, ◌⊎◌, ℕ, true, List, Option, Some, IfSome}
use Rattle.std.specs.List.{AllByRecursion}
use Rattle.std.specs.declared.cmp.Ordering.{Ordering}
use Rattle.std.specs.Ordering.{is_eq}
use Rattle.raft_state.specs.declared.ids.LogId.{LogId}
use Rattle.raft_state.specs.declared.membership.StoredMembership.{StoredMembership}
use Rattle.raft_state.specs.declared.state.RaftState.{RaftState}
use Rattle.raft_state.specs.Order.{leader_id_cmp, next}
use Rattle.raft_state.specs.Log.{last, at}
use Rattle.raft_state.specs.Consecutive.{follows_on}
use Rattle.raft_state.specs.Fits.{fits, is_within}
use Rattle.raft_state.specs.State.{extend, truncate, accept, commit, append_membership, purge}
use Rattle.raft_state.specs.Invariants.{IsUnder, IsBelowEnd, IsSoundState}

module _ {NID : Type 0} (cmp : NID → NID → Ordering) (N : Type 0) where
  -- an append of ids consecutive with the last one, of leaders at or below the vote's
  abbrev pub ExtendKeeps : Type 0
  ExtendKeeps = (s : RaftState NID N) (ids : List (LogId NID)) → IsSoundState cmp s
      → follows_on cmp (last s.ids) ids ≡ true → AllByRecursion (IsUnder cmp s.vote.leader_id) ids → AllByRecursion IsBelowEnd ids
      → IsSoundState cmp (extend s ids)

  -- a truncation above the committed index, and above what was accepted from the vote's leader and isn't committed
  abbrev pub TruncateKeeps : Type 0
  TruncateKeeps = (s : RaftState NID N) (i : ℕ) → IsSoundState cmp s → next s.committed ≤ i
      → IfSome s.accepted_by (λ r. is_eq (leader_id_cmp cmp r.0 s.vote.leader_id) ≡ true → (r.1.index < i) ⊎ (is_within cmp (Some r.1) s.committed ≡ true))
      → IsSoundState cmp (truncate s i)

  -- an id that fits the log is accepted
  abbrev pub AcceptKeeps : Type 0
  AcceptKeeps = (s : RaftState NID N) (x : Option (LogId NID)) → IsSoundState cmp s → fits cmp s.ids s.purged x ≡ true
      → IsSoundState cmp (accept cmp s x)

  -- an id of the log is committed
  abbrev pub CommitKeeps : Type 0
  CommitKeeps = (s : RaftState NID N) (x : LogId NID) → IsSoundState cmp s → at s.ids x.index ≡ Some x
      → IsSoundState cmp (commit cmp s (Some x))

  -- any membership takes effect
  abbrev pub AppendMembershipKeeps : Type 0
  AppendMembershipKeeps = (s : RaftState NID N) (m : StoredMembership NID N) → IsSoundState cmp s → IsSoundState cmp (append_membership s m)

  -- a purge up to an id of the log, from the purged one to the purge target
  abbrev pub PurgeKeeps : Type 0
  PurgeKeeps = (s : RaftState NID N) (x : LogId NID) → IsSoundState cmp s → at s.ids x.index ≡ Some x
      → is_within cmp s.purged (Some x) ≡ true → is_within cmp (Some x) s.purge_to ≡ true
      → IsSoundState cmp (purge cmp s x)
