-- The tests of a state that a store gives (openraft's `Valid<RaftState>`).
use Rattle.std.specs.Prelude.{ℕ, ◌+◌, ◌-◌, ◌^◌, ◌&&◌, nat_eq, nat_lt, Bool, true, List, [], ◌∷◌, Option, None, Some}
use Rattle.std.specs.Ordering.{is_le, is_lt, nat_cmp}
use Rattle.raft_state.specs.declared.ids.LeaderId.{LeaderId}
use Rattle.raft_state.specs.declared.ids.LogId.{LogId}
use Rattle.raft_state.specs.declared.state.RaftState.{RaftState}
use Rattle.raft_state.specs.Fits.{fits, is_within}
use Rattle.raft_state.specs.Invariants.{first_index}
use Rattle.raft_state.specs.Log.{at, last}
use Rattle.raft_state.specs.Order.{last_id_cmp, leader_id_cmp}
use Rattle.raft_state.specs.State.{is_found}

-- an id may stand at this index, below the greatest u64, after this last one, under the vote of this leader
abbrev pub continues : LeaderId ℕ → Option (LogId ℕ) → ℕ → LogId ℕ → Bool
continues leader prev n x =
    nat_eq x.index n && nat_lt n (2 ^ 64 - 1) && is_le (leader_id_cmp nat_cmp x.leader_id leader) && is_lt (last_id_cmp nat_cmp prev (Some x))

-- each id does
abbrev pub in_order : LeaderId ℕ → Option (LogId ℕ) → ℕ → List (LogId ℕ) → Bool
in_order leader prev n [] = true
in_order leader prev n (x ∷ xs) = continues leader prev n x && in_order leader (Some x) (n + 1) xs

-- a purged id is still there
abbrev pub holds : List (LogId ℕ) → Option (LogId ℕ) → Bool
holds ids None = true
holds ids (Some x) = is_found nat_cmp (at ids x.index) x

-- the log is in order
abbrev pub has_order : RaftState ℕ (Unit {0}) → Bool
has_order s = in_order s.vote.leader_id None (first_index s.purged) s.ids && holds s.ids s.purged

-- the watermarks rise, and fit the log
abbrev pub rise : RaftState ℕ (Unit {0}) → Bool
rise s =
    is_within nat_cmp s.purged s.purge_to && is_within nat_cmp s.purge_to s.snap.last_log_id && is_within nat_cmp s.snap.last_log_id s.committed
    && is_within nat_cmp s.committed (last s.ids) && fits nat_cmp s.ids s.purged s.purge_to && fits nat_cmp s.ids s.purged s.snap.last_log_id
    && fits nat_cmp s.ids s.purged s.committed
