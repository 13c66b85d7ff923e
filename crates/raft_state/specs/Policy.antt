-- When a snapshot is built, and why a request is rejected.
use Rattle.std.specs.Prelude.{ℕ, ◌+◌, ◌-◌, ◌^◌, min, nat_le, Bool, false}
use Rattle.raft_state.specs.declared.policy.SnapshotPolicy.{SnapshotPolicy}
use Rattle.raft_state.specs.declared.policy.SnapshotPolicy.TheVariants.{LogsSinceLast, Never}
use Rattle.raft_state.specs.declared.policy.RejectVoteRequest.{RejectVoteRequest}
use Rattle.raft_state.specs.declared.policy.RejectVoteRequest.TheVariants as vote
use Rattle.raft_state.specs.declared.policy.RejectAppendEntries.{RejectAppendEntries}
use Rattle.raft_state.specs.declared.policy.RejectAppendEntries.TheVariants as append
use Rattle.raft_state.specs.declared.state.RaftState.{RaftState}
use Rattle.raft_state.specs.Order.{next}

-- a sum, at most the greatest u64
abbrev pub saturating_add : ℕ → ℕ → ℕ
saturating_add a b = min (a + b) (2 ^ 64 - 1)

-- n ids or more were committed since the last snapshot; or never (openraft's `SnapshotPolicy`)
abbrev pub should_snapshot : {NID N : Type 0} → SnapshotPolicy → RaftState NID N → Bool
should_snapshot (LogsSinceLast n) s = nat_le (saturating_add (next s.snap.last_log_id) n) (next s.committed)
should_snapshot Never s = false

-- a rejected vote rejects the append
abbrev pub append_rejection : {NID : Type 0} → RejectVoteRequest NID → RejectAppendEntries NID
append_rejection (vote.ByVote v) = append.ByVote v
