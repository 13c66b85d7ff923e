-- Expected facts, and when two are the same.
use Rattle.std.specs.Prelude.{ℕ, ◌==◌, Bool, true, false, Option, Some, None}
use Rattle.std.specs.Ordering.{is_eq, nat_cmp}
use Rattle.raft_state.specs.Order.{last_id_cmp, vote_cmp}
use Rattle.raft_state.specs.declared.state.ServerState.{ServerState}
use Rattle.raft_state.specs.declared.state.ServerState.TheVariants.{Learner, Follower, Candidate, Leader}
use Rattle.raft_schedule.specs.declared.step.Fact.{Fact}
use Rattle.raft_schedule.specs.declared.step.Fact.TheVariants.{Stopped, Role, Vote, Last, Committed, Applied}
use Rattle.raft_schedule.specs.declared.step.MessageKind.{MessageKind}
use Rattle.raft_schedule.specs.declared.step.MessageKind.TheVariants.{VoteRequest, VoteReply, Append, Heartbeat, AppendReply, Snapshot, SnapshotReply}

-- a number for each kind
abbrev pub kind_rank : MessageKind → ℕ
kind_rank VoteRequest = 0
kind_rank VoteReply = 1
kind_rank Append = 2
kind_rank Heartbeat = 3
kind_rank AppendReply = 4
kind_rank Snapshot = 5
kind_rank SnapshotReply = 6

abbrev pub same_kind : MessageKind → MessageKind → Bool
same_kind k l = kind_rank k == kind_rank l

-- a number for each role
abbrev pub role_rank : ServerState → ℕ
role_rank Learner = 0
role_rank Follower = 1
role_rank Candidate = 2
role_rank Leader = 3

abbrev pub same_index : Option ℕ → Option ℕ → Bool
same_index None None = true
same_index (Some i) (Some j) = i == j
same_index _ _ = false

abbrev pub same_fact : Fact → Fact → Bool
same_fact Stopped Stopped = true
same_fact (Role r) (Role s) = role_rank r == role_rank s
same_fact (Vote v) (Vote w) = is_eq (vote_cmp nat_cmp v w)
same_fact (Last x) (Last y) = is_eq (last_id_cmp nat_cmp x y)
same_fact (Committed x) (Committed y) = is_eq (last_id_cmp nat_cmp x y)
same_fact (Applied i) (Applied j) = same_index i j
same_fact _ _ = false
