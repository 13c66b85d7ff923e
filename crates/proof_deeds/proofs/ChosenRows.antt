-- Computed examples of what leaders count: which replies acknowledge.
use Rattle.std.specs.Prelude.{◌≡◌, ℕ, false, true, [], ◌∷◌, None, Some, refl}
use Rattle.std.specs.Ordering.{is_le, nat_cmp}
use Rattle.std.proofs.Common.{ap, arith}
use Rattle.raft_node.specs.raft_state.declared.ids.LeaderId.{LeaderId}
use Rattle.raft_node.specs.raft_state.declared.ids.LogId.{LogId}
use Rattle.raft_node.specs.raft_state.declared.ids.Vote.{Vote}
use Rattle.raft_node.specs.raft_state.Order.{log_id_cmp}
use Rattle.raft_node.specs.raft_command.declared.message.AppendEntriesResponse.TheVariants as answer
use Rattle.raft_node.specs.raft_command.declared.message.VoteResponse.{VoteResponse}
use Rattle.raft_node.specs.raft_command.declared.replication.RequestId.{RequestId}
use Rattle.raft_node.specs.raft_command.declared.replication.RequestId.TheVariants.{HeartBeat, AppendEntries, Snapshot}
use Rattle.raft_node.specs.raft_calls.declared.message.Body.{Body}
use Rattle.raft_node.specs.raft_calls.declared.message.Body.TheVariants.{AppendReply, SnapshotReply, VoteReply}
use Rattle.raft_node.specs.raft_calls.declared.message.Message.{Message}
use Rattle.raft_node.specs.raft_calls.declared.message.Origin.{Origin}
use Rattle.raft_node.specs.Chosen.{Acknowledges, AcknowledgedUpTo}
use Rattle.raft_node.proofs.raft_steps_proofs.Example.{lid, pending, committed}

abbrev leader : LeaderId ℕ
leader = record { term = 1; node_id = 1 }

abbrev request : RequestId → Origin
request id = record { session_id = record { vote = committed 1 1; membership_log_id = Some (lid 0 0 0) }; request_id = id; sent_at = 0 }

abbrev from_node_2 : Body → Message
from_node_2 body = record { from = 2; to = 1; body = body }

-- a success acknowledges the last id that was sent
abbrev success : Message
success = from_node_2 (AppendReply (request (AppendEntries 1)) answer.Success None (Some (lid 1 1 1)))

a_success_acknowledges : AcknowledgedUpTo (from_node_2 (AppendReply (request HeartBeat) answer.Success None None) ∷ success ∷ []) 2 leader (lid 1 1 1)
a_success_acknowledges = record { message = success; sent = (1, omega arith, refl); from = refl; upto = lid 1 1 1; reaches = refl; acknowledges = (refl, refl, refl) }

-- an id of an earlier leader isn't above, at whatever index
an_earlier_leaders_id_is_below : is_le (log_id_cmp nat_cmp (lid 2 1 1) (lid 1 1 9)) ≡ false
an_earlier_leaders_id_is_below = refl

-- and so does the reply to a snapshot, under the request's vote
a_snapshots_reply_acknowledges : Acknowledges (SnapshotReply (request (Snapshot 1)) (record { vote = committed 1 1 }) (Some (lid 1 1 1))) leader (lid 1 1 1)
a_snapshots_reply_acknowledges = (refl, refl, refl)

under_a_greater_vote_it_does_not : (x : LogId ℕ) → Acknowledges (SnapshotReply (request (Snapshot 1)) (record { vote = pending 2 2 }) (Some (lid 1 1 1))) leader x → ⊥
under_a_greater_vote_it_does_not x h = let e : false ≡ true = ap (λ (v : Vote ℕ). v.committed) h.1 in cc

-- a heartbeat's success acknowledges nothing, nor does a conflict, nor a vote
a_heartbeats_success_acknowledges_nothing : (x : LogId ℕ) → Acknowledges (AppendReply (request HeartBeat) answer.Success None None) leader x → ⊥
a_heartbeats_success_acknowledges_nothing x h = let e : None ≡ Some x = h.2 in cc

a_conflict_acknowledges_nothing : (x : LogId ℕ) → Acknowledges (AppendReply (request (AppendEntries 1)) answer.Conflict (Some (lid 1 1 1)) (Some (lid 1 1 2))) leader x → ⊥
a_conflict_acknowledges_nothing x h = let e : answer.Conflict ≡ answer.Success = h.1 in cc

a_vote_acknowledges_nothing : (x : LogId ℕ) (reply : VoteResponse ℕ) → Acknowledges (VoteReply reply) leader x → ⊥
a_vote_acknowledges_nothing x reply h = h
