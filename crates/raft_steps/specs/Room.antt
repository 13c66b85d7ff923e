-- The indexes that a log must have left before a node leads.
use Rattle.std.specs.Prelude.{◌≡◌, ◌+◌, ◌^◌, ◌<◌, ◌-◌, ◌==◌, Bool, true, false, not, ◌&&◌, List, Option, None, Some}
use Rattle.std.specs.Ordering.{is_eq, is_lt}
use Rattle.std.specs.declared.cmp.Ordering.{Ordering}
use Rattle.raft_state.specs.declared.ids.LogId.{LogId}
use Rattle.raft_state.specs.declared.ids.Vote.{Vote}
use Rattle.raft_state.specs.declared.membership.Members.{Members}
use Rattle.raft_state.specs.declared.state.RaftState.{RaftState}
use Rattle.raft_state.specs.Order.{last_id_cmp, leader_id_cmp, next}
use Rattle.raft_state.specs.Log.{last}
use Rattle.raft_state.specs.Members.{contains}
use Rattle.raft_state.specs.State.{by_last_leader}
use Rattle.raft_command.specs.declared.config.EngineConfig.{EngineConfig}
use Rattle.raft_proposer.specs.Leader.{blank_id}
use Rattle.raft_proposer.specs.Joint.{JointLeader}

-- if a leader under this vote would propose a no-op entry, there is an index for it
abbrev pub HasRoomAfter : {NID : Type 0} → (NID → NID → Ordering) → Vote NID → List (LogId NID) → Type 0
HasRoomAfter cmp v ids =
    let ends = by_last_leader cmp ids in
    is_lt (last_id_cmp cmp (last ends) (Some (blank_id cmp v ends))) ≡ true → next (last ids) + 1 < 2 ^ 64

-- the same of a state's log
abbrev pub HasRoom : {NID N : Type 0} → (NID → NID → Ordering) → Vote NID → RaftState NID N → Type 0
HasRoom cmp v s = HasRoomAfter cmp v s.ids

-- the log's last id is of another leader, and the index after it is the greatest
abbrev pub is_full : {NID : Type 0} → (NID → NID → Ordering) → Vote NID → List (LogId NID) → Bool
is_full cmp v ids =
    elim (last ids) [ None ↦ false | Some x ↦ not (is_eq (leader_id_cmp cmp x.leader_id v.leader_id)) && (x.index + 1 == 2 ^ 64 - 1) ]

module _ {C NID N E D R S : Type 0} (cmp : NID → NID → Ordering) where
  -- there is no leader with a vote's leader id
  abbrev pub is_new : Vote NID → Option (JointLeader C NID N E D R S) → Bool
  is_new v leader = elim leader [ None ↦ true | Some l ↦ not (is_eq (leader_id_cmp cmp l.vote.leader_id v.leader_id)) ]

module _ {C NID N E D R S : Type 0} (cmp : NID → NID → Ordering) (config : EngineConfig NID) where
  -- by this vote the node leads, and has no leader under it yet
  abbrev pub leads_anew : Vote NID → Members NID N → Option (JointLeader C NID N E D R S) → Bool
  leads_anew v members leader =
      v.committed && is_eq (cmp v.leader_id.node_id config.id) && contains cmp members config.id && is_new cmp v leader

  -- a member of these nodes with this log may lead under this vote
  abbrev pub MayLead : Vote NID → Members NID N → List (LogId NID) → Option (JointLeader C NID N E D R S) → Type 0
  MayLead v members ids leader = leads_anew v members leader ≡ true → HasRoomAfter cmp v ids
