-- Which of some nodes can be elected by them, as the program decides it.
use Rattle.std.specs.Prelude.{ℕ, ◌&&◌, Bool, false, List, not, Option, None, Some, filter}
use Rattle.std.specs.Option.{option_map}
use Rattle.std.specs.Ordering.{is_lt, nat_cmp}
use Rattle.raft_state.specs.declared.ids.LogId.{LogId}
use Rattle.raft_state.specs.Members.{is_voter}
use Rattle.raft_state.specs.Order.{last_id_cmp}
use Rattle.raft_progress.specs.Quorum.{is_quorum}
use Rattle.raft_node.specs.Net.{NodeView, node_at}
use Rattle.raft_recovery.specs.declared.starting.Found.{Found}
use Rattle.raft_recovery.specs.Starting.{found_in}

-- a log that is found isn't ahead of a last id
abbrev pub is_not_ahead : Option (LogId ℕ) → Option Found → Bool
is_not_ahead end None = false
is_not_ahead end (Some f) = not (is_lt (last_id_cmp nat_cmp end f.last))

module _ (nodes : List NodeView) where
  -- what a node finds
  abbrev pub found_at : ℕ → Option Found
  found_at id = option_map (λ N. found_in N.store) (node_at nodes id)

  -- a voter of a found membership, whose log isn't ahead of the found one
  abbrev pub follows : Found → ℕ → Bool
  follows f t = is_voter nat_cmp f.membership t && is_not_ahead f.last (found_at t)

  -- of some nodes those
  abbrev pub followers : List ℕ → Found → List ℕ
  followers up f = filter (follows f) up

  -- a node that finds this is elected by them
  abbrev pub is_elected : List ℕ → ℕ → Found → Bool
  is_elected up n f = is_voter nat_cmp f.membership n && is_quorum nat_cmp f.membership.groups (followers up f)

  abbrev pub can_be_elected : List ℕ → ℕ → Bool
  can_be_elected up n = elim (found_at n) [ None ↦ false | Some f ↦ is_elected up n f ]
