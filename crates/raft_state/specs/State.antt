-- The parts of a node's state, and what each call does to them (openraft's `RaftState`). `cm` and `em` are the committed
-- and the effective membership, `snap` the snapshot's meta, `purge_to` the id up to which entries are to be purged.
use Rattle.std.specs.Prelude.{ℕ, ◌==◌, nat_lt, not, Bool, false, ◌&&◌, ◌||◌, List, [], ◌∷◌, ◌++◌, Option, None, Some, if◌then◌else◌, find, length}
use Rattle.std.specs.declared.cmp.Ordering.{Ordering}
use Rattle.std.specs.Ordering.{is_eq, is_ne, is_gt, is_le}
use Rattle.std.specs.Option.{option_map}
use Rattle.raft_state.specs.declared.ids.LeaderId.{LeaderId}
use Rattle.raft_state.specs.declared.ids.LogId.{LogId}
use Rattle.raft_state.specs.declared.membership.StoredMembership.{StoredMembership}
use Rattle.raft_state.specs.declared.state.RaftState.{RaftState}
use Rattle.raft_state.specs.declared.state.ServerState.{ServerState}
use Rattle.raft_state.specs.declared.state.ServerState.TheVariants.{Learner, Follower, Candidate, Leader}
use Rattle.raft_state.specs.Order.{leader_id_cmp, log_id_cmp, last_id_cmp, vote_cmp, next}
use Rattle.raft_state.specs.Log.{last, at, below, from}
use Rattle.raft_state.specs.Members.{is_voter, contains, get_node, no_members}

module _ {NID N : Type 0} where
  -- the state of a new node: a learner with the first vote, no log and no members
  abbrev pub empty : NID → RaftState NID N
  empty first = record {
    vote = record { leader_id = record { term = 0; node_id = first }; committed = false };
    time = None;
    ids = [];
    purged = None;
    purge_to = None;
    committed = None;
    accepted_by = None;
    snap = record { last_log_id = None; last_membership = record { log_id = None; membership = no_members }; snapshot_id = [] };
    cm = record { log_id = None; membership = no_members };
    em = record { log_id = None; membership = no_members };
    role = Learner;
    building = false;
  }

  -- the log isn't empty, or the vote isn't the first one
  abbrev pub is_initialized : (NID → NID → Ordering) → NID → RaftState NID N → Bool
  is_initialized cmp first s =
      not (length s.ids == 0) || is_ne (vote_cmp cmp s.vote (record { leader_id = record { term = 0; node_id = first }; committed = false }))

  -- the ids of an append come after those that are there (Raft paper, section 5.3)
  abbrev pub extend : RaftState NID N → List (LogId NID) → RaftState NID N
  extend s ids = record s { ids = s.ids ++ ids }

  -- the effective membership becomes the committed one, and the new one takes effect (Raft paper, section 6)
  abbrev pub append_membership : RaftState NID N → StoredMembership NID N → RaftState NID N
  append_membership s m = record s { cm = s.em; em = m }

  -- the effective membership is at or above an index
  abbrev pub undoes_membership : RaftState NID N → ℕ → Bool
  undoes_membership s i = nat_lt i (next s.em.log_id)

  -- the ids from an index on go; if the effective membership is there, the committed one takes effect (Raft paper,
  -- sections 5.3 and 6)
  abbrev pub truncate : RaftState NID N → ℕ → RaftState NID N
  truncate s i =
      if undoes_membership s i
      then record s { ids = below i s.ids; em = s.cm }
      else record s { ids = below i s.ids }

module _ {NID : Type 0} (cmp : NID → NID → Ordering) where
  -- the id of an accepted record of this leader
  abbrev pub accepted_under : LeaderId NID → Option (LeaderId NID × LogId NID) → Option (LogId NID)
  accepted_under leader None = None
  accepted_under leader (Some r) = if is_eq (leader_id_cmp cmp r.0 leader) then Some r.1 else None

  -- the id found is x
  abbrev pub is_found : Option (LogId NID) → LogId NID → Bool
  is_found None x = false
  is_found (Some y) x = is_eq (log_id_cmp cmp y x)

  -- the first id of a leader
  abbrev pub first_of : LeaderId NID → List (LogId NID) → Option (LogId NID)
  first_of leader ids = find (λ id. is_eq (leader_id_cmp cmp id.leader_id leader)) ids

  -- the first and the last id of a leader, whose last id this is: one, if they are the same
  abbrev pub ends_of_leader : Option (LogId NID) → LogId NID → List (LogId NID)
  ends_of_leader None last = last ∷ []
  ends_of_leader (Some first) last = if first.index == last.index then last ∷ [] else first ∷ last ∷ []

  -- the first and the last id of the last id's leader (openraft's `LogIdList::by_last_leader`)
  abbrev pub by_last_leader : List (LogId NID) → List (LogId NID)
  by_last_leader ids = of_last (last ids) where
    of_last : Option (LogId NID) → List (LogId NID)
    of_last None = []
    of_last (Some x) = ends_of_leader (first_of x.leader_id ids) x

module _ {NID N : Type 0} (cmp : NID → NID → Ordering) where
  -- the last id that was accepted from the leader of the vote (openraft's `accepted`)
  abbrev pub accepted : RaftState NID N → Option (LogId NID)
  accepted s = accepted_under cmp s.vote.leader_id s.accepted_by

  -- the index is at or below the committed one, or the log has exactly this id there (openraft's `has_log_id`)
  abbrev pub has_log_id : RaftState NID N → LogId NID → Bool
  has_log_id s x = nat_lt x.index (next s.committed) || is_found cmp (at s.ids x.index) x

  -- the vote names the node, and it is a member (openraft's `is_leading`)
  abbrev pub is_leading : RaftState NID N → NID → Bool
  is_leading s id = is_eq (cmp s.vote.leader_id.node_id id) && contains cmp s.em.membership id

  -- it leads, and a quorum has granted the vote (openraft's `is_leader`)
  abbrev pub is_leader : RaftState NID N → NID → Bool
  is_leader s id = is_leading s id && s.vote.committed

  -- the role of a node (Raft paper, section 5.1; openraft's `calc_server_state`)
  abbrev pub server_state : RaftState NID N → NID → ServerState
  server_state s id =
      if is_leader s id then Leader
      else if is_leading s id then Candidate
      else if is_voter cmp s.em.membership id then Follower
      else Learner

  -- an id above the accepted one is recorded, with the vote's leader
  abbrev pub accept : RaftState NID N → Option (LogId NID) → RaftState NID N
  accept s x =
      if is_gt (last_id_cmp cmp x (accepted s))
      then record s { accepted_by = option_map (λ id. (s.vote.leader_id, id)) x }
      else s

  -- a commit of x changes something: x is above the committed id
  abbrev pub commits : RaftState NID N → Option (LogId NID) → Bool
  commits s x = is_gt (last_id_cmp cmp x s.committed)

  -- the effective membership becomes the committed one if its id is at or below x
  abbrev pub settle : RaftState NID N → Option (LogId NID) → RaftState NID N
  settle s x = if is_le (last_id_cmp cmp s.em.log_id x) then record s { cm = s.em } else s

  -- x is committed, if it is above the committed id (Raft paper, section 5.3)
  abbrev pub commit : RaftState NID N → Option (LogId NID) → RaftState NID N
  commit s x = if commits s x then record (settle s x) { committed = x } else s

  -- the ids below x go; if its index is past the last one's, x alone is left (Raft paper, section 7)
  abbrev pub purge : RaftState NID N → LogId NID → RaftState NID N
  purge s x =
      if nat_lt x.index (next (last s.ids))
      then record s { purged = Some x; ids = from x.index s.ids }
      else record s { purged = Some x; ids = x ∷ [] }

  -- the node of a committed vote, if it is a member (openraft's `forward_to_leader`)
  abbrev pub known_leader : RaftState NID N → Option NID
  known_leader s =
      if s.vote.committed && contains cmp s.em.membership s.vote.leader_id.node_id
      then Some s.vote.leader_id.node_id
      else None

  -- its data
  abbrev pub known_leader_node : RaftState NID N → Option N
  known_leader_node s =
      if s.vote.committed && contains cmp s.em.membership s.vote.leader_id.node_id
      then get_node cmp s.em.membership s.vote.leader_id.node_id
      else None
