-- What a caller has to ensure before a call.
use Rattle.std.specs.Prelude.{◌≡◌, ◌≤◌, Bool, true, false, ◌&&◌, None, Some, List, map, length, IfSome}
use Rattle.std.specs.Ordering.{is_eq, is_lt, is_le, eq_by_cmp}
use Rattle.raft_state.specs.Fits.{fits}
use Rattle.std.specs.Cmp.Lexicographic.{pointwise}
use Rattle.std.specs.List.{AllByRecursion, list_any}
use Rattle.raft_state.specs.Consecutive.{follows_on}
use Rattle.raft_state.specs.Invariants.{IsUnder}
use Rattle.raft_steps.specs.FollowingHandler.{memberships_in}
use Rattle.std.specs.declared.cmp.Ordering.{Ordering}
use Rattle.raft_state.specs.declared.membership.Members.{Members}
use Rattle.raft_state.specs.declared.membership.StoredMembership.{StoredMembership}
use Rattle.raft_state.specs.declared.state.RaftState.{RaftState}
use Rattle.raft_state.specs.Order.{last_id_cmp, vote_cmp}
use Rattle.raft_state.specs.Log.{last}
use Rattle.raft_steps.specs.Parts.{Led, Machine}
use Rattle.raft_state.specs.declared.config.RaftEntry

module _ {NID N E : Type 0} (cmp : NID → NID → Ordering) (entry : RaftEntry.Ghosts E NID N) where
  -- entries consecutive with the last id, by index and order, under the vote
  pub record MayAppend (s : RaftState NID N) (es : List E) : Type 0 where
    pub follow : follows_on cmp (last s.ids) (map entry.id_of es) ≡ true
    pub by_vote : AllByRecursion (IsUnder cmp s.vote.leader_id) (map entry.id_of es)

module _ {NID : Type 0} (cmp : NID → NID → Ordering) where
  -- two groups have the same voters: in a membership each group ascends, and has each id once
  abbrev pub is_same_group : List NID → List NID → Bool
  is_same_group = pointwise (eq_by_cmp cmp)

module _ {NID N : Type 0} (cmp : NID → NID → Ordering) where
  -- the two memberships have a voter group in common (openraft: `is_coherent_with`)
  abbrev pub shares_group : Members NID N → Members NID N → Bool
  shares_group present new = list_any (λ group. list_any (is_same_group cmp group) new.groups) present.groups

module _ {C NID N E D R S : Type 0} (cmp : NID → NID → Ordering) where
  -- a membership may follow the effective one: that one and the leader's no-op entry are committed, so that no other
  -- change is pending, and the two share a voter group, so that their quorums meet (Raft paper, section 6)
  abbrev pub may_change_membership : Led C NID N E D R S → Members NID N → Bool
  may_change_membership l new =
      is_le (last_id_cmp cmp l.core.state.em.log_id l.core.state.committed)
      && (is_le (last_id_cmp cmp (Some l.leader.noop_log_id) l.core.state.committed) && shares_group cmp l.core.state.em.membership new)

module _ {C NID N E D R S : Type 0} (cmp : NID → NID → Ordering) (entry : RaftEntry.Ghosts E NID N) where
  -- a leader under the state's vote; at most one membership, which may follow the effective one
  pub record MayPropose (l : Led C NID N E D R S) (es : List E) : Type 0 where
    pub own_vote : is_eq (vote_cmp cmp l.leader.vote l.core.state.vote) ≡ true
    pub at_most_one : length (memberships_in entry es) ≤ 1
    pub change : AllByRecursion (λ m. may_change_membership cmp l m.membership ≡ true) (memberships_in entry es)

  -- a membership for a leader under the state's vote: its id fits the log and is above the effective one's
  pub record MayJoin (l : Led C NID N E D R S) (m : StoredMembership NID N) : Type 0 where
    pub own_vote : is_eq (vote_cmp cmp l.leader.vote l.core.state.vote) ≡ true
    pub fit : fits cmp l.core.state.ids l.core.state.purged m.log_id ≡ true
    pub newer : is_lt (last_id_cmp cmp l.core.state.em.log_id m.log_id) ≡ true

module _ {C NID N E D R S : Type 0} (cmp : NID → NID → Ordering) where
  -- no leader, and no candidate under the state's vote
  pub record IsFollowing (m : Machine C NID N E D R S) : Type 0 where
    pub no_leader : m.leader ≡ None
    pub no_candidate : IfSome m.candidate (λ c. is_eq (vote_cmp cmp c.vote m.core.state.vote) ≡ false)
