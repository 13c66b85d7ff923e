-- Changes of the membership: one at a time, and each to a membership that shares a voter group with the one before it
-- (Raft paper, section 6; openraft's `change_membership`).
use Rattle.std.specs.Prelude.{ℕ, List, map, length, not, nat_lt, Option, None, Some, if◌then◌else◌}
use Rattle.std.specs.List.{list_any}
use Rattle.std.specs.Option.{option_or}
use Rattle.std.specs.Ordering.{is_gt, nat_cmp}
use Rattle.raft_state.specs.declared.ids.LogId.{LogId}
use Rattle.raft_state.specs.declared.membership.Members.{Members}
use Rattle.raft_state.specs.declared.state.RaftState.{RaftState}
use Rattle.raft_state.specs.Members.{is_voter, members_of}
use Rattle.raft_state.specs.Order.{last_id_cmp}
use Rattle.raft_steps.specs.Conditions.{shares_group}
use Rattle.raft_steps.specs.Engine.{default_log_id}
use Rattle.raft_store.specs.declared.entry.Entry.{Entry}
use Rattle.raft_store.specs.declared.entry.Payload.TheVariants.{Membership}
use Rattle.raft_store.specs.Types.{EngineView}
use Rattle.raft_schedule.specs.declared.event.SkipReason.{SkipReason}
use Rattle.raft_schedule.specs.declared.event.SkipReason.TheVariants.{BadGroups, BadLearners, BlankPending, MembershipPending, NoSharedGroup}
use Rattle.raft_calls.specs.LeaderCalls.{entry_proposed, skip_propose}

-- the membership of these voter groups and learners
abbrev pub members_with : List (List ℕ) → List ℕ → Members ℕ (Unit {0})
members_with groups learners = members_of nat_cmp (record {}) groups (map (λ id. (id, record {})) learners)

-- an entry with a membership; the leader gives it its id
abbrev pub membership_entry : Members ℕ (Unit {0}) → Entry
membership_entry m = record { log_id = default_log_id 0; payload = Membership m }

-- no change while one is pending, nor before the leader's no-op entry is committed
abbrev pub skip_pending : LogId ℕ → RaftState ℕ (Unit {0}) → Option SkipReason
skip_pending noop s =
    if is_gt (last_id_cmp nat_cmp s.em.log_id s.committed) then Some MembershipPending
    else if is_gt (last_id_cmp nat_cmp (Some noop) s.committed) then Some BlankPending
    else None

-- at most four groups, one of them a group of the present membership; no learner is a voter
abbrev pub skip_members : Members ℕ (Unit {0}) → List (List ℕ) → List ℕ → Option SkipReason
skip_members present groups learners =
    let new = members_with groups learners in
    if nat_lt 4 (length groups) then Some BadGroups
    else if not (shares_group nat_cmp present new) then Some NoSharedGroup
    else if list_any (is_voter nat_cmp new) learners then Some BadLearners
    else None

-- why a leader proposes no membership of these groups and learners: the first reason that applies
abbrev pub skip_change : List (List ℕ) → List ℕ → EngineView → Option SkipReason
skip_change groups learners e =
    let s = e.machine.core.state in
    elim e.machine.leader [
      | None ↦ None
      | Some l ↦ option_or (skip_propose e) (option_or (skip_pending l.noop_log_id s) (skip_members s.em.membership groups learners))
    ]

-- the leader appends such a membership, which takes effect at once, and sends it to its nodes
abbrev pub membership_changed : List (List ℕ) → List ℕ → EngineView → Option ℕ × EngineView
membership_changed groups learners e = entry_proposed (membership_entry (members_with groups learners)) e

-- the effective membership's voter groups
abbrev pub groups_in : EngineView → List (List ℕ)
groups_in e = e.machine.core.state.em.membership.groups

-- a change of the learners alone: its groups are the present ones, in a run at most four, and shared (`LearnersKeepGroups`)
abbrev pub skip_learners : List ℕ → EngineView → Option SkipReason
skip_learners learners e = skip_change (groups_in e) learners e

abbrev pub learners_changed : List ℕ → EngineView → Option ℕ × EngineView
learners_changed learners e = membership_changed (groups_in e) learners e
