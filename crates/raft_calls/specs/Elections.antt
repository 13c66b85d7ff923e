-- The first entry, and elections.
use Rattle.std.specs.Prelude.{ℕ, Option, Some, None, if◌then◌else◌, is_some}
use Rattle.std.specs.Ordering.{nat_cmp}
use Rattle.raft_state.specs.declared.membership.Members.{Members}
use Rattle.raft_state.specs.Members.{contains, is_voter}
use Rattle.raft_steps.specs.Refusals.{refusals_of_initialize, refusals_of_elect}
use Rattle.raft_steps.specs.Engine.{initialize, elect}
use Rattle.raft_store.specs.declared.entry.Entry.{Entry}
use Rattle.raft_store.specs.Entries.{entry_meaning}
use Rattle.raft_store.specs.Types.{EngineView}
use Rattle.raft_schedule.specs.declared.event.SkipReason.{SkipReason}
use Rattle.raft_schedule.specs.declared.event.SkipReason.TheVariants.{HasLeader, NotMember, NotVoter}
use Rattle.raft_calls.specs.declared.elections.Candidates.{Candidates}
use Rattle.raft_calls.specs.declared.elections.Candidates.TheVariants.{AllMembers, Voters}
use Rattle.raft_calls.specs.Deliveries.{answered, with_machine}
use Rattle.raft_calls.specs.Memberships.{membership_entry}

-- the first entry of every log: the first membership
abbrev pub first_entry : Members ℕ (Unit {0}) → Entry
first_entry m = membership_entry m

-- the first entry is skipped where the node leads
abbrev pub skip_initialize : EngineView → Option SkipReason
skip_initialize e = if is_some e.machine.leader then Some HasLeader else None

-- who may stand: a voter of the node's effective membership, or also a learner, any member of it
abbrev pub skip_candidate : Candidates → EngineView → Option SkipReason
skip_candidate Voters e = if is_voter nat_cmp e.machine.core.state.em.membership e.config.id then None else Some NotVoter
skip_candidate AllMembers e = if contains nat_cmp e.machine.core.state.em.membership e.config.id then None else Some NotMember

-- an election is skipped unless the node may stand and doesn't lead
abbrev pub skip_elect : Candidates → EngineView → Option SkipReason
skip_elect candidates e = if is_some e.machine.leader then Some HasLeader else skip_candidate candidates e

-- the first entry is appended, and the node starts an election
abbrev pub initialized : Members ℕ (Unit {0}) → ℕ → EngineView → Option ℕ × EngineView
initialized first now e =
    answered (refusals_of_initialize nat_cmp entry_meaning e.config 0 (first_entry first) e.machine) e
    (with_machine e (initialize nat_cmp entry_meaning e.config 0 (first_entry first) now e.machine))

-- the node starts an election
abbrev pub elected : ℕ → EngineView → Option ℕ × EngineView
elected now e = answered (refusals_of_elect nat_cmp e.config e.machine) e (with_machine e (elect nat_cmp entry_meaning e.config now e.machine))
