-- A leader's proposals.
use Rattle.std.specs.Prelude.{Option, ◌-◌, ◌==◌, false, List, None, Some, map, length, slice_get, if◌then◌else◌}
use Rattle.raft_state.specs.State.{extend}
use Rattle.raft_command.specs.declared.command.Command.TheVariants.{AppendInputEntries}
use Rattle.raft_steps.specs.FollowingHandler.{memberships_in, stored_in}
use Rattle.raft_state.specs.declared.ids.LogId.{LogId}
use Rattle.raft_steps.specs.Laws.{later}
use Rattle.raft_proposer.specs.Leader.{assigned, last_assigned}
use Rattle.raft_steps.specs.ReplicationHandler.{initiate_replication, append_membership_led}
use Rattle.std.specs.declared.cmp.Ordering.{Ordering}
use Rattle.raft_state.specs.declared.membership.StoredMembership.{StoredMembership}
use Rattle.raft_command.specs.declared.config.EngineConfig.{EngineConfig}
use Rattle.raft_steps.specs.Parts.{Led, then_command, with_state}
use Rattle.raft_proposer.specs.Joint.{JointLeader}
use Rattle.raft_state.specs.declared.config.RaftEntry

module _ {C NID N E D R S : Type 0} (entry : RaftEntry.Ghosts E NID N) where
  -- entries get their ids, and are appended to the leader's log
  unfoldable pub proposed : List E → Led C NID N E D R S → Led C NID N E D R S
  proposed es l =
      let given = assigned entry l.leader es in
      record {
        leader = record l.leader { last_log_id = last_assigned l.leader es };
        core = then_command (with_state l.core (extend l.core.state (map entry.id_of given))) (AppendInputEntries l.leader.vote given);
      }

  -- the last membership among them
  abbrev pub last_proposed : JointLeader C NID N E D R S → List E → Option (StoredMembership NID N)
  last_proposed l es = let ms = memberships_in entry (assigned entry l es) in slice_get ms (length ms - 1)

module _ {NID N E : Type 0} (entry : RaftEntry.Ghosts E NID N) where
  -- the membership of an entry, or an earlier one if it has none
  abbrev pub later_membership : Option (StoredMembership NID N) → E → Option (StoredMembership NID N)
  later_membership earlier e = elim (stored_in entry e) [ None ↦ earlier | Some m ↦ Some m ]

module _ {C NID N E D R S : Type 0} (cmp : NID → NID → Ordering) (config : EngineConfig NID) where
  -- a membership takes effect, if there is one
  abbrev pub joined : Option (StoredMembership NID N) → Led C NID N E D R S → Led C NID N E D R S
  joined membership l = elim membership [ None ↦ l | Some m ↦ append_membership_led cmp config m l ]

module _ {C NID N E D R S : Type 0} (cmp : NID → NID → Ordering) (entry : RaftEntry.Ghosts E NID N) (config : EngineConfig NID) where
  -- a leader's entries get their ids, are appended and replicated; a membership among them takes effect
  unfoldable pub leader_append_entries : List E → Led C NID N E D R S → Led C NID N E D R S
  leader_append_entries es l =
      if length es == 0 then l
      else initiate_replication cmp config false (joined cmp config (last_proposed entry l.leader es) (proposed entry es l))

module _ {C NID N E D R S : Type 0} (cmp : NID → NID → Ordering) where
  -- the id that a read waits for: the committed one, and at least the leader's no-op entry (Raft paper, section 8)
  abbrev pub read_log_id : Led C NID N E D R S → Option (LogId NID)
  read_log_id l = later cmp (Some l.leader.noop_log_id) l.core.state.committed
