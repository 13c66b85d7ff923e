-- How a follower installs a leader's snapshot (Raft paper, section 7).
use Rattle.std.specs.Prelude.{ℕ, ◌+◌, nat_lt, nat_le, Bool, false, not, ◌&&◌, ◌||◌, Option, None, Some, if◌then◌else◌}
use Rattle.std.specs.Ordering.{is_eq, is_gt}
use Rattle.std.specs.declared.cmp.Ordering.{Ordering}
use Rattle.raft_state.specs.declared.config.RaftEntry
use Rattle.raft_state.specs.declared.ids.LogId.{LogId}
use Rattle.raft_state.specs.declared.ids.Vote.{Vote}
use Rattle.raft_state.specs.declared.membership.SnapshotMeta.{SnapshotMeta}
use Rattle.raft_state.specs.declared.membership.StoredMembership.{StoredMembership}
use Rattle.raft_state.specs.declared.state.RaftState.{RaftState}
use Rattle.raft_state.specs.Log.{last, at}
use Rattle.raft_state.specs.Order.{last_id_cmp, log_id_cmp, next}
use Rattle.raft_state.specs.State.{accept}
use Rattle.raft_command.specs.Push.{ordered}
use Rattle.raft_command.specs.declared.command.Command.TheVariants as command
use Rattle.raft_command.specs.declared.command.Condition.{Condition}
use Rattle.raft_command.specs.declared.command.Condition.TheVariants.{StateMachineCommand}
use Rattle.raft_command.specs.declared.config.EngineConfig.{EngineConfig}
use Rattle.raft_command.specs.declared.message.Snapshot.{Snapshot}
use Rattle.raft_command.specs.declared.message.Token.{Token}
use Rattle.raft_command.specs.declared.respond.Respond.TheVariants as respond
use Rattle.raft_command.specs.declared.sm.CommandPayload.TheVariants.{InstallFullSnapshot}
use Rattle.raft_steps.specs.FollowingHandler.{truncate_logs}
use Rattle.raft_steps.specs.LogHandler.{update_purge_upto, purge_log}
use Rattle.raft_steps.specs.Parts.{Core, Machine, then_command, with_state, on_core}
use Rattle.raft_steps.specs.ServerStateHandler.{update_role}
use Rattle.raft_steps.specs.VoteHandler.{rejects_vote, update_vote}

module _ {NID N : Type 0} (cmp : NID → NID → Ordering) where
  -- a snapshot is installed if its last id is above the committed one and above the recorded snapshot's
  abbrev pub installs : RaftState NID N → SnapshotMeta NID N → Bool
  installs s meta = is_gt (last_id_cmp cmp meta.last_log_id s.committed) && is_gt (last_id_cmp cmp meta.last_log_id s.snap.last_log_id)

  -- the log has another id at this one's index
  abbrev pub has_other_at : RaftState NID N → LogId NID → Bool
  has_other_at s x = elim (at s.ids x.index) [ None ↦ false | Some y ↦ not (is_eq (log_id_cmp cmp y x)) ]

  -- the log has another id at the snapshot's last index, or ends below it: so nothing of it is left
  abbrev pub replaces_log : RaftState NID N → LogId NID → Bool
  replaces_log s x = has_other_at s x || nat_le (next (last s.ids)) x.index

module _ {NID N : Type 0} where
  -- a membership above the snapshot's last id stays, another is replaced by the snapshot's
  abbrev pub membership_after : StoredMembership NID N → LogId NID → StoredMembership NID N → StoredMembership NID N
  membership_after snapshots x m = if nat_lt (x.index + 1) (next m.log_id) then m else snapshots

  -- the memberships after an install; if nothing of the log is left, both are the snapshot's
  abbrev pub with_memberships_of : StoredMembership NID N → LogId NID → Bool → RaftState NID N → RaftState NID N
  with_memberships_of snapshots x gone s =
      if gone then record s { cm = snapshots; em = snapshots }
      else record s { cm = membership_after snapshots x s.cm; em = membership_after snapshots x s.em }

module _ {NID N : Type 0} (cmp : NID → NID → Ordering) where
  -- the contents of a snapshot up to x are accepted and committed
  abbrev pub held_upto : LogId NID → RaftState NID N → RaftState NID N
  held_upto x s = record (accept cmp s (Some x)) { committed = Some x }

module _ {C NID N E D R S : Type 0} (cmp : NID → NID → Ordering) (config : EngineConfig NID) where
  -- a log that contradicts x is deleted from its index on
  abbrev pub truncate_contradicted : LogId NID → Core C NID N E D R S → Core C NID N E D R S
  truncate_contradicted x c = if has_other_at cmp c.state x then truncate_logs cmp config x.index c else c

  -- a snapshot up to x replaces the log up to there; the log above it stays, unless it contradicts the snapshot
  unfoldable pub install_upto : LogId NID → Snapshot C NID N E D R S → Core C NID N E D R S → Core C NID N E D R S
  install_upto x snapshot c =
      let cut = truncate_contradicted x (with_state c (record c.state { snap = snapshot.meta })) in
      let held = with_memberships_of snapshot.meta.last_membership x (replaces_log cmp c.state x) (held_upto cmp x cut.state) in
      let settled = update_role cmp config (with_state cut held) in
      purge_log cmp (update_purge_upto (Some x) (record settled { output = ordered settled.output (InstallFullSnapshot snapshot) }))

  -- a snapshot above the committed id and the recorded snapshot is installed
  unfoldable pub install_full_snapshot : Snapshot C NID N E D R S → Core C NID N E D R S → Core C NID N E D R S
  install_full_snapshot snapshot c =
      elim snapshot.meta.last_log_id [
        | None ↦ c
        | Some x ↦ (if installs cmp c.state snapshot.meta then install_upto x snapshot c else c)
      ]

module _ {C NID N E D R S : Type 0} (cmp : NID → NID → Ordering) where
  -- what the reply waits for: the install, if there is one
  abbrev pub install_condition : SnapshotMeta NID N → Core C NID N E D R S → Option (Condition NID)
  install_condition meta c = if installs cmp c.state meta then Some (StateMachineCommand (c.output.seq + 1)) else None

module _ {C NID N E D R S : Type 0} where
  -- the reply to a leader's snapshot, with this node's vote
  abbrev pub reply_install : Option (Condition NID) → Token → Core C NID N E D R S → Core C NID N E D R S
  reply_install when token c =
      then_command c (command.Respond when (respond.InstallFullSnapshot (record { value = record { vote = c.state.vote }; token = token })))

module _ {C NID N E D R S : Type 0} (cmp : NID → NID → Ordering) (entry : RaftEntry.Ghosts E NID N) (config : EngineConfig NID) where
  -- the snapshot of a leader whose vote was adopted, and the reply after it
  abbrev pub install_and_reply : Snapshot C NID N E D R S → Token → Core C NID N E D R S → Core C NID N E D R S
  install_and_reply snapshot token c = reply_install (install_condition cmp snapshot.meta c) token (install_full_snapshot cmp config snapshot c)

  -- a leader's snapshot: the vote is adopted and the snapshot installed; a vote below ours is only replied to
  unfoldable pub handle_install_full_snapshot : Vote NID → Snapshot C NID N E D R S → Token → ℕ → Machine C NID N E D R S → Machine C NID N E D R S
  handle_install_full_snapshot vote snapshot token now m =
      if rejects_vote cmp m.core.state vote then on_core (reply_install None token) m
      else on_core (install_and_reply snapshot token) (update_vote cmp entry config vote now m)
