-- The refusals of a leader's snapshot, in the order in which they are asked.
use Rattle.std.specs.Prelude.{◌+◌, nat_lt, Bool, not, ◌&&◌, ◌||◌, [], ◌∷◌, Option, Some, is_some}
use Rattle.std.specs.List.{list_any}
use Rattle.std.specs.Option.{option_or, option_to_list}
use Rattle.std.specs.declared.cmp.Ordering.{Ordering}
use Rattle.raft_state.specs.declared.ids.LogId.{LogId}
use Rattle.raft_state.specs.declared.ids.Vote.{Vote}
use Rattle.raft_state.specs.declared.membership.SnapshotMeta.{SnapshotMeta}
use Rattle.raft_state.specs.declared.state.RaftState.{RaftState}
use Rattle.raft_state.specs.Fits.{is_within, is_below}
use Rattle.raft_state.specs.Order.{next}
use Rattle.raft_state.specs.State.{accepted_under, has_log_id}
use Rattle.raft_progress_entry.specs.raft_error.Number.{first_refusal}
use Rattle.raft_progress_entry.specs.raft_error.declared.error.EngineError.{EngineError}
use Rattle.raft_progress_entry.specs.raft_error.declared.error.EngineError.TheVariants.{IndexEnd, SnapshotUnfit}
use Rattle.raft_command.specs.declared.config.EngineConfig.{EngineConfig}
use Rattle.raft_steps.specs.Installs.{installs, has_other_at}
use Rattle.raft_steps.specs.Parts.{Core, Machine}
use Rattle.raft_steps.specs.Refusals.{is_at_end}
use Rattle.raft_steps.specs.RequestRefusals.{is_above_vote, is_above_committed, refusals_of_counter_core, refusals_of_request}

module _ {NID N : Type 0} (cmp : NID → NID → Ordering) where
  -- an install that would delete a committed membership above the snapshot
  abbrev pub undoes_committed : RaftState NID N → SnapshotMeta NID N → LogId NID → Bool
  undoes_committed s meta x = installs cmp s meta && (has_other_at cmp s x && nat_lt (x.index + 1) (next s.cm.log_id))

  -- an id that is neither held nor above what was accepted from this vote's leader
  abbrev pub falls_short : RaftState NID N → Vote NID → LogId NID → Bool
  falls_short s v x =
      let accepted = accepted_under cmp v.leader_id s.accepted_by in
      is_some accepted && (not (has_log_id cmp s x) && not (is_below cmp accepted (Some x)))

  -- the last id of a snapshot contradicts what this node has
  abbrev pub is_unfit : RaftState NID N → Vote NID → SnapshotMeta NID N → LogId NID → Bool
  is_unfit s v meta x = is_above_committed cmp s x || (is_above_vote cmp v x || (undoes_committed s meta x || falls_short s v x))

  -- the ids of a snapshot: that of its last entry, if any, and that of its membership
  abbrev pub refusals_of_fit : RaftState NID N → Vote NID → SnapshotMeta NID N → Option (EngineError NID N)
  refusals_of_fit s v meta =
      let given = option_to_list meta.last_log_id in
      first_refusal (
      (list_any is_at_end given, IndexEnd)
      ∷ (not (is_within cmp meta.last_membership.log_id meta.last_log_id), SnapshotUnfit)
      ∷ (list_any (is_unfit s v meta) given, SnapshotUnfit)
      ∷ [])

module _ {C NID N E D R S : Type 0} (cmp : NID → NID → Ordering) where
  -- a snapshot of the vote's leader
  abbrev pub refusals_of_install_core : SnapshotMeta NID N → Core C NID N E D R S → Option (EngineError NID N)
  refusals_of_install_core meta c = option_or (refusals_of_counter_core c) (refusals_of_fit cmp c.state c.state.vote meta)

module _ {C NID N E D R S : Type 0} (cmp : NID → NID → Ordering) (config : EngineConfig NID) where
  -- a leader's snapshot
  abbrev pub refusals_of_install : Vote NID → SnapshotMeta NID N → Machine C NID N E D R S → Option (EngineError NID N)
  refusals_of_install v meta m = refusals_of_request cmp config v (refusals_of_fit cmp m.core.state v meta) m
