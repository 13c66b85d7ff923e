-- The laws of single calls, on the step of each.
use Rattle.std.specs.Prelude.{◌≡◌, ℕ, Bool, true, List, Option, None}
use Rattle.std.specs.declared.cmp.Ordering.{Ordering}
use Rattle.std.specs.Ordering.{is_le, is_lt}
use Rattle.raft_state.specs.declared.config.RaftEntry
use Rattle.raft_state.specs.declared.ids.LogId.{LogId}
use Rattle.raft_state.specs.declared.ids.Vote.{Vote}
use Rattle.raft_state.specs.declared.membership.StoredMembership.{StoredMembership}
use Rattle.raft_state.specs.Fits.{fits}
use Rattle.raft_state.specs.Order.{vote_cmp}
use Rattle.raft_progress_entry.specs.declared.entry.Inflight.{Inflight}
use Rattle.raft_command.specs.declared.config.EngineConfig.{EngineConfig}
use Rattle.raft_command.specs.declared.command.Command.TheVariants as command
use Rattle.raft_command.specs.declared.message.VoteResponse.{VoteResponse}
use Rattle.raft_command.specs.declared.respond.Respond.{Respond}
use Rattle.raft_steps.specs.Engine.{elect, initialize, handle_vote_resp}
use Rattle.raft_steps.specs.FollowingHandler.{do_append_entries}
use Rattle.raft_steps.specs.Invariants.{IsSoundLed}
use Rattle.raft_steps.specs.Laws.{Queues, DeletesNothing, KeepsCommitted, saves_vote, CommitsLatest, takes_local}
use Rattle.raft_steps.specs.LeaderHandler.{leader_append_entries}
use Rattle.raft_steps.specs.Parts.{Core, Led, Machine, then_command}
use Rattle.raft_steps.specs.ReplicationHandler.{initiate_replication, rebuild_progresses, rebuild_replication_streams, append_membership_led, try_commit_quorum_accepted, update_local_progress}
use Rattle.raft_steps.specs.ServerStateHandler.{update_role}
use Rattle.raft_steps.specs.SnapshotHandler.{trigger_snapshot}
use Rattle.raft_steps.specs.VoteHandler.{update_vote, update_internal_server_state, become_leader, become_following}

module _ {NID N E : Type 0} (C D R S : Type 0) (cmp : NID → NID → Ordering) (entry : RaftEntry.Ghosts E NID N) where
  -- what `Queues` says of the vote: it is never lowered, and is saved exactly when it rises
  pub record SavesVotes : Type 0 where
    pub never_lowered : (old new : Core C NID N E D R S) → Queues cmp old new → is_le (vote_cmp cmp old.state.vote new.state.vote) ≡ true
    pub saved_where_grown : (old new : Core C NID N E D R S) (q : Queues cmp old new) → saves_vote q.added ≡ is_lt (vote_cmp cmp old.state.vote new.state.vote)

  -- each call of elections and leading does this to the core (`accept_vote` as `update_vote`, or a reply)
  pub record LeadingCalls (Does : Core C NID N E D R S → Core C NID N E D R S → Type 0) : Type 0 where
    pub by_elect : (config : EngineConfig NID) (now : ℕ) (m : Machine C NID N E D R S) → Does m.core (elect cmp entry config now m).core
    pub by_initialize : (config : EngineConfig NID) (first : NID) (e : E) (now : ℕ) (m : Machine C NID N E D R S) → Does m.core (initialize cmp entry config first e now m).core
    pub by_handle_vote_resp : (config : EngineConfig NID) (target : NID) (resp : VoteResponse NID) (now : ℕ) (m : Machine C NID N E D R S) → Does m.core (handle_vote_resp cmp entry config target resp now m).core
    pub by_update_vote : (config : EngineConfig NID) (v : Vote NID) (now : ℕ) (m : Machine C NID N E D R S) → Does m.core (update_vote cmp entry config v now m).core
    pub by_internal : (config : EngineConfig NID) (m : Machine C NID N E D R S) → Does m.core (update_internal_server_state cmp entry config m).core
    pub by_become_leader : (config : EngineConfig NID) (m : Machine C NID N E D R S) → Does m.core (become_leader cmp entry config m).core
    pub by_become_following : (config : EngineConfig NID) (m : Machine C NID N E D R S) → Does m.core (become_following cmp config m).core
    pub by_reply : (resp : Respond C NID N E D R S) (c : Core C NID N E D R S) → Does c (then_command c (command.Respond None resp))
    pub by_do_append : (config : EngineConfig NID) (es : List E) (c : Core C NID N E D R S) → Does c (do_append_entries cmp entry config es c)
    pub by_update_role : (config : EngineConfig NID) (c : Core C NID N E D R S) → Does c (update_role cmp config c)
    pub by_trigger_snapshot : (c : Core C NID N E D R S) → Does c (trigger_snapshot c)
    pub by_leader_append : (config : EngineConfig NID) (es : List E) (l : Led C NID N E D R S) → Does l.core (leader_append_entries cmp entry config es l).core
    pub by_append_membership : (config : EngineConfig NID) (s : StoredMembership NID N) (l : Led C NID N E D R S) → Does l.core (append_membership_led cmp config s l).core
    pub by_rebuild_progresses : (l : Led C NID N E D R S) → Does l.core (rebuild_progresses cmp l).core
    pub by_rebuild : (config : EngineConfig NID) (l : Led C NID N E D R S) → Does l.core (rebuild_replication_streams cmp config l).core
    pub by_initiate : (config : EngineConfig NID) (force : Bool) (l : Led C NID N E D R S) → Does l.core (initiate_replication cmp config force l).core
    pub by_send : (target : NID) (f : Inflight NID) (c : Core C NID N E D R S) → Does c (then_command c (command.Replicate target f))
    pub by_try_commit : (config : EngineConfig NID) (x : Option (LogId NID)) (c : Core C NID N E D R S) → Does c (try_commit_quorum_accepted cmp config x c)
    pub by_local_progress : (config : EngineConfig NID) (x : Option (LogId NID)) (l : Led C NID N E D R S) → Does l.core (update_local_progress cmp config x l).core

  -- what deletes nothing deletes nothing that is committed
  abbrev pub NothingDeletedKeeps : Type 0
  NothingDeletedKeeps = (old new : Core C NID N E D R S) → DeletesNothing old new → KeepsCommitted old new

  -- a leader commits the latest of what may be committed, after this node's own acknowledgement
  abbrev pub LocalProgressCommits : Type 0
  LocalProgressCommits =
      (config : EngineConfig NID) (x : Option (LogId NID)) (l : Led C NID N E D R S) → takes_local cmp config x l ≡ true → fits cmp l.core.state.ids l.core.state.purged x ≡ true
      → IsSoundLed cmp config l → CommitsLatest cmp l.core.state.committed (update_local_progress cmp config x l)
