-- The laws of installs, for the step of each call.
use Rattle.std.specs.Prelude.{◌≡◌, ℕ, ◌+◌, true, false, List, [], ◌∷◌, ◌++◌, None, Some, IfSome, filter_map}
use Rattle.std.specs.declared.cmp.Ordering.{Ordering}
use Rattle.raft_state.specs.declared.config.RaftEntry
use Rattle.raft_state.specs.declared.ids.LogId.{LogId}
use Rattle.raft_state.specs.declared.ids.Vote.{Vote}
use Rattle.raft_command.specs.declared.command.Command.{Command}
use Rattle.raft_command.specs.declared.command.Command.TheVariants.{Respond, StateMachine}
use Rattle.raft_command.specs.declared.command.Condition.TheVariants.{StateMachineCommand}
use Rattle.raft_command.specs.declared.config.EngineConfig.{EngineConfig}
use Rattle.raft_command.specs.declared.message.Snapshot.{Snapshot}
use Rattle.raft_command.specs.declared.message.Token.{Token}
use Rattle.raft_command.specs.declared.respond.Respond.TheVariants as respond
use Rattle.raft_command.specs.declared.sm.CommandPayload.TheVariants.{InstallFullSnapshot}
use Rattle.raft_steps.specs.InstallRefusals.{refusals_of_install, refusals_of_install_core}
use Rattle.raft_steps.specs.Installs.{installs, replaces_log, install_full_snapshot, handle_install_full_snapshot}
use Rattle.raft_steps.specs.Laws.{deleted_from, Queues, QueuesOnly, KeepsCommitted}
use Rattle.raft_steps.specs.Parts.{Core, Machine}
use Rattle.raft_steps.specs.ReplyLaws.{purged_by, PurgesWithin}
use Rattle.raft_steps.specs.VoteHandler.{rejects_vote, update_vote}

module _ {C NID N E D R S : Type 0} where
  -- an install under a number, and the reply that waits for it
  abbrev pub installing : Snapshot C NID N E D R S → ℕ → Command C NID N E D R S
  installing snapshot number = StateMachine (record { seq = number; payload = InstallFullSnapshot snapshot })

  abbrev pub reply_waiting : Vote NID → Token → ℕ → Command C NID N E D R S
  reply_waiting vote token number = Respond (Some (StateMachineCommand number)) (respond.InstallFullSnapshot (record { value = record { vote = vote }; token = token }))

  -- what a command deletes of the log begins at this index
  abbrev pub DeletesAt : ℕ → Command C NID N E D R S → Type 0
  DeletesAt i command = IfSome (deleted_from command) (λ since. since.index ≡ i)

  -- an install is queued under a number with no purge before it, and these commands come last
  pub record InstallsFirst (snapshot : Snapshot C NID N E D R S) (number : ℕ) (ends : List (Command C NID N E D R S)) (old new : Core C NID N E D R S) : Type 0 where
    pub before : List (Command C NID N E D R S)
    pub after : List (Command C NID N E D R S)
    pub behind : new.output.items ≡ old.output.items ++ (before ++ (installing snapshot number ∷ (after ++ ends)))
    pub unpurged : filter_map purged_by before ≡ []

module _ {NID N E : Type 0} (C D R S : Type 0) (cmp : NID → NID → Ordering) (entry : RaftEntry.Ghosts E NID N) where
  -- both calls queue as every call does
  pub record InstallsQueue : Type 0 where
    pub by_install : (config : EngineConfig NID) (snapshot : Snapshot C NID N E D R S) (c : Core C NID N E D R S) → Queues cmp c (install_full_snapshot cmp config snapshot c)
    pub by_handle_install : (config : EngineConfig NID) (v : Vote NID) (snapshot : Snapshot C NID N E D R S) (token : Token) (now : ℕ) (m : Machine C NID N E D R S) → Queues cmp m.core (handle_install_full_snapshot cmp entry config v snapshot token now m).core

  -- what they delete of the log begins at the snapshot's last index: entries below it stay
  pub record InstallsCut : Type 0 where
    pub by_install : (config : EngineConfig NID) (snapshot : Snapshot C NID N E D R S) (x : LogId NID) (c : Core C NID N E D R S) → snapshot.meta.last_log_id ≡ Some x
        → QueuesOnly (DeletesAt x.index) c (install_full_snapshot cmp config snapshot c)
    pub by_handle_install : (config : EngineConfig NID) (v : Vote NID) (snapshot : Snapshot C NID N E D R S) (x : LogId NID) (token : Token) (now : ℕ) (m : Machine C NID N E D R S) → snapshot.meta.last_log_id ≡ Some x
        → QueuesOnly (DeletesAt x.index) m.core (handle_install_full_snapshot cmp entry config v snapshot token now m).core

  -- neither, unless refused, deletes what is committed, and no purge that they queue goes above the snapshot's last id
  pub record InstallsKeep : Type 0 where
    pub by_install : (config : EngineConfig NID) (snapshot : Snapshot C NID N E D R S) (c : Core C NID N E D R S) → refusals_of_install_core cmp snapshot.meta c ≡ None
        → KeepsCommitted c (install_full_snapshot cmp config snapshot c)
    pub by_handle_install : (config : EngineConfig NID) (v : Vote NID) (snapshot : Snapshot C NID N E D R S) (token : Token) (now : ℕ) (m : Machine C NID N E D R S) → refusals_of_install cmp config v snapshot.meta m ≡ None
        → KeepsCommitted m.core (handle_install_full_snapshot cmp entry config v snapshot token now m).core
    pub purges_by_install : (config : EngineConfig NID) (snapshot : Snapshot C NID N E D R S) (c : Core C NID N E D R S) → PurgesWithin cmp c (install_full_snapshot cmp config snapshot c)
    pub purges_by_handle_install : (config : EngineConfig NID) (v : Vote NID) (snapshot : Snapshot C NID N E D R S) (token : Token) (now : ℕ) (m : Machine C NID N E D R S) → PurgesWithin cmp m.core (handle_install_full_snapshot cmp entry config v snapshot token now m).core

  -- an installed snapshot is queued before the purge, and the reply waits for its number (Raft paper, section 7)
  pub record InstallsInOrder : Type 0 where
    pub by_install : (config : EngineConfig NID) (snapshot : Snapshot C NID N E D R S) (c : Core C NID N E D R S) → installs cmp c.state snapshot.meta ≡ true
        → InstallsFirst snapshot (c.output.seq + 1) [] c (install_full_snapshot cmp config snapshot c)
    pub by_handle_install : (config : EngineConfig NID) (v : Vote NID) (snapshot : Snapshot C NID N E D R S) (token : Token) (now : ℕ) (m : Machine C NID N E D R S)
        → (let voted = (update_vote cmp entry config v now m).core in rejects_vote cmp m.core.state v ≡ false → installs cmp voted.state snapshot.meta ≡ true
        → (let new = (handle_install_full_snapshot cmp entry config v snapshot token now m).core in
        let number = voted.output.seq + 1 in InstallsFirst snapshot number (reply_waiting new.state.vote token number ∷ []) m.core new))

  -- an installed snapshot is recorded and its last id committed; if it replaced the log, both memberships are its own
  pub record InstallsLeave : Type 0 where
    pub recorded : (config : EngineConfig NID) (snapshot : Snapshot C NID N E D R S) (c : Core C NID N E D R S) → installs cmp c.state snapshot.meta ≡ true
        → (let s = (install_full_snapshot cmp config snapshot c).state in (s.snap ≡ snapshot.meta) × (s.committed ≡ snapshot.meta.last_log_id))
    pub members : (config : EngineConfig NID) (snapshot : Snapshot C NID N E D R S) (x : LogId NID) (c : Core C NID N E D R S)
        → snapshot.meta.last_log_id ≡ Some x → installs cmp c.state snapshot.meta ≡ true → replaces_log cmp c.state x ≡ true
        → (let s = (install_full_snapshot cmp config snapshot c).state in (s.cm ≡ snapshot.meta.last_membership) × (s.em ≡ snapshot.meta.last_membership))
