-- Laws of single calls: what a call queues, and what a leader commits.
use Rattle.std.specs.Prelude.{◌≡◌, ℕ, ◌+◌, ◌≤◌, Bool, true, false, not, ◌&&◌, List, [], ◌∷◌, ◌++◌, Option, None, Some, map, filter, filter_map, fold, if◌then◌else◌}
use Rattle.std.specs.List.{AllByRecursion}
use Rattle.std.specs.declared.cmp.Ordering.{Ordering}
use Rattle.std.specs.Ordering.{is_eq, is_ge, is_gt, is_lt}
use Rattle.raft_state.specs.declared.ids.LeaderId.{LeaderId}
use Rattle.raft_state.specs.declared.ids.LogId.{LogId}
use Rattle.raft_state.specs.declared.ids.Vote.{Vote}
use Rattle.raft_state.specs.Order.{leader_id_cmp, last_id_cmp, vote_cmp, next}
use Rattle.raft_progress_entry.specs.declared.entry.ProgressEntry.{ProgressEntry}
use Rattle.raft_proposer.specs.raft_progress.Quorum.{is_quorum}
use Rattle.raft_proposer.specs.raft_progress.Table.{get, reached, voter_rows}
use Rattle.raft_command.specs.declared.command.Command.{Command}
use Rattle.raft_command.specs.declared.command.Command.TheVariants as command
use Rattle.raft_command.specs.declared.config.EngineConfig.{EngineConfig}
use Rattle.raft_steps.specs.Parts.{Core, Led}

module _ {C NID N E D R S : Type 0} where
  -- the vote that a command saves
  abbrev pub saved_vote : Command C NID N E D R S → Option (Vote NID)
  saved_vote (command.SaveVote vote) = Some vote
  saved_vote _ = None

  -- the number that a command carries
  abbrev pub sequence_number : Command C NID N E D R S → Option ℕ
  sequence_number (command.Commit seq _ _) = Some seq
  sequence_number (command.StateMachine c) = Some c.seq
  sequence_number _ = None

  -- the id from which on a command deletes the log
  abbrev pub deleted_from : Command C NID N E D R S → Option (LogId NID)
  deleted_from (command.DeleteConflictLog since) = Some since
  deleted_from _ = None

  -- some command saves a vote
  abbrev pub saves_vote : List (Command C NID N E D R S) → Bool
  saves_vote commands = elim (filter_map saved_vote commands) [ [] ↦ false | v ∷ vs ↦ true ]

-- numbers that rise by one, from the one after the first to the last
abbrev pub CountTo : ℕ → List ℕ → ℕ → Type 0
CountTo first [] last = last ≡ first
CountTo first (n ∷ ns) last = (n ≡ first + 1) × CountTo n ns last

module _ {NID : Type 0} (cmp : NID → NID → Ordering) where
  -- votes that rise, each above the one before, from the first to the last
  abbrev pub RiseTo : Vote NID → List (Vote NID) → Vote NID → Type 0
  RiseTo first [] last = last ≡ first
  RiseTo first (v ∷ vs) last = (is_lt (vote_cmp cmp first v) ≡ true) × RiseTo v vs last

module _ {C NID N E D R S : Type 0} (cmp : NID → NID → Ordering) where
  -- a call queues commands after those that are there; each vote that it adopts is saved, and only if it is above the
  -- one before (Raft paper, figure 2: persistent state); and its sequence numbers rise by one
  pub record Queues (old new : Core C NID N E D R S) : Type 0 where
    pub added : List (Command C NID N E D R S)
    pub behind : new.output.items ≡ old.output.items ++ added
    pub votes : RiseTo cmp old.state.vote (filter_map saved_vote added) new.state.vote
    pub numbers : CountTo old.output.seq (filter_map sequence_number added) new.output.seq

module _ {C NID N E D R S : Type 0} where
  -- each command that a call queues is allowed
  pub record QueuesOnly (allowed : Command C NID N E D R S → Type 0) (old new : Core C NID N E D R S) : Type 0 where
    pub added : List (Command C NID N E D R S)
    pub behind : new.output.items ≡ old.output.items ++ added
    pub each : AllByRecursion allowed added

  -- a call deletes nothing from the log
  abbrev pub DeletesNothing : Core C NID N E D R S → Core C NID N E D R S → Type 0
  DeletesNothing = QueuesOnly (λ x. deleted_from x ≡ None)

  -- a call deletes nothing at or below the committed index: what is committed stays (Raft paper, section 5.4.3)
  pub record KeepsCommitted (old new : Core C NID N E D R S) : Type 0 where
    pub added : List (Command C NID N E D R S)
    pub behind : new.output.items ≡ old.output.items ++ added
    pub past : AllByRecursion (λ (x : LogId NID). next old.state.committed ≤ x.index) (filter_map deleted_from added)

  -- an equal vote stays and isn't saved, and its time is now
  pub record Renews (now : ℕ) (old new : Core C NID N E D R S) : Type 0 where
    pub added : List (Command C NID N E D R S)
    pub behind : new.output.items ≡ old.output.items ++ added
    pub unsaved : saves_vote added ≡ false
    pub vote : new.state.vote ≡ old.state.vote
    pub time : new.state.time ≡ Some now

module _ {NID : Type 0} (cmp : NID → NID → Ordering) where
  -- an id of this leader's
  abbrev pub is_of : LeaderId NID → Option (LogId NID) → Bool
  is_of leader None = false
  is_of leader (Some x) = is_eq (leader_id_cmp cmp x.leader_id leader)

  -- the later of two ids
  abbrev pub later : Option (LogId NID) → Option (LogId NID) → Option (LogId NID)
  later a b = if is_gt (last_id_cmp cmp b a) then b else a

module _ {C NID N E D R S : Type 0} (cmp : NID → NID → Ordering) where
  -- what may be committed: the voters' matching ids that are the vote's leader's and that a majority of each voter
  -- group has reached (Raft paper, section 5.4.2)
  abbrev pub committable : Led C NID N E D R S → List (Option (LogId NID))
  committable l =
      filter (λ x. is_of cmp l.core.state.vote.leader_id x && is_quorum cmp l.leader.progress.set (reached (last_id_cmp cmp) (λ (e : ProgressEntry NID). e.matching) l.leader.progress x))
      (map (λ (row : NID × ProgressEntry NID). row.1.matching) (voter_rows l.leader.progress))

  -- the committed id is the latest of the one before and of what may be committed
  abbrev pub CommitsLatest : Option (LogId NID) → Led C NID N E D R S → Type 0
  CommitsLatest before l = l.core.state.committed ≡ fold (later cmp) before (committable l)

module _ {C NID N E D R S : Type 0} (cmp : NID → NID → Ordering) (config : EngineConfig NID) where
  -- this node's own acknowledgement counts: it is in the leader's table, with a lower matching id
  abbrev pub takes_local : Option (LogId NID) → Led C NID N E D R S → Bool
  takes_local None l = false
  takes_local (Some x) l = elim (get cmp l.leader.progress config.id) [ None ↦ false | Some e ↦ not (is_ge (last_id_cmp cmp e.matching (Some x))) ]
