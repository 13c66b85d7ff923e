-- The refusals of the replies to what a leader sent, in the order in which they are asked.
use Rattle.std.specs.Prelude.{ℕ, ◌==◌, not, Bool, true, false, [], ◌∷◌, Option, None, Some, Result, Ok, Err, is_none, if◌then◌else◌}
use Rattle.std.specs.Option.{option_or}
use Rattle.std.specs.Ordering.{is_eq}
use Rattle.std.specs.declared.cmp.Ordering.{Ordering}
use Rattle.raft_state.specs.declared.ids.LogId.{LogId}
use Rattle.raft_state.specs.declared.state.RaftState.{RaftState}
use Rattle.raft_state.specs.Fits.{fits}
use Rattle.raft_progress_entry.specs.Entry.{refusals_of_matched, refusals_of_conflicted}
use Rattle.raft_progress_entry.specs.raft_error.Number.{first_refusal}
use Rattle.raft_proposer.specs.raft_progress.Table.{get}
use Rattle.raft_progress_entry.specs.declared.entry.Inflight.{Inflight}
use Rattle.raft_progress_entry.specs.declared.entry.Inflight.TheVariants as inflight
use Rattle.raft_progress_entry.specs.declared.entry.ProgressEntry.{ProgressEntry}
use Rattle.raft_progress_entry.specs.raft_error.declared.error.EngineError.{EngineError}
use Rattle.raft_progress_entry.specs.raft_error.declared.error.EngineError.TheVariants.{UnknownTarget, ForeignInflight, OutsideInflight}
use Rattle.raft_command.specs.Replication.{number_of}
use Rattle.raft_command.specs.declared.config.EngineConfig.{EngineConfig}
use Rattle.raft_command.specs.declared.replication.ReplicationResult.{ReplicationResult}
use Rattle.raft_command.specs.declared.replication.RequestId.{RequestId}
use Rattle.raft_command.specs.declared.replication.RequestId.TheVariants as request
use Rattle.raft_command.specs.Ends.{refusals_of_spent}
use Rattle.raft_steps.specs.Refusals.{refusals_of_counter_led}
use Rattle.raft_steps.specs.Parts.{Led}
use Rattle.raft_proposer.specs.Joint.{JointLeader}

-- a request is the one in flight, by kind and by number; a heartbeat never is, and always passes
abbrev pub is_own_request : {NID : Type 0} → Inflight NID → RequestId → Bool
is_own_request _ request.HeartBeat = true
is_own_request (inflight.Logs i _) (request.AppendEntries id) = i == id
is_own_request (inflight.Snapshot i _) (request.Snapshot id) = i == id
is_own_request _ _ = false

module _ {NID N : Type 0} (cmp : NID → NID → Ordering) where
  -- an acknowledgement: of what is in flight, and of an id that fits this node's log
  abbrev pub refusals_of_acknowledged : RaftState NID N → ProgressEntry NID → ℕ → Option (LogId NID) → Option (EngineError NID N)
  refusals_of_acknowledged s e number x = option_or (refusals_of_matched cmp e number x) (first_refusal ((not (fits cmp s.ids s.purged x), OutsideInflight) ∷ []))

  -- an answer: an acknowledgement without a number has nothing to check
  abbrev pub refusals_of_answer : RaftState NID N → ProgressEntry NID → RequestId → ReplicationResult NID → Option (EngineError NID N)
  refusals_of_answer s e id answer =
      elim answer.result [
        | Ok x ↦ elim (number_of id) [ None ↦ None | Some number ↦ refusals_of_acknowledged s e number x ]
        | Err x ↦ refusals_of_conflicted e (number_of id) x.index
      ]

  -- an answer, or a failure of the request in flight
  abbrev pub refusals_of_result : {T : Type 0} → RaftState NID N → ProgressEntry NID → RequestId → Result (ReplicationResult NID) T → Option (EngineError NID N)
  refusals_of_result s e id (Ok answer) = refusals_of_answer s e id answer
  refusals_of_result s e id (Err _) = first_refusal ((not (is_own_request e.inflight id), ForeignInflight) ∷ [])

module _ {C NID N E D R S : Type 0} (cmp : NID → NID → Ordering) where
  -- a target is in the table, and its entry passes too
  abbrev pub refusals_of_entry : NID → (ProgressEntry NID → Option (EngineError NID N)) → JointLeader C NID N E D R S → Option (EngineError NID N)
  refusals_of_entry target more leader = elim (get cmp leader.progress target) [ None ↦ Some UnknownTarget | Some e ↦ more e ]

  -- a clock of a node that has one
  abbrev pub refusals_of_clock : NID → Led C NID N E D R S → Option (EngineError NID N)
  refusals_of_clock target l = option_or (refusals_of_spent l.core.output) (first_refusal ((is_none (get cmp l.leader.clock_progress target), UnknownTarget) ∷ []))

  -- a target's acknowledgement
  abbrev pub refusals_of_matching : NID → ℕ → Option (LogId NID) → Led C NID N E D R S → Option (EngineError NID N)
  refusals_of_matching target number x l = option_or (refusals_of_counter_led l) (refusals_of_entry target (λ e. refusals_of_acknowledged cmp l.core.state e number x) l.leader)

  -- a target's conflict
  abbrev pub refusals_of_conflicting : NID → Option ℕ → LogId NID → Led C NID N E D R S → Option (EngineError NID N)
  refusals_of_conflicting target number x l = option_or (refusals_of_spent l.core.output) (refusals_of_entry target (λ e. refusals_of_conflicted e number x.index) l.leader)

  -- a target's answer
  abbrev pub refusals_of_success : NID → RequestId → ReplicationResult NID → Led C NID N E D R S → Option (EngineError NID N)
  refusals_of_success target id answer l = option_or (refusals_of_counter_led l) (refusals_of_entry target (λ e. refusals_of_answer cmp l.core.state e id answer) l.leader)

module _ {C NID N E D R S : Type 0} (cmp : NID → NID → Ordering) (config : EngineConfig NID) where
  -- a reply to what was sent to another node, or its failure
  abbrev pub refusals_of_progress : {T : Type 0} → NID → RequestId → Result (ReplicationResult NID) T → Led C NID N E D R S → Option (EngineError NID N)
  refusals_of_progress target id result l =
      option_or (refusals_of_counter_led l)
      (if is_eq (cmp config.id target) then Some UnknownTarget else refusals_of_entry cmp target (λ e. refusals_of_result cmp l.core.state e id result) l.leader)
