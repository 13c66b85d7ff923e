-- How a leader's replication to another node ends, whatever that node answers (Raft paper, section 5.3).
use Rattle.std.specs.Prelude.{ℕ, zero, suc, ◌+◌, ◌*◌, ◌<◌, ◌≤◌, ◌≡◌, ◌≢◌, ◌⊎◌, true, List, ◌∷◌, Option, None, Some, Result, Ok, Err, Contains}
use Rattle.std.specs.List.{AllByRecursion}
use Rattle.std.specs.declared.cmp.Ordering.{Ordering}
use Rattle.proof_deeds.specs.raft_state.declared.ids.LogId.{LogId}
use Rattle.proof_deeds.specs.raft_state.Log.{last}
use Rattle.proof_deeds.specs.raft_state.Order.{next}
use Rattle.proof_deeds.specs.raft_progress_entry.declared.entry.Inflight.{Inflight}
use Rattle.proof_deeds.specs.raft_progress_entry.declared.entry.Inflight.TheVariants as inflight
use Rattle.proof_deeds.specs.raft_progress_entry.declared.entry.ProgressEntry.{ProgressEntry}
use Rattle.proof_deeds.specs.raft_progress.Quorum.{is_quorum}
use Rattle.proof_deeds.specs.raft_progress.Table.{get, voter_rows}
use Rattle.proof_deeds.specs.raft_command.declared.config.EngineConfig.{EngineConfig}
use Rattle.proof_deeds.specs.raft_command.declared.replication.RequestId.{RequestId}
use Rattle.proof_deeds.specs.raft_command.declared.replication.RequestId.TheVariants as request
use Rattle.proof_deeds.specs.raft_steps.Invariants.{IsSoundLed}
use Rattle.proof_deeds.specs.raft_steps.Laws.{is_of}
use Rattle.proof_deeds.specs.raft_steps.Parts.{Led}
use Rattle.proof_deeds.specs.raft_steps.Replies.{update_progress}
use Rattle.proof_deeds.specs.raft_steps.ReplyRefusals.{refusals_of_progress}

-- the request by which something is sent
abbrev pub request_of : {NID : Type 0} → Inflight NID → RequestId
request_of inflight.None = request.HeartBeat
request_of (inflight.Logs number range) = request.AppendEntries number
request_of (inflight.Snapshot number end) = request.Snapshot number

-- an answer to it: the node's log matches up to the last id that was sent, or conflicts with the id before the entries
abbrev pub Answers : {NID : Type 0} → Inflight NID → Result (Option (LogId NID)) (LogId NID) → Type 0
Answers (inflight.Logs number range) (Ok x) = x ≡ range.last
Answers (inflight.Logs number range) (Err x) = range.prev ≡ Some x
Answers (inflight.Snapshot number end) (Ok x) = x ≡ end
Answers _ _ = ⊥

module _ {C NID N E D R S : Type 0} (cmp : NID → NID → Ordering) where
  -- something is in flight to a node
  pub record IsAsked (target : NID) (l : Led C NID N E D R S) : Type 0 where
    pub entry : ProgressEntry NID
    pub has : get cmp l.leader.progress target ≡ Some entry
    pub busy : entry.inflight ≢ inflight.None

  -- nothing is in flight to it any more: its log matches up to the leader's last entry
  pub record IsMatched (target : NID) (l : Led C NID N E D R S) : Type 0 where
    pub entry : ProgressEntry NID
    pub has : get cmp l.leader.progress target ≡ Some entry
    pub free : entry.inflight ≡ inflight.None
    pub matching : entry.matching ≡ last l.core.state.ids

-- a voter's log matches up to the leader's last entry
abbrev pub IsMatchedVoter : {C NID N E D R S : Type 0} → Led C NID N E D R S → NID → Type 0
IsMatchedVoter l t = (e : _) × Contains (voter_rows l.leader.progress) (t, e) × (e.matching ≡ last l.core.state.ids)

module _ {C NID N E D R S : Type 0} (cmp : NID → NID → Ordering) (config : EngineConfig NID) where
  -- an answer to a request is handled
  abbrev pub answered : NID → RequestId → ℕ → Result (Option (LogId NID)) (LogId NID) → Led C NID N E D R S → Led C NID N E D R S
  answered target id time result l = update_progress cmp config {T = Unit {0}} target id (Ok (record { sending_time = time; result = result })) l

  -- a node's answer to what is in flight to it is handled, not refused; the queue may be worked off then
  pub record Handles (target : NID) (old new : Led C NID N E D R S) : Type 0 where
    pub asked : IsAsked cmp target old
    pub time : ℕ
    pub result : Result (Option (LogId NID)) (LogId NID)
    pub answers : Answers asked.entry.inflight result
    pub unrefused : refusals_of_progress cmp config {T = Unit {0}} target (request_of asked.entry.inflight) (Ok (record { sending_time = time; result = result })) old ≡ None
    pub leader : new.leader ≡ (answered target (request_of asked.entry.inflight) time result old).leader
    pub state : new.core.state ≡ (answered target (request_of asked.entry.inflight) time result old).core.state

  -- so many answers of a node, one after another
  abbrev pub Rounds : NID → ℕ → Led C NID N E D R S → Led C NID N E D R S → Type 0
  Rounds target zero old new = new ≡ old
  Rounds target (suc k) old new = (mid : Led C NID N E D R S) × Handles target old mid × Rounds target k mid new

module _ {NID : Type 0} (C N E D R S : Type 0) (cmp : NID → NID → Ordering) where
  -- a sound leader of which not all of the log is to be purged, and that has something in flight to a node whose log isn't known
  -- to match up to its last entry
  pub record Replicates (config : EngineConfig NID) (target : NID) (l : Led C NID N E D R S) : Type 0 where
    pub payload : 1 ≤ config.max_payload_entries
    pub sound : IsSoundLed cmp config l
    pub unpurged : next l.core.state.purge_to < next (last l.core.state.ids)
    pub asked : IsAsked cmp target l
    pub behind : asked.entry.matching ≢ last l.core.state.ids

  -- whatever a node answers, its log matches after at most twice as many answers as the log has entries, and one; until then
  -- each answer is followed by the next request
  abbrev pub AnswersEnd : Type 0
  AnswersEnd =
      (config : EngineConfig NID) (target : NID) (k : ℕ) (old new : Led C NID N E D R S) → Replicates config target old → Rounds cmp config target k old new
      → (k ≤ 2 * next (last old.core.state.ids) + 1) × (IsAsked cmp target new ⊎ IsMatched cmp target new)

  -- with the answer by which a node's log comes to match, the leader's last entry is committed, if that is of its own leader
  -- id, and the voters whose logs match are a quorum of each group (Raft paper, section 5.4.2)
  abbrev pub QuorumsCommit : Type 0
  QuorumsCommit =
      (config : EngineConfig NID) (target : NID) (k : ℕ) (old new : Led C NID N E D R S) → Replicates config target old → Rounds cmp config target (suc k) old new → IsMatched cmp target new
      → is_of cmp new.core.state.vote.leader_id (last new.core.state.ids) ≡ true
      → (t : NID) (ts : List NID) → AllByRecursion (IsMatchedVoter new) (t ∷ ts) → is_quorum cmp new.leader.progress.set (t ∷ ts) ≡ true
      → new.core.state.committed ≡ last new.core.state.ids
