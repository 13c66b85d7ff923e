-- How a leader's proposal is committed, whatever the other nodes answer (Raft paper, sections 5.3 and 5.4.2).
use Rattle.std.specs.Prelude.{ℕ, ◌+◌, ◌≤◌, ◌≡◌, ◌≢◌, true, List, [], ◌∷◌, length, None, Some, Err, Contains, is_some, map}
use Rattle.std.specs.List.{AllByRecursion}
use Rattle.std.specs.declared.cmp.Ordering.{Ordering}
use Rattle.std.specs.Ordering.{is_eq}
use Rattle.proof_deeds.specs.raft_state.declared.config.RaftEntry
use Rattle.proof_deeds.specs.raft_state.declared.ids.LogId.{LogId}
use Rattle.proof_deeds.specs.raft_state.Log.{last}
use Rattle.proof_deeds.specs.raft_state.Order.{next, vote_cmp}
use Rattle.proof_deeds.specs.raft_progress.Quorum.{is_quorum}
use Rattle.proof_deeds.specs.raft_progress.Table.{voter_rows}
use Rattle.proof_deeds.specs.raft_command.declared.config.EngineConfig.{EngineConfig}
use Rattle.proof_deeds.specs.raft_command.declared.replication.RequestId.{RequestId}
use Rattle.proof_deeds.specs.raft_command.Replication.{number_of}
use Rattle.proof_deeds.specs.raft_steps.Invariants.{IsSoundLed}
use Rattle.proof_deeds.specs.raft_steps.LeaderHandler.{leader_append_entries}
use Rattle.proof_deeds.specs.raft_steps.Parts.{Led}
use Rattle.proof_deeds.specs.raft_steps.Refusals.{refusals_of_propose}
use Rattle.proof_deeds.specs.raft_steps.Replies.{update_progress}
use Rattle.proof_deeds.specs.raft_steps.ReplicationHandler.{update_local_progress}
use Rattle.proof_deeds.specs.raft_steps.ReplyRefusals.{refusals_of_progress}
use Rattle.proof_progress.specs.Replication.{IsMatched, Rounds}

-- each id once
abbrev pub EachOnce : {NID : Type 0} → List NID → Type 0
EachOnce [] = Unit {0}
EachOnce (x ∷ xs) = AllByRecursion (λ y. y ≢ x) xs × EachOnce xs

module _ {C NID N E D R S : Type 0} where
  -- the id of the leader's last entry, once it has one entry more, and n
  abbrev pub id_past : ℕ → Led C NID N E D R S → LogId NID
  id_past n l = record { leader_id = l.leader.vote.leader_id; index = next (last l.core.state.ids) + n }

  -- a voter of the leader's membership
  abbrev pub IsVoter : Led C NID N E D R S → NID → Type 0
  IsVoter l t = Contains (map (λ row. row.0) (voter_rows l.leader.progress)) t

module _ {C NID N E D R S : Type 0} (cmp : NID → NID → Ordering) (config : EngineConfig NID) where
  -- the request in flight to a node is taken for failed, and the node is sent what it lacks; the queue may be worked off then
  pub record Fails (target : NID) (old new : Led C NID N E D R S) : Type 0 where
    pub request : RequestId
    pub numbered : is_some (number_of request) ≡ true
    pub unrefused : refusals_of_progress cmp config {T = Unit {0}} target request (Err tt) old ≡ None
    pub leader : new.leader ≡ (update_progress cmp config {T = Unit {0}} target request (Err tt) old).leader
    pub state : new.core.state ≡ (update_progress cmp config {T = Unit {0}} target request (Err tt) old).core.state

  -- a request to a node fails, and then the node's answers bring its log to match
  pub record Replicated (target : NID) (old new : Led C NID N E D R S) : Type 0 where
    pub begun : Led C NID N E D R S
    pub failed : Fails target old begun
    pub count : ℕ
    pub rounds : Rounds cmp config target count begun new
    pub matched : IsMatched cmp target new

  -- one node after another
  abbrev pub ReplicatedTo : List NID → Led C NID N E D R S → Led C NID N E D R S → Type 0
  ReplicatedTo [] old new = new ≡ old
  ReplicatedTo (t ∷ ts) old new = (mid : Led C NID N E D R S) × Replicated t old mid × ReplicatedTo ts mid new

module _ {C NID N E D R S : Type 0} (cmp : NID → NID → Ordering) (entry : RaftEntry.Ghosts E NID N) (config : EngineConfig NID) where
  -- a leader under its state's vote proposes one entry or more without memberships, and then acknowledges its own log
  pub record Proposes (e : E) (es : List E) (old new : Led C NID N E D R S) : Type 0 where
    pub plain : AllByRecursion (λ x. entry.membership_of x ≡ None) (e ∷ es)
    pub own_vote : is_eq (vote_cmp cmp old.leader.vote old.core.state.vote) ≡ true
    pub unrefused : refusals_of_propose (length (e ∷ es)) old ≡ None
    pub leader : new.leader ≡ (update_local_progress cmp config (Some (id_past (length es) old)) (leader_append_entries cmp entry config (e ∷ es) old)).leader
    pub state : new.core.state ≡ (update_local_progress cmp config (Some (id_past (length es) old)) (leader_append_entries cmp entry config (e ∷ es) old)).core.state

module _ {NID : Type 0} (C N E D R S : Type 0) (cmp : NID → NID → Ordering) (entry : RaftEntry.Ghosts E NID N) where
  -- a sound leader proposes entries: if the voters to which its log is replicated, whatever they
  -- answer, are with the leader a quorum of each group, the last of them, and so all, are committed in the end
  abbrev pub ProposalsCommit : Type 0
  ProposalsCommit =
      (config : EngineConfig NID) (e : E) (es : List E) (old mid new : Led C NID N E D R S) → 1 ≤ config.max_payload_entries → IsSoundLed cmp config old → Proposes cmp entry config e es old mid
      → (t : NID) (ts : List NID) → EachOnce (config.id ∷ t ∷ ts) → AllByRecursion (IsVoter old) (config.id ∷ t ∷ ts) → is_quorum cmp old.leader.progress.set (config.id ∷ t ∷ ts) ≡ true
      → ReplicatedTo cmp config (t ∷ ts) mid new → new.core.state.committed ≡ Some (id_past (length es) old)
