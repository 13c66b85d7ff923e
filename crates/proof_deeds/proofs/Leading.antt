-- Leaders have votes above 0: so a node that has ideal streams has its own.
use Rattle.std.proofs.Common.{ℕ, ◌<◌, ◌≡◌, ⊎_elim, true, List, [], ◌∷◌, arith, false, refl, sym, subst, Option, None, Some, true≢false}
use Rattle.raft_node.specs.raft_command.declared.replication.ReplicationSessionId.{ReplicationSessionId}
use Rattle.proof_agreement.specs.Machine.{Setup, Includes}
use Rattle.proof_agreement.specs.Stores.{Message, Store, Stores, AppendRequest, SnapshotRequest, empty}
use Rattle.proof_agreement.specs.Deeds.{Deed, SaveVote, Win, FollowByAppend, FollowBySnapshot, RequestVotes, AnswerVote, Initialize, LeaderAppend, FollowerAppend, TruncateConflict, TruncateForSnapshot, Purge, BuildStreams, EndStreams, RecordEstablished, SendAppend, SendSnapshot, AcceptAppend, AcceptSnapshot, CommitByQuorum, FollowerCommit, LeaderCommit, Apply, InstallSnapshot, Note, BuildSnapshot, DropNote, ForgetSaved, Restart, RestartSaved, MayDo, AllMayDo, Streams, put, say, does, run_all}
use Rattle.proof_agreement.proofs.Logs.{updated_all}
use Rattle.raft_node.specs.raft_store.declared.entry.Entry.{Entry}
use Rattle.proof_deeds.specs.Chains.{Reached}
use Rattle.proof_deeds.specs.Follows.{StreamsAre}
use Rattle.proof_deeds.specs.Images.{Ideal}

-- what a leader sends names a leader id above 0
abbrev pub IsPositive : {A : Type 0} → Message A → Type 0
IsPositive (AppendRequest r) = 0 < r.session.leader
IsPositive (SnapshotRequest q es) = 0 < q.leader
IsPositive _ = Unit {0}

-- so is each committed vote
pub record LeadersPositive {A : Type 0} (W : Stores A) : Type 0 where
  pub stored : (n : ℕ) → (W.store n).vote_committed ≡ true → 0 < (W.store n).vote
  pub sent : (m : Message A) → Includes W.messages m → IsPositive m

module _ {A : Type 0} (s : Setup A) where
  module _ (W : Stores A) (h : LeadersPositive W) where
    at : (n : ℕ) (S : Store A) → (S.vote_committed ≡ true → 0 < S.vote) → LeadersPositive (put W n S)
    at n S k = record { stored = updated_all (λ m (T : Store A). T.vote_committed ≡ true → 0 < T.vote) W.store n S k (λ m _. h.stored m); sent = h.sent }

    says : (x : Message A) → IsPositive x → LeadersPositive (say W x)
    says x p = record { stored = h.stored; sent = λ m i. ⊎_elim (λ (e : x ≡ m). subst IsPositive e p) (λ k. h.sent m k) i }

    -- streams are of a leader
    streams_positive : (n : ℕ) → Streams s (W.store n) n → 0 < (W.store n).session.leader
    streams_positive n k = subst (λ d. 0 < d) (sym k.session) (h.stored n k.leads.vote_committed)

    deed_positive : (e : Deed A) → MayDo s W e → LeadersPositive (does s W e)
    deed_positive (SaveVote n d) k = at n (record (W.store n) { vote = d; vote_committed = false }) (λ e. absurd (true≢false (sym e)))
    deed_positive (Win n q) k = at n (record (W.store n) { vote_committed = true }) (λ _. k.candidate.positive)
    deed_positive (FollowByAppend n r) k = at n (record (W.store n) { vote = r.session.leader; vote_committed = true }) (λ _. h.sent (AppendRequest r) k.sent)
    deed_positive (FollowBySnapshot n q es) k = at n (record (W.store n) { vote = q.leader; vote_committed = true }) (λ _. h.sent (SnapshotRequest q es) k.sent)
    deed_positive (RequestVotes n) k = says _ tt
    deed_positive (AnswerVote n last len) k = says _ tt
    deed_positive (Initialize n) k = at n _ (h.stored n)
    deed_positive (LeaderAppend n payload) k = at n _ (h.stored n)
    deed_positive (FollowerAppend n r skip) k = at n _ (h.stored n)
    deed_positive (TruncateConflict n r i x) k = at n _ (h.stored n)
    deed_positive (TruncateForSnapshot n j i q es) k = at n _ (h.stored n)
    deed_positive (Purge n i) k = at n _ (h.stored n)
    deed_positive (BuildStreams n) k = at n _ (h.stored n)
    deed_positive (EndStreams n) k = at n _ (h.stored n)
    deed_positive (RecordEstablished n) k = record { stored = h.stored; sent = h.sent }
    deed_positive (SendAppend n i m) k = says _ (streams_positive n k.streams)
    deed_positive (SendSnapshot n) k = says _ (streams_positive n k)
    deed_positive (AcceptAppend n r i x) k = says _ tt
    deed_positive (AcceptSnapshot n q es) k = says _ tt
    deed_positive (CommitByQuorum n c q) k = let z : LeadersPositive (say W _) = says _ (streams_positive n k.streams) in record { stored = z.stored; sent = z.sent }
    deed_positive (FollowerCommit n r i x told m) k = at n _ (h.stored n)
    deed_positive (LeaderCommit n told m) k = at n _ (h.stored n)
    deed_positive (Apply n i) k = record { stored = h.stored; sent = h.sent }
    deed_positive (InstallSnapshot n i q es) k = let z : LeadersPositive (put W n _) = at n _ (h.stored n) in record { stored = z.stored; sent = z.sent }
    deed_positive (Note n) k = at n _ (h.stored n)
    deed_positive (BuildSnapshot n) k = at n _ (h.stored n)
    deed_positive (DropNote n) k = at n _ (h.stored n)
    deed_positive (ForgetSaved n) k = at n _ (h.stored n)
    deed_positive (Restart n c) k = at n _ (h.stored n)
    deed_positive (RestartSaved n i) k = at n _ (h.stored n)

  run_positive : (es : List (Deed A)) (W : Stores A) → AllMayDo s es W → LeadersPositive W → LeadersPositive (run_all s es W)
  run_positive [] W k h = h
  run_positive (e ∷ es) W k h = run_positive es (does s W e) k.1 (deed_positive W h e k.0)

  -- in each world that came of the empty one
  pub leaders_positive : (W : Stores A) → Reached s W → LeadersPositive W
  leaders_positive W r = subst LeadersPositive r.result (run_positive r.deeds (empty s) r.allowed (record { stored = λ n e. absurd (true≢false (sym e)); sent = λ m i. absurd i }))

module _ (s : Setup Entry) (W : Ideal) (r : Reached s W) (n : ℕ) where
  -- a leader has its streams wherever it has the ideal ones: so at each turn of a command that is done by them
  pub leader_has_session : Streams s (W.store n) n → (o : Option (ReplicationSessionId ℕ)) → StreamsAre n o (W.store n) → (q : ReplicationSessionId ℕ) × (o ≡ Some q)
  leader_has_session k None e = absurd (omega (arith, e, k.session, (leaders_positive s W r).stored n k.leads.vote_committed))
  leader_has_session k (Some q) e = (q, refl)
