-- The vote of a node is its own, or the node that it names has stored it, or a greater one.
use Rattle.std.proofs.Common.{ℕ, zero, suc, ◌≤◌, ◌≡◌, ⊎_elim, true, false, List, [], ◌∷◌, arith, refl, sym, ap, subst}
use Rattle.raft_node.specs.raft_state.declared.ids.Vote.{Vote}
use Rattle.raft_node.specs.raft_state.declared.membership.Members.{Members}
use Rattle.proof_agreement.specs.Machine.{World, Setup, Includes, start}
use Rattle.proof_agreement.specs.Stores.{Store, Stores, AppendRequest, SnapshotRequest, VoteRequest, empty}
use Rattle.proof_agreement.specs.Deeds.{Deed, SaveVote, Win, FollowByAppend, FollowBySnapshot, RequestVotes, AnswerVote, Initialize, LeaderAppend, FollowerAppend, TruncateConflict, TruncateForSnapshot, Purge, BuildStreams, EndStreams, RecordEstablished, SendAppend, SendSnapshot, AcceptAppend, AcceptSnapshot, CommitByQuorum, FollowerCommit, LeaderCommit, Apply, InstallSnapshot, Note, BuildSnapshot, DropNote, ForgetSaved, Restart, RestartSaved, MayDo, AllMayDo, put, does, run_all}
use Rattle.proof_agreement.proofs.Invariants.{IsPast}
use Rattle.proof_agreement.proofs.Logs.{updated_all}
use Rattle.proof_agreement.proofs.StoresFollow.{StoresFollow, VoteRequestOk}
use Rattle.proof_agreement.proofs.StoresTheorems.{deed_kept, reached}
use Rattle.proof_deeds.specs.Chains.{AllClaimed, IsClaimed, Reached, SavesClaimed}
use Rattle.proof_deeds.specs.Follows.{VoteTold}
use Rattle.proof_deeds.specs.Images.{Ideal, IsNamed, number, setup_of}
use Rattle.proof_deeds.proofs.Numbers.{number_node}
use Rattle.proof_deeds.proofs.Worlds.{Within, at_put, within_put, stores_follow, within_does, may_rise}

module _ {A : Type 0} (s : Setup A) where
  module _ (since : World A) (W : Stores A) (K : StoresFollow s since W) where
    -- an established leader's node has its vote, or a later one
    established_claimed : (d : ℕ) → (K.world.leader d).established ≡ true → IsClaimed s W d
    established_claimed zero e = omega arith
    established_claimed (suc d) e =
        ⊎_elim
        (λ l. omega (arith, l, (K.store (s.owner (suc d))).vote))
        (λ p. omega (arith, p.0, (K.store (s.owner (suc d))).vote))
        (let p : IsPast (K.world.node (s.owner (suc d))) (suc d) = K.inv.owned (suc d) (omega arith) e in p)

    -- and so has who asked for votes
    pub asked_claimed : (d last len : ℕ) → Includes W.messages (VoteRequest d last len) → IsClaimed s W d
    asked_claimed d last len m = let k : VoteRequestOk s K.world d last len = K.told.message (VoteRequest d last len) m in omega (arith, k.sent, (K.store (s.owner d)).vote)

    module _ (a : (m : ℕ) → IsClaimed s W (W.store m).vote) where
      -- a store of another vote is put
      at : (n : ℕ) (S : Store A) → Within W (put W n S) → IsClaimed s (put W n S) S.vote → (m : ℕ) → IsClaimed s (put W n S) ((put W n S).store m).vote
      at n S w h = updated_all (λ m T. IsClaimed s (put W n S) T.vote) W.store n S h (λ m _. omega (arith, a m, w.votes (s.owner (W.store m).vote)))

      -- one of the same vote
      same : (n : ℕ) (S : Store A) → Within W (put W n S) → S.vote ≡ (W.store n).vote → (m : ℕ) → IsClaimed s (put W n S) ((put W n S).store m).vote
      same n S w e = at n S w (subst (λ d. IsClaimed s (put W n S) d) (sym e) (omega (arith, a n, w.votes (s.owner (W.store n).vote))))

      -- one of a claimed vote
      taken : (n d : ℕ) (S : Store A) → Within W (put W n S) → S.vote ≡ d → IsClaimed s W d → (m : ℕ) → IsClaimed s (put W n S) ((put W n S).store m).vote
      taken n d S w e c = at n S w (subst (λ d. IsClaimed s (put W n S) d) (sym e) (omega (arith, c, w.votes (s.owner d))))

      -- one of the node's own vote
      own : (n d : ℕ) (S : Store A) → Within W (put W n S) → S.vote ≡ d → s.owner d ≡ n → (m : ℕ) → IsClaimed s (put W n S) ((put W n S).store m).vote
      own n d S w e o = at n S w (subst (λ d. IsClaimed s (put W n S) d) (sym e) (subst (λ k. d ≤ ((put W n S).store k).vote) (sym o) (let q : ((put W n S).store n).vote ≡ S.vote = ap (λ (T : Store A). T.vote) (at_put W n S) in omega (arith, q, e))))

      deed_claimed : (e : Deed A) → MayDo s W e → SavesClaimed s W e → Within W (does s W e) → (m : ℕ) → IsClaimed s (does s W e) ((does s W e).store m).vote
      deed_claimed (SaveVote n d) h c w = ⊎_elim (λ o. own n d (record (W.store n) { vote = d; vote_committed = false }) w refl o) (λ k. taken n d (record (W.store n) { vote = d; vote_committed = false }) w refl k) c
      deed_claimed (Win n q) h c w = same n _ w refl
      deed_claimed (FollowByAppend n r) h c w = taken n r.session.leader (record (W.store n) { vote = r.session.leader; vote_committed = true }) w refl (established_claimed r.session.leader (K.told.message (AppendRequest r) h.sent).established)
      deed_claimed (FollowBySnapshot n q es) h c w = taken n q.leader (record (W.store n) { vote = q.leader; vote_committed = true }) w refl (established_claimed q.leader (K.told.message (SnapshotRequest q es) h.sent).established)
      deed_claimed (RequestVotes n) h c w = a
      deed_claimed (AnswerVote n last len) h c w = a
      deed_claimed (Initialize n) h c w = same n _ w refl
      deed_claimed (LeaderAppend n payload) h c w = same n _ w refl
      deed_claimed (FollowerAppend n r skip) h c w = same n _ w refl
      deed_claimed (TruncateConflict n r k x) h c w = same n _ w refl
      deed_claimed (TruncateForSnapshot n j k q es) h c w = same n _ w refl
      deed_claimed (Purge n k) h c w = same n _ w refl
      deed_claimed (BuildStreams n) h c w = same n _ w refl
      deed_claimed (EndStreams n) h c w = same n _ w refl
      deed_claimed (RecordEstablished n) h c w = a
      deed_claimed (SendAppend n i m) h c w = a
      deed_claimed (SendSnapshot n) h c w = a
      deed_claimed (AcceptAppend n r k x) h c w = a
      deed_claimed (AcceptSnapshot n q es) h c w = a
      deed_claimed (CommitByQuorum n c q) h k w = a
      deed_claimed (FollowerCommit n r k x told m) h c w = same n _ w refl
      deed_claimed (LeaderCommit n told m) h c w = same n _ w refl
      deed_claimed (Apply n i) h c w = a
      deed_claimed (InstallSnapshot n k q es) h c w = let S : Store A = record (W.store n) { snapshot = es; committed = suc k } in same n S (within_put W n S (omega arith)) refl
      deed_claimed (Note n) h c w = same n _ w refl
      deed_claimed (BuildSnapshot n) h c w = same n _ w refl
      deed_claimed (DropNote n) h c w = same n _ w refl
      deed_claimed (ForgetSaved n) h c w = same n _ w refl
      deed_claimed (Restart n c) h k w = same n _ w refl
      deed_claimed (RestartSaved n k) h c w = same n _ w refl

  run_claimed : (since : World A) (es : List (Deed A)) (W : Stores A) → StoresFollow s since W → AllMayDo s es W → AllClaimed s es W → ((m : ℕ) → IsClaimed s W (W.store m).vote) → (m : ℕ) → IsClaimed s (run_all s es W) ((run_all s es W).store m).vote
  run_claimed since [] W K h c a = a
  run_claimed since (e ∷ es) W K h c a =
      run_claimed since es (does s W e) (deed_kept s since W e K h.0) h.1 c.1 (deed_claimed since W K a e h.0 c.0 (within_does s W e (may_rise s W e h.0)))

  -- in each world that came of the empty one
  pub votes_claimed : (W : Stores A) → Reached s W → (m : ℕ) → IsClaimed s W (W.store m).vote
  votes_claimed W r = subst (λ (V : Stores A). (m : ℕ) → IsClaimed s V (V.store m).vote) r.result (run_claimed (start s) r.deeds (empty s) (reached s [] tt) r.allowed r.claimed (λ m. omega arith))

module _ (first : Members ℕ (Unit {0})) (W : Ideal) (r : Reached (setup_of first) W) where
  -- what is claimed of a number is claimed of the id
  pub claimed_node : (v : Vote ℕ) → IsNamed v.leader_id → IsClaimed (setup_of first) W (number v.leader_id) → number v.leader_id ≤ (W.store v.leader_id.node_id).vote
  claimed_node v n c = subst (λ k. number v.leader_id ≤ (W.store k).vote) (number_node v.leader_id n) c

  -- a node may tell its vote
  pub vote_told : (n : ℕ) (v : Vote ℕ) → IsNamed v.leader_id → (W.store n).vote ≡ number v.leader_id → VoteTold v W
  vote_told n v named e = record { named = named; claimed = claimed_node v named (subst (λ d. IsClaimed (setup_of first) W d) e (votes_claimed (setup_of first) W r n)) }

  -- who asks for votes has stored its vote
  pub asked_told : (v : Vote ℕ) (last len : ℕ) → IsNamed v.leader_id → Includes W.messages (VoteRequest (number v.leader_id) last len) → VoteTold v W
  asked_told v last len named m = record { named = named; claimed = claimed_node v named (asked_claimed (setup_of first) (start (setup_of first)) W (stores_follow (setup_of first) W r) (number v.leader_id) last len m) }
