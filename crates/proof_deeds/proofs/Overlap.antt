-- Where the stored entries of a node reach its snapshot's end, they are its whole log from the front on: below the
-- snapshot's end they are the snapshot's.
use Rattle.std.proofs.Common.{ℕ, suc, ◌+◌, ◌-◌, ◌<◌, ◌≤◌, ◌≡◌, inl, ⊎_elim, List, [], ◌∷◌, ◌++◌, length, take, drop, arith, refl, sym, ap, ◌∙◌, subst, length-take, length-drop}
use Rattle.std.proofs.lemmas.Bool.{cases_lt}
use Rattle.std.proofs.lemmas.List.{drop-append-le, drop-drop, drop-take, drop_at}
use Rattle.proof_agreement.specs.Machine.{Entry, World, Setup, Agree, leader_log, log_of, vote_of, start}
use Rattle.proof_agreement.specs.Stores.{Store, Stores, Session, whole, entry_at, of_list, first_entry, empty}
use Rattle.proof_agreement.specs.Deeds.{Deed, SaveVote, Win, FollowByAppend, FollowBySnapshot, RequestVotes, AnswerVote, Initialize, LeaderAppend, FollowerAppend, TruncateConflict, TruncateForSnapshot, Purge, BuildStreams, EndStreams, RecordEstablished, SendAppend, SendSnapshot, AcceptAppend, AcceptSnapshot, CommitByQuorum, FollowerCommit, LeaderCommit, Apply, InstallSnapshot, Note, BuildSnapshot, DropNote, ForgetSaved, Restart, RestartSaved, MayDo, AllMayDo, MayInstall, Reaches, below, put, does, run_all}
use Rattle.proof_agreement.proofs.Logs.{Agree-sym, Agree-trans, Agree-less, updated_all}
use Rattle.proof_agreement.proofs.Invariants.{Covered}
use Rattle.proof_agreement.proofs.Consequences.{decided_agree}
use Rattle.proof_agreement.proofs.StoresFollow.{StoreOk, StoresFollow}
use Rattle.proof_agreement.proofs.StoresBridge.{front_low, snapshot_committed, snapshot_held}
use Rattle.proof_agreement.proofs.StoresTheorems.{deed_kept, reached}
use Rattle.proof_agreement.proofs.WholeLogs.{begins, whole_length, whole_append, whole_below, whole_purge, whole_snapshot}
use Rattle.raft_node.specs.raft_store.declared.entry.Entry as world
use Rattle.proof_deeds.specs.Chains.{Reached}
use Rattle.proof_deeds.specs.Knows.{AllJoined}

module _ {A : Type 0} where
  abbrev pub Laps : Store A → Type 0
  Laps S = Reaches S → drop S.front (whole S) ≡ S.entries

  -- a beginning of the whole log in the place of the snapshot
  laps_begin : (S : Store A) (es : List (Entry A)) → S.front ≤ length S.snapshot → length S.snapshot ≤ length es → take (length es) (whole S) ≡ es → Laps S → Laps (record S { snapshot = es })
  laps_begin S es low l b h = λ r. ap (drop S.front) (whole_snapshot S low es l b) ∙ h (omega (arith, l, r))

  -- entries behind it
  laps_more : (S : Store A) (es : List (Entry A)) → S.front ≤ length S.snapshot → Reaches S → Laps S → Laps (record S { entries = S.entries ++ es })
  laps_more S es low r h = λ _.
      ap (drop S.front) (whole_append S low es r)
      ∙ (drop-append-le S.front (whole S) es (omega (arith, low, whole_length S low)) ∙ ap (λ ys. ys ++ es) (h r))

  -- entries cut past the snapshot
  laps_below : (S : Store A) (k : ℕ) → S.front ≤ length S.snapshot → length S.snapshot ≤ k → Laps S → Laps (record S { entries = below S k })
  laps_below S k low l h = λ r.
      let n : length (take (k - S.front) S.entries) ≤ length S.entries = omega (arith, length-take (k - S.front) S.entries) in
      let e : S.front + (k - S.front) ≡ k = omega (arith, low, l) in
      ap (drop S.front) (whole_below S low k l)
      ∙ (subst (λ i. drop S.front (take i (whole S)) ≡ take (k - S.front) (drop S.front (whole S))) e (drop-take S.front (k - S.front) (whole S))
      ∙ ap (take (k - S.front)) (h (omega (arith, r, n))))

  -- a purge within the snapshot
  laps_purge : (S : Store A) (k : ℕ) → S.front ≤ length S.snapshot → S.front ≤ k → k ≤ length S.snapshot → Laps S → Laps (record S { front = k; entries = drop (k - S.front) S.entries })
  laps_purge S k low past l h = λ r. ap (drop k) (whole_purge S low k past l) ∙ ⊎_elim (short r) long (cases_lt (S.front + length S.entries) (length S.snapshot)) where
    long : length S.snapshot ≤ S.front + length S.entries → drop k (whole S) ≡ drop (k - S.front) S.entries
    long g =
        let e : S.front + (k - S.front) ≡ k = omega (arith, past) in
        subst (λ i. drop i (whole S) ≡ drop (k - S.front) (drop S.front (whole S))) e (sym (drop-drop (k - S.front) S.front (whole S))) ∙ ap (drop (k - S.front)) (h g)

    short : length S.snapshot ≤ k + length (drop (k - S.front) S.entries) → S.front + length S.entries < length S.snapshot → drop k (whole S) ≡ drop (k - S.front) S.entries
    short r g =
        let e : length S.snapshot ≡ k = omega (arith, length-drop (k - S.front) S.entries, r, g, past, l) in
        drop_at S.snapshot (drop (length S.snapshot - S.front) S.entries) k e ∙ ap (λ i. drop (i - S.front) S.entries) e

  -- the first entry in an empty store
  laps_first : (S : Store A) (e : Entry A) → S.front ≤ length S.snapshot → S.snapshot ≡ [] → Laps (record S { entries = e ∷ [] })
  laps_first S e low none = λ _.
      let n : length S.snapshot ≡ 0 = ap (λ xs. length xs) none in
      let f : S.front ≡ 0 = omega (arith, n, low) in
      let k : length S.snapshot - S.front ≡ 0 = omega (arith, n, f) in
      ap (λ i. drop i (S.snapshot ++ drop (length S.snapshot - S.front) (e ∷ []))) f
      ∙ (ap (λ xs. xs ++ drop (length S.snapshot - S.front) (e ∷ [])) none ∙ ap (λ i. drop i (e ∷ [])) k)

module _ {A : Type 0} (s : Setup A) (since : World A) (W : Stores A) (K : StoresFollow s since W) where
  -- what was noted begins the whole log
  pub noted_begins : (n : ℕ) → take (length (W.store n).noted) (whole (W.store n)) ≡ (W.store n).noted
  noted_begins n =
      let S : StoreOk s (K.world.node n) (W.store n) = K.store n in
      let es : List (Entry A) = (W.store n).noted in
      let C : Covered K.world (vote_of K.world n) (of_list s (W.store n).noted) (length (W.store n).noted) = (K.behind n).note in
      let D : Covered K.world (vote_of K.world n) (log_of K.world n) (K.world.node n).committed = (K.inv.node n).cover in
      let l : length (W.store n).noted ≤ (K.world.node n).committed = omega (arith, S.note, S.committed) in
      let a : Agree (length (W.store n).noted) (leader_log K.world C.leader) (leader_log K.world D.leader) = decided_agree s K.world K.inv C.leader D.leader (length (W.store n).noted) C.within (omega (arith, l, D.within)) in
      begins s (W.store n).noted (whole (W.store n)) (Agree-trans C.agree (Agree-trans a (Agree-trans (Agree-sym (Agree-less (length (W.store n).noted) l D.agree)) (Agree-less (length (W.store n).noted) (omega (arith, l, D.agree.left)) S.log.agree))))

  module _ (a : (m : ℕ) → Laps (W.store m)) where
    at : (n : ℕ) (T : Store A) → Laps T → (m : ℕ) → Laps ((put W n T).store m)
    at n T h = updated_all (λ m U. Laps U) W.store n T h (λ m _. a m)

    low : (n : ℕ) → (W.store n).front ≤ length (W.store n).snapshot
    low n = front_low s since W K n

    laps_install : (n k : ℕ) (q : Session) (es : List (Entry A)) → MayInstall s W n k q es → Laps (record (W.store n) { snapshot = es; committed = suc k })
    laps_install n k q es h = ⊎_elim short long h.fits where
      short : length (whole (W.store n)) ≤ k → Laps (record (W.store n) { snapshot = es; committed = suc k })
      short l = λ r. absurd (omega (arith, l, r, h.ends, low n, whole_length (W.store n) (low n)))

      long : (k < length (whole (W.store n))) × ((entry_at s (whole (W.store n)) k).leader ≡ (entry_at s es k).leader) → Laps (record (W.store n) { snapshot = es; committed = suc k })
      long p = laps_begin (W.store n) es (low n) (omega (arith, snapshot_committed s since W K n, h.past, h.ends)) (snapshot_held s since W K q es h.request.sent n k h.ends p.0 p.1) (a n)

    laps_does : (e : Deed A) → MayDo s W e → (m : ℕ) → Laps ((does s W e).store m)
    laps_does (SaveVote n d) h = at n _ (a n)
    laps_does (Win n q) h = at n _ (a n)
    laps_does (FollowByAppend n r) h = at n _ (a n)
    laps_does (FollowBySnapshot n q es) h = at n _ (a n)
    laps_does (RequestVotes n) h = a
    laps_does (AnswerVote n last len) h = a
    laps_does (Initialize n) h = at n _ (laps_first (W.store n) (first_entry s) (low n) h.no_snapshot)
    laps_does (LeaderAppend n payload) h = at n _ (laps_more (W.store n) _ (low n) h.reaches (a n))
    laps_does (FollowerAppend n r skip) h = at n _ (laps_more (W.store n) _ (low n) h.reaches (a n))
    laps_does (TruncateConflict n r k x) h = at n _ (laps_below (W.store n) k (low n) (⊎_elim (λ l. absurd (h.lacks (inl l))) (λ l. omega (arith, l, snapshot_committed s since W K n)) (cases_lt k (W.store n).committed)) (a n))
    laps_does (TruncateForSnapshot n j k q es) h = at n _ (laps_below (W.store n) j (low n) (omega (arith, h.past, snapshot_committed s since W K n)) (a n))
    laps_does (Purge n k) h = at n _ (laps_purge (W.store n) k (low n) h.past h.covered (a n))
    laps_does (BuildStreams n) h = at n _ (a n)
    laps_does (EndStreams n) h = at n _ (a n)
    laps_does (RecordEstablished n) h = a
    laps_does (SendAppend n i m) h = a
    laps_does (SendSnapshot n) h = a
    laps_does (AcceptAppend n r k x) h = a
    laps_does (AcceptSnapshot n q es) h = a
    laps_does (CommitByQuorum n c q) h = a
    laps_does (FollowerCommit n r k x told m) h = at n _ (a n)
    laps_does (LeaderCommit n told m) h = at n _ (a n)
    laps_does (Apply n i) h = a
    laps_does (InstallSnapshot n k q es) h = at n _ (laps_install n k q es h)
    laps_does (Note n) h = at n _ (a n)
    laps_does (BuildSnapshot n) h = at n _ (laps_begin (W.store n) (W.store n).noted (low n) h (noted_begins n) (a n))
    laps_does (DropNote n) h = at n _ (a n)
    laps_does (ForgetSaved n) h = at n _ (a n)
    laps_does (Restart n c) h = at n _ (a n)
    laps_does (RestartSaved n k) h = at n _ (a n)

module _ {A : Type 0} (s : Setup A) where
  laps_run : (since : World A) (es : List (Deed A)) (W : Stores A) → StoresFollow s since W → AllMayDo s es W → ((m : ℕ) → Laps (W.store m)) → (m : ℕ) → Laps ((run_all s es W).store m)
  laps_run since [] W K h a = a
  laps_run since (e ∷ es) W K h a = laps_run since es (does s W e) (deed_kept s since W e K h.0) h.1 (laps_does s since W K a e h.0)

  -- of each world that came of the empty one
  pub laps : (W : Stores A) → Reached s W → (m : ℕ) → Laps (W.store m)
  laps W r = subst (λ (V : Stores A). (m : ℕ) → Laps (V.store m)) r.result (laps_run (start s) r.deeds (empty s) (reached s [] tt) r.allowed (λ m _. refl))

-- so the stores of each such world are joined
pub all_joined : (s : Setup world.Entry) → AllJoined s
all_joined s W n r = laps s W r n
