-- Each run of deeds is followed by a world of the machine; and what that gives for stores and records.
use Rattle.std.proofs.Common.{ℕ, suc, ◌<◌, ◌≤◌, ◌≡◌, ◌⊎◌, inl, inr, ⊎_elim, Bool, true, false, List, [], ◌∷◌, ◌++◌, length, take, arith, refl, sym, ap, ◌∙◌, subst, get_or-take, length-take}
use Rattle.std.proofs.lemmas.Bool.{true≢false}
use Rattle.std.proofs.lemmas.List.{take-take}
use Rattle.proof_agreement.specs.Machine.{Entry, World, Setup, Includes, Agree, Chosen, IsQuorum, effective_membership, leader_log, log_of, start}
use Rattle.proof_agreement.proofs.Logs.{Agree-sym, Agree-trans, Agree-less}
use Rattle.proof_agreement.proofs.Invariants.{FollowsAt, ExecutedAt, NodeInvariant}
use Rattle.proof_agreement.proofs.Consequences.{decided_in, follows_same, same_id}
use Rattle.proof_agreement.proofs.Memberships.{effective_membership-same}
use Rattle.proof_agreement.proofs.Theorems.{start_inv, executed_agree, committed_beginnings, complete}
use Rattle.proof_agreement.specs.Stores.{AppendRequest, SnapshotRequest, Accepted, Message, InstalledSnapshot, DecidedCommit, EstablishedLeader, Stores, empty, whole, applied, entry_at, first_entry, of_list, effective_membership_of}
use Rattle.proof_agreement.specs.Deeds.{Deed, Leads, SaveVote, Win, FollowByAppend, FollowBySnapshot, RequestVotes, AnswerVote, Initialize, LeaderAppend, FollowerAppend, TruncateConflict, TruncateForSnapshot, Purge, BuildStreams, EndStreams, RecordEstablished, SendAppend, SendSnapshot, AcceptAppend, AcceptSnapshot, CommitByQuorum, FollowerCommit, LeaderCommit, Apply, InstallSnapshot, Note, BuildSnapshot, DropNote, ForgetSaved, Restart, RestartSaved, MayDo, MayCommitByQuorum, HasAccepted, AllMayDo, does, run_all}
use Rattle.proof_agreement.specs.StoresLaws.{BeginsWith, Gives, StoresAgree, StoresComplete, StoresDecided, CommitsEnd, IsWholeLog, StoresMatch, IsRecordOf, LeadersAppend, AppliedAgree, AppliedDecided, OwnEntriesAbove, LedWith, IsChosen, ChosenComplete, CommittedIsChosen, ChosenCompleteFixed, OneQuorum, leader_store}
use Rattle.proof_agreement.proofs.StoresFollow.{StoreOk, AcceptedOk, AppendRequestOk, SnapshotRequestOk, InstalledOk, DecidedOk, EstablishedOk, IsRecorded, StoresFollow, Since-refl}
use Rattle.proof_agreement.proofs.VoteDeeds.{save_vote, request_votes, answer_vote, follow, forget_saved, restart, restart_saved, restream}
use Rattle.proof_agreement.proofs.LogDeeds.{truncate_conflict, follower_append, follower_commit, accept_append, apply, purge}
use Rattle.proof_agreement.proofs.SnapshotDeeds.{note, drop_note, build_snapshot, send_snapshot, truncate_for_snapshot, install_snapshot, accept_snapshot}
use Rattle.proof_agreement.proofs.LeaderDeeds.{is_established, own_log, win, leader_append, send_append, leader_commit, commit_by_quorum, record_established, initialize}
use Rattle.proof_agreement.proofs.WholeLogs.{begins, begins_both, agree_take}

module _ {A : Type 0} (s : Setup A) where
  pub deed_kept : (since : World A) (W : Stores A) (e : Deed A) → StoresFollow s since W → MayDo s W e → StoresFollow s since (does s W e)
  deed_kept since W (SaveVote n d) K h = save_vote s since W K n d h
  deed_kept since W (Win n q) K h = win s since W K n q h
  deed_kept since W (FollowByAppend n r) K h = let k : AppendRequestOk s K.world r.session.leader r = K.told.message (AppendRequest r) h.sent in follow s since W K n r.session.leader k.established h.not_lower h.other
  deed_kept since W (FollowBySnapshot n q es) K h = let k : SnapshotRequestOk s K.world q.leader es = K.told.message (SnapshotRequest q es) h.sent in follow s since W K n q.leader k.established h.not_lower h.other
  deed_kept since W (RequestVotes n) K h = request_votes s since W K n h
  deed_kept since W (AnswerVote n a l) K h = answer_vote s since W K n a l h
  deed_kept since W (Initialize n) K h = initialize s since W K n h
  deed_kept since W (LeaderAppend n payload) K h = leader_append s since W K n payload h
  deed_kept since W (FollowerAppend n r skip) K h = follower_append s since W K n r skip h
  deed_kept since W (TruncateConflict n r k x) K h = truncate_conflict s since W K n r k x h
  deed_kept since W (TruncateForSnapshot n j k q es) K h = truncate_for_snapshot s since W K n j k q es h
  deed_kept since W (Purge n k) K h = purge s since W K n k h
  deed_kept since W (BuildStreams n) K h = restream s since W K n _
  deed_kept since W (EndStreams n) K h = restream s since W K n _
  deed_kept since W (RecordEstablished n) K h = record_established s since W K n h
  deed_kept since W (SendAppend n i m) K h = send_append s since W K n i m h
  deed_kept since W (SendSnapshot n) K h = send_snapshot s since W K n h
  deed_kept since W (AcceptAppend n r k x) K h = accept_append s since W K n r k x h
  deed_kept since W (AcceptSnapshot n q es) K h = accept_snapshot s since W K n q es h
  deed_kept since W (CommitByQuorum n c q) K h = commit_by_quorum s since W K n c q h
  deed_kept since W (FollowerCommit n r k x told m) K h = follower_commit s since W K n r k x told m h
  deed_kept since W (LeaderCommit n told m) K h = leader_commit s since W K n told m h
  deed_kept since W (Apply n i) K h = apply s since W K n i h
  deed_kept since W (InstallSnapshot n k q es) K h = install_snapshot s since W K n k q es h
  deed_kept since W (Note n) K h = note s since W K n
  deed_kept since W (BuildSnapshot n) K h = build_snapshot s since W K n h
  deed_kept since W (DropNote n) K h = drop_note s since W K n
  deed_kept since W (ForgetSaved n) K h = forget_saved s since W K n
  deed_kept since W (Restart n c) K h = restart s since W K n c h
  deed_kept since W (RestartSaved n k) K h = restart_saved s since W K n k h

  pub all_deeds : (since : World A) (es : List (Deed A)) (W : Stores A) → StoresFollow s since W → AllMayDo s es W → StoresFollow s since (run_all s es W)
  all_deeds since [] W K h = K
  all_deeds since (e ∷ es) W K h = all_deeds since es (does s W e) (deed_kept since W e K h.0) h.1

  empty_follows : StoresFollow s (start s) (empty s)
  empty_follows =
      record {
        world = start s;
        inv = start_inv s;
        above = Since-refl (start s);
        store = λ n. record { vote = refl; vote_committed = refl; committed = refl; room = omega arith; note = omega arith; log = record { len = refl; agree = record { left = omega arith; right = omega arith; same = λ i h. absurd (omega arith) } }; shape = record { low = omega arith; joined = λ f r. absurd (omega arith) } };
        behind = λ n. record { cover = record { leader = 0; low = omega arith; within = omega arith; agree = record { left = omega arith; right = omega arith; same = λ i h. absurd (omega arith) } }; note = record { leader = 0; low = omega arith; within = omega arith; agree = record { left = omega arith; right = omega arith; same = λ i h. absurd (omega arith) } }; leader = 0; low = omega arith; within = omega arith; inside = omega arith; is = refl };
        told = record { message = λ m h. elim h [ ]; executed_one = λ x h. elim h [ ]; installed_one = λ x h. elim h [ ]; decided_one = λ x h. elim h [ ]; established_one = λ x h. elim h [ ] };
        recorded = λ d k h. absurd (omega (arith, h));
      }

  -- each run of deeds from nothing is followed by a world of the machine
  pub reached : (es : List (Deed A)) → AllMayDo s es (empty s) → StoresFollow s (start s) (run_all s es (empty s))
  reached es h = all_deeds (start s) es (empty s) empty_follows h

-- What follows for the stores
module _ {A : Type 0} (s : Setup A) (since : World A) (W : Stores A) (K : StoresFollow s since W) where
  given : (i : ℕ) (e : Entry A) → Gives s W i e → ExecutedAt K.world (record { index = i; entry = e })
  given i e (inl g) = subst (λ j. ExecutedAt K.world (record { index = j; entry = e })) g.2 (subst (λ y. ExecutedAt K.world (record { index = (g.0).index; entry = y })) g.3 (K.inv.executed (record { index = (g.0).index; entry = (g.0).entry }) (K.told.executed_one g.0 g.1)))
  given i e (inr g) =
      let x : InstalledSnapshot A = g.0 in
      let O : InstalledOk s K.world x = K.told.installed_one x g.1 in
      record { leader = O.cover.leader; within = omega (arith, g.2, O.cover.within); inside = omega (arith, g.2, O.cover.agree.right); is = sym (O.cover.agree.same i g.2) ∙ g.3 }

  pub stores_agree : StoresAgree s W
  stores_agree i e f g h = executed_agree s K.world K.inv (record { index = i; entry = e }) (record { index = i; entry = f }) (given i e g) (given i f h) refl

  -- what is executed is among what a leader decided, all of which is recorded
  pub stores_decided : StoresDecided s W
  stores_decided i e g =
      let x : ExecutedAt K.world (record { index = i; entry = e }) = given i e g in
      let r : IsRecorded W.decided x.leader i = K.recorded x.leader i x.within in
      let C : DecidedOk s K.world r.commit = K.told.decided_one r.commit r.there in
      let a : entry_at s r.commit.entries i ≡ (leader_log K.world x.leader).at i = C.agree.same i (omega (arith, r.past)) ∙ ap (λ d. (leader_log K.world d).at i) r.leader in
      (r.commit, r.there, omega (arith, C.size, r.past), a ∙ x.is)

  -- so is what a node has applied, since it knows that as committed
  pub applied_decided : AppliedDecided s W
  applied_decided n i l =
      let c : ℕ = (W.store n).committed in
      let xs : List (Entry A) = whole (W.store n) in
      let S : StoreOk s (K.world.node n) (W.store n) = K.store n in
      let V = (K.inv.node n).cover in
      let low : i < c = omega (arith, l, length-take c xs) in
      let here : i < (K.world.node n).committed = omega (arith, low, S.committed) in
      let r : IsRecorded W.decided V.leader i = K.recorded V.leader i (omega (arith, here, V.within)) in
      let C : DecidedOk s K.world r.commit = K.told.decided_one r.commit r.there in
      let a : entry_at s r.commit.entries i ≡ (leader_log K.world V.leader).at i = C.agree.same i (omega (arith, r.past)) ∙ ap (λ d. (leader_log K.world d).at i) r.leader in
      let b : (leader_log K.world V.leader).at i ≡ entry_at s xs i = sym (V.agree.same i here) ∙ S.log.agree.same i (omega (arith, S.log.len, l, length-take c xs)) in
      (r.commit, r.there, omega (arith, C.size, r.past), a ∙ (b ∙ sym (get_or-take c xs i (first_entry s) low)))

  pub commits_end : CommitsEnd s W
  commits_end c h = let C : DecidedOk s K.world c = K.told.decided_one c h in (C.size, C.own)

  pub stores_complete : StoresComplete W
  stores_complete c l hc hl lower =
      let C : DecidedOk s K.world c = K.told.decided_one c hc in
      let L : EstablishedOk s K.world l = K.told.established_one l hl in
      let z : ((K.world.leader c.leader).decided ≤ (K.world.leader l.leader).base) × Agree (K.world.leader c.leader).decided (leader_log K.world c.leader) (leader_log K.world l.leader) = decided_in s K.world K.inv c.leader l.leader lower L.established in
      let a : Agree (suc c.index) (of_list s c.entries) (of_list s l.entries) = Agree-trans C.agree (Agree-trans (Agree-less (suc c.index) C.within z.1) (Agree-sym (Agree-less (suc c.index) (omega (arith, C.within, z.0, L.base)) L.agree))) in
      begins s c.entries l.entries (subst (λ m. Agree m (of_list s c.entries) (of_list s l.entries)) (sym C.size) a)

  -- each entry of a whole log is its leader's
  pub whole_follows : (xs : List (Entry A)) (i : ℕ) → IsWholeLog W xs → i < length xs → FollowsAt K.world (of_list s xs) i
  whole_follows xs i (inl p) h =
      let n : ℕ = p.0 in
      let S : StoreOk s (K.world.node n) (W.store n) = K.store n in
      let l : i < length (whole (W.store n)) = subst (λ ys. i < length ys) (sym p.1) h in
      subst (λ ys. FollowsAt K.world (of_list s ys) i) p.1
      (follows_same K.world (log_of K.world n) (of_list s (whole (W.store n))) i (Agree-sym (Agree-less (suc i) (omega (arith, S.log.len, l)) S.log.agree)) ((K.inv.node n).follows i (omega (arith, S.log.len, l))))
  whole_follows xs i (inr (inl p)) h =
      let x : EstablishedLeader A = p.0 in
      let O : EstablishedOk s K.world x = K.told.established_one x p.1 in
      let l : i < length x.entries = subst (λ ys. i < length ys) (sym p.2) h in
      subst (λ ys. FollowsAt K.world (of_list s ys) i) p.2
      (follows_same K.world (leader_log K.world x.leader) (of_list s x.entries) i (Agree-less (suc i) l O.agree) ((K.inv.leader x.leader).follows i (omega (arith, l, O.agree.right))))
  whole_follows xs i (inr (inr p)) h =
      let x : DecidedCommit A = p.0 in
      let O : DecidedOk s K.world x = K.told.decided_one x p.1 in
      let l : i < length x.entries = subst (λ ys. i < length ys) (sym p.2) h in
      subst (λ ys. FollowsAt K.world (of_list s ys) i) p.2
      (follows_same K.world (leader_log K.world x.leader) (of_list s x.entries) i (Agree-less (suc i) (omega (arith, l, O.size)) O.agree) ((K.inv.leader x.leader).follows i (omega (arith, l, O.size, O.agree.right))))

  pub stores_match : StoresMatch s W
  stores_match xs ys i wx wy hx hy e = begins_both s xs ys (suc i) (same_id K.world (of_list s xs) (of_list s ys) i (whole_follows xs i wx hx) (whole_follows ys i wy hy) e)

  record_agrees : (d : ℕ) (xs : List (Entry A)) → IsRecordOf W d xs → Agree (length xs) (of_list s xs) (leader_log K.world d)
  record_agrees d xs (inl p) =
      subst (λ e. Agree (length xs) (of_list s xs) (leader_log K.world e)) p.2 (subst (λ ys. Agree (length ys) (of_list s ys) (leader_log K.world (p.0).leader)) p.3 (K.told.established_one p.0 p.1).agree)
  record_agrees d xs (inr p) =
      let C : DecidedOk s K.world p.0 = K.told.decided_one p.0 p.1 in
      let a : Agree (length (p.0).entries) (of_list s (p.0).entries) (leader_log K.world (p.0).leader) = subst (λ m. Agree m (of_list s (p.0).entries) (leader_log K.world (p.0).leader)) (sym C.size) C.agree in
      subst (λ e. Agree (length xs) (of_list s xs) (leader_log K.world e)) p.2 (subst (λ ys. Agree (length ys) (of_list s ys) (leader_log K.world (p.0).leader)) p.3 a)

  pub leaders_append : LeadersAppend W
  leaders_append d xs ys hx hy l = begins s xs ys (Agree-trans (record_agrees d xs hx) (Agree-sym (Agree-less (length xs) l (record_agrees d ys hy))))

  pub applied_agree : AppliedAgree W
  applied_agree n m h =
      let S : StoreOk s (K.world.node n) (W.store n) = K.store n in
      let T : StoreOk s (K.world.node m) (W.store m) = K.store m in
      let c : ℕ = (W.store n).committed in
      let a : Agree (K.world.node n).committed (log_of K.world n) (log_of K.world m) = committed_beginnings s K.world K.inv n m (omega (arith, S.committed, T.committed)) in
      let b : Agree c (of_list s (whole (W.store n))) (of_list s (whole (W.store m))) = Agree-trans (Agree-sym (Agree-less c (omega (arith, S.committed, a.left)) S.log.agree)) (Agree-trans (Agree-less c (omega (arith, S.committed)) a) (Agree-less c (omega (arith, S.committed, a.right)) T.log.agree)) in
      let size : length (applied (W.store n)) ≡ c = omega (arith, length-take c (whole (W.store n)), b.left) in
      ap (λ j. take j (applied (W.store m))) size ∙ (take-take c (W.store m).committed (whole (W.store m)) h ∙ sym (begins_both s (whole (W.store n)) (whole (W.store m)) c b))

  pub own_entries_above : OwnEntriesAbove s W
  own_entries_above c xs i hc wx hx lower =
      let C : DecidedOk s K.world c = K.told.decided_one c hc in
      let F : FollowsAt K.world (of_list s xs) i = whole_follows xs i wx hx in
      omega (arith, C.within, F.base, (decided_in s K.world K.inv c.leader (entry_at s xs i).leader lower F.established).0)

  -- Now and in all that comes of this world

  -- what leaders of lower ids commit stands below a leader's base
  ever_above : (d i : ℕ) → (K.world.leader d).established ≡ true → (K.world.leader d).base ≤ i → (es : List (Deed A)) → AllMayDo s es W → (c : DecidedCommit A) → Includes (run_all s es W).decided c → c.leader < d → c.index < i
  ever_above d i u b es h c hc lower = go (all_deeds s K.world es W (record { world = K.world; inv = K.inv; above = Since-refl K.world; store = K.store; behind = K.behind; told = K.told; recorded = K.recorded }) h) where
    go : StoresFollow s K.world (run_all s es W) → c.index < i
    go L =
        let C : DecidedOk s L.world c = L.told.decided_one c hc in
        let p : ((L.world.leader d).established ≡ true) × ((L.world.leader d).base ≡ (K.world.leader d).base) = L.above.base d u in
        omega (arith, C.within, (decided_in s L.world L.inv c.leader d lower p.0).0, p.1, b)

  -- so it stands below each own entry of a leader
  pub own_entry_above : (xs : List (Entry A)) (i : ℕ) → IsWholeLog W xs → i < length xs → (es : List (Deed A)) → AllMayDo s es W → (c : DecidedCommit A) → Includes (run_all s es W).decided c → c.leader < (entry_at s xs i).leader → c.index < i
  own_entry_above xs i wx hx es h c hc lower =
      let F : FollowsAt K.world (of_list s xs) i = whole_follows xs i wx hx in
      ever_above (entry_at s xs i).leader i F.established F.base es h c hc lower

  -- and below the end of the whole log of a node that leads
  pub own_end_above : (n : ℕ) → Leads s (W.store n) n → (es : List (Deed A)) → AllMayDo s es W → (c : DecidedCommit A) → Includes (run_all s es W).decided c → c.leader < (W.store n).vote → c.index < length (whole (W.store n))
  own_end_above n l es h c hc lower =
      let S : StoreOk s (K.world.node n) (W.store n) = K.store n in
      ever_above (W.store n).vote (length (whole (W.store n))) (is_established s since W K n l.vote_committed)
      (omega (arith, (K.inv.leader (W.store n).vote).base, (own_log s since W K n l).0, S.log.len)) es h c hc lower

  -- A node that leads holds its own entries from each place on that it decided.
  pub own_from_decided : (n : ℕ) → Leads s (W.store n) n → (c : DecidedCommit A) → Includes W.decided c → c.leader ≡ (W.store n).vote → (i : ℕ) → c.index ≤ i → i < length (whole (W.store n)) → (entry_at s (whole (W.store n)) i).leader ≡ (W.store n).vote
  own_from_decided n l c hc e i low inside =
      let S : StoreOk s (K.world.node n) (W.store n) = K.store n in
      let C : DecidedOk s K.world c = K.told.decided_one c hc in
      let D : Agree (suc c.index) (of_list s c.entries) (leader_log K.world (W.store n).vote) = subst (λ d. Agree (suc c.index) (of_list s c.entries) (leader_log K.world d)) e C.agree in
      let own : ((leader_log K.world (W.store n).vote).at c.index).leader ≡ (W.store n).vote = ap (λ (x : Entry A). x.leader) (sym (D.same c.index (omega arith))) ∙ (C.own ∙ e) in
      let F : FollowsAt K.world (leader_log K.world (W.store n).vote) c.index = (K.inv.leader (W.store n).vote).follows c.index (omega (arith, D.right)) in
      let base : (K.world.leader (W.store n).vote).base ≤ c.index = subst (λ d. (K.world.leader d).base ≤ c.index) own F.base in
      let o : ((log_of K.world n).len ≡ (leader_log K.world (W.store n).vote).len) × Agree (log_of K.world n).len (log_of K.world n) (leader_log K.world (W.store n).vote) = own_log s since W K n l in
      let below : i < (log_of K.world n).len = omega (arith, inside, S.log.len) in
      ap (λ (x : Entry A). x.leader) (sym (S.log.agree.same i below) ∙ o.1.same i below) ∙ (K.inv.leader (W.store n).vote).mine i (omega (arith, base, low)) (omega (arith, below, o.0))

module _ {A : Type 0} (s : Setup A) where
  pub run_all-append : (es fs : List (Deed A)) (W : Stores A) → run_all s (es ++ fs) W ≡ run_all s fs (run_all s es W)
  run_all-append [] fs W = refl
  run_all-append (e ∷ es) fs W = run_all-append es fs (does s W e)

  pub all_split : (es fs : List (Deed A)) (W : Stores A) → AllMayDo s (es ++ fs) W → AllMayDo s es W × AllMayDo s fs (run_all s es W)
  all_split [] fs W h = (tt, h)
  all_split (e ∷ es) fs W h = let z : AllMayDo s es (does s W e) × AllMayDo s fs (run_all s es (does s W e)) = all_split es fs (does s W e) h.1 in ((h.0, z.0), z.1)

  pub all_join : (es fs : List (Deed A)) (W : Stores A) → AllMayDo s es W → AllMayDo s fs (run_all s es W) → AllMayDo s (es ++ fs) W
  all_join [] fs W h k = k
  all_join (e ∷ es) fs W h k = (h.0, all_join es fs (does s W e) h.1 k)

  -- messages stay
  message_stays : (W : Stores A) (e : Deed A) (m : Message A) → Includes W.messages m → Includes (does s W e).messages m
  message_stays W (RequestVotes n) m h = inr h
  message_stays W (AnswerVote n a l) m h = inr h
  message_stays W (SendAppend n i k) m h = inr h
  message_stays W (SendSnapshot n) m h = inr h
  message_stays W (AcceptAppend n r k x) m h = inr h
  message_stays W (AcceptSnapshot n q es) m h = inr h
  message_stays W (CommitByQuorum n c q) m h = inr h
  message_stays W _ m h = h

  pub messages_stay : (es : List (Deed A)) (W : Stores A) (m : Message A) → Includes W.messages m → Includes (run_all s es W).messages m
  messages_stay [] W m h = h
  messages_stay (e ∷ es) W m h = messages_stay es (does s W e) m (message_stays W e m h)

  -- the deed by which a commit was decided
  record CommitOf (W : Stores A) (e : Deed A) (c : DecidedCommit A) : Type 0 where
    node : ℕ
    index : ℕ
    by : ℕ → Bool
    deed : e ≡ CommitByQuorum node index by
    is : record { leader = (W.store node).session.leader; index = index; entries = take (suc index) (whole (W.store node)) } ≡ c

  commit_of : (W : Stores A) (e : Deed A) (c : DecidedCommit A) → Includes (does s W e).decided c → Includes W.decided c ⊎ CommitOf W e c
  commit_of W (CommitByQuorum n i q) c h = ⊎_elim (λ e. inr (record { node = n; index = i; by = q; deed = refl; is = e })) inl h
  commit_of W _ c h = inl h

  -- where in a run that deed stands
  record CommitAt (es : List (Deed A)) (W : Stores A) (c : DecidedCommit A) : Type 0 where
    before : List (Deed A)
    deed : Deed A
    rest : List (Deed A)
    all : before ++ deed ∷ rest ≡ es
    commit : CommitOf (run_all s before W) deed c

  commit_at : (es : List (Deed A)) (W : Stores A) (c : DecidedCommit A) → Includes (run_all s es W).decided c → Includes W.decided c ⊎ CommitAt es W c
  commit_at [] W c h = inl h
  commit_at (e ∷ es) W c h =
      ⊎_elim
      (λ old. ⊎_elim inl (λ x. inr (record { before = []; deed = e; rest = es; all = refl; commit = x })) (commit_of W e c old))
      (λ x. let y : CommitAt es (does s W e) c = x in inr (record { before = e ∷ y.before; deed = y.deed; rest = y.rest; all = ap (λ fs. e ∷ fs) y.all; commit = y.commit }))
      (commit_at es (does s W e) c h)

  pub committed_is_chosen : (es : List (Deed A)) → AllMayDo s es (empty s) → CommittedIsChosen s es
  committed_is_chosen es h c hc = ⊎_elim (λ none. elim none [ ]) found (commit_at es (empty s) c hc)
    where
      found : CommitAt es (empty s) c → IsChosen s es c.leader c.index
      found x = subst (λ y. IsChosen s es y.leader y.index) x.commit.is chosen
        where
          W1 : Stores A
          W1 = run_all s x.before (empty s)

          n : ℕ
          n = x.commit.node

          i : ℕ
          i = x.commit.index

          may : MayCommitByQuorum s (run_all s x.before (empty s)) x.commit.node x.commit.index x.commit.by
          may =
              let z : AllMayDo s x.before (empty s) × AllMayDo s (x.deed ∷ x.rest) (run_all s x.before (empty s)) = all_split x.before (x.deed ∷ x.rest) (empty s) (subst (λ fs. AllMayDo s fs (empty s)) (sym x.all) h) in
              subst (λ e. MayDo s (run_all s x.before (empty s)) e) x.commit.deed (z.1).0

          d : ℕ
          d = ((run_all s x.before (empty s)).store x.commit.node).session.leader

          -- the committing node is the leader id's
          at : x.commit.node ≡ s.owner ((run_all s x.before (empty s)).store x.commit.node).session.leader
          at = sym may.streams.leads.own ∙ ap s.owner (sym may.streams.session)

          ends : run_all s (x.deed ∷ x.rest) (run_all s x.before (empty s)) ≡ run_all s es (empty s)
          ends = sym (run_all-append x.before (x.deed ∷ x.rest) (empty s)) ∙ ap (λ fs. run_all s fs (empty s)) x.all

          lasts : (m : ℕ) → HasAccepted (run_all s x.before (empty s)) m ((run_all s x.before (empty s)).store x.commit.node).vote x.commit.index → HasAccepted (run_all s es (empty s)) m ((run_all s x.before (empty s)).store x.commit.node).session.leader x.commit.index
          lasts m a = record { session = a.session; last = a.last; upto = a.upto; past = a.past; leader = a.leader ∙ sym may.streams.session; sent = subst (λ V. Includes V.messages (Accepted m a.session a.last a.upto)) ends (messages_stay (x.deed ∷ x.rest) (run_all s x.before (empty s)) (Accepted m a.session a.last a.upto) a.sent) }

          chosen : IsChosen s es ((run_all s x.before (empty s)).store x.commit.node).session.leader x.commit.index
          chosen =
              record {
                moment = record {
                  before = x.before;
                  rest = x.deed ∷ x.rest;
                  all = x.all;
                  vote = subst (λ j. ((run_all s x.before (empty s)).store j).vote ≡ ((run_all s x.before (empty s)).store x.commit.node).session.leader) at (sym may.streams.session);
                  vote_committed = subst (λ j. ((run_all s x.before (empty s)).store j).vote_committed ≡ true) at may.streams.leads.vote_committed;
                  past = subst (λ j. x.commit.index < length (whole ((run_all s x.before (empty s)).store j))) at may.inside;
                  own = subst (λ j. (entry_at s (whole ((run_all s x.before (empty s)).store j)) x.commit.index).leader ≡ ((run_all s x.before (empty s)).store x.commit.node).session.leader) at (may.own ∙ sym may.streams.session);
                };
                by = x.commit.by;
                quorum = subst (λ j. IsQuorum s (effective_membership_of s (whole ((run_all s x.before (empty s)).store j))) x.commit.by) at may.quorum;
                each = λ m t. ⊎_elim (λ e. inl (e ∙ at)) (λ a. inr (lasts m a)) (may.each m t);
              }

-- A moment at which a leader led
module _ {A : Type 0} (s : Setup A) (es : List (Deed A)) (h : AllMayDo s es (empty s)) (d k : ℕ) (M : LedWith s es d k) where
  both : AllMayDo s M.before (empty s) × AllMayDo s M.rest (run_all s M.before (empty s))
  both = all_split s M.before M.rest (empty s) (subst (λ fs. AllMayDo s fs (empty s)) (sym M.all) h)

  -- the world at the moment, and one that came after it
  K1 : StoresFollow s (start s) (run_all s M.before (empty s))
  K1 = reached s M.before both.0

  ends : run_all s M.rest (run_all s M.before (empty s)) ≡ run_all s es (empty s)
  ends = sym (run_all-append s M.before M.rest (empty s)) ∙ ap (λ fs. run_all s fs (empty s)) M.all

  K2 : StoresFollow s K1.world (run_all s es (empty s))
  K2 = subst (λ V. StoresFollow s K1.world V) ends (all_deeds s K1.world M.rest (run_all s M.before (empty s)) (record { world = K1.world; inv = K1.inv; above = Since-refl K1.world; store = K1.store; behind = K1.behind; told = K1.told; recorded = K1.recorded }) both.1)

  S : StoreOk s (K1.world.node (s.owner d)) (leader_store s M.before d)
  S = K1.store (s.owner d)

  N : NodeInvariant s K1.world (s.owner d) (K1.world.node (s.owner d))
  N = K1.inv.node (s.owner d)

  is_d : (K1.world.node (s.owner d)).vote ≡ d
  is_d = S.vote ∙ M.vote

  is_committed : (K1.world.node (s.owner d)).vote_committed ≡ true
  is_committed = S.vote_committed ∙ M.vote_committed

  -- the leader's history then was its log, and has only grown
  history : Agree (length (whole (leader_store s M.before d))) (of_list s (whole (leader_store s M.before d))) (leader_log K2.world d)
  history =
      let own : ((log_of K1.world (s.owner d)).len ≡ (leader_log K1.world d).len) × Agree (log_of K1.world (s.owner d)).len (log_of K1.world (s.owner d)) (leader_log K1.world d) = subst (λ v. ((log_of K1.world (s.owner d)).len ≡ (leader_log K1.world v).len) × Agree (log_of K1.world (s.owner d)).len (log_of K1.world (s.owner d)) (leader_log K1.world v)) is_d (N.own is_committed (ap s.owner is_d)) in
      let m : length (whole (leader_store s M.before d)) ≤ (log_of K1.world (s.owner d)).len = omega (arith, S.log.len) in
      Agree-trans (Agree-sym (Agree-less (length (whole (leader_store s M.before d))) m S.log.agree))
      (Agree-trans (Agree-less (length (whole (leader_store s M.before d))) m own.1) (Agree-less (length (whole (leader_store s M.before d))) (omega (arith, m, own.0)) (K2.above.log d)))

  -- it had acknowledged all of that
  led_acknowledged : k < K2.world.acknowledged (s.owner d) d
  led_acknowledged =
      let a : (log_of K1.world (s.owner d)).len ≤ K1.world.acknowledged (s.owner d) d = subst (λ v. (log_of K1.world (s.owner d)).len ≤ K1.world.acknowledged (s.owner d) v) is_d (N.acknowledges is_committed (ap s.owner is_d)) in
      omega (arith, a, K2.above.acknowledged (s.owner d) d, M.past, S.log.len)

-- Chosen entries
module _ {A : Type 0} (s : Setup A) (since : World A) (W : Stores A) (K : StoresFollow s since W) where
  -- what nodes accepted they acknowledged
  accepted : (n d k : ℕ) → HasAccepted W n d k → k < K.world.acknowledged n d
  accepted n d k a =
      let c : AcceptedOk s K.world n d a.last a.upto = subst (λ v. AcceptedOk s K.world n v a.last a.upto) a.leader (K.told.message (Accepted n a.session a.last a.upto) a.sent) in
      omega (arith, a.past, c.acknowledged)

  -- a chosen entry of d's own is in the whole log of each leader of a greater id
  in_later : (d k : ℕ) (xs : List (Entry A)) (l : EstablishedLeader A) → Chosen s K.world d k → Agree (suc k) (of_list s xs) (leader_log K.world d) → (entry_at s xs k).leader ≡ d → Includes W.established l → d < l.leader → BeginsWith l.entries (take (suc k) xs)
  in_later d k xs l c a own hl lower =
      let L : EstablishedOk s K.world l = K.told.established_one l hl in
      let id : ((leader_log K.world d).at k).leader ≡ d = ap (λ y. y.leader) (sym (a.same k (omega arith))) ∙ own in
      let z : (k < (K.world.leader l.leader).base) × Agree (suc k) (leader_log K.world d) (leader_log K.world l.leader) = complete s K.world K.inv d l.leader k lower L.established id c in
      let size : length (take (suc k) xs) ≡ suc k = omega (arith, length-take (suc k) xs, a.left) in
      let b : Agree (suc k) (of_list s (take (suc k) xs)) (of_list s l.entries) = Agree-trans (agree_take s xs (suc k) a.left) (Agree-trans a (Agree-trans z.1 (Agree-sym (Agree-less (suc k) (omega (arith, z.0, L.base)) L.agree)))) in
      begins s (take (suc k) xs) l.entries (subst (λ m. Agree m (of_list s (take (suc k) xs)) (of_list s l.entries)) (sym size) b)

  -- the same where a quorum of any membership is one of each
  in_later_fixed : (x : A) (d k : ℕ) (by : ℕ → Bool) (xs : List (Entry A)) (l : EstablishedLeader A) → OneQuorum s → IsQuorum s x by → ((n : ℕ) → by n ≡ true → k < K.world.acknowledged n d) → IsWholeLog W xs → k < length xs → (entry_at s xs k).leader ≡ d → Includes W.established l → d < l.leader → BeginsWith l.entries (take (suc k) xs)
  in_later_fixed x d k by xs l one quorum each wx inside own hl lower =
      let F : FollowsAt K.world (of_list s xs) k = whole_follows s since W K xs k wx inside in
      let a : Agree (suc k) (of_list s xs) (leader_log K.world d) = subst (λ v. Agree (suc k) (of_list s xs) (leader_log K.world v)) own F.agree in
      let c : Chosen s K.world d k = record { span = (leader_log K.world d).len; past = a.right; inside = omega arith; by = by; quorum = one x (effective_membership s (leader_log K.world d) (leader_log K.world d).len) by quorum; each = each } in
      in_later d k xs l c a own hl lower

module _ {A : Type 0} (s : Setup A) where
  pub chosen_complete : (es : List (Deed A)) → AllMayDo s es (empty s) → ChosenComplete s es
  chosen_complete es h d k x l hl lower =
      let M : LedWith s es d k = x.moment in
      let since : World A = (K1 s es h d k x.moment).world in
      let K : StoresFollow s (K1 s es h d k x.moment).world (run_all s es (empty s)) = K2 s es h d k x.moment in
      let xs : List (Entry A) = whole (leader_store s x.moment.before d) in
      let a : Agree (length xs) (of_list s xs) (leader_log K.world d) = history s es h d k x.moment in
      let c : Chosen s K.world d k =
      record {
        span = length xs;
        past = M.past;
        inside = a.right;
        by = x.by;
        quorum = subst (λ y. IsQuorum s y x.by) (effective_membership-same s (of_list s xs) (leader_log K.world d) (length xs) (omega (arith, M.past)) a) x.quorum;
        each = λ n t. ⊎_elim (λ e. subst (λ j. k < K.world.acknowledged j d) (sym e) (led_acknowledged s es h d k x.moment)) (accepted s since (run_all s es (empty s)) K n d k) (x.each n t);
      } in
      in_later s since (run_all s es (empty s)) K d k xs l c (Agree-less (suc k) M.past a) M.own hl lower

  pub chosen_complete_fixed : (es : List (Deed A)) → AllMayDo s es (empty s) → ChosenCompleteFixed s es
  chosen_complete_fixed es h x d k xs l one c wx inside own hl lower = go (c.by (s.owner d)) refl
    where
      W : Stores A
      W = run_all s es (empty s)

      Goal : Type 0
      Goal = BeginsWith l.entries (take (suc k) xs)

      -- a world in which the leader's own node acknowledged, if it counts
      by_world : (since : World A) (K : StoresFollow s since (run_all s es (empty s))) → (c.by (s.owner d) ≡ true → k < K.world.acknowledged (s.owner d) d) → BeginsWith l.entries (take (suc k) xs)
      by_world since K own_one =
          in_later_fixed s since (run_all s es (empty s)) K x d k c.by xs l one c.quorum
          (λ n t. ⊎_elim (accepted s since (run_all s es (empty s)) K n d k) (λ p. subst (λ j. k < K.world.acknowledged j d) (sym p.0) (own_one (subst (λ j. c.by j ≡ true) p.0 t))) (c.each n t))
          wx inside own hl lower

      go : (b : Bool) → c.by (s.owner d) ≡ b → BeginsWith l.entries (take (suc k) xs)
      go false e = by_world (start s) (reached s es h) (λ t. absurd (true≢false (sym t ∙ e)))
      go true e =
          ⊎_elim
          (λ p. by_world (start s) (reached s es h) (λ _. accepted s (start s) (run_all s es (empty s)) (reached s es h) (s.owner d) d k p))
          (λ p. let M : LedWith s es d p.1 = p.3 in
          by_world (K1 s es h d p.1 p.3).world (K2 s es h d p.1 p.3) (λ _. let q : p.1 < (K2 s es h d p.1 p.3).world.acknowledged (s.owner d) d = led_acknowledged s es h d p.1 p.3 in omega (arith, p.2)))
          (c.each (s.owner d) e)
